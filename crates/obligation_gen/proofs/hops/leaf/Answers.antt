use Rattle.std.proofs.Common.{◌≡◌, List, [], ◌∷◌, ◌++◌, map, sym, ap, subst, ◌∙◌}
use Rattle.obligation_laws.specs.Leaves.{leaf_of}
use Rattle.symbolic_runs.specs.Reading.{state_of}
use Rattle.symbolic_runs.specs.declared.states.Choice.{Choice}
use Rattle.obligation_gen.specs.declared.tree.Leaf.{Leaf}
use Rattle.obligation_gen.specs.Bodies.{design_in, new_in}
use Rattle.obligation_gen.specs.ShownTrees.{ShowsLeaves}
use Rattle.obligation_gen.proofs.Ends.{shows_leaf, shows_none}
use Rattle.obligation_gen.proofs.hops.leaf.Goals as goal
use Rattle.obligation_gen.proofs.hops.leaf.Goals.{in-Some+in_ok-push, in_default}

pub returns : goal.returns
returns c = λ nodes there.
    let d = design_in c.args.hops.now in
    let new = new_in c.args.hops.now in
    let s = c.args.state in
    let none : c.new-leaves.result.items ≡ [] = c.new-leaves.ensures.items in
    let same : c.from-choices.result ≡ map (λ (x : Choice). x.input) s.choices.items = c.from-choices.ensures ∙ c.in_ok-inputs_of.ensures ∙ ap (map (λ (x : Choice). x.input)) c.deref.ensures.value in
    elim c.match-sent-2.branch [
      | in-Some+in_ok-push w ↦
          let leaf : Leaf = record { cond = s.condition; choices = c.from-choices.result; end = w.end.result } in
          let pushed : w.push.new.self.items ≡ leaf ∷ [] = w.in_ok-push.ensures.items ∙ ap (λ (ls : List Leaf). ls ++ leaf ∷ []) none in
          let are : c.match-sent-2.leaves.items ≡ leaf ∷ [] = ap (λ (v : _). v.items) w.leaves-is ∙ pushed in
          subst (λ ls. ShowsLeaves d nodes ls (leaf_of new (state_of nodes s))) (sym are)
          (shows_leaf d nodes new s w.in-Some.place c.from-choices.result w.end.result w.in-Some.is there same (w.end.ensures nodes))
      | in_default w ↦
          let are : c.match-sent-2.leaves.items ≡ [] = ap (λ (v : _). v.items) w.leaves-is ∙ none in
          subst (λ ls. ShowsLeaves d nodes ls (leaf_of new (state_of nodes s))) (sym are) (shows_none d nodes new s w.in_default.is)
    ]
