use Rattle.std.proofs.Common.{◌≡◌, List, [], ◌∷◌, ◌++◌, All, map, take, rules, refl, sym, ap, subst, ◌∙◌}
use Rattle.std.proofs.lemmas.List.{append-nil}
use Rattle.std.proofs.lemmas.List.Elements.{All-append}
use Rattle.symbolic_runs.specs.Reading.{IsThere, cut_to, states_of}
use Rattle.symbolic_runs.specs.declared.states.State.{State}
use Rattle.symbolic_runs.proofs.Growing.{head_all, one_all, tail_all}
use Rattle.symbolic_runs.proofs.Lists.{cut_more, cut_reads, cut_there, empty_of}
use Rattle.symbolic_runs.proofs.states.cut.Goals as goal

pub loop-state-preserved : goal.loop-state-preserved
loop-state-preserved c =
    let s = c.in-Some.state in
    let n = c.args.count in
    let out = c.loop-state.back.items in
    let rest = c.next.new.self.rest.items in
    let front : c.loop-state.state-iterator.rest.items ≡ s ∷ rest = c.in-Some.ensures.steps.0 in
    let cut : State = record { variables = c.truncate.new.self; fields = s.fields; condition = s.condition; choices = s.choices; way = s.way; sent = s.sent } in
    let vars : c.truncate.new.self.items ≡ take n s.variables.items = search rules in
    let items : c.push.new.self.items ≡ out ++ cut ∷ [] = search rules in
    record {
      read = λ a. ap (λ o. states_of a o ++ map (cut_to n) (states_of a rest)) items
          ∙ cut_more a n out rest s cut (cut_reads a n s cut vars refl refl refl refl refl)
          ∙ ap (λ r. states_of a out ++ map (cut_to n) (states_of a r)) (sym front) ∙ c.loop-state.invariant.read a;
      there = λ a all.
          let h = c.loop-state.invariant.there a all in
          let both = subst (All (IsThere a)) front h.1 in (
            subst (All (IsThere a)) (sym items)
                (All-append (IsThere a) out (cut ∷ []) h.0 (one_all (IsThere a) cut (cut_there a n s cut vars refl refl refl refl (head_all (IsThere a) s rest both)))),
            tail_all (IsThere a) s rest both,
          );
    }

pub returns : goal.returns
returns c = λ a f k.
    let n = c.args.count in
    let out = c.loop-state.back.items in
    let end : c.loop-state.state-iterator.rest.items ≡ [] = empty_of c.loop-state.state-iterator.rest.items (sym c.loop-state.state-iterator.rest.ok.0 ∙ c.in-None.ensures.steps.0) in
    record {
      there = (c.loop-state.invariant.there a k.there).0;
      are = sym (append-nil (states_of a out)) ∙ ap (λ r. states_of a out ++ map (cut_to n) (states_of a r)) (sym end) ∙ c.loop-state.invariant.read a ∙ ap (map (cut_to n)) k.are;
      next = k.next;
    }
