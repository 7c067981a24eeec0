use Rattle.std.proofs.Common.{◌≡◌, All, ℕ, List, Some, Vec, Global, ap, subst, sym, ◌∙◌}
use Rattle.std.proofs.lemmas.List.{take_all}
use Rattle.std.proofs.lemmas.List.Elements.{All-more}
use Rattle.cocoon_syntax.specs.TreeOf.{design_of}
use Rattle.cocoon_types.specs.Taken.{go}
use Rattle.role_meaning.specs.Goings.{all_taken}
use Rattle.role_meaning.specs.Located.{loc_of, sent_of}
use Rattle.role_values.specs.Worlds.{world_by}
use Rattle.role_meaning.proofs.sending.one_gives.Goals as goal

pub returns-then-branch-clause-yes : goal.returns-then-branch-clause-yes
returns-then-branch-clause-yes c = λ e. c.in_ok-gives.ensures.yes c.if-branch.true

pub loop-choices-preserved : goal.loop-choices-preserved
loop-choices-preserved c =
    let d = design_of c.args.checked.now in
    let led = λ (cs : List ℕ). all_taken (go (world_by c.args.defs.now c.args.level d) (loc_of d c.args.from.now) (sent_of d c.args.packet.now) cs) in
    let P : Vec ℕ Global → Type 0 = λ v. Some (loc_of d c.args.to.now, sent_of d c.args.sent.now) ≡ led v.items → ⊥ in
    let here : P c.choices-item.result = λ e. c.in_ok-gives.ensures.no c.if-branch.false (e ∙ ap led (sym c.deref.ensures.value)) in
    All-more P c.args.tried.now c.loop-choices.choices-index c.choices-item.result c.loop-choices-test.true c.loop-choices.invariant (subst P c.choices-item.is here)

pub returns-clause-no : goal.returns-clause-no
returns-clause-no c = λ e.
    let d = design_of c.args.checked.now in
    let P : Vec ℕ Global → Type 0 = λ v. Some (loc_of d c.args.to.now, sent_of d c.args.sent.now) ≡ all_taken (go (world_by c.args.defs.now c.args.level d) (loc_of d c.args.from.now) (sent_of d c.args.packet.now) v.items) → ⊥ in
    subst (All P) (take_all c.loop-choices.choices-index c.args.tried.now c.loop-choices-test.false) c.loop-choices.invariant
