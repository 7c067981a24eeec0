use Rattle.std.proofs.Common.{◌≡◌, ◌||◌, ◌∷◌, ◌∙◌, List, [], ap, arith, refl, subst, sym, take, true}
use Rattle.std.proofs.lemmas.Bool.{and_from, both_ways, or_parts}
use Rattle.std.proofs.lemmas.List.{length-map, take_all}
use Rattle.cocoon_num.specs.Lists.{each}
use Rattle.cnf_core.specs.Deriving.{is_false}
use Rattle.cnf_core.specs.Literals.{same}
use Rattle.cnf_core.specs.Trails.{numbers}
use Rattle.cnf_core.specs.TrailViews.{room, trues}
use Rattle.cnf_core.specs.declared.lit.Lit.{Lit}
use Rattle.cnf_core.proofs.LiteralFacts.{named-item, same-same, taken-numbers}
use Rattle.cnf_core.proofs.ClauseStatuses.{each-append}
use Rattle.cdcl.proofs.Visiting.{item-literal}
use Rattle.cdcl.proofs.search.Search.find_open.Goals as goal

pub is_spent-requires : goal.is_spent-requires
is_spent-requires c = (named-item (room c.args.self.now.trail) c.args.lits.now c.loop-place.place c.index-lits-place.result c.requires c.loop-place-test.true c.index-lits-place.is).1

pub loop-place-preserved : goal.loop-place-preserved
loop-place-preserved c =
    let ts = trues c.args.self.now.trail in
    let other = c.args.other.number in
    let i = c.loop-place.place in
    let lits = c.args.lits.now in
    let x = c.index-lits-place.result in
    subst (λ ls. each (λ m. same other m || is_false ts m) ls ≡ true) (sym (taken-numbers lits i x c.loop-place-test.true c.index-lits-place.is))
    (each-append (λ m. same other m || is_false ts m) (numbers (take i lits)) (x.number ∷ []) c.loop-place.invariant
    (and_from (same other x.number || is_false ts x.number) true (sym c.is_spent.ensures ∙ c.if-not-is_spent.false) refl))

pub returns-then-not-is_spent : goal.returns-then-not-is_spent
returns-then-not-is_spent c =
    let ts = trues c.args.self.now.trail in
    let other = c.args.other.number in
    let i = c.loop-place.place in
    let lits = c.args.lits.now in
    let x = c.index-lits-place.result in
    let parts = or_parts (same other x.number) (is_false ts x.number) (sym c.is_spent.ensures ∙ c.if-not-is_spent.true) in
    let is = item-literal lits i x c.loop-place-test.true c.index-lits-place.is in (
      omega (arith, c.loop-place-test.true, length-map lits (λ (l : Lit). l.number)),
      (λ e. both_ways (same other x.number) parts.0 (ap (same other) (sym is ∙ e) ∙ same-same other)),
      ap (is_false ts) is ∙ parts.1,
    )

pub returns : goal.returns
returns c =
    let ts = trues c.args.self.now.trail in
    let other = c.args.other.number in
    subst (λ (ls : List Lit). each (λ m. same other m || is_false ts m) (numbers ls) ≡ true) (take_all c.loop-place.place c.args.lits.now c.loop-place-test.false) c.loop-place.invariant
