use Rattle.std.proofs.Common.{◌≡◌, ◌<◌, ◌∙◌, ap, arith, length, refl, subst, sym}
use Rattle.std.proofs.lemmas.List.{length-map}
use Rattle.cnf_core.specs.Clauses.{literals}
use Rattle.cnf_core.specs.Deriving.{is_false}
use Rattle.cnf_core.specs.Literals.{has_literal}
use Rattle.cnf_core.specs.Trails.{literal_at, numbers}
use Rattle.cnf_core.specs.TrailViews.{room, trues}
use Rattle.cnf_core.specs.declared.lit.Lit.{Lit}
use Rattle.cnf_core.proofs.LiteralFacts.{has-at}
use Rattle.cdcl.specs.States.{ReplacesAt}
use Rattle.cdcl.proofs.Trailing.{named-literal}
use Rattle.cdcl.proofs.Visiting.{all-false, forces-other, item-literal}
use Rattle.cdcl.proofs.search.Search.visit_clause.Goals as goal

pub is_true-requires : goal.is_true-requires
is_true-requires c = (named-literal {vars = room c.args.self.now.trail} (literals c.args.clause.now) c.requires.named c.args.other.number c.requires.inside).1

pub is_false-requires : goal.is_false-requires
is_false-requires c = (named-literal {vars = room c.args.self.now.trail} (literals c.args.clause.now) c.requires.named c.args.other.number c.requires.inside).1

pub returns-in-Some : goal.returns-in-Some
returns-in-Some c =
    let ts = trues c.args.self.now.trail in
    let ls = literals c.args.clause.now in
    let lits = c.items.result.now in
    let place = c.in-Some.place in
    let r = subst (ReplacesAt ts ls c.args.other.number) c.in-Some.is c.replacement.ensures in
    let same_lits : literals c.args.clause.now ≡ numbers lits = ap numbers (sym c.items.ensures) in
    let lt : place < length lits = omega (arith, r.0, ap length same_lits, length-map lits (λ (l : Lit). l.number)) in
    let here : literal_at ls place ≡ c.new.result.second.number = ap (λ ms. literal_at ms place) same_lits ∙ item-literal lits place c.index-items-place.result lt c.index-items-place.is
    ∙ sym c.new.ensures.second in (
      c.new.ensures.first,
      (λ e. r.1 (here ∙ e)),
      ap (has_literal ls) (sym here) ∙ has-at ls place r.0,
      ap (is_false ts) (sym here) ∙ r.2,
      sym c.is_true.ensures ∙ c.if-is_true.false,
    )

pub returns-then-is_false : goal.returns-then-is_false
returns-then-is_false c =
    let ts = trues c.args.self.now.trail in
    let none = subst (ReplacesAt ts (literals c.args.clause.now) c.args.other.number) c.in_default.is c.replacement.ensures in
    all-false ts (literals c.args.clause.now) c.args.other.number (sym c.is_false.ensures ∙ c.if-is_false.true) none

pub returns-else-is_false : goal.returns-else-is_false
returns-else-is_false c =
    let ts = trues c.args.self.now.trail in
    let none = subst (ReplacesAt ts (literals c.args.clause.now) c.args.other.number) c.in_default.is c.replacement.ensures in
    (refl, forces-other ts (literals c.args.clause.now) c.args.other.number c.requires.inside (sym c.is_true.ensures ∙ c.if-is_true.false) (sym c.is_false.ensures ∙ c.if-is_false.false) none)
