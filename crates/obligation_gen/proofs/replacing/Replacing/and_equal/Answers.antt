use Rattle.std.proofs.Common.{◌≡◌, ◌<◌, ◌+◌, refl, slice_index_or, length, sym, ap, subst, ◌∙◌, arith}
use Rattle.bv_terms.specs.Arenas.{term_at}
use Rattle.bv_terms.specs.Replacements as formulas
use Rattle.bv_terms.specs.Replacements.{replaced}
use Rattle.bv_terms.specs.TermTrees.{width}
use Rattle.expr_terms.proofs.Making.{keeps_on}
use Rattle.obligation_gen.specs.Becoming.{Knows}
use Rattle.obligation_gen.specs.Replacing.{replacing_in}
use Rattle.obligation_gen.proofs.Chains.{one_joined, replacing_on, same_count, stand_on, width_there}
use Rattle.obligation_gen.proofs.KnownTerms.{knows_now, knows_on}
use Rattle.obligation_gen.proofs.replacing.Replacing.and_equal.Goals as goal

pub equal-requires-clause-stand : goal.equal-requires-clause-stand
equal-requires-clause-stand c = stand_on c.args.terms.now c.loop-at.terms c.args.self.now c.loop-at.invariant.joined.kept.kept c.requires.stand

pub equal-requires-clause-widths : goal.equal-requires-clause-widths
equal-requires-clause-widths c =
    let a = c.args.terms.now in
    let b = c.loop-at.terms in
    let r = c.args.self.now in
    let i = c.loop-at.at in
    let k = c.loop-at.invariant.joined.kept.kept in
    let count = same_count (replacing_in a r) (term_at a) c.args.old.now c.args.sent.now c.requires.widths in
    let l : i < length c.args.old.now = c.loop-at-test.true in
    let m : i < length c.args.sent.now = omega (arith, l, count) in
    let o = slice_index_or c.args.old.now i 0 in
    let s = slice_index_or c.args.sent.now i 0 in
    (λ j. width (replaced (replacing_on a b r k c.requires.stand j) (k.terms o (c.requires.there.0 i 0 l) j)))
    ∙ width_there (replacing_in a r) (term_at a) c.args.old.now c.args.sent.now i 0 0 c.requires.widths l ∙ sym (ap width (k.terms s (c.requires.there.1 i 0 m)))

pub returns-in_err-all-clause-kept : goal.returns-in_err-all-clause-kept
returns-in_err-all-clause-kept c =
    keeps_on c.args.terms.now c.equal.new.terms c.binary.new.self (keeps_on c.args.terms.now c.loop-at.terms c.equal.new.terms c.loop-at.invariant.joined.kept c.equal.ensures.kept)
    (record { kept = c.binary.ensures.kept; inputs = c.binary.ensures.few.inputs })

pub loop-at-preserved : goal.loop-at-preserved
loop-at-preserved c =
    let a = c.args.terms.now in
    let r = c.args.self.now in
    let i = c.loop-at.at in
    let count = same_count (replacing_in a r) (term_at a) c.args.old.now c.args.sent.now c.requires.widths in
    let l : i < length c.args.old.now = c.loop-at-test.true in
    let m : i < length c.args.sent.now = omega (arith, l, count) in
    record {
      joined = one_joined a c.loop-at.terms c.equal.new.terms c.binary.new.self r c.args.condition c.loop-at.all i c.args.old.now c.args.sent.now (slice_index_or c.args.old.now i 0) (slice_index_or c.args.sent.now i 0)
          c.in_ok-equal.equal c.in_ok-all.all c.loop-at.invariant.joined c.requires.stand c.requires.there.0 c.requires.there.1 l m refl refl c.in_ok-equal.ensures.kept c.in_ok-equal.ensures.made
          (record { kept = c.binary.ensures.kept; inputs = c.binary.ensures.few.inputs }) (record { there = c.in_ok-all.ensures.put.there; term = c.in_ok-all.ensures.put.term });
      knows = knows_on c.equal.new.terms c.binary.new.self (replacing_in a r) c.equal.new.known c.binary.ensures.kept
          (subst (λ (R : formulas.Replacing). Knows c.equal.new.terms R c.equal.new.known) (replacing_on a c.loop-at.terms r c.loop-at.invariant.joined.kept.kept c.requires.stand) c.in_ok-equal.ensures.knows);
    }

pub equal-requires-clause-knows : goal.equal-requires-clause-knows
equal-requires-clause-knows c = knows_now c.args.terms.now c.loop-at.terms c.args.self.now c.loop-at.known c.loop-at.invariant.joined.kept.kept c.requires.stand c.loop-at.invariant.knows
