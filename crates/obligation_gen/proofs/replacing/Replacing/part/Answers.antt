use Rattle.std.proofs.Common.{◌≡◌, List, ℕ, sym, ap, subst, ◌∙◌}
use Rattle.std.proofs.lemmas.Result.{IfOk-weaker}
use Rattle.bv_terms.specs.declared.node.TermOp.TheVariants as op
use Rattle.bv_terms.specs.Replacements as formulas
use Rattle.bv_terms.specs.Replacements.{replaced}
use Rattle.bv_terms.specs.TermTrees.{width}
use Rattle.expr_terms.specs.Variables.{AreThere, Makes, terms_at}
use Rattle.expr_terms.proofs.Making.{keeps_on}
use Rattle.obligation_laws.specs.Formulas.{chain, equals}
use Rattle.obligation_laws.specs.Leaves.{end_fields, end_values}
use Rattle.std.specs.Result.{OnOk}
use Rattle.obligation_gen.specs.Becoming.{Knows}
use Rattle.obligation_gen.proofs.Chains.{replacing_on}
use Rattle.obligation_gen.proofs.KnownTerms.{knows_now}
use Rattle.obligation_gen.proofs.Pairing.{first_made, joined, ready_on, same_widths, values_width}
use Rattle.obligation_gen.proofs.replacing.Replacing.part.Goals as goal

pub replaced-requires-clause-there : goal.replaced-requires-clause-there
replaced-requires-clause-there c = c.requires.can.ready.cond.there

pub replaced-requires-clause-stand : goal.replaced-requires-clause-stand
replaced-requires-clause-stand c = c.requires.can.ready.stand

pub and_equal-requires-clause-condition : goal.and_equal-requires-clause-condition
and_equal-requires-clause-condition c = c.in_ok-condition.ensures.made.there

pub and_equal-requires-clause-truth : goal.and_equal-requires-clause-truth
and_equal-requires-clause-truth c =
    let p = c.requires.can in
    let m = first_made c.args.terms.now c.replaced.new.terms c.args.self.now c.args.old.now c.args.leaf.now p.by_them p.old_of p.leaf_of c.in_ok-condition.condition p.ready c.in_ok-condition.ensures.made in
    ap width m.term ∙ p.cond

pub and_equal-requires-clause-there : goal.and_equal-requires-clause-there
and_equal-requires-clause-there c =
    let m = c.replaced.new.terms in
    let p = c.requires.can in
    let h = ready_on c.args.terms.now m c.args.self.now c.args.old.now c.args.leaf.now p.by_them p.old_of p.leaf_of c.replaced.ensures.kept.kept p.ready in
    (subst (AreThere m) (sym c.values-from.ensures) h.old_values.there, subst (AreThere m) (sym c.values-to.ensures) h.values.there)

pub and_equal-requires-clause-stand : goal.and_equal-requires-clause-stand
and_equal-requires-clause-stand c =
    let p = c.requires.can in
    (ready_on c.args.terms.now c.replaced.new.terms c.args.self.now c.args.old.now c.args.leaf.now p.by_them p.old_of p.leaf_of c.replaced.ensures.kept.kept p.ready).stand

pub and_equal-requires-clause-widths : goal.and_equal-requires-clause-widths
and_equal-requires-clause-widths c =
    let m = c.replaced.new.terms in
    let p = c.requires.can in
    let h = ready_on c.args.terms.now m c.args.self.now c.args.old.now c.args.leaf.now p.by_them p.old_of p.leaf_of c.replaced.ensures.kept.kept p.ready in
    same_widths m c.args.self.now p.by_them c.values-from.result.now c.values-to.result.now (end_values p.old_of.end) (end_values p.leaf_of.end) h.is
    (ap (terms_at m) c.values-from.ensures ∙ h.old_values.terms) (ap (terms_at m) c.values-to.ensures ∙ h.values.terms) p.values

pub and_equal-requires-2-clause-condition : goal.and_equal-requires-2-clause-condition
and_equal-requires-2-clause-condition c = c.in_ok-with_values.ensures.made.there

pub and_equal-requires-2-clause-truth : goal.and_equal-requires-2-clause-truth
and_equal-requires-2-clause-truth c =
    let m = c.replaced.new.terms in
    let p = c.requires.can in
    let h = ready_on c.args.terms.now m c.args.self.now c.args.old.now c.args.leaf.now p.by_them p.old_of p.leaf_of c.replaced.ensures.kept.kept p.ready in
    let first = first_made c.args.terms.now m c.args.self.now c.args.old.now c.args.leaf.now p.by_them p.old_of p.leaf_of c.in_ok-condition.condition p.ready c.in_ok-condition.ensures.made in
    let second = joined m c.and_equal.new.terms c.args.self.now p.by_them c.in_ok-condition.condition c.in_ok-with_values.with_values c.values-from.result.now c.values-to.result.now (replaced p.by_them p.old_of.cond)
    (end_values p.old_of.end) (end_values p.leaf_of.end) h.is first (ap (terms_at m) c.values-from.ensures ∙ h.old_values.terms) (ap (terms_at m) c.values-to.ensures ∙ h.values.terms) c.in_ok-with_values.ensures.made in
    ap width second.term ∙ values_width p.by_them p.old_of p.leaf_of p.cond

pub and_equal-requires-2-clause-there : goal.and_equal-requires-2-clause-there
and_equal-requires-2-clause-there c =
    let m = c.and_equal.new.terms in
    let p = c.requires.can in
    let k = keeps_on c.args.terms.now c.replaced.new.terms m c.replaced.ensures.kept c.and_equal.ensures.kept in
    let h = ready_on c.args.terms.now m c.args.self.now c.args.old.now c.args.leaf.now p.by_them p.old_of p.leaf_of k.kept p.ready in
    (subst (AreThere m) (sym c.fields-from.ensures) h.old_fields.there, subst (AreThere m) (sym c.fields-to.ensures) h.fields.there)

pub and_equal-requires-2-clause-stand : goal.and_equal-requires-2-clause-stand
and_equal-requires-2-clause-stand c =
    let m = c.and_equal.new.terms in
    let p = c.requires.can in
    let k = keeps_on c.args.terms.now c.replaced.new.terms m c.replaced.ensures.kept c.and_equal.ensures.kept in
    (ready_on c.args.terms.now m c.args.self.now c.args.old.now c.args.leaf.now p.by_them p.old_of p.leaf_of k.kept p.ready).stand

pub and_equal-requires-2-clause-widths : goal.and_equal-requires-2-clause-widths
and_equal-requires-2-clause-widths c =
    let m = c.and_equal.new.terms in
    let p = c.requires.can in
    let k = keeps_on c.args.terms.now c.replaced.new.terms m c.replaced.ensures.kept c.and_equal.ensures.kept in
    let h = ready_on c.args.terms.now m c.args.self.now c.args.old.now c.args.leaf.now p.by_them p.old_of p.leaf_of k.kept p.ready in
    same_widths m c.args.self.now p.by_them c.fields-from.result.now c.fields-to.result.now (end_fields p.old_of.end) (end_fields p.leaf_of.end) h.is
    (ap (terms_at m) c.fields-from.ensures ∙ h.old_fields.terms) (ap (terms_at m) c.fields-to.ensures ∙ h.fields.terms) p.fields

pub returns-clause-made : goal.returns-clause-made
returns-clause-made c = λ by_them o l ready.
    let a = c.args.terms.now in
    let m = c.replaced.new.terms in
    let n = c.and_equal.new.terms in
    let r = c.args.self.now in
    let k = keeps_on a m n c.replaced.ensures.kept c.and_equal.ensures.kept in
    let h = ready_on a m r c.args.old.now c.args.leaf.now by_them o l c.replaced.ensures.kept.kept ready in
    let g = ready_on a n r c.args.old.now c.args.leaf.now by_them o l k.kept ready in
    let first = first_made a m r c.args.old.now c.args.leaf.now by_them o l c.in_ok-condition.condition ready c.in_ok-condition.ensures.made in
    let t = replaced by_them o.cond in
    let second = joined m n r by_them c.in_ok-condition.condition c.in_ok-with_values.with_values c.values-from.result.now c.values-to.result.now t (end_values o.end) (end_values l.end) h.is first
    (ap (terms_at m) c.values-from.ensures ∙ h.old_values.terms) (ap (terms_at m) c.values-to.ensures ∙ h.values.terms) c.in_ok-with_values.ensures.made in
    IfOk-weaker c.and_equal-2.result _ _
    (λ id made.
    joined n c.and_equal-2.new.terms r by_them c.in_ok-with_values.with_values id c.fields-from.result.now c.fields-to.result.now (chain op.And t (equals by_them (end_values o.end) (end_values l.end))) (end_fields o.end) (end_fields l.end)
    g.is second (ap (terms_at n) c.fields-from.ensures ∙ g.old_fields.terms) (ap (terms_at n) c.fields-to.ensures ∙ g.fields.terms) made) c.and_equal-2.ensures.made

pub returns-in_err-with_values-clause-kept : goal.returns-in_err-with_values-clause-kept
returns-in_err-with_values-clause-kept c = keeps_on c.args.terms.now c.replaced.new.terms c.and_equal.new.terms c.replaced.ensures.kept c.and_equal.ensures.kept

pub returns-clause-kept : goal.returns-clause-kept
returns-clause-kept c =
    keeps_on c.args.terms.now c.and_equal.new.terms c.and_equal-2.new.terms (keeps_on c.args.terms.now c.replaced.new.terms c.and_equal.new.terms c.replaced.ensures.kept c.and_equal.ensures.kept) c.and_equal-2.ensures.kept

pub and_equal-requires-clause-knows : goal.and_equal-requires-clause-knows
and_equal-requires-clause-knows c =
    knows_now c.args.terms.now c.replaced.new.terms c.args.self.now c.replaced.new.self c.replaced.ensures.kept.kept c.requires.can.ready.stand c.in_ok-condition.ensures.knows

pub and_equal-requires-2-clause-knows : goal.and_equal-requires-2-clause-knows
and_equal-requires-2-clause-knows c =
    let a = c.args.terms.now in
    let m = c.replaced.new.terms in
    let n = c.and_equal.new.terms in
    let r = c.args.self.now in
    let k = keeps_on a m n c.replaced.ensures.kept c.and_equal.ensures.kept in
    let s = c.requires.can.ready.stand in
    knows_now a n r c.and_equal.new.known k.kept s
    (subst (λ (R : formulas.Replacing). Knows n R c.and_equal.new.known) (replacing_on a m r c.replaced.ensures.kept.kept s) c.in_ok-with_values.ensures.knows)

pub returns-clause-knows : goal.returns-clause-knows
returns-clause-knows c =
    let a = c.args.terms.now in
    let n = c.and_equal.new.terms in
    let k = keeps_on a c.replaced.new.terms n c.replaced.ensures.kept c.and_equal.ensures.kept in
    subst (λ (R : formulas.Replacing). OnOk c.and_equal-2.result (Knows c.and_equal-2.new.terms R c.and_equal-2.new.known)) (replacing_on a n c.args.self.now k.kept c.requires.can.ready.stand)
    c.and_equal-2.ensures.knows
