use Rattle.std.proofs.Common.{ap, sym, subst, ◌∙◌}
use Rattle.std.proofs.lemmas.Result.{IfOk-weaker, on_ok_weaker}
use Rattle.bv_terms.specs.TermTrees.{width}
use Rattle.expr_terms.proofs.Making.{keeps_on}
use Rattle.obligation_laws.specs.Formulas as formulas
use Rattle.obligation_gen.specs.Replacing.{Ready}
use Rattle.obligation_gen.specs.declared.replacing.Replacing.{Replacing}
use Rattle.obligation_gen.proofs.KnownTerms.{remembers_after, remembers_on}
use Rattle.obligation_gen.proofs.Pairing.{part_is, part_width}
use Rattle.obligation_gen.proofs.comparing.part.Goals as goal

pub part-requires-clause-can : goal.part-requires-clause-can
part-requires-clause-can c =
    let p = c.requires.paired in
    let by_them = formulas.replacing p.old_tree_of p.old_of p.of p.leaf_of in
    record {
      by_them = by_them;
      old_of = p.old_of;
      leaf_of = p.leaf_of;
      ready = subst (λ (r : Replacing). Ready c.replacing.new.terms r c.args.old.now c.args.leaf.now by_them p.old_of p.leaf_of) (sym c.in_ok-go_on.ensures.by)
          (c.in_ok-replacing.ensures.made p.design p.old_tree_of p.of p.old_of p.leaf_of p.are);
      cond = p.are.fits.cond;
      values = p.are.fits.values;
      fields = p.are.fits.fields;
    }

pub returns-clause-made : goal.returns-clause-made
returns-clause-made c = λ d ot t o l h.
    IfOk-weaker c.part.result _ _ (λ id m. record { there = m.there; term = m.term ∙ part_is ot o t l })
    (c.part.ensures.made (formulas.replacing ot o t l) o l
    (subst (λ (r : Replacing). Ready c.replacing.new.terms r c.args.old.now c.args.leaf.now (formulas.replacing ot o t l) o l) (sym c.in_ok-go_on.ensures.by) (c.in_ok-replacing.ensures.made d ot t o l h)))

pub returns-clause-truth : goal.returns-clause-truth
returns-clause-truth c =
    let p = c.requires.paired in
    IfOk-weaker c.part.result _ _ (λ id m. (m.there, ap width (m.term ∙ part_is p.old_tree_of p.old_of p.of p.leaf_of) ∙ part_width p.old_tree_of p.old_of p.of p.leaf_of p.are.fits))
    (c.part.ensures.made (formulas.replacing p.old_tree_of p.old_of p.of p.leaf_of) p.old_of p.leaf_of
    (subst (λ (r : Replacing). Ready c.replacing.new.terms r c.args.old.now c.args.leaf.now (formulas.replacing p.old_tree_of p.old_of p.of p.leaf_of) p.old_of p.leaf_of) (sym c.in_ok-go_on.ensures.by)
    (c.in_ok-replacing.ensures.made p.design p.old_tree_of p.of p.old_of p.leaf_of p.are)))

pub returns-clause-kept : goal.returns-clause-kept
returns-clause-kept c = keeps_on c.args.terms.now c.replacing.new.terms c.part.new.terms c.replacing.ensures.kept c.part.ensures.kept

pub part-requires-clause-knows : goal.part-requires-clause-knows
part-requires-clause-knows c =
    let p = c.requires.paired in
    let a = c.args.terms.now in
    let b = c.replacing.new.terms in
    (c.in_ok-go_on.ensures.remembers b (remembers_on a b c.args.last.now c.replacing.ensures.kept.kept c.requires.remembers)
    (c.in_ok-replacing.ensures.made p.design p.old_tree_of p.of p.old_of p.leaf_of p.are).stand.there).knows

pub returns-clause-remembers : goal.returns-clause-remembers
returns-clause-remembers c =
    let p = c.requires.paired in
    let a = c.args.terms.now in
    let b = c.replacing.new.terms in
    on_ok_weaker c.part.result
    (remembers_after b c.part.new.terms c.go_on.new.self c.part.new.known c.part.ensures.kept.kept
    (c.in_ok-go_on.ensures.remembers b (remembers_on a b c.args.last.now c.replacing.ensures.kept.kept c.requires.remembers)
    (c.in_ok-replacing.ensures.made p.design p.old_tree_of p.of p.old_of p.leaf_of p.are).stand.there)) c.part.ensures.knows
