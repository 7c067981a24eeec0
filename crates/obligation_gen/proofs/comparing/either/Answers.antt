use Rattle.std.proofs.Common.{◌≡◌, ℕ, Option, IfSome, ap, subst, ◌∙◌}
use Rattle.std.proofs.lemmas.Result.{IfOk-weaker}
use Rattle.bv_terms.specs.TermTrees.{width}
use Rattle.obligation_gen.specs.Compared.{IsTruth}
use Rattle.obligation_gen.proofs.comparing.either.Goals as goal

pub returns-in-Some-clause-truth : goal.returns-in-Some-clause-truth
returns-in-Some-clause-truth c =
    IfOk-weaker c.binary.result _ _ (λ id p. (p.there, ap width p.term ∙ (subst (λ (o : Option ℕ). IfSome o (IsTruth c.args.terms.now)) c.in-Some.is c.requires.any).1)) c.binary.ensures.put
