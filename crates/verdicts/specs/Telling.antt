-- Cited by private clauses: what is said of an obligation whose formula can be true.
use Rattle.std.specs.Prelude.{◌≡◌, List}
use Rattle.bv_terms.specs.declared.node.Node.{Node}
use Rattle.cocoon_num.specs.Tree.{Design}
use Rattle.failures.specs.declared.failure.Failure.{Failure}
use Rattle.obligation_gen.specs.declared.obligation.Kind.TheVariants.{Contained, Bounded}
use Rattle.obligation_gen.specs.declared.obligation.Obligation.{Obligation}
use Rattle.verdicts.specs.Failing.{IsFailureOf}
use Rattle.verdicts.specs.declared.deciding.Verdict.{Verdict}
use Rattle.verdicts.specs.declared.deciding.Verdict.TheVariants.{Refuted, Over}

-- the verdict of a failure, by the obligation's kind
abbrev pub IsVerdictOn : Obligation → Failure → Verdict → Type 0
IsVerdictOn o f (Refuted failure) = (o.kind ≡ Contained) × (failure ≡ f)
IsVerdictOn o f (Over failure) = (o.kind ≡ Bounded) × (failure ≡ f)
IsVerdictOn o f verdict = ⊥

-- it fails, by the run that the verdict tells
abbrev pub SaysItFails : Design → List Node → Obligation → Verdict → Type 0
SaysItFails d nodes o (Refuted failure) = IsFailureOf d nodes o Contained failure
SaysItFails d nodes o (Over failure) = IsFailureOf d nodes o Bounded failure
SaysItFails d nodes o verdict = ⊥
