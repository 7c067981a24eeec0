-- What a search in rounds finds can fail, and what it shows never does.
use Rattle.std.proofs.Common.{◌≡◌, ℕ, List, Some}
use Rattle.std.specs.Prelude.{slice_get}
use Rattle.bv_terms.specs.TermTrees.{Term}
use Rattle.bv_terms.specs.declared.node.Node.{Node}
use Rattle.query_laws.proofs.Broken.{all-masked}
use Rattle.cnf_core.specs.declared.certificates.Cert.{Cert}
use Rattle.cocoon_num.specs.Tree.{Design}
use Rattle.failures.specs.Found.{CanFail}
use Rattle.obligation_gen.proofs.OwedFormulas.{never_fails}
use Rattle.obligation_gen.specs.declared.obligation.Obligation.{Obligation}
use Rattle.obligation_laws.specs.Failing.{NeverFails, NeverTrue}
use Rattle.obligation_laws.specs.Obligations as laws
use Rattle.obligation_laws.specs.Obligations.{all_obligations}
use Rattle.rounds.specs.Outcomes as outcomes
use Rattle.rounds.specs.declared.outcome.Witness.{Witness}
use Rattle.verdicts.specs.Deciding.{Decides, HoldsBy, formula_in}
use Rattle.verdicts.specs.Telling.{SaysItFails}
use Rattle.verdicts.specs.declared.deciding.Verdict.{Verdict}
use Rattle.verdicts.specs.declared.deciding.Verdict.TheVariants.{Refuted, Over}

pub can_fail : (d : Design) (level : ℕ) (formula : Term) (rounds : ℕ) (f : Witness) → outcomes.IsWitness d level formula rounds f → CanFail level d f.defs
can_fail d level formula rounds f h = record {
  fit = h.candidate.definitions;
  masked = all-masked d f.defs h.candidate.definitions h.candidate.literal;
  met = h.met;
}

pub holds_by : (d : Design) (nodes : List Node) (o : Obligation) (conflicts rounds : ℕ) (cert : Cert)
    → ((n : ℕ) (x : laws.Obligation) → slice_get (all_obligations d) n ≡ Some x → NeverTrue x.level d x.formula → NeverFails d x)
    → outcomes.ShowsNeverTrue d o.level (formula_in nodes o) conflicts rounds cert → HoldsBy d nodes o conflicts rounds cert
holds_by d nodes o conflicts rounds cert law h = record {
  within = h.within;
  certified = h.certified;
  refuted = h.refuted;
  never_fails = never_fails d nodes o law h.never_true;
}

pub decided : (d : Design) (nodes : List Node) (o : Obligation) (conflicts rounds : ℕ) (v : Verdict) → SaysItFails d nodes o v → Decides d nodes o conflicts rounds v
decided d nodes o conflicts rounds (Refuted f) h = h
decided d nodes o conflicts rounds (Over f) h = h
decided d nodes o conflicts rounds v h = absurd h
