use Rattle.std.proofs.Common.{subst, sym}
use Rattle.candidates.specs.Flat.{IsCandidateOf, IsFlatGoal, MakesFormulaTrue}
use Rattle.cocoon_syntax.specs.TreeOf.{design_of}
use Rattle.rounds.proofs.judging.candidate_with.Goals as goal

pub candidate-requires : goal.candidate-requires
candidate-requires c =
    let m = c.args.satisfied.now in
    subst (λ applied. IsFlatGoal (design_of c.args.checked.now) m.own.terms applied m.inputs) (sym c.items.ensures) c.requires

pub returns : goal.returns
returns c =
    let m = c.args.satisfied.now in
    let d = design_of c.args.checked.now in
    record {
      fits = c.in_ok-defs.ensures.fits;
      candidate = subst (λ applied. IsCandidateOf d m.own.terms applied m.inputs m.assignment c.in_ok-defs.defs) c.items.ensures c.in_ok-defs.ensures.candidate;
      formula_ = subst (λ applied. MakesFormulaTrue d m.own.terms applied m.inputs m.assignment c.in_ok-defs.defs) c.items.ensures c.in_ok-defs.ensures.formula;
    }
