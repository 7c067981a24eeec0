use Rattle.refinement.proofs.Indices.{statements_once}
use Rattle.refinement.proofs.laws.statements_differ.Goals as goal

pub returns : goal.returns
returns c = statements_once
