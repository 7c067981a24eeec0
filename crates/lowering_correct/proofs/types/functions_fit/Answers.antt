use Rattle.lowering_correct.proofs.FunctionsFit as laws
use Rattle.lowering_correct.proofs.types.functions_fit.Goals as goal

pub returns : goal.returns
returns c = laws.functions_fit
