use Rattle.runtime_defs.proofs.OwnNames.{functions_distinct}
use Rattle.runtime_defs.proofs.Faultless.{places_have_no_fault}
use Rattle.runtime_defs.proofs.text_laws.definitions_fit.Goals as goal

pub returns : goal.returns
returns c = λ d ps rules are. places_have_no_fault d ps (functions_distinct d rules) are
