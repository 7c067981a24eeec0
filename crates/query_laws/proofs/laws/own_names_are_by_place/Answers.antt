use Rattle.query_laws.proofs.InputNumbers.{only_inputs}
use Rattle.query_laws.proofs.laws.own_names_are_by_place.Goals as goal

pub returns : goal.returns
returns c = only_inputs
