use Rattle.lower_p4.proofs.OneNetwork.{no_limit, one_limit, one_network, one_program}
use Rattle.lower_p4.proofs.laws.one_lowering.Goals as goal

pub returns-clause-one : goal.returns-clause-one
returns-clause-one c = one_network

pub returns-clause-programs : goal.returns-clause-programs
returns-clause-programs c = one_program

pub returns-clause-one_limit : goal.returns-clause-one_limit
returns-clause-one_limit c = one_limit

pub returns-clause-no_limit : goal.returns-clause-no_limit
returns-clause-no_limit c = no_limit
