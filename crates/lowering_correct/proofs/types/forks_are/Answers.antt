use Rattle.lowering_correct.proofs.NamedForks as named
use Rattle.lowering_correct.proofs.NetParts as parts
use Rattle.lowering_correct.proofs.RolesFit as laws
use Rattle.lowering_correct.proofs.types.forks_are.Goals as goal

pub returns-clause-parts : goal.returns-clause-parts
returns-clause-parts c d w = parts.design_has_parts d w

pub returns-clause-forks : goal.returns-clause-forks
returns-clause-forks c d w l net is = laws.role_forks d w l net is

pub returns-clause-names : goal.returns-clause-names
returns-clause-names c d w net is = named.forks_named d w net is
