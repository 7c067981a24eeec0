use Rattle.std.proofs.Common.{subst}
use Rattle.bundle_reader.specs.Parts.{LastIsRead}
use Rattle.bundle_reader.proofs.last_rows.known_rows.Goals as goal

pub has-requires : goal.has-requires
has-requires c = subst LastIsRead c.in-Some.is c.requires

pub returns-then-has-clause-read : goal.returns-then-has-clause-read
returns-then-has-clause-read c = subst LastIsRead c.in-Some.is c.requires
