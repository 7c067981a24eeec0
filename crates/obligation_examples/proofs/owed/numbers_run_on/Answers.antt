use Rattle.std.proofs.Common.{refl}
use Rattle.obligation_examples.proofs.owed.numbers_run_on.Goals as goal

pub returns : goal.returns
returns c = record { roles = refl; next_role = refl; levels = refl; next_level = refl; choices = refl }
