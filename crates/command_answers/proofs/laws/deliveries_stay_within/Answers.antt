use Rattle.std.proofs.Common.{refl}
use Rattle.cocoon_types.specs.Tables.{defs_of}
use Rattle.command_answers.proofs.laws.deliveries_stay_within.Goals as goal

pub returns : goal.returns
returns c = λ d es net rules literals fit values refines meets exact a bytes choices visits b sent goes.
    c.levels_compose.ensures.deliveries d (defs_of d es) rules literals refines (record { entries = es; fit = fit; values_fit = values; are = refl }) meets a bytes choices visits b sent
    ((exact a bytes choices visits b sent).0 goes)
