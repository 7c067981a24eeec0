use Rattle.std.proofs.Common.{◌<◌, length, arith}
use Rattle.cocoon_resolve.specs.Readers.{assumptions_to}
use Rattle.cocoon_syntax.specs.TreeOf.{design_of}
use Rattle.discharge.proofs.Telling.{among_all}
use Rattle.rounds.proofs.breaking.assumption_to.Goals as goal

pub assumption-requires : goal.assumption-requires
assumption-requires c =
    let d = design_of c.args.checked.now in
    let level = c.args.level in
    let here : c.args.number < length (assumptions_to level d) = (let count = c.assume_count.ensures in let more = c.if-number-assume_count.true in omega (arith, count, more)) in
    among_all d level (c.earlier_levels_come_first.ensures d level) c.args.number here
