use Rattle.std.proofs.Common.{rules, ◌<◌, ◌^◌}
use Rattle.cnf_core.specs.Satisfying.{makes_true}
use Rattle.bit_blast.specs.Readings.{number_read}
use Rattle.discharge.proofs.Inputs.{narrow_value, value_read}
use Rattle.discharge.proofs.asking.value.Goals as goal

pub overflow_cast-result : goal.overflow_cast-result
overflow_cast-result c =
    let small : c.read.result.value < 2 ^ 64 =
    narrow_value (makes_true c.args.assignment.now) c.args.inputs.now c.requires.narrow c.args.input c.requires.there c.read.result c.read.ensures in
    search rules

pub returns : goal.returns
returns c = λ row is. value_read row.width (number_read (makes_true c.args.assignment.now) row.bits) c.read.result (c.read.ensures row is)
