use Rattle.std.proofs.Common.{◌+◌, ◌^◌, ◌<◌, ◌≤◌, rules, sym, ◌∙◌, arith}
use Rattle.std.proofs.lemmas.Bool.{lt-leb}
use Rattle.std.proofs.Math.Pow.{pow_mono}
use Rattle.p4_run.proofs.faults.is_full.Goals as goal

pub returns-else-width-le64 : goal.returns-else-width-le64
returns-else-width-le64 c =
    let wide : 65 ≤ c.args.width = search rules in
    let small : c.args.mask < 2 ^ 64 = search rules in
    let more : 2 ^ 65 ≤ 2 ^ c.args.width = pow_mono {i = 65} {j = c.args.width} wide in
    lt-leb c.args.width 64 (omega arith) ∙ sym (lt-leb (2 ^ c.args.width) (c.args.mask + 1) (omega arith))
