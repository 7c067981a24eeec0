use Rattle.std.proofs.Common.{◌^◌, ◌<◌, ◌≤◌, rules, sym, ◌∙◌, arith}
use Rattle.std.proofs.lemmas.Bool.{le-leb, lt-ltb}
use Rattle.std.proofs.Math.Pow.{pow_mono}
use Rattle.p4_run.proofs.faults.fits_width.Goals as goal

pub returns-then-width-ge64 : goal.returns-then-width-ge64
returns-then-width-ge64 c =
    let wide : 64 ≤ c.args.width = search rules in
    let small : c.args.number < 2 ^ 64 = search rules in
    let more : 2 ^ 64 ≤ 2 ^ c.args.width = pow_mono {i = 64} {j = c.args.width} wide in
    le-leb 64 c.args.width wide ∙ sym (lt-ltb c.args.number (2 ^ c.args.width) (omega arith))
