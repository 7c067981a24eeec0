use Rattle.std.proofs.Common.{arith}
use Rattle.lexing.proofs.SmallValues.{beyond, over_width, too_narrow, within_width}
use Rattle.lexing.proofs.numbers.bits.Goals.{then-width-lt1-via-then-width-lt1, then-width-lt1-via-else-width-lt1+then-width-from, then-width-lt1-via-else-width-lt1+else-width-from+then-value-width}
use Rattle.lexing.proofs.numbers.bits.Goals as goal

pub returns-then-width-lt1 : goal.returns-then-width-lt1
returns-then-width-lt1 c =
    let w = c.args.width in
    let v = c.args.value in
    let most = c.requires in
    elim c.then-width-lt1.branch [
      | then-width-lt1-via-then-width-lt1 b ↦ too_narrow c.args.widest most w v b.if-width-lt1.true
      | then-width-lt1-via-else-width-lt1+then-width-from b ↦ beyond c.args.widest most w v (omega (arith, b.if-width-from.true, b.from.ensures))
      | then-width-lt1-via-else-width-lt1+else-width-from+then-value-width b ↦ over_width c.args.widest most w v (omega (arith, b.if-width-from.false, b.from.ensures, most)) b.if-value-width.true
    ]

pub new-requires-clause-fits : goal.new-requires-clause-fits
new-requires-clause-fits c =
    within_width c.args.width c.args.value (omega (arith, c.if-width-from.false, c.from.ensures, c.requires)) c.if-value-width.false
