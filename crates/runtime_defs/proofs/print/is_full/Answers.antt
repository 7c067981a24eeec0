use Rattle.std.proofs.Common.{refl, rules, ◌≡◌, false}
use Rattle.std.specs.Prelude.{nat_le}
use Rattle.runtime_defs.proofs.Printing.{never_full}
use Rattle.runtime_defs.proofs.print.is_full.Goals as goal

pub returns-else-width-le64 : goal.returns-else-width-le64
returns-else-width-le64 c =
    let wide : nat_le c.args.width 64 ≡ false = search rules in
    rw (wide, never_full c.args.width c.args.mask (search rules) (search rules)) refl
