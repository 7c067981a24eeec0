use Rattle.std.proofs.Common.{subst, sym}
use Rattle.p4_ir.specs.WellKinded.{WellKinded}
use Rattle.p4_emit.proofs.print.emit.Goals as goal

pub emit_switch-requires : goal.emit_switch-requires
emit_switch-requires c = record { well_kinded = subst WellKinded (sym c.of.ensures) c.requires.well_kinded }
