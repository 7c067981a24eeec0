use Rattle.std.proofs.Common.{◌≡◌, ◌+◌, ◌-◌}
use Rattle.cocoon_num.specs.PacketForms.{FieldsFit}
use Rattle.cocoon_resolve.specs.Readers.{field_widths, HasRole}
use Rattle.cocoon_syntax.specs.TreeOf.{design_of}
use Rattle.cocoon_types.specs.Tables.{Defs}
use Rattle.role_meaning.specs.Located.{loc_of, sent_of}
use Rattle.runtime_defs.specs.Stands.{Stands}
use Rattle.role_meaning.specs.Onward.{onward}
use Rattle.role_meaning.proofs.following.go_on.Given as goal

abbrev pub invariant-loop-bodies : goal.invariant-loop-bodies
invariant-loop-bodies l =
    let d = design_of l.checked in
    record {
      runs : (defined : Defs) → Stands d l.defs defined
          → onward l.above d defined (l.most - l.bodies) l.bodies (loc_of d l.led.to) (sent_of d l.led.packet) l.led.rest.now
          ≡ onward l.above d defined (l.most - 1) 1 (loc_of d l.fn.first.to) (sent_of d l.fn.first.packet) l.fn.first.rest.now;
      at : HasRole d l.led.to.role (l.above + 1);
      fits : FieldsFit (field_widths d) l.led.packet.fields;
    }

abbrev pub decreases-loop-bodies : goal.decreases-loop-bodies
decreases-loop-bodies l = l.most - l.bodies
