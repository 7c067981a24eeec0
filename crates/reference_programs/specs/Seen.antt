-- What the values of the code stand for. The clauses of `enter` cite it.
use Rattle.std.specs.Prelude.{ℕ, List}
use Rattle.cocoon_num.specs.Packets.{Packet}
use Rattle.reference_programs.specs.declared.packet.Entered.{Entered}

-- a packet and a payload
abbrev pub entered_of : Entered → Packet × List ℕ
entered_of e = (e.packet, e.payload.items)
