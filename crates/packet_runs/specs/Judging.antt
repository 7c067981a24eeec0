-- Cited by the clauses of `read_packets` and of its parts: what the answers of the code stand for.
use Rattle.std.specs.Prelude.{◌≡◌, ◌⊎◌, ◌++◌, List, Result, Ok, Err}
use Rattle.packet_runs.specs.Packets as spec
use Rattle.packet_runs.specs.declared.packet.Packet.{Packet}
use Rattle.packet_runs.specs.declared.packet.PacketFault.{PacketFault}
use Rattle.packet_runs.specs.declared.packet.PacketFault.TheVariants.{NoMemory}

abbrev pub packet_in : Packet → spec.Packet
packet_in p = record { host = p.host; bytes = p.bytes.items }

-- the answer of the code stands for this one, where there was memory
abbrev pub AnswersAs : {X Y : Type 0} → (Y → X) → Result X PacketFault → Result Y PacketFault → Type 0
AnswersAs stands answer (Ok y) = answer ≡ Ok (stands y)
AnswersAs stands answer (Err fault) = (fault ≡ NoMemory) ⊎ (answer ≡ Err fault)

-- these packets and those of an answer, or its fault
abbrev pub joined : List spec.Packet → Result (List spec.Packet) PacketFault
    → Result (List spec.Packet) PacketFault
joined packets (Ok more) = Ok (packets ++ more)
joined packets (Err fault) = Err fault
