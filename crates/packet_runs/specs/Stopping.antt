-- Cited by the clauses of `run_packets`: why packets are not run.
use Rattle.std.specs.Prelude.{◌≡◌, ◌⊎◌, ℕ, suc, ◌≤◌, ◌<◌, List, [], ◌∷◌}
use Rattle.net_run.specs.RunCounts.{most_runs, runs}
use Rattle.p4_ir.specs.NetTree.{NetData}
use Rattle.packet_runs.specs.Packets.{Packet}
use Rattle.packet_runs.specs.declared.running.PacketsFault.{PacketsFault}
use Rattle.packet_runs.specs.declared.running.PacketsFault.TheVariants.{Copies, NoMemory}

-- the copies of each make no more runs than they may
abbrev pub AllWithin : NetData → (hops : ℕ) → List Packet → Type 0
AllWithin net hops [] = Unit {0}
AllWithin net hops (p ∷ ps) = (runs net p.host p.bytes hops ≤ most_runs) × AllWithin net hops ps

-- those of one make more
abbrev pub SomeOver : NetData → (hops : ℕ) → List Packet → Type 0
SomeOver net hops [] = ⊥
SomeOver net hops (p ∷ ps) = (most_runs < runs net p.host p.bytes hops) ⊎ SomeOver net hops ps

-- The runs of this packet are more than may be made, and the count is that of the first run too many. Out of memory is told
-- of any.
abbrev pub StopsAt : NetData → (hops : ℕ) → Packet → PacketsFault → Type 0
StopsAt net hops p (Copies count) =
    (count ≡ suc most_runs) × (most_runs < runs net p.host p.bytes hops)
StopsAt net hops p NoMemory = Unit {0}

-- the same of one of these packets
abbrev pub Stops : NetData → (hops : ℕ) → List Packet → PacketsFault → Type 0
Stops net hops ps (Copies count) = (count ≡ suc most_runs) × SomeOver net hops ps
Stops net hops ps NoMemory = Unit {0}
