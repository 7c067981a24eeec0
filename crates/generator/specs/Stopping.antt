-- Cited by the clauses of `count_delivered`: why the packets that are sent through a generated network are not all run.
use Rattle.std.specs.Prelude.{◌≡◌, ℕ, suc, ◌≤◌, ◌<◌}
use Rattle.generator.specs.Packets.{bytes, source}
use Rattle.net_run.specs.RunCounts.{most_runs, runs}
use Rattle.p4_ir.specs.NetTree.{NetData}
use Rattle.packet_runs.specs.declared.running.PacketsFault.{PacketsFault}
use Rattle.packet_runs.specs.declared.running.PacketsFault.TheVariants.{Copies, NoMemory}
use Rattle.generator.specs.Arriving.{most_visits}

-- how many runs the copies of the packet of this number make
abbrev pub runs_of : NetData → (hosts number : ℕ) → ℕ
runs_of net hosts number = runs net (source hosts number) (bytes hosts number) most_visits

-- those of each of so many packets are no more than may be made
abbrev pub AllWithin : NetData → (hosts packets : ℕ) → Type 0
AllWithin net hosts packets = (k : ℕ) → k < packets → runs_of net hosts k ≤ most_runs

-- those of one are more
abbrev pub SomeOver : NetData → (hosts packets : ℕ) → Type 0
SomeOver net hosts packets = (k : ℕ) × (k < packets) × (most_runs < runs_of net hosts k)

-- The runs of this packet are more than may be made, and the count is that of the first run too many. Out of memory is told of any.
abbrev pub StopsAt : NetData → (hosts number : ℕ) → PacketsFault → Type 0
StopsAt net hosts number (Copies count) =
    (count ≡ suc most_runs) × (most_runs < runs_of net hosts number)
StopsAt net hosts number NoMemory = Unit {0}

-- the same of one of so many packets
abbrev pub Stops : NetData → (hosts packets : ℕ) → PacketsFault → Type 0
Stops net hosts packets (Copies count) = (count ≡ suc most_runs) × SomeOver net hosts packets
Stops net hosts packets NoMemory = Unit {0}
