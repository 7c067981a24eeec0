-- Cited by the clauses of what makes packets: those that are sent through the network that is generated, counted from 0. Each has
-- the address of its own host and that of another, and no payload; its host is the next one with each packet, and the other one with
-- each round of all hosts.
use Rattle.std.specs.Prelude.{ℕ, ◌/◌, ◌%◌, List, ◌++◌}
use Rattle.std.specs.Int.{to_be_bytes, w32}
use Rattle.generator.specs.Definitions.{address}

-- the host at which a packet enters, by its address
abbrev pub source : (hosts number : ℕ) → ℕ
source hosts number = address (number % hosts)

-- the host that is its destination, by its address
abbrev pub destination : (hosts number : ℕ) → ℕ
destination hosts number = address (number / hosts % hosts)

abbrev pub bytes : (hosts number : ℕ) → List ℕ
bytes hosts number =
    to_be_bytes w32 (source hosts number) ++ to_be_bytes w32 (destination hosts number)
