use Rattle.std.proofs.Common.{◌≡◌, ◌++◌, length, option_map}
use Rattle.packet_runs.specs.Packets.{pairs_of}
use Rattle.packet_runs.proofs.bytes.read_pairs.Given as goal

abbrev pub invariant-loop-rest : goal.invariant-loop-rest
invariant-loop-rest l = option_map (λ bs. l.bytes.items ++ bs) (pairs_of l.rest) ≡ pairs_of l.digits

abbrev pub decreases-loop-rest : goal.decreases-loop-rest
decreases-loop-rest l = length l.rest
