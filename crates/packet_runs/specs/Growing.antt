-- Cited by the private clauses of `lines` and `running`: the outcome of the definitions that one of
-- the code stands for, and a report that has the lines of one packet more.
use Rattle.std.specs.Prelude.{◌≡◌, ℕ, List, ◌++◌, map}
use Rattle.net_run.specs.Delivering.{delivery_of}
use Rattle.net_run.specs.declared.delivering.Outcome.{Outcome}
use Rattle.p4_ir.specs.NetTree.{NetData}
use Rattle.packet_runs.specs.Packets.{Packet}
use Rattle.packet_runs.specs.Reports as spec
use Rattle.packet_runs.specs.Reports.{IsOutcome, outcome_lines}

abbrev pub outcome_of : Outcome → spec.Outcome
outcome_of o = record { delivered = map delivery_of o.delivered; travelling = o.travelling }

-- after this text, the lines of what becomes of the packet of this number
pub record AddsPacket (net : NetData) (hops number : ℕ) (p : Packet) (before after : List ℕ)
    : Type 0 where
  pub outcome : spec.Outcome
  pub is : IsOutcome net hops p outcome
  pub lines : after ≡ before ++ outcome_lines number outcome
