-- Cited by the clauses of `run_packets`, and by what speaks of its report: what is reported of the
-- packets of a file that are run through a network. It follows the section "Reports" of
-- docs/FORMATS.md. What becomes of a packet is what the network does with it, and the lines say just
-- that.
use Rattle.std.specs.Prelude.{◌≡◌, ℕ, ◌+◌, List, [], ◌∷◌, ◌++◌, length, codes, decimal}
use Rattle.hex.specs.Hex.{encode_lower}
use Rattle.net_run.specs.Outcomes.{AreDelivered, AreTravelling, Delivery}
use Rattle.p4_ir.specs.NetTree.{NetData}
use Rattle.packet_runs.specs.Packets.{Packet}

-- ---- what becomes of packets

pub record Outcome : Type 0 where
  pub delivered : List Delivery
  pub travelling : ℕ

-- this becomes of a packet that makes at most so many visits
pub record IsOutcome (net : NetData) (hops : ℕ) (p : Packet) (o : Outcome) : Type 0 where
  pub delivered : AreDelivered net p.host p.bytes hops o.delivered
  pub travelling : AreTravelling net p.host p.bytes hops o.travelling

-- one of each packet, in their order
abbrev pub AreOutcomes : NetData → (hops : ℕ) → List Packet → List Outcome → Type 0
AreOutcomes net hops [] [] = Unit {0}
AreOutcomes net hops [] (o ∷ os) = ⊥
AreOutcomes net hops (p ∷ ps) [] = ⊥
AreOutcomes net hops (p ∷ ps) (o ∷ os) = IsOutcome net hops p o × AreOutcomes net hops ps os

-- ---- lines

-- NUMBER delivered COUNT travelling COUNT
abbrev pub outcome_line : (number delivered travelling : ℕ) → List ℕ
outcome_line number delivered travelling =
    decimal number ++ (codes " delivered " ++ (decimal delivered ++ (codes " travelling "
    ++ (decimal travelling ++ codes "\n"))))

-- two digits for each byte, in lower case; `-` where there is none
abbrev pub bytes_text : List ℕ → List ℕ
bytes_text [] = codes "-"
bytes_text (byte ∷ bytes) = encode_lower (byte ∷ bytes)

-- > HOST BYTES
abbrev pub delivery_line : Delivery → List ℕ
delivery_line d =
    codes "> " ++ (decimal d.host ++ (codes " " ++ (bytes_text d.bytes ++ codes "\n")))

abbrev pub delivery_lines : List Delivery → List ℕ
delivery_lines [] = []
delivery_lines (d ∷ ds) = delivery_line d ++ delivery_lines ds

-- the lines of the packet of this number
abbrev pub outcome_lines : (number : ℕ) → Outcome → List ℕ
outcome_lines number o =
    outcome_line number (length o.delivered) o.travelling ++ delivery_lines o.delivered

-- those of all, which have their numbers from this one on
abbrev pub lines_from : (number : ℕ) → List Outcome → List ℕ
lines_from number [] = []
lines_from number (o ∷ os) = outcome_lines number o ++ lines_from (number + 1) os

-- ---- the report

-- the lines of what becomes of these packets, counted from 1
pub record IsReport (net : NetData) (hops : ℕ) (packets : List Packet) (report : List ℕ)
    : Type 0 where
  pub outcomes : List Outcome
  pub are : AreOutcomes net hops packets outcomes
  pub lines : report ≡ lines_from 1 outcomes
