-- What becomes of a packet within so many visits: which copies a network delivers, and how many still
-- travel. The clauses of `deliver` cite it, and what speaks of its answers. It says what the network
-- does, and nothing of how copies are followed.
use Rattle.std.specs.Prelude.{◌≡◌, ◌↔◌, ℕ, List, Contains, length, map}
use Rattle.p4_ir.specs.NetRuns.{NetGo}
use Rattle.p4_ir.specs.NetTree.{NetData}
use Rattle.net_run.specs.Ascending.{Ascending}
use Rattle.net_run.specs.Travels.{TravelsFrom}

-- what is delivered at a host, with the members of copies on its way
pub record Delivery : Type 0 where
  pub host : ℕ
  pub choices : List ℕ
  pub bytes : List ℕ

-- All that the network delivers of a packet of host a within n visits, and nothing else: in ascending
-- order of the choices, so that each stands once.
pub record AreDelivered (net : NetData) (a : ℕ) (bytes : List ℕ) (n : ℕ) (ds : List Delivery)
    : Type 0 where
  pub exact : (d : Delivery) → Contains ds d ↔ NetGo net a bytes d.choices n d.host d.bytes
  pub ascending : Ascending (map (λ (d : Delivery). d.choices) ds)

-- with these choices the packet makes exactly n visits, and stands before a switch
abbrev pub StillTravels : NetData → (a : ℕ) → (bytes choices : List ℕ) → (n : ℕ) → Type 0
StillTravels net a bytes choices n =
    (s p : ℕ) × (left : List ℕ) × TravelsFrom net a bytes choices n s p left

-- there are so many lists of choices with which it still travels
pub record AreTravelling (net : NetData) (a : ℕ) (bytes : List ℕ) (n count : ℕ) : Type 0 where
  pub lists : List (List ℕ)
  pub counted : count ≡ length lists
  pub exact : (choices : List ℕ) → Contains lists choices ↔ StillTravels net a bytes choices n
  pub ascending : Ascending lists
