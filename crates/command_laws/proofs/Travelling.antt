-- Where no copy of a packet travels, all that any number of visits delivers is delivered.
use Rattle.std.proofs.Common.{◌⊎◌, ◌↔◌, inl, inr, ℕ, ◌+◌, List, arith}
use Rattle.p4_ir.specs.NetRuns.{NetGo, Visits}
use Rattle.p4_ir.specs.NetTree.{NetData}
use Rattle.net_run.specs.Outcomes.{AreTravelling, StillTravels}
use Rattle.net_run.specs.Travels.{GoesOn}

abbrev pub GoOn : NetData → Type 0
GoOn net = (m n b : ℕ) (out : List ℕ) (s p : ℕ) (bytes rids : List ℕ)
    → Visits net (n + m) b out s p bytes rids ↔ (Visits net n b out s p bytes rids ⊎ GoesOn net n m b out s p bytes rids)

no_traveller : (net : NetData) (a : ℕ) (bytes : List ℕ) (n : ℕ) → AreTravelling net a bytes n 0 → (choices : List ℕ) → ¬ StillTravels net a bytes choices n
no_traveller net a bytes n none choices travels =
    let found = (none.exact choices).1 travels in
    let before = found.1 in
    let counted = none.counted in
    absurd (omega (arith, before, counted))

-- what more visits deliver is delivered within n
pub within_n : (net : NetData) → GoOn net → (a : ℕ) (bytes rids : List ℕ) (n m b : ℕ) (out : List ℕ) → AreTravelling net a bytes n 0
    → NetGo net a bytes rids (n + m) b out → NetGo net a bytes rids n b out
within_n net goes_on a bytes rids n m b out none (s, p, attached, visits) = elim ((goes_on m n b out s p bytes rids).0 visits) [
  | inl v ↦ (s, p, attached, v)
  | inr g ↦ absurd (no_traveller net a bytes n none g.first (g.switch, g.port, g.left, (s, p, attached, g.travels)))
]
