-- Packets that travel: after exactly so many visits they stand before a switch. The law
-- `travellers_go_on` cites it, and, through Outcomes.antt, the clauses of `deliver`.
use Rattle.std.specs.Prelude.{◌≡◌, ℕ, zero, suc, List, [], ◌++◌, Option, Some, None}
use Rattle.p4_ir.specs.NetRuns.{attach_at, link_at, switch_at, Visits}
use Rattle.p4_ir.specs.NetTree.{LinkEnd, to_switch, to_host, SwitchFiles, NetData}
use Rattle.p4_ir.specs.Switch.{switch_go}

-- what leaves along a link to a switch goes on there
abbrev pub Forth : (ℕ → ℕ → List ℕ → List ℕ → Type 0) → Option LinkEnd → List ℕ → List ℕ → Type 0
Forth visit None bytes rids = ⊥
Forth visit (Some (to_host h)) bytes rids = ⊥
Forth visit (Some (to_switch s p)) bytes rids = visit s p bytes rids

-- From port p of switch s exactly n visits lead to port q of switch t, with the bytes `out`, and with the members of copies
-- joined.
abbrev pub Travels : NetData → ℕ → (t q : ℕ) → (out : List ℕ) → (s p : ℕ) → (bytes rids : List ℕ) → Type 0
Travels net zero t q out s p bytes rids = (s ≡ t) × (p ≡ q) × (bytes ≡ out) × (rids ≡ [])
Travels net (suc n) t q out s p bytes rids =
    (f : SwitchFiles) × (port : ℕ) × (left first more : List ℕ) × (switch_at net.switches s ≡ Some f)
    × (switch_go f.program f.rows 0 p bytes first ≡ Some (port, left)) × (rids ≡ first ++ more)
    × Forth (Travels net n t q out) (link_at net.links s port) left more

-- the same from where host a is attached
abbrev pub TravelsFrom : NetData → (a : ℕ) → (bytes rids : List ℕ) → (n : ℕ) → (t q : ℕ) → (out : List ℕ) → Type 0
TravelsFrom net a bytes rids n t q out = (s p : ℕ) × (attach_at net.hosts a ≡ Some (s, p)) × Travels net n t q out s p bytes rids

-- From port p of switch s the packet travels n visits, and from there at most m more lead to host b.
pub record GoesOn (net : NetData) (n m b : ℕ) (out : List ℕ) (s p : ℕ) (bytes rids : List ℕ) : Type 0 where
  pub switch : ℕ
  pub port : ℕ
  pub left : List ℕ
  pub first : List ℕ
  pub more : List ℕ
  pub travels : Travels net n switch port left s p bytes first
  pub visits : Visits net m b out switch port left more
  pub joined : rids ≡ first ++ more
