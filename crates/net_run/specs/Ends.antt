-- Cited by the private clauses of `standing` and `following`: where the copies of a packet are after
-- so many visits, as a list, depth first in the order of the members: at a host, or before a switch.
-- What leaves at a port without a link has no end.
use Rattle.std.specs.Prelude.{ℕ, zero, suc, List, [], ◌∷◌, ◌++◌, map, Option, Some, None}
use Rattle.std.specs.List.{flat_map}
use Rattle.p4_ir.specs.NetRuns.{attach_at, link_at, switch_at}
use Rattle.p4_ir.specs.NetTree.{LinkEnd, to_switch, to_host, NetData}
use Rattle.net_run.specs.Departures.{Departed, departures_at}

-- where a copy is, with its bytes, and the members of copies on its way
pub record End : Type 0 where
  pub at : LinkEnd
  pub choices : List ℕ
  pub bytes : List ℕ

-- a packet that makes no more visits
abbrev pub end_at : LinkEnd → List ℕ → End
end_at at bytes = record { at = at; choices = []; bytes = bytes }

-- what leaves along a link ends at its host, or goes on at its switch
abbrev pub onward : (ℕ → ℕ → List ℕ → List End) → Option LinkEnd → List ℕ → List End
onward go None bytes = []
onward go (Some (to_host h)) bytes = end_at (to_host h) bytes ∷ []
onward go (Some (to_switch s p)) bytes = go s p bytes

-- the members of a visit before those of later ones
abbrev pub behind : List ℕ → List End → List End
behind way es = map (λ (e : End). record e { choices = way ++ e.choices }) es

-- what becomes of something that departs from switch s
abbrev pub followed : NetData → (ℕ → ℕ → List ℕ → List End) → (s : ℕ) → Departed → List End
followed net go s d = behind d.way (onward go (link_at net.links s d.port) d.bytes)

-- the ends of a packet that stands before port p of switch s, after n visits, or at most n where they end at a host
abbrev pub ends_from : NetData → (n s p : ℕ) → (bytes : List ℕ) → List End
ends_from net zero s p bytes = end_at (to_switch s p) bytes ∷ []
ends_from net (suc n) s p bytes = flat_map (followed net (ends_from net n) s) (departures_at (switch_at net.switches s) p bytes)

-- nothing comes of a host without an attachment
abbrev pub from_attached : (ℕ → ℕ → List ℕ → List End) → Option (ℕ × ℕ) → List ℕ → List End
from_attached go None bytes = []
from_attached go (Some at) bytes = go at.0 at.1 bytes

-- the ends of a packet of host a
abbrev pub ends : NetData → (a : ℕ) → (bytes : List ℕ) → (n : ℕ) → List End
ends net a bytes n = from_attached (ends_from net n) (attach_at net.hosts a) bytes
