-- What a network delivers: visits of switches along links, from the attachment of a host to a host. It follows the
-- section "The network" of docs/FORMATS.md. Visits look at no tag, and rows have one version.
use Rattle.std.specs.Prelude.{◌≡◌, ℕ, zero, suc, ◌==◌, ◌&&◌, List, [], ◌∷◌, ◌++◌, if◌then◌else◌, Option, Some, None}
use Rattle.std.specs.List.{find}
use Rattle.p4_ir.specs.Switch.{switch_go}
use Rattle.p4_ir.specs.NetTree.{LinkEnd, to_switch, to_host, Link, HostPort, SwitchFiles, NetData}

abbrev pub switch_at : List SwitchFiles → ℕ → Option SwitchFiles
switch_at fs s = find (λ (f : SwitchFiles). f.number == s) fs

abbrev pub link_at : List Link → ℕ → ℕ → Option LinkEnd
link_at [] s p = None
link_at (l ∷ ls) s p = if (l.switch == s) && (l.port == p) then Some l.to else link_at ls s p

abbrev pub attach_at : List HostPort → ℕ → Option (ℕ × ℕ)
attach_at [] a = None
attach_at (h ∷ hs) a = if h.host == a then h.attach else attach_at hs a

-- what leaves at a port: it arrives at a host, or goes on at another switch; without a link it is dropped
abbrev pub Onward : (ℕ → ℕ → List ℕ → List ℕ → Type 0) → Option LinkEnd → List ℕ → List ℕ → ℕ → List ℕ → Type 0
Onward visit None bytes rids b out = ⊥
Onward visit (Some (to_host h)) bytes rids b out = (h ≡ b) × (bytes ≡ out) × (rids ≡ [])
Onward visit (Some (to_switch s p)) bytes rids b out = visit s p bytes rids

-- From port p of switch s at most n visits lead to the bytes `out` at host b, with the members of copies joined.
abbrev pub Visits : NetData → ℕ → ℕ → List ℕ → ℕ → ℕ → List ℕ → List ℕ → Type 0
Visits net zero b out s p bytes rids = ⊥
Visits net (suc n) b out s p bytes rids =
    (f : SwitchFiles) × (port : ℕ) × (left first more : List ℕ) × (switch_at net.switches s ≡ Some f)
    × (switch_go f.program f.rows 0 p bytes first ≡ Some (port, left)) × (rids ≡ first ++ more)
    × Onward (Visits net n b out) (link_at net.links s port) left more b out

-- the same from where host a is attached
abbrev pub NetGo : NetData → ℕ → List ℕ → List ℕ → ℕ → ℕ → List ℕ → Type 0
NetGo net a bytes rids n b out = (s p : ℕ) × (attach_at net.hosts a ≡ Some (s, p)) × Visits net n b out s p bytes rids
