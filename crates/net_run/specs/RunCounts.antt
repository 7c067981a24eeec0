-- How many runs of ingress and of egress all copies of a packet make, and how many they may make. It follows the same visits
-- as `Ends`. The clauses of `deliver` cite it, and those of `visit` the bound.
use Rattle.std.specs.Prelude.{ℕ, zero, suc, ◌+◌, List, [], ◌∷◌, Option, Some, None}
use Rattle.p4_ir.specs.NetRuns.{attach_at, link_at, switch_at}
use Rattle.p4_ir.specs.NetTree.{LinkEnd, to_switch, to_host, SwitchFiles, NetData}
use Rattle.p4_run.specs.Visits.{after_ingress, ingress_left}
use Rattle.net_run.specs.Departures.{Departed, departures_at, runs_after}

-- those of one visit
abbrev pub visit_runs : Option SwitchFiles → (port : ℕ) → (bytes : List ℕ) → ℕ
visit_runs None port bytes = 0
visit_runs (Some f) port bytes = runs_after f.rows (after_ingress (ingress_left f.program f.rows port bytes))

abbrev pub runs_onward : (ℕ → ℕ → List ℕ → ℕ) → Option LinkEnd → List ℕ → ℕ
runs_onward count None bytes = 0
runs_onward count (Some (to_host h)) bytes = 0
runs_onward count (Some (to_switch s p)) bytes = count s p bytes

-- those of all that departs from switch s
abbrev pub runs_of_all : NetData → (ℕ → ℕ → List ℕ → ℕ) → (s : ℕ) → List Departed → ℕ
runs_of_all net count s [] = 0
runs_of_all net count s (d ∷ ds) = runs_onward count (link_at net.links s d.port) d.bytes + runs_of_all net count s ds

-- those within n visits from port p of switch s
abbrev pub runs_from : NetData → (n s p : ℕ) → (bytes : List ℕ) → ℕ
runs_from net zero s p bytes = 0
runs_from net (suc n) s p bytes =
    visit_runs (switch_at net.switches s) p bytes + runs_of_all net (runs_from net n) s (departures_at (switch_at net.switches s) p bytes)

abbrev pub runs_attached : (ℕ → ℕ → List ℕ → ℕ) → Option (ℕ × ℕ) → List ℕ → ℕ
runs_attached count None bytes = 0
runs_attached count (Some at) bytes = count at.0 at.1 bytes

-- those of a packet of host a
abbrev pub runs : NetData → (a : ℕ) → (bytes : List ℕ) → (n : ℕ) → ℕ
runs net a bytes n = runs_attached (runs_from net n) (attach_at net.hosts a) bytes

abbrev pub most_runs : ℕ
most_runs = 65536
