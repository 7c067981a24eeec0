-- Cited by the private clauses of `stations`: the switch of the network that a station stands for, with its frame.
use Rattle.std.specs.Prelude.{◌≡◌, ℕ, ◌<◌, List, length, Option, Some, None, option_map}
use Rattle.std.specs.List.{All, HoldsAt}
use Rattle.net_run.specs.Nets.{net_in}
use Rattle.net_run.specs.Runs.{runs_in, runs_of}
use Rattle.net_run.specs.declared.net.Net.{Net}
use Rattle.p4_ir.specs.NetRuns.{switch_at}
use Rattle.p4_run.specs.Frames.{Fits}
use Rattle.p4_run.specs.Running.{program_in}
use Rattle.p4_run.specs.declared.loaded.Loaded.{Loaded}
use Rattle.net_run.specs.declared.stations.Station.{Station}
use Rattle.net_run.specs.declared.stations.Stations.{Stations}

-- what is loaded is the switch of this number
abbrev pub IsLoadedAt : Net → ℕ → Loaded → Type 0
IsLoadedAt net number l = ∥ Some (runs_in l) ≡ option_map runs_of (switch_at (net_in net).switches number) ∥₁

-- and the frame fits it
abbrev pub IsStationOf : Net → Station → Type 0
IsStationOf net s = IsLoadedAt net s.number s.loaded.now × Fits (program_in s.loaded.now) s.frame

abbrev pub StationsFit : Net → Stations → Type 0
StationsFit net s = All (IsStationOf net) s.visited.items

-- the station at an index has this number; without one, there is no such switch
abbrev pub StandsAt : Net → ℕ → List Station → Option ℕ → Type 0
StandsAt net number ss None = switch_at (net_in net).switches number ≡ None
StandsAt net number ss (Some i) = (i < length ss) × HoldsAt (λ (s : Station). s.number ≡ number) ss i
