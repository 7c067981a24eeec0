-- Cited by the clauses of `visiting`: what values of the code stand for.
use Rattle.std.specs.Prelude.{◌≡◌, ℕ, suc, List, [], ◌∷◌, Option, Some, None}
use Rattle.net_run.specs.Departures as spec
use Rattle.net_run.specs.declared.departed.Departed.{Departed}
use Rattle.net_run.specs.declared.fault.RunFault.{RunFault}
use Rattle.net_run.specs.declared.fault.RunFault.TheVariants.{NoSuchHost, Copies, NoMemory}
use Rattle.net_run.specs.RunCounts.{most_runs}

-- the list of members that was asked for
abbrev pub way_of : Option ℕ → List ℕ
way_of None = []
way_of (Some rid) = rid ∷ []

abbrev pub departed_of : Departed → spec.Departed
departed_of d = record { way = way_of d.member; port = d.port; bytes = d.bytes.items }

-- Of a visit whose runs are more than may be made, or that found no memory. The count is that of the first run too many.
abbrev pub VisitStops : RunFault → (over : Type 0) → Type 0
VisitStops NoSuchHost over = ⊥
VisitStops (Copies count) over = (count ≡ suc most_runs) × over
VisitStops NoMemory over = Unit {0}
