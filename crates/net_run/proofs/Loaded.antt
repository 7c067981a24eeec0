-- What departs from a visit of a switch that is loaded, and how many runs it makes, is what the definitions say of the switch.
use Rattle.std.proofs.Common.{◌≡◌, ℕ, suc, ◌≤◌, IfOk, Result, Ok, Err, List, [], ◌∷◌, length, map, Option, Some, None, option_map, refl, ◌∙◌, ap, arith}
use Rattle.std.proofs.Math.Logic.{∥∥₁_elim}
use Rattle.std.specs.Coded.{Coded, Coded-set, code_by, coded×, coded_list, coded_ℕ}
use Rattle.net_run.specs.Nets.{net_in}
use Rattle.net_run.specs.Runs.{runs_of}
use Rattle.net_run.specs.declared.net.Net.{Net}
use Rattle.p4_ir.specs.NetRuns.{switch_at}
use Rattle.p4_ir.specs.NetTree.{SwitchFiles}
use Rattle.p4_ir.specs.P4Tree.{Program, RowsFile}
use Rattle.p4_ir.specs.Switch.{Departure, members, switch_go}
use Rattle.p4_run.specs.Running.{program_in, rows_in}
use Rattle.p4_run.specs.Visits.{after_ingress, ingress_left}
use Rattle.p4_run.specs.declared.loaded.Loaded.{Loaded}
use Rattle.p4_run.specs.declared.visits.Next.{Next}
use Rattle.p4_run.specs.declared.visits.Next.TheVariants.{Drop, Port, Copies}
use Rattle.net_run.specs.DepartedOf.{departed_of}
use Rattle.net_run.specs.declared.departed.Departed as code
use Rattle.net_run.specs.declared.departed.Visited.{Visited}
use Rattle.net_run.specs.declared.fault.RunFault.{RunFault}
use Rattle.net_run.specs.Departures.{Departed, departing, departures, departures_at, put, runs_after, ways, ways_after}
use Rattle.net_run.specs.RunCounts.{visit_runs}
use Rattle.net_run.specs.Stations.{IsLoadedAt}

coded_departed : Coded Departed
coded_departed =
    code_by (List ℕ × (ℕ × List ℕ)) (coded× (coded_list coded_ℕ) (coded× coded_ℕ (coded_list coded_ℕ)))
    (λ d. (d.way, (d.port, d.bytes))) (λ p. record { way = p.0; port = p.1.0; bytes = p.1.1 }) (λ _. refl)

abbrev departures_of : Option (Program × RowsFile) → (port : ℕ) → (bytes : List ℕ) → List Departed
departures_of None port bytes = []
departures_of (Some r) port bytes = departures r.0 r.1 port bytes

abbrev runs_made : Option (Program × RowsFile) → (port : ℕ) → (bytes : List ℕ) → ℕ
runs_made None port bytes = 0
runs_made (Some r) port bytes = runs_after r.1 (after_ingress (ingress_left r.0 r.1 port bytes))

departures_mapped : (o : Option SwitchFiles) (port : ℕ) (bytes : List ℕ) → departures_of (option_map runs_of o) port bytes ≡ departures_at o port bytes
departures_mapped None port bytes = refl
departures_mapped (Some f) port bytes = refl

runs_mapped : (o : Option SwitchFiles) (port : ℕ) (bytes : List ℕ) → runs_made (option_map runs_of o) port bytes ≡ visit_runs o port bytes
runs_mapped None port bytes = refl
runs_mapped (Some f) port bytes = refl

pub loaded_departs : (net : Net) (s : ℕ) (l : Loaded) (port : ℕ) (bytes : List ℕ) → IsLoadedAt net s l
    → departures (program_in l) (rows_in l) port bytes ≡ departures_at (switch_at (net_in net).switches s) port bytes
loaded_departs net s l port bytes h =
    ∥∥₁_elim h (Coded-set (coded_list coded_departed) _ _) (λ e. ap (λ o. departures_of o port bytes) e)
    ∙ departures_mapped (switch_at (net_in net).switches s) port bytes

pub loaded_runs : (net : Net) (s : ℕ) (l : Loaded) (port : ℕ) (bytes : List ℕ) → IsLoadedAt net s l
    → runs_after (rows_in l) (after_ingress (ingress_left (program_in l) (rows_in l) port bytes)) ≡ visit_runs (switch_at (net_in net).switches s) port bytes
loaded_runs net s l port bytes h =
    ∥∥₁_elim h (Coded-set coded_ℕ _ _) (λ e. ap (λ o. runs_made o port bytes) e)
    ∙ runs_mapped (switch_at (net_in net).switches s) port bytes

-- ---- no more departs than runs are made

put_length : (way : List ℕ) (o : Departure) (rest : List Departed) → length (put way o rest) ≤ suc (length rest)
put_length way None rest = omega arith
put_length way (Some d) rest = omega arith

departing_length : (visit : List ℕ → Departure) (ws : List (List ℕ)) → length (departing visit ws) ≤ length ws
departing_length visit [] = omega arith
departing_length visit (w ∷ ws) = let a = put_length w (visit w) (departing visit ws) in let b = departing_length visit ws in omega (arith, a, b)

alone_length : (ns : List ℕ) → length (map (λ rid. rid ∷ []) ns) ≡ length ns
alone_length [] = refl
alone_length (n ∷ ns) = ap suc (alone_length ns)

ways_length : (rows : RowsFile) (next : Next) → length (ways_after rows next) ≤ runs_after rows next
ways_length rows Drop = omega arith
ways_length rows (Port port) = omega arith
ways_length rows (Copies group) = let e = alone_length (members rows.groups group) in omega (arith, e)

pub no_more_depart : (p : Program) (rows : RowsFile) (port : ℕ) (bytes : List ℕ) → length (departures p rows port bytes) ≤ runs_after rows (after_ingress (ingress_left p rows port bytes))
no_more_depart p rows port bytes =
    let a = departing_length (switch_go p rows 0 port bytes) (ways p rows port bytes) in
    let b = ways_length rows (after_ingress (ingress_left p rows port bytes)) in
    omega (arith, a, b)

-- ---- the answer of a visit

ok_both : {T E : Type 0} {P Q R : T → Type 0} (r : Result T E) → ((v : T) → P v → Q v → R v) → IfOk r P → IfOk r Q → IfOk r R
ok_both (Ok v) f p q = f v p q
ok_both (Err e) f p q = tt

mapped_length : (ds : List code.Departed) → length (map departed_of ds) ≡ length ds
mapped_length [] = refl
mapped_length (d ∷ ds) = ap suc (mapped_length ds)

pub fewer_depart : (r : Result Visited RunFault) (p : Program) (rows : RowsFile) (port : ℕ) (bytes : List ℕ) → IfOk r (λ v. map departed_of v.departed.items ≡ departures p rows port bytes)
    → IfOk r (λ v. v.runs ≡ runs_after rows (after_ingress (ingress_left p rows port bytes))) → IfOk r (λ v. length v.departed.items ≤ v.runs)
fewer_depart r p rows port bytes = ok_both r (λ v d n.
    let a = mapped_length v.departed.items in let b = ap length d in let e = no_more_depart p rows port bytes in omega (arith, a, b, e, n))
