-- What departs from one visit of a switch, as a list: for each list of members with which the visit may go on, in the order
-- of the group, what it gives. The clauses of `visit` cite it, and the laws of net_run join it to the definition of a visit.
use Rattle.std.specs.Prelude.{ℕ, suc, List, [], ◌∷◌, length, map, Option, Some, None}
use Rattle.p4_ir.specs.NetTree.{SwitchFiles}
use Rattle.p4_ir.specs.P4Tree.{Program, RowsFile}
use Rattle.p4_ir.specs.Switch.{Departure, members, switch_go}
use Rattle.p4_run.specs.Visits.{after_ingress, ingress_left}
use Rattle.p4_run.specs.declared.visits.Next.{Next}
use Rattle.p4_run.specs.declared.visits.Next.TheVariants.{Drop, Port, Copies}

-- the lists of members that may be asked for after ingress: none where nothing leaves, the empty list where the packet
-- itself leaves, and each member of the group alone where copies are made
abbrev pub ways_after : RowsFile → Next → List (List ℕ)
ways_after rows Drop = []
ways_after rows (Port port) = [] ∷ []
ways_after rows (Copies group) = map (λ rid. rid ∷ []) (members rows.groups group)

-- the members for which copies are made
abbrev pub members_after : RowsFile → Next → List ℕ
members_after rows Drop = []
members_after rows (Port port) = []
members_after rows (Copies group) = members rows.groups group

-- how many runs a visit makes: of ingress, and of egress for each copy
abbrev pub runs_after : RowsFile → Next → ℕ
runs_after rows next = suc (length (members_after rows next))

abbrev pub ways : Program → RowsFile → (port : ℕ) → (bytes : List ℕ) → List (List ℕ)
ways p rows port bytes = ways_after rows (after_ingress (ingress_left p rows port bytes))

-- what departs, and with which members
pub record Departed : Type 0 where
  pub way : List ℕ
  pub port : ℕ
  pub bytes : List ℕ

-- a departure before others, if there is one
abbrev pub put : (way : List ℕ) → Departure → List Departed → List Departed
put way None others = others
put way (Some d) others = record { way = way; port = d.0; bytes = d.1 } ∷ others

-- those that depart, in the order of the lists of members
abbrev pub departing : (List ℕ → Departure) → List (List ℕ) → List Departed
departing visit [] = []
departing visit (way ∷ ways) = put way (visit way) (departing visit ways)

abbrev pub departures : Program → RowsFile → (port : ℕ) → (bytes : List ℕ) → List Departed
departures p rows port bytes = departing (switch_go p rows 0 port bytes) (ways p rows port bytes)

-- the same of a switch, if there is one
abbrev pub departures_at : Option SwitchFiles → (port : ℕ) → (bytes : List ℕ) → List Departed
departures_at None port bytes = []
departures_at (Some f) port bytes = departures f.program f.rows port bytes
