-- Cited by the clauses of `Loaded`: what ingress and egress leave, what follows from it, and the bytes that depart.
use Rattle.std.specs.Prelude.{◌≡◌, ℕ, ◌==◌, List, [], ◌++◌, drop, length, if◌then◌else◌, Option, Some, None, option_and_then}
use Rattle.cocoon_num.specs.Lists.{has_number}
use Rattle.cocoon_num.specs.Packets.{enter, Layout, leave}
use Rattle.p4_ir.specs.P4Tree.{Group, Program, program_layout, RowsFile}
use Rattle.p4_ir.specs.Switch.{Departure, ingress_of, members, State}
use Rattle.p4_run.specs.declared.visits.Next.{Next}
use Rattle.p4_run.specs.declared.visits.Next.TheVariants.{Drop, Port, Copies}

-- the state that ingress leaves of some bytes, if these have all headers
abbrev pub ingress_left : Program → RowsFile → (port : ℕ) → (bytes : List ℕ) → Option State
ingress_left p rows port bytes = option_and_then (λ entered. ingress_of p rows port entered.0) (enter (program_layout p) bytes)

-- what follows from the state that ingress left, by its verdict
abbrev pub after_ingress : Option State → Next
after_ingress None = Drop
after_ingress (Some s) = if s.verdict == 1 then Port s.egress_port else if s.verdict == 2 then Copies s.group else Drop

-- the same of egress, which makes no copies
abbrev pub after_egress : Option State → Next
after_egress None = Drop
after_egress (Some s) = if s.verdict == 1 then Port s.egress_port else Drop

-- the headers are those of the state that was left, if one was
abbrev pub AreHeaders : Layout → Option State → (headers : List ℕ) → Type 0
AreHeaders layout None headers = Unit {0}
AreHeaders layout (Some s) headers = headers ≡ leave layout s.packet []

-- what departs after some bytes came: the headers, and the bytes that come behind as many
abbrev pub departs : Next → (headers bytes : List ℕ) → Departure
departs (Port port) headers bytes = Some (port, headers ++ drop (length headers) bytes)
departs _ headers bytes = None

-- what departs of a copy, which is one of a member of the group that ingress gave
abbrev pub copy_departs : List Group → (after : Next) → (rid : ℕ) → Next → (headers bytes : List ℕ) → Departure
copy_departs groups (Copies group) rid next headers bytes =
    if has_number rid (members groups group) then departs next headers bytes else None
copy_departs groups _ rid next headers bytes = None
