-- Cited by `run_case`, and by what reports of it. What the body of a case's role does, by the runs of a design's level under
-- some definitions. It follows the section "A body's run" of docs/LANGUAGE.md.
use Rattle.std.specs.Prelude.{◌≡◌, ℕ, List, [], ◌∷◌, ◌++◌, Option, Some, None}
use Rattle.cocoon_num.specs.Packets.{Packet}
use Rattle.cocoon_num.specs.Tree.{Design, HeaderDecl}
use Rattle.cocoon_types.specs.Runs.{Go, Loc, World, world}
use Rattle.cocoon_types.specs.Tables.{Defs}
use Rattle.role_values.specs.Flat.{packet_of}
use Rattle.step_cases.specs.Cases.{Case}
use Rattle.step_cases.specs.declared.sent.Sent.{Sent}

-- the numbers of all fields of a packet, header by header
abbrev pub all_fields : Packet → List ℕ
all_fields [] = []
all_fields (ns ∷ packet) = ns ++ all_fields packet

-- the location and the packet that are told
pub record IsSent (s : Sent) (to : Loc) (packet : Packet) : Type 0 where
  pub role : s.role ≡ to.role
  pub values : s.values ≡ to.values
  pub fields : s.fields ≡ all_fields packet

-- one body's run of a case, with exactly its choices, leads there
abbrev pub Goes : World → List HeaderDecl → Case → Loc → Packet → Type 0
Goes w headers case to sent = Go w case.at (packet_of headers case.fields) case.choices to sent

-- where it leads, or that it leads nowhere
abbrev pub Steps : (level : ℕ) → Design → Defs → Case → Option Sent → Type 0
Steps level d defs case (Some s) =
    (to : Loc) × (sent : Packet) × Goes (world level d defs) d.headers case to sent × IsSent s to sent
Steps level d defs case None = (to : Loc) (sent : Packet) → ¬ Goes (world level d defs) d.headers case to sent
