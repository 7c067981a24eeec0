-- Cited by `ingress_ends` and `visit_is_body`. A whole visit of a switch without choices.
use Rattle.std.specs.Prelude.{◌≡◌, ℕ, List, [], ◌∷◌, length, map, replicate, slice_get, Some, None, option_map}
use Rattle.cocoon_types.specs.Design.{widths_of}
use Rattle.cocoon_num.specs.Values.{number}
use Rattle.cocoon_num.specs.Tree.{Block, FunctionDecl, HeaderDecl}
use Rattle.cocoon_num.specs.Packets.{Packet, Layout, leave}
use Rattle.cocoon_types.specs.Val.{Env, bound}
use Rattle.p4_ir.specs.P4Tree.{Program, RowsFile, p_lit, p_port, field_widths, program_layout}
use Rattle.p4_ir.specs.Switch.{Departure, Running, State}
use Rattle.lowering.specs.Lower.{Variable, callees}
use Rattle.lowering.specs.LowerBlock.{LoweredBlock, lower_block}
use Rattle.p4_ir.specs.Program.{block_of}
use Rattle.lowering.specs.Agrees.{Filling, AllMade, FunctionsFit, TakesIn, GroupTakesIn, inner_context}
use Rattle.lowering.specs.Ends.{FitsAll}
use Rattle.lowering.specs.Visit.{Visit, on, leaves, copies, nothing}

-- the role of a switch: its headers and functions (the latest first), its parameters' names and its body
pub record SwitchRole : Type 0 where
  pub headers : List HeaderDecl
  pub functions : List FunctionDecl
  pub switch : List ℕ
  pub port : List ℕ
  pub body : Block

abbrev pub role_env : SwitchRole → ℕ → ℕ → Env
role_env r s p = bound r.switch (number 16 s) (bound r.port (number 16 p) [])

abbrev pub role_vars : SwitchRole → ℕ → List Variable
role_vars r s = record { name = r.switch; expr = p_lit 16 s } ∷ record { name = r.port; expr = p_port } ∷ []

abbrev pub role_lowered : SwitchRole → ℕ → LoweredBlock
role_lowered r s = lower_block (callees r.headers r.functions r.port) (role_vars r s) (record { app = 0; var = 0; field = 1; site = 1 }) r.body

abbrev pub ingress_place : Program → RowsFile → ℕ → Running
ingress_place p rows port = record { program = p; tables = p.ingress.tables; rows = rows.tables; port = Some port; rid = None }

-- the state in which ingress begins
abbrev pub start_state : Program → Packet → State
start_state p packet = record { packet = packet; meta = replicate (length p.meta) 0; verdict = 0; egress_port = 0; group = 0 }

-- the program of switch s, with its rows: what ingress asks of it
pub record IsIngress (r : SwitchRole) (fill : Filling) (s : ℕ) (p : Program) (rows : RowsFile) : Type 0 where
  pub layout : program_layout p ≡ map (λ (h : HeaderDecl). widths_of h.fields) r.headers
  pub functions : FunctionsFit r.headers fill.defs r.functions
  pub body : p.ingress.body ≡ block_of (role_lowered r s).code
  pub made : (port : ℕ) → AllMade (ingress_place p rows port) fill (role_lowered r s).made
  pub first : slice_get (field_widths p.meta) 0 ≡ Some 8

-- what a visit gives, without choices
abbrev pub shown : Layout → Visit → List ℕ → Departure
shown layout (on env packet) payload = None
shown layout (leaves to packet) payload = option_map (λ e. (e, leave layout packet payload)) (slice_get to.values 1)
shown layout (copies f env packet) payload = None
shown layout nothing payload = None

abbrev pub RoleFits : SwitchRole → Filling → ℕ → ℕ → Packet → Type 0
RoleFits r fill s port packet = FitsAll (TakesIn r.functions) (GroupTakesIn r.functions) (λ x. Unit {0}) (inner_context r.headers fill.defs r.functions) r.body (role_env r s port) packet
