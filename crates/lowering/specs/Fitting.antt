-- Cited by `switches_depart` and `departs_are_runs`. What a visit asks: of the rows of a switch and of a packet.
use Rattle.std.specs.Prelude.{◌≡◌, ℕ, ◌^◌, ◌<◌, true, List, map}
use Rattle.cocoon_num.specs.Packets.{Layout, Packet}
use Rattle.cocoon_num.specs.Tree.{FunctionDecl, HeaderDecl}
use Rattle.cocoon_num.specs.Values.{number}
use Rattle.cocoon_types.specs.Design.{widths_of}
use Rattle.cocoon_types.specs.Val.{Context, bound}
use Rattle.p4_ir.specs.P4Tree.{RowsFile}
use Rattle.lowering.specs.Agrees.{Filling, FunctionsFit, TakesIn, inner_context}
use Rattle.lowering.specs.Ends.{FitsAll}
use Rattle.lowering.specs.LowerBlock.{in_block}
use Rattle.lowering.specs.Visit.{Visit, on, leaves, copies, nothing, visit_all}
use Rattle.lowering.specs.Whole.{SwitchRole, RoleFits, role_env}
use Rattle.lowering.specs.Serving.{AllServe}
use Rattle.lowering.specs.SwitchProgram.{switch_made}
use Rattle.lowering.specs.Forks.{ForksAre, ForksServe}

-- ---- a role

abbrev pub role_layout : SwitchRole → Layout
role_layout r = map (λ (h : HeaderDecl). widths_of h.fields) r.headers

-- what its body is evaluated in
abbrev pub role_context : SwitchRole → Filling → Context
role_context r fill = inner_context r.headers fill.defs r.functions

-- the visit of its body at a port
abbrev pub role_visit : SwitchRole → Filling → (switch port : ℕ) → Packet → Visit
role_visit r fill s port packet = visit_all (role_context r fill) r.body (role_env r s port) packet

-- ---- its switches

-- the rows of a switch serve its program: its tables, and the groups of its forks
pub record SwitchServes (r : SwitchRole) (fill : Filling) (switch : ℕ) (rows : RowsFile) : Type 0 where
  pub functions : FunctionsFit r.headers fill.defs r.functions
  pub tables : AllServe fill rows (switch_made r switch)
  pub forks : ForksAre r.functions r.body
  pub groups : ForksServe fill rows r.functions r.body

-- ---- its packets

-- where a visit copies, the fork's block fits, whatever is chosen; no fork stands in it
abbrev pub CopiesFit : List FunctionDecl → Context → Visit → Type 0
CopiesFit functions c (on env packet) = Unit {0}
CopiesFit functions c (leaves to packet) = Unit {0}
CopiesFit functions c (copies f env packet) =
    (x : ℕ) → x < 2 ^ f.width
    → FitsAll (TakesIn functions) (λ g ns. ⊥) (λ y. in_block y f.body ≡ true) c f.body
    (bound f.x (number f.width x) env) packet
CopiesFit functions c nothing = Unit {0}

-- along the visit of a packet, and of its copies, each expression has a value of the kind that its place asks for
pub record VisitFits (r : SwitchRole) (fill : Filling) (switch port : ℕ) (packet : Packet) : Type 0 where
  pub body : RoleFits r fill switch port packet
  pub copied : CopiesFit r.functions (role_context r fill) (role_visit r fill switch port packet)
