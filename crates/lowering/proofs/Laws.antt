-- The laws of bodies that visits of switches stand on.
use Rattle.std.specs.Prelude.{◌≡◌, ℕ, ◌^◌, ◌<◌, ◌≤◌, List, ◌∷◌, slice_get, map, Option, Some}
use Rattle.cocoon_num.specs.Packets.{Packet}
use Rattle.cocoon_num.specs.Tree.{Block, FunctionDecl, HeaderDecl}
use Rattle.cocoon_num.specs.Values.{number}
use Rattle.cocoon_types.specs.Design.{widths_of}
use Rattle.cocoon_types.specs.Val.{Env, bound}
use Rattle.p4_ir.specs.P4Tree.{P4Stmt, Program, RowsFile, field_widths, program_layout}
use Rattle.p4_ir.specs.Program.{block_of}
use Rattle.p4_ir.specs.Switch.{Outcome, Running, State, p4_run_all}
use Rattle.lowering.specs.Agrees.{AllMade, Filling, FunctionsFit, TakesIn, inner_context, run_list}
use Rattle.lowering.specs.Ends.{Copies, Ends, FitsAll, Numbered, Sent, begun}
use Rattle.lowering.specs.Log.{FieldsAt, NumberedTo, Placed, widths_in}
use Rattle.lowering.specs.Lower.{Callees, Counts, Made, Variable, callees}
use Rattle.lowering.specs.LowerBlock.{Site, lower_block}
use Rattle.lowering.specs.LowerSites.{AllSettled, InSite, PortOnly, lower_sites}
use Rattle.lowering.specs.Visit.{Forked, visit_all}
use Rattle.lowering.specs.Whole.{IsIngress, RoleFits, SwitchRole, ingress_place, role_env, role_lowered, start_state}

pub record Laws : Type 0 where
  pub placed : (headers : List HeaderDecl) (fs : List FunctionDecl) (port : List ℕ) (b : Block) (vars : List Variable) (n : Counts)
      → Placed n.field n.app (lower_block (callees headers fs port) vars n b).made (lower_block (callees headers fs port) vars n b).next.field (lower_block (callees headers fs port) vars n b).next.app
  pub forks : (headers : List HeaderDecl) (fs : List FunctionDecl) (port : List ℕ) (b : Block) (vars : List Variable) (n : Counts)
      → NumberedTo n.site (lower_block (callees headers fs port) vars n b).sites (lower_block (callees headers fs port) vars n b).next.site
  pub copies : (headers : List HeaderDecl) (fs : List FunctionDecl) (port : List ℕ) (sites : List Site) (n : Counts)
      → Placed n.field n.app (lower_sites (callees headers fs port) n sites).made (lower_sites (callees headers fs port) n sites).next.field (lower_sites (callees headers fs port) n sites).next.app
  pub fields : (a j b : ℕ) (ms : List Made) → Placed 1 a ms j b → FieldsAt (8 ∷ widths_in ms) ms
  pub settles : (c : Callees) (b : Block) (vars : List Variable) (n : Counts) → PortOnly c.port vars → AllSettled (lower_block c vars n b).sites
  pub lists : (at : Running) (xs : List P4Stmt) (s : State) → p4_run_all at (block_of xs) s ≡ run_list at xs s
  pub ingress : (r : SwitchRole) (fill : Filling) (s : ℕ) (p : Program) (rows : RowsFile) → IsIngress r fill s p rows → (port : ℕ) (packet : Packet) → RoleFits r fill s port packet
      → Ends fill (inner_context r.headers fill.defs r.functions) (λ x. Unit {0}) (ingress_place p rows port) 1 (role_lowered r s).next.field (role_lowered r s).vars (role_lowered r s).sites (start_state p packet)
      (visit_all (inner_context r.headers fill.defs r.functions) r.body (role_env r s port) packet) (p4_run_all (ingress_place p rows port) p.ingress.body (start_state p packet))
  pub copy : (at out : Running) (fill : Filling) (headers : List HeaderDecl) (fs : List FunctionDecl) (port : List ℕ) → out.program ≡ at.program
      → program_layout out.program ≡ map (λ (h : HeaderDecl). widths_of h.fields) headers → FunctionsFit headers fill.defs fs
      → (n : Counts) (sites : List Site) (f : Forked) (env : Env) (packet : Packet) (r : Option Outcome) (e : Copies fill (inner_context headers fill.defs fs) (λ x. Unit {0}) at n.field sites f env packet r)
      → 0 < n.field → (k : ℕ) → Numbered k sites → AllSettled sites → (rid : ℕ) → out.rid ≡ Some rid → 1 ≤ f.width → f.width ≤ 64 → rid < 2 ^ f.width
      → FitsAll (TakesIn fs) (λ g ns. ⊥) (InSite e.site) (inner_context headers fill.defs fs) f.body (bound f.x (number f.width rid) env) packet
      → AllMade out fill (lower_sites (callees headers fs port) n sites).made → slice_get (field_widths out.program.meta) 0 ≡ Some 8
      → Sent (visit_all (inner_context headers fill.defs fs) f.body (bound f.x (number f.width rid) env) packet) (run_list out (lower_sites (callees headers fs port) n sites).code (begun e.after))
