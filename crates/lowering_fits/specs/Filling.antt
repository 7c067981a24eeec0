-- Cited by the law `programs_fill`. The programs of all switches of a design differ in one literal: a program with a hole in its place stands for
-- them all. No literal of a design has a width of 0, so a literal of that width is the hole.
use Rattle.std.specs.Prelude.{◌≡◌, ◌==◌, ◌++◌, ℕ, true, codes, List, [], ◌∷◌, map, if◌then◌else◌}
use Rattle.std.specs.List.{list_all}
use Rattle.cocoon_num.specs.Tree.{FunctionDecl}
use Rattle.p4_ir.specs.P4Tree.{P4Expr, p_lit, p_truth, p_meta, p_field, p_port, p_rid, p_unary, p_binary, p_slice, p_pick, P4Stmt, set_meta, set_header, apply_table, p_if, p_if_else, verdict, egress_port, group, p_return, P4Block, p_done, p_then, Control, Program}
use Rattle.p4_ir.specs.Program.{block_of}
use Rattle.lowering.specs.Log.{tables_in}
use Rattle.lowering.specs.Lower.{Made, Variable, callees}
use Rattle.lowering.specs.LowerBlock.{LoweredBlock, lower_block}
use Rattle.lowering.specs.LowerSites.{LoweredSites, lower_sites}
use Rattle.lowering.specs.Whole.{SwitchRole}
use Rattle.lowering.specs.SwitchProgram.{fields_in, p4_header}
use Rattle.lowering_fits.specs.WideLiterals.{if_some, wide_block, wide_expr}

-- ---- the hole

-- the number of a switch that is not known yet
abbrev pub hole : P4Expr
hole = p_lit 0 0

abbrev pub expr_filled : (switch : ℕ) → P4Expr → P4Expr
expr_filled s (p_lit w n) = if w == 0 then p_lit 16 s else p_lit w n
expr_filled s (p_truth b) = p_truth b
expr_filled s (p_meta i) = p_meta i
expr_filled s (p_field h f) = p_field h f
expr_filled s p_port = p_port
expr_filled s p_rid = p_rid
expr_filled s (p_unary op a) = p_unary op (expr_filled s a)
expr_filled s (p_binary op a b) = p_binary op (expr_filled s a) (expr_filled s b)
expr_filled s (p_slice a high low) = p_slice (expr_filled s a) high low
expr_filled s (p_pick c a b) = p_pick (expr_filled s c) (expr_filled s a) (expr_filled s b)

abbrev mutual
  pub stmt_filled : (switch : ℕ) → P4Stmt → P4Stmt
  stmt_filled s (set_meta i e) = set_meta i (expr_filled s e)
  stmt_filled s (set_header h f e) = set_header h f (expr_filled s e)
  stmt_filled s (apply_table n) = apply_table n
  stmt_filled s (p_if e first) = p_if (expr_filled s e) (block_filled s first)
  stmt_filled s (p_if_else e first second) = p_if_else (expr_filled s e) (block_filled s first) (block_filled s second)
  stmt_filled s (verdict n) = verdict n
  stmt_filled s (egress_port e) = egress_port (expr_filled s e)
  stmt_filled s (group e) = group (expr_filled s e)
  stmt_filled s p_return = p_return

  pub block_filled : (switch : ℕ) → P4Block → P4Block
  block_filled s p_done = p_done
  block_filled s (p_then first rest) = p_then (stmt_filled s first) (block_filled s rest)

abbrev pub control_filled : (switch : ℕ) → Control → Control
control_filled s c = record { tables = c.tables; body = block_filled s c.body }

-- the program with this number in the place of each hole
abbrev pub filled : (switch : ℕ) → Program → Program
filled s p = record { headers = p.headers; meta = p.meta; ingress = control_filled s p.ingress; egress = control_filled s p.egress }

-- ---- the program of every switch

abbrev pub open_vars : SwitchRole → List Variable
open_vars r = record { name = r.switch; expr = hole } ∷ record { name = r.port; expr = p_port } ∷ []

abbrev pub open_lowered : SwitchRole → LoweredBlock
open_lowered r = lower_block (callees r.headers r.functions r.port) (open_vars r) (record { app = 0; var = 0; field = 1; site = 1 }) r.body

abbrev pub open_egress : SwitchRole → LoweredSites
open_egress r = lower_sites (callees r.headers r.functions r.port) (open_lowered r).next (open_lowered r).sites

-- what the program of each switch has beside its code
abbrev pub open_made : SwitchRole → List Made
open_made r = (open_lowered r).made ++ (open_egress r).made

-- the program of a switch whose number is not known yet
abbrev pub open_program : SwitchRole → Program
open_program r = record {
  headers = map p4_header r.headers;
  meta = record { name = codes "site"; width = 8 } ∷ fields_in (open_made r);
  ingress = record { tables = tables_in (open_lowered r).made; body = block_of (open_lowered r).code };
  egress = record { tables = tables_in (open_egress r).made; body = block_of (open_egress r).code };
}

-- ---- roles of designs

-- the literals of the role and of its functions have 1 to 128 bits, as those of each design that was read
pub record HasWideLiterals (r : SwitchRole) : Type 0 where
  pub functions : list_all (λ (f : FunctionDecl). if_some wide_expr f.body) r.functions ≡ true
  pub body : wide_block r.body ≡ true
