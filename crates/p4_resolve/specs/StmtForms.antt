-- Cited by private clauses: what is known of statements that keep their rules.
use Rattle.std.specs.Prelude.{◌≡◌, ℕ, ◌+◌, ◌&&◌, Bool, true, [], ◌∷◌, Option, Some}
use Rattle.cocoon_num.specs.Sorts.{Sort, are_same, truth_sort}
use Rattle.p4_ir.specs.P4Kinds.{Within, p4_sort}
use Rattle.p4_ir.specs.P4Tree.{P4Block, P4Expr, P4Stmt}
use Rattle.p4_texts.specs.KindFaults.{Piece, block_pieces, stmt_pieces}
use Rattle.p4_texts.specs.Meant.{block_meant, expr_meant, stmt_meant}
use Rattle.p4_texts.specs.Written.{BlockText, ExprText, ProgramText, StmtText, condition_then}
use Rattle.p4_resolve.specs.Judged.{Passes, index}
use Rattle.p4_resolve.specs.Typed.{expr_count}

-- an expression has the type that is wanted, where it may stand
abbrev pub value_fits : Within → (wanted : Option Sort) → (allowed : Bool) → P4Expr → Bool
value_fits c wanted allowed e = are_same wanted (p4_sort c e) && allowed

pub record ValueKeeps (t : ProgramText) (c : Within) (wanted : Option Sort) (allowed : Bool) (e : ExprText) (begin : ℕ) (made : P4Expr) (end : ℕ) : Type 0 where
  pub fits : value_fits c wanted allowed (expr_meant t e) ≡ true
  pub is : made ≡ expr_meant t e
  pub ends : end ≡ index (begin + expr_count e)

pub record StmtKeeps (t : ProgramText) (c : Within) (s : StmtText) (at : ℕ) (made : P4Stmt) (end : ℕ) : Type 0 where
  pub is : made ≡ stmt_meant t s
  pub passes : Passes at (stmt_pieces t c s) end

pub record BlockKeeps (t : ProgramText) (c : Within) (b : BlockText) (at : ℕ) (made : P4Block) (end : ℕ) : Type 0 where
  pub is : made ≡ block_meant t b
  pub passes : Passes at (block_pieces t c b) end

-- `if (E) {`; a block that has to be filled is
abbrev pub condition_piece : ProgramText → Within → ExprText → (is_filled : Bool) → Piece
condition_piece t c e is_filled = record { tokens = condition_then e []; keeps = value_fits c (Some truth_sort) is_filled (expr_meant t e) }

pub record ConditionKeeps (t : ProgramText) (c : Within) (e : ExprText) (is_filled : Bool) (at : ℕ) (made : P4Expr) (end : ℕ) : Type 0 where
  pub is : made ≡ expr_meant t e
  pub passes : Passes at (condition_piece t c e is_filled ∷ []) end
