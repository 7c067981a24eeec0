-- Cited by private clauses: an expression with its type, and how many tokens an expression has.
use Rattle.std.specs.Prelude.{◌≡◌, ℕ, ◌+◌, Option, Some, None}
use Rattle.p4_ir.specs.P4Kinds.{Within, p4_sort}
use Rattle.p4_ir.specs.P4Tree.{P4Expr}
use Rattle.p4_ir.specs.Program.{expr_of}
use Rattle.p4_kinds.specs.Typed.{sort_value}
use Rattle.p4_texts.specs.Written.{ExprText, w_lit, w_truth, w_meta, w_field, w_port, w_rid, w_unary, w_binary, w_slice, w_pick}
use Rattle.p4_resolve.specs.declared.exprs.Typed.{Typed}

-- the expression with its type, where it has one
abbrev pub Means : Within → P4Expr → Option Typed → Type 0
Means c e None = p4_sort c e ≡ None
Means c e (Some x) = (expr_of x.expr ≡ e) × (p4_sort c e ≡ Some (sort_value x.sort))

abbrev pub expr_count : ExprText → ℕ
expr_count (w_lit w n) = 1
expr_count (w_truth b) = 1
expr_count (w_meta x) = 3
expr_count (w_field h f) = 5
expr_count w_port = 1
expr_count w_rid = 1
expr_count (w_unary op a) = expr_count a + 3
expr_count (w_binary op a b) = expr_count a + expr_count b + 3
expr_count (w_slice a high low) = expr_count a + 5
expr_count (w_pick c a b) = expr_count c + expr_count a + expr_count b + 4
