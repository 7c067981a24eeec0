-- How large expressions are: the measure by which resolving ends.
use Rattle.std.proofs.Common.{ℕ, suc, ◌+◌}
use Rattle.p4_ir.specs.P4Tree.{P4Expr, p_unary, p_binary, p_slice, p_pick}

abbrev pub expr_size : P4Expr → ℕ
expr_size (p_unary op a) = suc (expr_size a)
expr_size (p_binary op a b) = suc (expr_size a + expr_size b)
expr_size (p_slice a high low) = suc (expr_size a)
expr_size (p_pick c a b) = suc (expr_size c + expr_size a + expr_size b)
expr_size _ = 0
