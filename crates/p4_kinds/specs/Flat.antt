-- Programs with few operators in each expression and few blocks within one another. The law of `laws` cites it, and so do the
-- laws of lowering.
use Rattle.std.specs.Prelude.{ℕ, zero, suc, ◌+◌, ◌≤◌}
use Rattle.p4_ir.specs.P4Tree.{P4Expr, p_lit, p_truth, p_meta, p_field, p_port, p_rid, p_unary, p_binary, p_slice, p_pick, P4Stmt, set_meta, set_header, apply_table, p_if, p_if_else, verdict, egress_port, group, p_return, P4Block, p_done, p_then}

-- the operators of an expression, as its text has them: a slice has `[` and `:`, a choice `?` and `:`
abbrev pub operators_in : P4Expr → ℕ
operators_in (p_lit w n) = 0
operators_in (p_truth b) = 0
operators_in (p_meta i) = 0
operators_in (p_field h f) = 0
operators_in p_port = 0
operators_in p_rid = 0
operators_in (p_unary op a) = suc (operators_in a)
operators_in (p_binary op a b) = suc (operators_in a + operators_in b)
operators_in (p_slice a high low) = suc (suc (operators_in a))
operators_in (p_pick c a b) = suc (suc (operators_in c + operators_in a + operators_in b))

abbrev pub FewOperators : P4Expr → Type 0
FewOperators e = operators_in e ≤ 400

abbrev mutual
  -- its expressions have few operators, and at most n of its blocks stand within one another
  pub Flat : (n : ℕ) → P4Stmt → Type 0
  Flat n (set_meta i e) = FewOperators e
  Flat n (set_header h f e) = FewOperators e
  Flat n (apply_table t) = Unit {0}
  Flat zero (p_if e a) = ⊥
  Flat (suc n) (p_if e a) = FewOperators e × FlatBlock n a
  Flat zero (p_if_else e a b) = ⊥
  Flat (suc n) (p_if_else e a b) = FewOperators e × FlatBlock n a × FlatBlock n b
  Flat n (verdict v) = Unit {0}
  Flat n (egress_port e) = FewOperators e
  Flat n (group e) = FewOperators e
  Flat n p_return = Unit {0}

  pub FlatBlock : (n : ℕ) → P4Block → Type 0
  FlatBlock n p_done = Unit {0}
  FlatBlock n (p_then s rest) = Flat n s × FlatBlock n rest
