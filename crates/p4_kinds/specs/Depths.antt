-- Cited by private clauses: how many brackets are open, and how many operators have come since the last `;`, `{` or `}`,
-- after parts of a text. There is none after a token that is deep. The bounds are those of p4_bounds of p4_ir.
use Rattle.std.specs.Prelude.{suc, ◌-◌, Bool, nat_lt, if◌then◌else◌, Option, Some, None, is_some}
use Rattle.cocoon_num.specs.Values.{BinaryOp}
use Rattle.p4_ir.specs.P4Tree.{P4Expr, p_lit, p_truth, p_meta, p_field, p_port, p_rid, p_unary, p_binary, p_slice, p_pick, P4Stmt, set_meta, set_header, apply_table, p_if, p_if_else, verdict, egress_port, group, p_return, P4Block, p_done, p_then}
use Rattle.p4_ir.specs.P4Kinds.{is_implies}
use Rattle.p4_kinds.specs.declared.depth.Depth.{Depth}

-- ( or [
abbrev pub opened : Option Depth → Option Depth
opened None = None
opened (Some d) =
    if nat_lt d.brackets 512 then Some (record { brackets = suc d.brackets; operators = d.operators }) else None

-- ) or ]
abbrev pub closed : Option Depth → Option Depth
closed None = None
closed (Some d) = Some (record { brackets = d.brackets - 1; operators = d.operators })

-- an operator
abbrev pub operated : Option Depth → Option Depth
operated None = None
operated (Some d) =
    if nat_lt d.operators 1024 then Some (record { brackets = d.brackets; operators = suc d.operators }) else None

-- ; and, beside the bracket that it is, { or }
abbrev pub ended : Option Depth → Option Depth
ended None = None
ended (Some d) = Some (record { brackets = d.brackets; operators = 0 })

-- `implies` has no mark
abbrev pub by_operator : BinaryOp → Option Depth → Option Depth
by_operator op d = if is_implies op then d else operated d

abbrev pub after_expr : P4Expr → Option Depth → Option Depth
after_expr (p_lit w n) d = d
after_expr (p_truth b) d = d
after_expr (p_meta i) d = d
after_expr (p_field h f) d = d
after_expr p_port d = d
after_expr p_rid d = d
after_expr (p_unary op a) d = closed (after_expr a (operated (opened d)))
after_expr (p_binary op a b) d = closed (after_expr b (by_operator op (after_expr a (opened d))))
after_expr (p_slice a high low) d = closed (operated (operated (opened (after_expr a d))))
after_expr (p_pick c a b) d = closed (after_expr b (operated (after_expr a (operated (after_expr c (opened d))))))

-- ( E )
abbrev pub after_condition : P4Expr → Option Depth → Option Depth
after_condition e d = closed (after_expr e (opened d))

abbrev mutual
  pub after_stmt : P4Stmt → Option Depth → Option Depth
  after_stmt (set_meta i e) d = ended (after_expr e d)
  after_stmt (set_header h f e) d = ended (after_expr e d)
  after_stmt (apply_table n) d = ended (closed (opened d))
  after_stmt (p_if e first) d = ended (closed (after_block first (ended (opened (after_condition e d)))))
  after_stmt (p_if_else e first second) d =
      ended (closed (after_block second (ended (opened
      (ended (closed (after_block first (ended (opened (after_condition e d))))))))))
  after_stmt (verdict n) d = ended d
  after_stmt (egress_port e) d = ended (after_expr e d)
  after_stmt (group e) d = ended (after_expr e d)
  after_stmt p_return d = ended d

  pub after_block : P4Block → Option Depth → Option Depth
  after_block p_done d = d
  after_block (p_then first rest) d = after_block rest (after_stmt first d)

-- { STATEMENTS }
abbrev pub after_braces : P4Block → Option Depth → Option Depth
after_braces b d = ended (closed (after_block b (ended (opened d))))

-- a body stands in the braces of its control and of its `apply`
abbrev pub is_shallow_body : P4Block → Bool
is_shallow_body b = is_some (after_block b (Some (record { brackets = 2; operators = 0 })))
