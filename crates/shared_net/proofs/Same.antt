-- A part beside itself is itself, whatever the number.
use Rattle.std.proofs.Common.{◌≡◌, ℕ, Bool, true, refl, ap, ap₂, ◌∙◌}
use Rattle.std.specs.Prelude.{◌==◌, if◌then◌else◌}
use Rattle.std.proofs.lemmas.Bool.{eq-eqb}
use Rattle.p4_ir.specs.P4Tree.{P4Expr, p_lit, p_truth, p_meta, p_field, p_port, p_rid, p_unary, p_binary, p_slice, p_pick, P4Stmt, set_meta, set_header, apply_table, p_if, p_if_else, verdict, egress_port, group, p_return, P4Block, p_done, p_then, Control, Program}
use Rattle.shared_net.specs.Merging.{block_merged, control_merged, expr_merged, merged, stmt_merged}

pub all_same : {A B C D : Type 0} (f : A → B → C → D) {a x : A} {b y : B} {c z : C} → a ≡ x → b ≡ y → c ≡ z → f a b c ≡ f x y z
all_same f {a} {x} {b} {y} {c} {z} p q r = ap (λ k. f k b c) p ∙ ap₂ (f x) q r

pub same_expr : (s : ℕ) (e : P4Expr) → expr_merged s e e ≡ e
same_expr s (p_lit w n) = ap (λ (b : Bool). if b then p_lit w n else p_lit 16 s) (eq-eqb n n refl)
same_expr s (p_truth b) = refl
same_expr s (p_meta i) = refl
same_expr s (p_field h f) = refl
same_expr s p_port = refl
same_expr s p_rid = refl
same_expr s (p_unary op a) = ap (p_unary op) (same_expr s a)
same_expr s (p_binary op a b) = ap₂ (p_binary op) (same_expr s a) (same_expr s b)
same_expr s (p_slice a high low) = ap (λ e. p_slice e high low) (same_expr s a)
same_expr s (p_pick c a b) = all_same p_pick (same_expr s c) (same_expr s a) (same_expr s b)

mutual
  pub same_stmt : (s : ℕ) (a : P4Stmt) → stmt_merged s a a ≡ a
  same_stmt s (set_meta i e) = ap (set_meta i) (same_expr s e)
  same_stmt s (set_header h f e) = ap (set_header h f) (same_expr s e)
  same_stmt s (apply_table n) = refl
  same_stmt s (p_if e a) = ap₂ p_if (same_expr s e) (same_block s a)
  same_stmt s (p_if_else e a b) = all_same p_if_else (same_expr s e) (same_block s a) (same_block s b)
  same_stmt s (verdict n) = refl
  same_stmt s (egress_port e) = ap egress_port (same_expr s e)
  same_stmt s (group e) = ap group (same_expr s e)
  same_stmt s p_return = refl

  pub same_block : (s : ℕ) (b : P4Block) → block_merged s b b ≡ b
  same_block s p_done = refl
  same_block s (p_then a rest) = ap₂ p_then (same_stmt s a) (same_block s rest)

pub same_program : (s : ℕ) (p : Program) → merged s p p ≡ p
same_program s p =
    ap₂ (λ i e. record { headers = p.headers; meta = p.meta; ingress = record { tables = p.ingress.tables; body = i }; egress = record { tables = p.egress.tables; body = e } })
    (same_block s p.ingress.body) (same_block s p.egress.body)
