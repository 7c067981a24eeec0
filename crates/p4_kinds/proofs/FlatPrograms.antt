-- Flat programs are shallow.
use Rattle.std.specs.Prelude.{◌≡◌, ℕ, zero, suc, ◌+◌, ◌-◌, ◌≤◌, ◌<◌, ◌&&◌, Bool, true, false, Option, Some, None, is_some, if◌then◌else◌, refl}
use Rattle.std.proofs.Common.{◌∙◌, ap, ap₂, arith}
use Rattle.std.proofs.lemmas.Bool.{lt-ltb}
use Rattle.cocoon_num.specs.Values.{BinaryOp}
use Rattle.cocoon_num.specs.Tokens.{is_shallow}
use Rattle.p4_ir.specs.P4Tree.{P4Expr, p_lit, p_truth, p_meta, p_field, p_port, p_rid, p_unary, p_binary, p_slice, p_pick, P4Stmt, set_meta, set_header, apply_table, p_if, p_if_else, verdict, egress_port, group, p_return, P4Block, p_done, p_then, Program}
use Rattle.p4_ir.specs.P4Kinds.{is_implies}
use Rattle.p4_ir.specs.P4Text.{p4_bounds, program_tokens}
use Rattle.p4_kinds.specs.declared.depth.Depth.{Depth}
use Rattle.p4_kinds.specs.Depths.{opened, closed, operated, ended, by_operator, after_expr, after_condition, after_stmt, after_block, is_shallow_body}
use Rattle.p4_kinds.specs.Flat.{operators_in, FewOperators, Flat, FlatBlock}
use Rattle.p4_kinds.proofs.Deep.{program_shallow}

-- ---- counts

abbrev at : ℕ → ℕ → Option Depth
at b o = Some (record { brackets = b; operators = o })

opens : (b o : ℕ) → b < 512 → opened (at b o) ≡ at (suc b) o
opens b o h = ap (λ t. if t then at (suc b) o else None) (lt-ltb b 512 h)

operates : (b o : ℕ) → o < 1024 → operated (at b o) ≡ at b (suc o)
operates b o h = ap (λ t. if t then at b (suc o) else None) (lt-ltb o 1024 h)

one_less : (b : ℕ) → suc b - 1 ≡ b
one_less b = omega arith

closes : (b o : ℕ) → closed (at (suc b) o) ≡ at b o
closes b o = ap (λ x. at x o) (one_less b)

-- at most w operators more, and as many brackets
record Adds (b o w : ℕ) (r : Option Depth) : Type 0 where
  more : ℕ
  is : r ≡ at b more
  most : more ≤ o + w

by_some : (op : BinaryOp) (b o : ℕ) → o < 1024 → Adds b o 1 (by_operator op (at b o))
by_some op b o h = chosen (is_implies op)
  where
    chosen : (t : Bool) → Adds b o 1 (if t then at b o else operated (at b o))
    chosen true = record { more = o; is = refl; most = omega arith }
    chosen false = record { more = suc o; is = operates b o h; most = omega arith }

expr_adds : (e : P4Expr) (b o : ℕ) → b + operators_in e ≤ 512 → o + operators_in e ≤ 1024 → Adds b o (operators_in e) (after_expr e (at b o))
expr_adds (p_lit w n) b o h k = record { more = o; is = refl; most = omega arith }
expr_adds (p_truth t) b o h k = record { more = o; is = refl; most = omega arith }
expr_adds (p_meta i) b o h k = record { more = o; is = refl; most = omega arith }
expr_adds (p_field x f) b o h k = record { more = o; is = refl; most = omega arith }
expr_adds p_port b o h k = record { more = o; is = refl; most = omega arith }
expr_adds p_rid b o h k = record { more = o; is = refl; most = omega arith }
expr_adds (p_unary op a) b o h k =
    let x = expr_adds a (suc b) (suc o) (omega (arith, h)) (omega (arith, k)) in
    record {
      more = x.more;
      is = ap (λ d. closed (after_expr a (operated d))) (opens b o (omega (arith, h)))
          ∙ ap (λ d. closed (after_expr a d)) (operates (suc b) o (omega (arith, k))) ∙ ap closed x.is ∙ closes b x.more;
      most = omega (arith, x.most);
    }
expr_adds (p_binary op a c) b o h k =
    let x = expr_adds a (suc b) o (omega (arith, h)) (omega (arith, k)) in
    let y = by_some op (suc b) x.more (omega (arith, k, x.most)) in
    let z = expr_adds c (suc b) y.more (omega (arith, h)) (omega (arith, k, x.most, y.most)) in
    record {
      more = z.more;
      is = ap (λ d. closed (after_expr c (by_operator op (after_expr a d)))) (opens b o (omega (arith, h)))
          ∙ ap (λ d. closed (after_expr c (by_operator op d))) x.is ∙ ap (λ d. closed (after_expr c d)) y.is ∙ ap closed z.is ∙ closes b z.more;
      most = omega (arith, x.most, y.most, z.most);
    }
expr_adds (p_slice a high low) b o h k =
    let x = expr_adds a b o (omega (arith, h)) (omega (arith, k)) in
    record {
      more = suc (suc x.more);
      is = ap (λ d. closed (operated (operated (opened d)))) x.is ∙ ap (λ d. closed (operated (operated d))) (opens b x.more (omega (arith, h)))
          ∙ ap (λ d. closed (operated d)) (operates (suc b) x.more (omega (arith, k, x.most)))
          ∙ ap closed (operates (suc b) (suc x.more) (omega (arith, k, x.most))) ∙ closes b (suc (suc x.more));
      most = omega (arith, x.most);
    }
expr_adds (p_pick c a e) b o h k =
    let x = expr_adds c (suc b) o (omega (arith, h)) (omega (arith, k)) in
    let y = expr_adds a (suc b) (suc x.more) (omega (arith, h)) (omega (arith, k, x.most)) in
    let z = expr_adds e (suc b) (suc y.more) (omega (arith, h)) (omega (arith, k, x.most, y.most)) in
    record {
      more = z.more;
      is = ap (λ d. closed (after_expr e (operated (after_expr a (operated (after_expr c d)))))) (opens b o (omega (arith, h)))
          ∙ ap (λ d. closed (after_expr e (operated (after_expr a (operated d))))) x.is
          ∙ ap (λ d. closed (after_expr e (operated (after_expr a d)))) (operates (suc b) x.more (omega (arith, k, x.most)))
          ∙ ap (λ d. closed (after_expr e (operated d))) y.is
          ∙ ap (λ d. closed (after_expr e d)) (operates (suc b) y.more (omega (arith, k, x.most, y.most)))
          ∙ ap closed z.is ∙ closes b z.more;
      most = omega (arith, x.most, y.most, z.most);
    }

-- ---- statements

set_ends : (e : P4Expr) (n b : ℕ) → FewOperators e → b + n + 401 ≤ 512 → ended (after_expr e (at b 0)) ≡ at b 0
set_ends e n b l h = ap ended (expr_adds e b 0 (omega (arith, l, h)) (omega (arith, l))).is

-- up to the brace after a condition
condition_opens : (e : P4Expr) (n b : ℕ) → FewOperators e → b + suc n + 401 ≤ 512 → ended (opened (after_condition e (at b 0))) ≡ at (suc b) 0
condition_opens e n b l h =
    let x = expr_adds e (suc b) 0 (omega (arith, l, h)) (omega (arith, l)) in
    ap (λ d. ended (opened (closed (after_expr e d)))) (opens b 0 (omega (arith, h)))
    ∙ ap (λ d. ended (opened (closed d))) x.is ∙ ap (λ d. ended (opened d)) (closes b x.more) ∙ ap ended (opens b x.more (omega (arith, h)))

brace_closes : (b : ℕ) → ended (closed (at (suc b) 0)) ≡ at b 0
brace_closes b = ap ended (closes b 0)

mutual
  stmt_ends : (s : P4Stmt) (n b : ℕ) → Flat n s → b + n + 401 ≤ 512 → after_stmt s (at b 0) ≡ at b 0
  stmt_ends (set_meta i e) n b f h = set_ends e n b f h
  stmt_ends (set_header x i e) n b f h = set_ends e n b f h
  stmt_ends (apply_table t) n b f h = ap (λ d. ended (closed d)) (opens b 0 (omega (arith, h))) ∙ brace_closes b
  stmt_ends (p_if e a) zero b f h = absurd f
  stmt_ends (p_if e a) (suc n) b f h =
      ap (λ d. ended (closed (after_block a d))) (condition_opens e n b f.0 h)
      ∙ ap (λ d. ended (closed d)) (block_ends a n (suc b) f.1 (omega (arith, h))) ∙ brace_closes b
  stmt_ends (p_if_else e a c) zero b f h = absurd f
  stmt_ends (p_if_else e a c) (suc n) b f h =
      ap (λ d. ended (closed (after_block c (ended (opened (ended (closed (after_block a d)))))))) (condition_opens e n b f.0 h)
      ∙ ap (λ d. ended (closed (after_block c (ended (opened (ended (closed d))))))) (block_ends a n (suc b) f.1 (omega (arith, h)))
      ∙ ap (λ d. ended (closed (after_block c (ended (opened d))))) (brace_closes b)
      ∙ ap (λ d. ended (closed (after_block c (ended d)))) (opens b 0 (omega (arith, h)))
      ∙ ap (λ d. ended (closed d)) (block_ends c n (suc b) f.2 (omega (arith, h))) ∙ brace_closes b
  stmt_ends (verdict v) n b f h = refl
  stmt_ends (egress_port e) n b f h = set_ends e n b f h
  stmt_ends (group e) n b f h = set_ends e n b f h
  stmt_ends p_return n b f h = refl

  block_ends : (s : P4Block) (n b : ℕ) → FlatBlock n s → b + n + 401 ≤ 512 → after_block s (at b 0) ≡ at b 0
  block_ends p_done n b f h = refl
  block_ends (p_then s rest) n b f h = ap (after_block rest) (stmt_ends s n b f.0 h) ∙ block_ends rest n b f.1 h

flat_is_shallow : (n : ℕ) (s : P4Block) → n ≤ 100 → FlatBlock n s → is_shallow_body s ≡ true
flat_is_shallow n s l f = ap is_some (block_ends s n 2 f (omega (arith, l)))

pub flat_programs_are_shallow : (p : Program) (n : ℕ) → n ≤ 100 → FlatBlock n p.ingress.body → FlatBlock n p.egress.body → is_shallow p4_bounds (program_tokens p) ≡ true
flat_programs_are_shallow p n l f g =
    program_shallow p ∙ ap₂ (λ a b. a && b) (flat_is_shallow n p.ingress.body l f) (flat_is_shallow n p.egress.body l g)
