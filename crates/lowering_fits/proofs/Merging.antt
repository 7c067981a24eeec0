-- Two fillings of one program differ in its holes alone.
use Rattle.std.proofs.Common.{◌≡◌, ℕ, ◌==◌, Bool, true, false, if◌then◌else◌, refl, sym, ap, ap₂, ◌∙◌, arith}
use Rattle.std.proofs.lemmas.Bool.Decides.{nat_tests}
use Rattle.p4_ir.specs.P4Tree.{P4Expr, p_lit, p_truth, p_meta, p_field, p_port, p_rid, p_unary, p_binary, p_slice, p_pick, P4Stmt, set_meta, set_header, apply_table, p_if, p_if_else, verdict, egress_port, group, p_return, P4Block, p_done, p_then, Program}
use Rattle.lowering.specs.Whole.{SwitchRole}
use Rattle.shared_net.specs.Merging.{block_merged, expr_merged, merged, stmt_merged}
use Rattle.lowering_fits.specs.Filling.{HasWideLiterals, block_filled, expr_filled, filled, open_program, stmt_filled}
use Rattle.lowering_fits.specs.Sharing.{HasOneProgram}
use Rattle.lowering_fits.proofs.Filled.{made_alike, program_filled}

same_number : (n : ℕ) → (n == n) ≡ true
same_number n = grind (arith, nat_tests)

lit_merges : (s a b w n : ℕ) → (a == b) ≡ false → (hole : Bool)
    → expr_merged s (if hole then p_lit 16 a else p_lit w n) (if hole then p_lit 16 b else p_lit w n) ≡ (if hole then p_lit 16 s else p_lit w n)
lit_merges s a b w n h true = ap (λ (t : Bool). if t then p_lit 16 a else p_lit 16 s) h
lit_merges s a b w n h false = ap (λ (t : Bool). if t then p_lit w n else p_lit 16 s) (same_number n)

expr_merges : (s a b : ℕ) → (a == b) ≡ false → (e : P4Expr) → expr_merged s (expr_filled a e) (expr_filled b e) ≡ expr_filled s e
expr_merges s a b h (p_lit w n) = lit_merges s a b w n h (w == 0)
expr_merges s a b h (p_truth t) = refl
expr_merges s a b h (p_meta i) = refl
expr_merges s a b h (p_field k f) = refl
expr_merges s a b h p_port = refl
expr_merges s a b h p_rid = refl
expr_merges s a b h (p_unary op x) = ap (p_unary op) (expr_merges s a b h x)
expr_merges s a b h (p_binary op x y) = ap₂ (p_binary op) (expr_merges s a b h x) (expr_merges s a b h y)
expr_merges s a b h (p_slice x high low) = ap (λ z. p_slice z high low) (expr_merges s a b h x)
expr_merges s a b h (p_pick c x y) = λ i. p_pick (expr_merges s a b h c i) (expr_merges s a b h x i) (expr_merges s a b h y i)

mutual
  stmt_merges : (s a b : ℕ) → (a == b) ≡ false → (x : P4Stmt) → stmt_merged s (stmt_filled a x) (stmt_filled b x) ≡ stmt_filled s x
  stmt_merges s a b h (set_meta i e) = ap (set_meta i) (expr_merges s a b h e)
  stmt_merges s a b h (set_header k f e) = ap (set_header k f) (expr_merges s a b h e)
  stmt_merges s a b h (apply_table n) = refl
  stmt_merges s a b h (p_if e first) = ap₂ p_if (expr_merges s a b h e) (block_merges s a b h first)
  stmt_merges s a b h (p_if_else e first second) = λ i. p_if_else (expr_merges s a b h e i) (block_merges s a b h first i) (block_merges s a b h second i)
  stmt_merges s a b h (verdict n) = refl
  stmt_merges s a b h (egress_port e) = ap egress_port (expr_merges s a b h e)
  stmt_merges s a b h (group e) = ap group (expr_merges s a b h e)
  stmt_merges s a b h p_return = refl

  block_merges : (s a b : ℕ) → (a == b) ≡ false → (c : P4Block) → block_merged s (block_filled a c) (block_filled b c) ≡ block_filled s c
  block_merges s a b h p_done = refl
  block_merges s a b h (p_then first rest) = ap₂ p_then (stmt_merges s a b h first) (block_merges s a b h rest)

program_merges : (s a b : ℕ) → (a == b) ≡ false → (p : Program) → merged s (filled a p) (filled b p) ≡ filled s p
program_merges s a b h p = λ i. record {
  headers = p.headers;
  meta = p.meta;
  ingress = record { tables = p.ingress.tables; body = block_merges s a b h p.ingress.body i };
  egress = record { tables = p.egress.tables; body = block_merges s a b h p.egress.body i };
}

pub one_program : (r : SwitchRole) → HasWideLiterals r → HasOneProgram r
one_program r w = record {
  program = λ s. ap₂ (merged s) (sym (program_filled r w 0)) (sym (program_filled r w 1)) ∙ program_merges s 0 1 refl (open_program r) ∙ program_filled r w s;
  made = λ s. made_alike r w s ∙ sym (made_alike r w 0);
}
