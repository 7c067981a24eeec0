-- The text of the program of a switch, by those of two switches: names are those of the first.
use Rattle.std.proofs.Common.{◌≡◌, ℕ, ◌+◌, ◌<◌, ◌≤◌, List, [], ◌∷◌, ◌++◌, true, false, length, map, drop, get_or, Option, refl, ap, ap₂, sym, subst, ◌∙◌, append_assoc}
use Rattle.std.specs.Prelude.{codes}
use Rattle.std.proofs.lemmas.List.{at_drop_more, at_drop_all}
use Rattle.p4_ir.specs.P4Tree.{P4Expr, p_lit, p_truth, p_meta, p_field, p_port, p_rid, p_unary, p_binary, p_slice, p_pick, P4Stmt, set_meta, set_header, apply_table, p_if, p_if_else, verdict, egress_port, group, p_return, P4Block, p_done, p_then, Program}
use Rattle.p4_ir.specs.Program.{block_of, stmt_of}
use Rattle.p4_ir.specs.declared.program.P4Stmt.{P4Stmt as CodeStmt}
use Rattle.shared_net.specs.Beside.{AsFirst}
use Rattle.shared_net.specs.Merging.{block_merged, merged, stmt_merged}
use Rattle.text_lines.specs.Printing.{Prints}
use Rattle.text_lines.proofs.Printing.{arrives, followed, Leads, step}
use Rattle.p4_emit.specs.Printed.{action_text, binary_text, block_text, bounds_text, default_text, deparse_text, deparser_piece, each_text, egress_apply, egress_piece, egress_port_text, egress_text, else_text, end_text, expr_text, field_text, fixed, group_text, if_text, ingress_apply, ingress_piece, ingress_text, key_text, keys_text, main_piece, meta_text, new_line, stmt_text, table_text, unary_text}

-- ---- names are those of the first

pub expr_named : (s : ℕ) (p o : Program) (e : P4Expr) → expr_text (merged s p o) e ≡ expr_text p e
expr_named s p o (p_lit w n) = refl
expr_named s p o (p_truth true) = refl
expr_named s p o (p_truth false) = refl
expr_named s p o (p_meta i) = refl
expr_named s p o (p_field h f) = refl
expr_named s p o p_port = refl
expr_named s p o p_rid = refl
expr_named s p o (p_unary op a) = ap (λ t. unary_text op ++ (t ++ codes ")")) (expr_named s p o a)
expr_named s p o (p_binary op a b) = ap₂ (λ t u. codes "(" ++ (t ++ (binary_text op ++ (u ++ codes ")")))) (expr_named s p o a) (expr_named s p o b)
expr_named s p o (p_slice a high low) = ap (λ t. t ++ bounds_text high low) (expr_named s p o a)
expr_named s p o (p_pick c a b) =
    ap (λ t. codes "(" ++ (t ++ (codes " ? " ++ (expr_text (merged s p o) a ++ (codes " : " ++ (expr_text (merged s p o) b ++ codes ")")))))) (expr_named s p o c)
    ∙ ap₂ (λ t u. codes "(" ++ (expr_text p c ++ (codes " ? " ++ (t ++ (codes " : " ++ (u ++ codes ")")))))) (expr_named s p o a) (expr_named s p o b)

mutual
  unfolding egress_port_text group_text if_text

  pub stmt_named : (s : ℕ) (p o : Program) (d : ℕ) (a : P4Stmt) → stmt_text (merged s p o) d a ≡ stmt_text p d a
  stmt_named s p o d (set_meta i e) = ap (λ t. meta_text p i ++ (codes " = " ++ (t ++ codes ";"))) (expr_named s p o e)
  stmt_named s p o d (set_header h f e) = ap (λ t. field_text p h f ++ (codes " = " ++ (t ++ codes ";"))) (expr_named s p o e)
  stmt_named s p o d (apply_table n) = refl
  stmt_named s p o d (p_if e a) = ap₂ (λ t u. codes "if (" ++ (t ++ codes ") {") ++ (u ++ end_text d)) (expr_named s p o e) (block_named s p o (d + 2) a)
  stmt_named s p o d (p_if_else e a b) =
      ap (λ t. codes "if (" ++ (t ++ codes ") {") ++ (block_text (merged s p o) (d + 2) a ++ (else_text d ++ (block_text (merged s p o) (d + 2) b ++ end_text d)))) (expr_named s p o e)
      ∙ ap₂ (λ t u. if_text p e ++ (t ++ (else_text d ++ (u ++ end_text d)))) (block_named s p o (d + 2) a) (block_named s p o (d + 2) b)
  stmt_named s p o d (verdict n) = refl
  stmt_named s p o d (egress_port e) = ap (λ t. codes "egress_port" ++ (codes " = " ++ (t ++ codes ";"))) (expr_named s p o e)
  stmt_named s p o d (group e) = ap (λ t. codes "group" ++ (codes " = " ++ (t ++ codes ";"))) (expr_named s p o e)
  stmt_named s p o d p_return = refl

  pub block_named : (s : ℕ) (p o : Program) (d : ℕ) (b : P4Block) → block_text (merged s p o) d b ≡ block_text p d b
  block_named s p o d p_done = refl
  block_named s p o d (p_then a rest) = ap₂ (λ t u. new_line d ++ (t ++ u)) (stmt_named s p o d a) (block_named s p o d rest)

pub ingress_named : (s : ℕ) (p o : Program) → ingress_text (merged s p o)
    ≡ fixed ingress_piece ++ (each_text (table_text p) p.ingress.tables ++ (fixed ingress_apply ++ block_text p 4 (block_merged s p.ingress.body o.ingress.body)))
unfolding ingress_text action_text keys_text key_text default_text
ingress_named s p o =
    ap (λ t. fixed ingress_piece ++ (each_text (table_text p) p.ingress.tables ++ (fixed ingress_apply ++ t))) (block_named s p o 4 (block_merged s p.ingress.body o.ingress.body))

pub egress_named : (s : ℕ) (p o : Program) → egress_text (merged s p o)
    ≡ fixed egress_piece ++ (each_text (table_text p) p.egress.tables ++ (fixed egress_apply ++ (block_text p 4 (block_merged s p.egress.body o.egress.body)
    ++ (fixed deparser_piece ++ (each_text deparse_text p.headers ++ fixed main_piece)))))
unfolding egress_text action_text keys_text key_text default_text
egress_named s p o =
    ap (λ t. fixed egress_piece ++ (each_text (table_text p) p.egress.tables ++ (fixed egress_apply ++ (t ++ (fixed deparser_piece ++ (each_text deparse_text p.headers ++ fixed main_piece))))))
    (block_named s p o 4 (block_merged s p.egress.body o.egress.body))

-- ---- a walk over two blocks

-- one statement more is printed
pub block_step : (p : Program) (s d : ℕ) (xs : List CodeStmt) (i : ℕ) (x : CodeStmt) (left rest : P4Block) (other : P4Stmt) {a b c e : Option (List ℕ)} {all : List ℕ} → i < length xs → x ≡ get_or xs i x
    → AsFirst (stmt_of x) left other rest
    → Leads a b (block_text p d (block_merged s (block_of (map stmt_of (drop i xs))) left)) all → Prints b (new_line d) c → Prints c (stmt_text p d (stmt_merged s (stmt_of x) other)) e
    → Leads a e (block_text p d (block_merged s (block_of (map stmt_of (drop (i + 1) xs))) rest)) all
block_step p s d xs i x left rest other {a} {b} {c} {e} {all} h is beside l q r =
    let more = block_of (map stmt_of (drop (i + 1) xs)) in
    let T = λ (ys : List CodeStmt). block_text p d (block_merged s (block_of (map stmt_of ys)) left) in
    let next : T (drop i xs) ≡ (new_line d ++ stmt_text p d (stmt_merged s (stmt_of x) other)) ++ block_text p d (block_merged s more rest) =
    at_drop_more T xs i x h ∙ ap (λ y. T (y ∷ drop (i + 1) xs)) (sym is) ∙ ap (block_text p d) (beside s more)
    ∙ sym (append_assoc (new_line d) (stmt_text p d (stmt_merged s (stmt_of x) other)) (block_text p d (block_merged s more rest))) in
    step (subst (λ t. Leads a b t all) next l) (followed q r)

-- and none is left
pub block_end : (p : Program) (s d : ℕ) (xs : List CodeStmt) (i : ℕ) (left : P4Block) {a b : Option (List ℕ)} {all : List ℕ} → length xs ≤ i
    → Leads a b (block_text p d (block_merged s (block_of (map stmt_of (drop i xs))) left)) all → Prints a all b
block_end p s d xs i left {a} {b} {all} h l =
    arrives (subst (λ t. Leads a b t all) (at_drop_all (λ ys. block_text p d (block_merged s (block_of (map stmt_of ys)) left)) xs i h) l)
