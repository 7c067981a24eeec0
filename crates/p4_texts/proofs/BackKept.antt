-- The text of a program that keeps the kind rules has no fault of kind.
use Rattle.std.specs.Prelude.{◌≡◌, ℕ, ◌-◌, ◌^◌, ◌<◌, ◌&&◌, ◌||◌, ◌==◌, Bool, true, false, not, nat_lt, List, [], ◌∷◌, ◌++◌, slice_get, codes, decimal, refl}
use Rattle.std.proofs.Common.{ap, ap₂, ◌∙◌, arith}
use Rattle.std.proofs.lemmas.Bool.{and_parts, and_from}
use Rattle.std.proofs.lemmas.Bool.Decides.{nat_tests}
use Rattle.cocoon_num.specs.Lists.{each, has_number}
use Rattle.cocoon_num.specs.Names.{same_name}
use Rattle.cocoon_num.specs.Sorts.{has_sort, truth_sort, bits_sort}
use Rattle.cocoon_num.specs.Tokens.{mark, a_name}
use Rattle.p4_ir.specs.P4Kinds.{Within, block_fits, field_sort, is_empty, meta_sort, p4_sort, stmt_fits}
use Rattle.p4_ir.specs.P4Tree.{P4Stmt, set_meta, set_header, apply_table, p_if, p_if_else, verdict, egress_port, group, p_return, P4Block, p_done, p_then, P4Field, Program}
use Rattle.p4_texts.specs.KindFaults.{Piece, block_pieces, fixed, stmt_pieces}
use Rattle.p4_texts.specs.Meant.{block_meant, field_at, number_in, stmt_meant}
use Rattle.p4_texts.specs.TextOf.{block_written, field_in_header, stmt_written, text_of_program}
use Rattle.p4_texts.proofs.Back.{Named, back, expr_back, field_there, header_back, field_back, inside, meta_back}
use Rattle.p4_texts.proofs.Decimal.{number_after}
use Rattle.p4_texts.proofs.Kept.{kept, kept_both}
use Rattle.p4_texts.proofs.Lists.{same_self}
use Rattle.p4_texts.proofs.SaidWhole.{has_some, same_some, of_map}

one_kept : (b : Bool) → b ≡ true → (b && true) ≡ true
one_kept b h = and_from b true h refl

-- ---- statements

less_wide : (n m : ℕ) → (n == m) ≡ true → nat_lt m (2 ^ 32 - 1) ≡ true → n < 2 ^ 32
less_wide n m e h = grind (arith, nat_tests, e, h)

pub below : (n : ℕ) → nat_lt n (2 ^ 32 - 1) ≡ true → n < 2 ^ 32
below n h = grind (arith, nat_tests, h)

number_small : (n : ℕ) (ns : List ℕ) → has_number n ns ≡ true → each (λ m. nat_lt m (2 ^ 32 - 1)) ns ≡ true → n < 2 ^ 32
number_small n [] h e = absurd cc
number_small n (m ∷ ns) h e =
    let p = and_parts (nat_lt m (2 ^ 32 - 1)) (each (λ m. nat_lt m (2 ^ 32 - 1)) ns) e in
    by (n == m) refl h p.0 (λ k. number_small n ns k p.1)
  where
    by : (b : Bool) → (n == m) ≡ b → (b || has_number n ns) ≡ true → nat_lt m (2 ^ 32 - 1) ≡ true → (has_number n ns ≡ true → n < 2 ^ 32) → n < 2 ^ 32
    by true g h k r = less_wide n m g k
    by false g h k r = r h

record StmtBack (p : Program) (c : Within) (s : P4Stmt) : Type 0 where
  same : stmt_meant (text_of_program p) (stmt_written p s) ≡ s
  keeps : kept (stmt_pieces (text_of_program p) c (stmt_written p s)) ≡ true

pub record BlockBack (p : Program) (c : Within) (b : P4Block) : Type 0 where
  pub same : block_meant (text_of_program p) (block_written p b) ≡ b
  pub keeps : kept (block_pieces (text_of_program p) c (block_written p b)) ≡ true

abbrev close : List Piece
close = fixed (mark (codes "}") ∷ []) ∷ []

mutual
  stmt_back : (p : Program) (i : Bool) (ns : List ℕ) → Named p → each (λ m. nat_lt m (2 ^ 32 - 1)) ns ≡ true → (s : P4Stmt) → stmt_fits (inside p i ns) s ≡ true → StmtBack p (inside p i ns) s
  stmt_back p i ns n l (set_meta j e) h =
      let some = same_some (meta_sort p j) (p4_sort (inside p i ns) e) h in
      let same = ap₂ set_meta (meta_back p j n (of_map (λ (f : P4Field). bits_sort f.width) (slice_get p.meta j) some.0)) (expr_back p i ns n e some.1) in
      record { same = same; keeps = one_kept _ (ap (stmt_fits (inside p i ns)) same ∙ h) }
  stmt_back p i ns n l (set_header g f e) h =
      let some = same_some (field_sort p g f) (p4_sort (inside p i ns) e) h in
      let x = field_there p g f some.0 in
      let at = header_back p g x.header n x.header_is in
      let same = ap₂ (λ y z. set_header y z (back p e)) at (ap (λ z. field_at (text_of_program p) z (field_in_header p g f)) at ∙ field_back p g f x.header x.field n x.header_is x.field_is) ∙ ap (set_header g f) (expr_back p i ns n e some.1) in
      record { same = same; keeps = one_kept _ (ap (stmt_fits (inside p i ns)) same ∙ h) }
  stmt_back p i ns n l (apply_table m) h =
      let at : number_in (codes "t" ++ decimal m) ≡ m = number_after 116 m (number_small m ns h l) in
      record {
        same = ap apply_table at;
        keeps = one_kept _ (and_from (stmt_fits (inside p i ns) (apply_table (number_in (codes "t" ++ decimal m)))) (same_name (codes "t" ++ decimal m) (codes "t" ++ decimal (number_in (codes "t" ++ decimal m))))
            (ap (λ z. stmt_fits (inside p i ns) (apply_table z)) at ∙ h)
            (ap (λ z. same_name (codes "t" ++ decimal m) (codes "t" ++ decimal z)) at ∙ same_self (codes "t" ++ decimal m)));
      }
  stmt_back p i ns n l (p_if e a) h =
      let c = inside p i ns in
      let q = and_parts (has_sort truth_sort (p4_sort c e)) (block_fits c a) h in
      let first = block_back p i ns n l a q.1 in
      let same = expr_back p i ns n e (has_some truth_sort (p4_sort c e) q.0) in
      record {
        same = ap₂ p_if same first.same;
        keeps = and_from (has_sort truth_sort (p4_sort c (back p e))) (kept (block_pieces (text_of_program p) c (block_written p a) ++ close)) (ap (λ z. has_sort truth_sort (p4_sort c z)) same ∙ q.0)
            (kept_both (block_pieces (text_of_program p) c (block_written p a)) close first.keeps refl);
      }
  stmt_back p i ns n l (p_if_else e a b) h =
      let c = inside p i ns in
      let t = text_of_program p in
      let q = and_parts (has_sort truth_sort (p4_sort c e) && block_fits c a && not (is_empty b)) (block_fits c b) h in
      let r = and_parts (has_sort truth_sort (p4_sort c e) && block_fits c a) (not (is_empty b)) q.0 in
      let s = and_parts (has_sort truth_sort (p4_sort c e)) (block_fits c a) r.0 in
      let first = block_back p i ns n l a s.1 in
      let second = block_back p i ns n l b q.1 in
      let same = expr_back p i ns n e (has_some truth_sort (p4_sort c e) s.0) in
      let between : Piece = fixed (mark (codes "}") ∷ a_name (codes "else") ∷ mark (codes "{") ∷ []) in
      let after : List Piece = between ∷ (block_pieces t c (block_written p b) ++ close) in
      record {
        same = ap (λ z. p_if_else z (block_meant t (block_written p a)) (block_meant t (block_written p b))) same ∙ ap₂ (p_if_else e) first.same second.same;
        keeps = and_from (has_sort truth_sort (p4_sort c (back p e)) && not (is_empty (block_meant t (block_written p b)))) (kept (block_pieces t c (block_written p a) ++ after))
            (and_from (has_sort truth_sort (p4_sort c (back p e))) (not (is_empty (block_meant t (block_written p b)))) (ap (λ z. has_sort truth_sort (p4_sort c z)) same ∙ s.0) (ap (λ z. not (is_empty z)) second.same ∙ r.1))
            (kept_both (block_pieces t c (block_written p a)) after first.keeps (kept_both (block_pieces t c (block_written p b)) close second.keeps refl));
      }
  stmt_back p i ns n l (verdict m) h = record { same = refl; keeps = one_kept _ h }
  stmt_back p i ns n l (egress_port e) h =
      let same = expr_back p i ns n e (has_some (bits_sort 16) (p4_sort (inside p i ns) e) h) in
      record { same = ap egress_port same; keeps = one_kept _ (ap (λ z. stmt_fits (inside p i ns) (egress_port z)) same ∙ h) }
  stmt_back p i ns n l (group e) h =
      let q = and_parts i (has_sort (bits_sort 16) (p4_sort (inside p i ns) e)) h in
      let same = expr_back p i ns n e (has_some (bits_sort 16) (p4_sort (inside p i ns) e) q.1) in
      record { same = ap group same; keeps = one_kept _ (ap (λ z. stmt_fits (inside p i ns) (group z)) same ∙ h) }
  stmt_back p i ns n l p_return h = record { same = refl; keeps = refl }

  pub block_back : (p : Program) (i : Bool) (ns : List ℕ) → Named p → each (λ m. nat_lt m (2 ^ 32 - 1)) ns ≡ true → (b : P4Block) → block_fits (inside p i ns) b ≡ true → BlockBack p (inside p i ns) b
  block_back p i ns n l p_done h = record { same = refl; keeps = refl }
  block_back p i ns n l (p_then s b) h =
      let q = and_parts (stmt_fits (inside p i ns) s) (block_fits (inside p i ns) b) h in
      let first = stmt_back p i ns n l s q.0 in
      let rest = block_back p i ns n l b q.1 in
      record {
        same = ap₂ p_then first.same rest.same;
        keeps = kept_both (stmt_pieces (text_of_program p) (inside p i ns) (stmt_written p s)) (block_pieces (text_of_program p) (inside p i ns) (block_written p b)) first.keeps rest.keeps;
      }
