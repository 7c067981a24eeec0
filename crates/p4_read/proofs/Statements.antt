-- Statements and declarations are known from their tokens and what follows, where no `else` follows an `if`.
use Rattle.std.specs.Prelude.{◌≡◌, ℕ, Bool, true, false, List, ◌∷◌, codes, drop, if◌then◌else◌, refl}
use Rattle.std.proofs.Common.{sym, ◌∙◌, ap, ap₂}
use Rattle.cocoon_num.specs.Names.{same_name}
use Rattle.cocoon_num.specs.Tokens.{Kind, a_name, mark}
use Rattle.p4_texts.specs.Written.{ExprText, StmtText, w_set_meta, w_set_field, w_apply, w_if, w_if_else, w_verdict, w_egress_port, w_group, w_return, BlockText, w_done, w_then, value_then, condition_then, stmt_then, block_then}
use Rattle.p4_read.proofs.Tokens.{differ, first_number, first_width, name_at}
use Rattle.p4_read.proofs.Expressions.{same_expr}

-- ---- which statement begins so

abbrev set_way : List ℕ → ℕ
set_way x =
    if same_name x (codes "verdict") then 3
    else if same_name x (codes "egress_port") then 4
    else if same_name x (codes "group") then 5
    else 6

-- after a name and a dot, by the second mark
abbrev dot_way : List Kind → ℕ
dot_way (k ∷ mark m ∷ ks) =
    if same_name m (codes "(") then 0
    else if same_name m (codes "=") then 1
    else 2
dot_way _ = 6

-- those with an `else` are not told from those without
abbrev mark_way : List ℕ → List ℕ → List Kind → ℕ
mark_way x m ks =
    if same_name m (codes ".") then dot_way ks
    else if same_name m (codes "=") then set_way x
    else if same_name m (codes "(") then 7
    else 8

abbrev stmt_way : List Kind → ℕ
stmt_way (a_name x ∷ mark m ∷ ks) = mark_way x m ks
stmt_way _ = 9

-- ---- what may follow

-- `else {`
abbrev pub is_else : List Kind → Bool
is_else (a_name x ∷ mark m ∷ ks) = same_name m (codes "{")
is_else _ = false

stmt_apart : (s : StmtText) (ks : List Kind) → is_else (stmt_then s ks) ≡ false
stmt_apart (w_set_meta x e) ks = refl
stmt_apart s ks = refl

rest_apart : (b : BlockText) (ks : List Kind) → is_else (block_then b (mark (codes "}") ∷ ks)) ≡ false
rest_apart w_done ks = refl
rest_apart (w_then s b) ks = stmt_apart s _

-- ---- statements

same_value : (e f : ExprText) (ks ls : List Kind) → value_then e ks ≡ value_then f ls → (e ≡ f) × (ks ≡ ls)
same_value e f ks ls h = let r = same_expr e f (mark (codes ";") ∷ ks) (mark (codes ";") ∷ ls) refl refl (ap (drop 1) h) in (r.0, ap (drop 1) r.1)

same_condition : (e f : ExprText) (ks ls : List Kind) → condition_then e ks ≡ condition_then f ls → (e ≡ f) × (ks ≡ ls)
same_condition e f ks ls h = let r = same_expr e f (mark (codes ")") ∷ mark (codes "{") ∷ ks) (mark (codes ")") ∷ mark (codes "{") ∷ ls) refl refl (ap (drop 2) h) in (r.0, ap (drop 2) r.1)

abbrev KnownBlock : BlockText → Type 0
KnownBlock b = (c : BlockText) (ks ls : List Kind) → block_then b (mark (codes "}") ∷ ks) ≡ block_then c (mark (codes "}") ∷ ls) → (b ≡ c) × (ks ≡ ls)

same_if : (e : ExprText) (a : BlockText) → KnownBlock a → (s : StmtText) (ks ls : List Kind) → is_else ks ≡ false → is_else ls ≡ false → stmt_then (w_if e a) ks ≡ stmt_then s ls → (w_if e a ≡ s) × (ks ≡ ls)
same_if e a one (w_if f b) ks ls p q h =
    let r = same_condition e f _ _ h in
    let s = one b ks ls r.1 in
    (ap₂ w_if r.0 s.0, s.1)
same_if e a one (w_if_else f b c) ks ls p q h =
    let r = same_condition e f _ _ h in
    let after = a_name (codes "else") ∷ mark (codes "{") ∷ block_then c (mark (codes "}") ∷ ls) in
    let s = one b ks after r.1 in
    let no : true ≡ false = ap is_else (sym s.1) ∙ p in
    absurd cc
same_if e a one s ks ls p q h = absurd (differ stmt_way _ _ h refl)

same_if_else : (e : ExprText) (a b : BlockText) → KnownBlock a → KnownBlock b → (s : StmtText) (ks ls : List Kind) → is_else ls ≡ false → stmt_then (w_if_else e a b) ks ≡ stmt_then s ls
    → (w_if_else e a b ≡ s) × (ks ≡ ls)
same_if_else e a b one two (w_if_else f c d) ks ls q h =
    let r = same_condition e f _ _ h in
    let after_a = a_name (codes "else") ∷ mark (codes "{") ∷ block_then b (mark (codes "}") ∷ ks) in
    let after_c = a_name (codes "else") ∷ mark (codes "{") ∷ block_then d (mark (codes "}") ∷ ls) in
    let s = one c after_a after_c r.1 in
    let t = two d ks ls (ap (drop 2) s.1) in
    (ap₂ (λ x y. w_if_else x y b) r.0 s.0 ∙ ap (w_if_else f c) t.0, t.1)
same_if_else e a b one two (w_if f c) ks ls q h =
    let r = same_condition e f _ _ h in
    let after = a_name (codes "else") ∷ mark (codes "{") ∷ block_then b (mark (codes "}") ∷ ks) in
    let s = one c after ls r.1 in
    let no : true ≡ false = ap is_else s.1 ∙ q in
    absurd cc
same_if_else e a b one two s ks ls q h = absurd (differ stmt_way _ _ h refl)

no_stmt : (s : StmtText) (ks ls : List Kind) → stmt_then s ks ≡ mark (codes "}") ∷ ls → ⊥
no_stmt (w_set_meta x e) ks ls h = differ stmt_way _ _ h refl
no_stmt s ks ls h = differ stmt_way _ _ h refl

mutual
  pub same_stmt : (s u : StmtText) (ks ls : List Kind) → is_else ks ≡ false → is_else ls ≡ false → stmt_then s ks ≡ stmt_then u ls → (s ≡ u) × (ks ≡ ls)
  same_stmt (w_set_meta x e) (w_set_meta y f) ks ls p q h = let r = same_value e f ks ls (ap (drop 3) h) in (ap₂ w_set_meta (ap (name_at 2) h) r.0, r.1)
  same_stmt (w_set_meta x e) u ks ls p q h = absurd (differ stmt_way _ _ h refl)
  same_stmt (w_set_field x y e) (w_set_field z w f) ks ls p q h =
      let r = same_value e f ks ls (ap (drop 5) h) in
      (ap₂ (λ a b. w_set_field a b e) (ap (name_at 2) h) (ap (name_at 4) h) ∙ ap (w_set_field z w) r.0, r.1)
  same_stmt (w_set_field x y e) u ks ls p q h = absurd (differ stmt_way _ _ h refl)
  same_stmt (w_apply x) (w_apply y) ks ls p q h = (ap w_apply (ap (name_at 0) h), ap (drop 6) h)
  same_stmt (w_apply x) u ks ls p q h = absurd (differ stmt_way _ _ h refl)
  same_stmt (w_if e a) u ks ls p q h = same_if e a (same_block a) u ks ls p q h
  same_stmt (w_if_else e a b) u ks ls p q h = same_if_else e a b (same_block a) (same_block b) u ks ls q h
  same_stmt (w_verdict w n) (w_verdict v m) ks ls p q h = (ap₂ w_verdict (ap (λ z. first_width (drop 2 z)) h) (ap (λ z. first_number (drop 2 z)) h), ap (drop 4) h)
  same_stmt (w_verdict w n) u ks ls p q h = absurd (differ stmt_way _ _ h refl)
  same_stmt (w_egress_port e) (w_egress_port f) ks ls p q h = let r = same_value e f ks ls (ap (drop 1) h) in (ap w_egress_port r.0, r.1)
  same_stmt (w_egress_port e) u ks ls p q h = absurd (differ stmt_way _ _ h refl)
  same_stmt (w_group e) (w_group f) ks ls p q h = let r = same_value e f ks ls (ap (drop 1) h) in (ap w_group r.0, r.1)
  same_stmt (w_group e) u ks ls p q h = absurd (differ stmt_way _ _ h refl)
  same_stmt w_return w_return ks ls p q h = (refl, ap (drop 2) h)
  same_stmt w_return u ks ls p q h = absurd (differ stmt_way _ _ h refl)

  pub same_block : (b c : BlockText) (ks ls : List Kind) → block_then b (mark (codes "}") ∷ ks) ≡ block_then c (mark (codes "}") ∷ ls) → (b ≡ c) × (ks ≡ ls)
  same_block w_done w_done ks ls h = (refl, ap (drop 1) h)
  same_block w_done (w_then u c) ks ls h = absurd (no_stmt u _ _ (sym h))
  same_block (w_then s b) w_done ks ls h = absurd (no_stmt s _ _ h)
  same_block (w_then s b) (w_then u c) ks ls h =
      let r = same_stmt s u _ _ (rest_apart b ks) (rest_apart c ls) h in
      let t = same_block b c ks ls r.1 in
      (ap₂ w_then r.0 t.0, t.1)
