-- In a text that was read the statements of a body stand one after another, each at its first token: no two at one.
use Rattle.std.proofs.Common.{◌≡◌, inl, inr, ℕ, zero, suc, ◌+◌, ◌≤◌, ◌==◌, ◌&&◌, ◌||◌, List, [], ◌∷◌, ◌++◌, not, Bool, true, false, Option, Some, refl, sym, ap, subst, ◌∙◌, arith}
use Rattle.std.specs.Prelude.{take}
use Rattle.std.proofs.lemmas.Bool.Decides.{nat_tests}
use Rattle.cocoon_num.specs.Lists.{has_number, no_repeats}
use Rattle.cocoon_num.specs.Reads.{Level, ExprAt, RestAt, ExprsAt, ParamAt, StmtAt, StmtsAt, BlockAt, RoleBodyAt, DeclAt, RefineAt, Many, Reads, no_implication, an_implication, a_chain, no_comparison, a_comparison, a_flip, a_not, no_unary, a_variable, a_call, a_field, a_literal, a_true, a_false, in_brackets, a_pick, no_part, a_part, a_slice, last_expr, more_exprs, a_let, a_setting, an_if, an_if_else, a_filter, a_havoc, a_field_havoc, an_assume, a_fork, a_send, no_stmt, one_stmt, a_block, no_block, its_block, the_role, the_block, one_more}
use Rattle.cocoon_num.specs.Tokens.{Kind}
use Rattle.cocoon_num.specs.Tree.{Expr, Exprs, Stmt, Block, Param, Role, Decl, a_function, an_assumption, a_role, a_host, a_switch, Refine, Design}
use Rattle.cocoon_types.specs.Design.{as_role, decls_to, role_at}
use Rattle.refinement.specs.Indices.{block_indices, stmt_indices}
use Rattle.sound_types.proofs.Members.{In, in_either, in_filter}
use Rattle.sound_types.proofs.Levels.{block_decls, role_in}

-- ---- phrases go forward

mutual
  forward : {ts : List Kind} {l : Level} {i j : ℕ} {e : Expr} → ExprAt ts l i e j → i ≤ j
  forward (no_implication a) = forward a
  forward (an_implication a is b) = let f = forward a in let g = forward b in omega (arith, f, g)
  forward (a_chain p a r) = let f = forward a in let g = rest_forward r in omega (arith, f, g)
  forward (no_comparison a) = forward a
  forward (a_comparison c a is b) = let f = forward a in let g = forward b in omega (arith, f, g)
  forward (a_flip m a) = let f = forward a in omega (arith, f)
  forward (a_not m a) = let f = forward a in omega (arith, f)
  forward (no_unary a) = forward a
  forward (a_variable is) = omega arith
  forward (a_call n m es c) = let f = exprs_forward es in omega (arith, f)
  forward (a_field f) = let e = f.5 in omega (arith, e)
  forward (a_literal is) = omega arith
  forward (a_true is) = omega arith
  forward (a_false is) = omega arith
  forward (in_brackets m a c) = let f = forward a in omega (arith, f)
  forward (a_pick m c q a s b e) = let f = forward c in let g = forward a in let h = forward b in omega (arith, f, g, h)

  rest_forward : {ts : List Kind} {l : Level} {j k : ℕ} {a b : Expr} → RestAt ts l a j b k → j ≤ k
  rest_forward no_part = omega arith
  rest_forward (a_part p c is b r) = let f = forward b in let g = rest_forward r in omega (arith, f, g)
  rest_forward (a_slice m a b c d r) = let g = rest_forward r in omega (arith, g)

  exprs_forward : {ts : List Kind} {i j : ℕ} {es : Exprs} → ExprsAt ts i es j → i ≤ j
  exprs_forward (last_expr a) = forward a
  exprs_forward (more_exprs a m es) = let f = forward a in let g = exprs_forward es in omega (arith, f, g)

param_forward : (ts : List Kind) (i : ℕ) (p : Param) (j : ℕ) → ParamAt ts i p j → i ≤ j
param_forward ts i p j h = let e = h.2.4 in omega (arith, e)

-- ---- numbers that ascend

-- they ascend, the first is no less than one number, and the last is less than another
abbrev Between : ℕ → List ℕ → ℕ → Type 0
Between i [] j = i ≤ j
Between i (x ∷ xs) j = (i ≤ x) × Between (suc x) xs j

from_lower : (h i : ℕ) (xs : List ℕ) (j : ℕ) → h ≤ i → Between i xs j → Between h xs j
from_lower h i [] j l b = omega (arith, l, b)
from_lower h i (x ∷ xs) j l b = let f = b.0 in (omega (arith, l, f), b.1)

to_higher : (i : ℕ) (xs : List ℕ) (j k : ℕ) → j ≤ k → Between i xs j → Between i xs k
to_higher i [] j k l b = omega (arith, l, b)
to_higher i (x ∷ xs) j k l b = (b.0, to_higher (suc x) xs j k l b.1)

joined : (i : ℕ) (xs : List ℕ) (j : ℕ) (ys : List ℕ) (k : ℕ) → Between i xs j → Between j ys k → Between i (xs ++ ys) k
joined i [] j ys k b c = from_lower i j ys k b c
joined i (x ∷ xs) j ys k b c = (b.0, joined (suc x) xs j ys k b.1 c)

-- a statement's own index, and those of what follows
begins : (i : ℕ) (xs : List ℕ) (j : ℕ) → Between (suc i) xs j → Between i (i ∷ xs) j
begins i xs j b = (omega arith, b)

mutual
  stmt_between : {ts : List Kind} {i j : ℕ} {s : Stmt} → StmtAt ts i s j → Between i (stmt_indices s) j
  stmt_between {ts} (a_let {i} {j} {p = q} r p m e c) = let f = param_forward ts (suc i) q j p in let g = forward e in (omega arith, omega (arith, f, g))
  stmt_between (a_setting f m e c) = let h = f.5 in let g = forward e in (omega arith, omega (arith, h, g))
  stmt_between (an_if {i} {j} {k} {e = x} {a} r m e c b) =
      let f = forward e in
      (omega arith, joined (suc i) (block_indices a) k [] k (from_lower (suc i) (suc j) (block_indices a) k (omega (arith, f)) (block_between b)) (omega arith))
  stmt_between (an_if_else {i} {j} {k} {l} {e = x} {a} {b} r m e c p q d) =
      let f = forward e in
      (omega arith, joined (suc i) (block_indices a) k (block_indices b) l (from_lower (suc i) (suc j) (block_indices a) k (omega (arith, f)) (block_between p)) (from_lower k (suc k) (block_indices b) l (omega arith) (block_between d)))
  stmt_between (a_filter r e c) = let g = forward e in (omega arith, omega (arith, g))
  stmt_between {ts} (a_havoc {i} {j} {p = q} r p c) = let f = param_forward ts (suc i) q j p in (omega arith, omega (arith, f))
  stmt_between (a_field_havoc r f c) = let h = f.5 in (omega arith, omega (arith, h))
  stmt_between (an_assume r e c) = let g = forward e in (omega arith, omega (arith, g))
  stmt_between {ts} (a_fork {i} {j} {k} {l} {p = y} {e = x} {b} r m p v e c d) =
      let f = param_forward ts (i + 2) y j p in
      let g = forward e in
      (omega arith, from_lower (suc i) (suc k) (block_indices b) l (omega (arith, f, g)) (block_between d))
  stmt_between (a_send r n m es c d) = let g = exprs_forward es in (omega arith, omega (arith, g))

  stmts_between : {ts : List Kind} {i j : ℕ} {b : Block} → StmtsAt ts i b j → Between i (block_indices b) j
  stmts_between no_stmt = omega arith
  stmts_between (one_stmt {i} {j} {k} {s} {b} x more) = joined i (stmt_indices s) j (block_indices b) k (stmt_between x) (stmts_between more)

  block_between : {ts : List Kind} {i j : ℕ} {b : Block} → BlockAt ts i b j → Between i (block_indices b) j
  block_between (a_block {i} {j} {b} m s c) = from_lower i (suc i) (block_indices b) (suc j) (omega arith) (to_higher (suc i) (block_indices b) j (suc j) (omega arith) (stmts_between s))

-- ---- so none stands twice

unequal_numbers : (x y : ℕ) → suc x ≤ y → (x == y) ≡ false
unequal_numbers x y h = grind (arith, nat_tests, h)

or_false : (a b : Bool) → a ≡ false → b ≡ false → (a || b) ≡ false
or_false true b h k = absurd (cc)
or_false false b h k = k

not_there : (x i : ℕ) (xs : List ℕ) (j : ℕ) → suc x ≤ i → Between i xs j → has_number x xs ≡ false
not_there x i [] j l b = refl
not_there x i (y ∷ xs) j l b =
    let f = b.0 in
    or_false (x == y) (has_number x xs) (unequal_numbers x y (omega (arith, l, f))) (not_there x (suc y) xs j (omega (arith, l, f)) b.1)

not_false : (a b : Bool) → a ≡ false → b ≡ true → (not a && b) ≡ true
not_false true b h k = absurd (cc)
not_false false b h k = k

pub once_each : (i : ℕ) (xs : List ℕ) (j : ℕ) → Between i xs j → no_repeats xs ≡ true
once_each i [] j b = refl
once_each i (x ∷ xs) j b = not_false (has_number x xs) (no_repeats xs) (not_there x (suc x) xs j (omega arith) b.1) (once_each (suc x) xs j b.1)

-- ---- bodies of a design

body_once : {ts : List Kind} {i j : ℕ} {o : Option Block} → RoleBodyAt ts i o j → (b : Block) → o ≡ Some b → no_repeats (block_indices b) ≡ true
body_once (no_block m) b e = absurd (cc)
body_once (its_block {i} {j} {b = x} m d) b e =
    let same : x ≡ b = cc in
    subst (λ y. no_repeats (block_indices y) ≡ true) same (once_each (suc i) (block_indices x) j (block_between d))

abbrev RoleOnce : Decl → Type 0
RoleOnce x = (r : Role) → as_role x ≡ Some r → (b : Block) → r.body ≡ Some b → no_repeats (block_indices b) ≡ true

role_once : {ts : List Kind} {i j : ℕ} (x : Decl) → DeclAt ts i x j → RoleOnce x
role_once (a_function f) d r e b h = absurd (cc)
role_once (an_assumption a) d r e b h = absurd (cc)
role_once (a_role q) (the_role s n m p c v g body) r e b h =
    let same : q ≡ r = cc in
    body_once body b (ap (λ (y : Role). y.body) same ∙ h)
role_once (a_host y) d r e b h = absurd (cc)
role_once (a_switch y) d r e b h = absurd (cc)

decls_once : {ts : List Kind} {i j : ℕ} (xs : List Decl) → Many (DeclAt ts) i xs j → (x : Decl) → In x xs → RoleOnce x
decls_once [] m x k = absurd k
decls_once (y ∷ xs) (one_more d more) x k = elim k [
  | inl e ↦ subst RoleOnce (sym e) (role_once y d)
  | inr l ↦ decls_once xs more x l
]

block_once : {ts : List Kind} {i j : ℕ} {b : Refine} → RefineAt ts i b j → (x : Decl) → In x b.decls → RoleOnce x
block_once (the_block {d = c} r e names w n m decls close) x k = decls_once c.decls decls x k

blocks_once : {ts : List Kind} {i j : ℕ} (bs : List Refine) → Many (RefineAt ts) i bs j → (n : ℕ) (x : Decl) → In x (block_decls (take n bs)) → RoleOnce x
blocks_once bs m zero x k = absurd k
blocks_once [] m (suc n) x k = absurd k
blocks_once (b ∷ bs) (one_more d more) (suc n) x k = elim (in_either x b.decls (block_decls (take n bs)) k) [
  | inl l ↦ block_once d x l
  | inr l ↦ blocks_once bs more n x l
]

-- no two statements of a body that was read have one token index
pub statements_once : (text : List ℕ) (d : Design) → Reads text d → (level : ℕ) (name : List ℕ) (r : Role) → role_at level d name ≡ Some r → (b : Block) → r.body ≡ Some b → no_repeats (block_indices b) ≡ true
statements_once text d reads level name r at b body =
    let x = in_filter as_role (decls_to level d) r (role_in level d name r at).0 in
    elim (in_either x.0 d.decls (block_decls (take level d.refines)) x.1) [
      | inl k ↦ decls_once d.decls reads.reads.decls x.0 k r x.2 b body
      | inr k ↦ blocks_once d.refines reads.reads.refines level x.0 k r x.2 b body
    ]
