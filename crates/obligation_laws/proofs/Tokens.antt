-- The choices of a path through a block stand in it, each once.
use Rattle.std.proofs.Common.{◌≡◌, inl, inr, ℕ, ◌+◌, ◌≤◌, ◌==◌, ◌||◌, List, [], ◌∷◌, ◌++◌, map, Bool, true, false, Option, Some, None, refl, sym, ap, subst, ◌∙◌, arith}
use Rattle.std.specs.Prelude.{is_some, not}
use Rattle.cocoon_num.specs.Lists.{has_number, no_repeats}
use Rattle.cocoon_num.specs.Tree.{Expr, Stmt, let_, set_field, if_, filter, havoc_var, havoc_field, assume, fork, send, Block, no_stmts, stmt}
use Rattle.cocoon_types.specs.Parts.{list_of}
use Rattle.cocoon_types.specs.ReadBack.{Path, all_replaced, choice, chooses, leaves, meets, paths, paths_in, replaced, unless_sent, with_field_as, with_var_as}
use Rattle.refinement.proofs.Lists.{same_number}
use Rattle.refinement.specs.Indices.{block_indices, stmt_indices}
use Rattle.sound_types.proofs.Members.{In, flat_in, in_either, map_in}
use Rattle.sound_types.proofs.Options.{both_true, same_self}
use Rattle.obligation_laws.specs.States.{NewInput}
use Rattle.obligation_laws.proofs.Followings.{passed}
use Rattle.obligation_laws.proofs.Relating.{Pairing}

-- ---- how often numbers stand in lists

abbrev one_if : Bool → ℕ
one_if true = 1
one_if false = 0

abbrev pub count_of : ℕ → List ℕ → ℕ
count_of c [] = 0
count_of c (x ∷ xs) = one_if (c == x) + count_of c xs

count_append : (c : ℕ) (xs ys : List ℕ) → count_of c (xs ++ ys) ≡ count_of c xs + count_of c ys
count_append c [] ys = omega arith
count_append c (x ∷ xs) ys = let h = count_append c xs ys in omega (arith, h)

absent : (c : ℕ) (xs : List ℕ) → has_number c xs ≡ false → count_of c xs ≡ 0
absent c [] h = refl
absent c (x ∷ xs) h = by (c == x) (has_number c xs) (absent c xs) h
  where
    by : (b r : Bool) → (r ≡ false → count_of c xs ≡ 0) → (b || r) ≡ false → one_if b + count_of c xs ≡ 0
    by true r f k = absurd (cc)
    by false r f k = let e = f k in omega (arith, e)

no : (b : Bool) → not b ≡ true → b ≡ false
no true h = absurd (cc)
no false h = refl

-- where no number stands twice, each stands once at most
pub once : (xs : List ℕ) → no_repeats xs ≡ true → (c : ℕ) → count_of c xs ≤ 1
once [] h c = omega arith
once (x ∷ xs) h c =
    let both = both_true (not (has_number x xs)) (no_repeats xs) h in
    by (c == x) (λ e. ap (λ z. count_of z xs) (same_number c x e) ∙ absent x xs (no (has_number x xs) both.0)) (once xs both.1 c)
  where
    by : (b : Bool) → (b ≡ true → count_of c xs ≡ 0) → count_of c xs ≤ 1 → one_if b + count_of c xs ≤ 1
    by true f l = let e = f refl in omega (arith, e)
    by false f l = omega (arith, l)

-- ---- paths

-- a path's choices are those of another, and others of these indices
abbrev pub Counted : ℕ → List ℕ → Path → Path → Type 0
Counted c indices p q = count_of c q.choices ≤ count_of c p.choices + count_of c indices

same_counted : (c : ℕ) (indices : List ℕ) (p q : Path) → q.choices ≡ p.choices → Counted c indices p q
same_counted c indices p q e = let h = ap (count_of c) e in omega (arith, h)

one_counted : (c a : ℕ) (rest : List ℕ) (p q : Path) → q.choices ≡ a ∷ p.choices → Counted c (a ∷ rest) p q
one_counted c a rest p q e = let h = ap (count_of c) e in omega (arith, h)

only : (c : ℕ) (indices : List ℕ) (p z q : Path) → In q (z ∷ []) → Counted c indices p z → Counted c indices p q
only c indices p z q i h = elim i [ inl e ↦ subst (Counted c indices p) (sym e) h | inr l ↦ absurd l ]

-- behind a path that has not sent
unless_counted : (c : ℕ) (rest : Block) (m q : Path) → (In q (paths_in rest m) → Counted c (block_indices rest) m q) → In q (unless_sent (paths_in rest) m) → Counted c (block_indices rest) m q
unless_counted c rest m q later i = by m.sent i
  where
    by : (o : Option (List Expr)) → In q (elim o as (λ x. List Path) [ None ↦ paths_in rest m | Some es ↦ m ∷ [] ]) → Counted c (block_indices rest) m q
    by None j = later j
    by (Some es) j = only c (block_indices rest) m m q j (same_counted c (block_indices rest) m m refl)

mutual
  stmt_counted : (c : ℕ) (x : Stmt) (p q : Path) → In q (paths x p) → Counted c (stmt_indices x) p q
  stmt_counted c (let_ at x w e) p q i = let z = with_var_as x (replaced p e) p in only c (at ∷ []) p z q i (same_counted c (at ∷ []) p z refl)
  stmt_counted c (set_field at h f e) p q i = let z = with_field_as h f (replaced p e) p in only c (at ∷ []) p z q i (same_counted c (at ∷ []) p z refl)
  stmt_counted c (if_ at e first second) p q i =
      let m = meets e p in
      let apart = count_append c (block_indices first) (block_indices second) in
      elim (in_either q (map (leaves p.vars) (paths_in first m)) (map (leaves p.vars) (paths_in second m)) i) [
        | inl j ↦
            let r = map_in (leaves p.vars) q (paths_in first m) j in
            let k = block_counted c first m r.0 r.1 in
            let e = ap (λ (y : Path). count_of c y.choices) r.2 in
            omega (arith, k, e, apart)
        | inr j ↦
            let r = map_in (leaves p.vars) q (paths_in second m) j in
            let k = block_counted c second m r.0 r.1 in
            let e = ap (λ (y : Path). count_of c y.choices) r.2 in
            omega (arith, k, e, apart)
      ]
  stmt_counted c (filter at e) p q i = only c (at ∷ []) p (meets e p) q i (same_counted c (at ∷ []) p (meets e p) refl)
  stmt_counted c (havoc_var at x w) p q i = only c (at ∷ []) p (with_var_as x (choice at) (chooses at p)) q i (one_counted c at [] p (with_var_as x (choice at) (chooses at p)) refl)
  stmt_counted c (havoc_field at h f) p q i = only c (at ∷ []) p (with_field_as h f (choice at) (chooses at p)) q i (one_counted c at [] p (with_field_as h f (choice at) (chooses at p)) refl)
  stmt_counted c (assume at e) p q i = only c (at ∷ []) p (meets e p) q i (same_counted c (at ∷ []) p (meets e p) refl)
  stmt_counted c (fork at x w e body) p q i =
      let start = meets e (with_var_as x (choice at) (chooses at p)) in
      let j = passed (λ (y : Path). is_some y.sent) (paths_in body start) q i in
      let k = block_counted c body start q j.0 in
      omega (arith, k)
  stmt_counted c (send at r es) p q i = let z : Path = record p { sent = Some (list_of (all_replaced p es)) } in only c (at ∷ []) p z q i (same_counted c (at ∷ []) p z refl)

  pub block_counted : (c : ℕ) (b : Block) (p q : Path) → In q (paths_in b p) → Counted c (block_indices b) p q
  block_counted c no_stmts p q i = only c [] p p q i (same_counted c [] p p refl)
  block_counted c (stmt x rest) p q i =
      let m = flat_in (unless_sent (paths_in rest)) q (paths x p) i in
      let one = stmt_counted c x p m.0 m.1 in
      let two = unless_counted c rest m.0 q (block_counted c rest m.0 q) m.2 in
      let apart = count_append c (stmt_indices x) (block_indices rest) in
      omega (arith, one, two, apart)

-- ---- pairs

abbrev pub tokens_of : Pairing → List ℕ
tokens_of pairs = map (λ (x : ℕ × NewInput). x.0) pairs

counts : (a : ℕ) (i : NewInput) (pairs : Pairing) → In (a, i) pairs → 1 ≤ count_of a (tokens_of pairs)
counts a i [] h = absurd h
counts a i (x ∷ pairs) h = elim h [
  | inl e ↦ (let s : (a == x.0) ≡ true = ap (λ (y : ℕ × NewInput). a == y.0) (sym e) ∙ same_self a in let c = ap (λ b. one_if b) s in omega (arith, c))
  | inr k ↦ (let l = counts a i pairs k in omega (arith, l))
]

-- a token that stands once has one input
pub one_input : (a : ℕ) (i j : NewInput) (pairs : Pairing) → count_of a (tokens_of pairs) ≤ 1 → In (a, i) pairs → In (a, j) pairs → i ≡ j
one_input a i j [] l h k = absurd h
one_input a i j (x ∷ pairs) l h k = elim h [
  | inl p ↦ elim k [
    | inl q ↦ ap (λ (y : ℕ × NewInput). y.1) (p ∙ sym q)
    | inr q ↦ absurd (twice a j x pairs (ap (λ (y : ℕ × NewInput). y.0) p) q l)
  ]
  | inr p ↦ elim k [
    | inl q ↦ absurd (twice a i x pairs (ap (λ (y : ℕ × NewInput). y.0) q) p l)
    | inr q ↦ one_input a i j pairs (let z = l in omega (arith, z)) p q
  ]
]
  where
    twice : (a : ℕ) (j : NewInput) (x : ℕ × NewInput) (pairs : Pairing) → a ≡ x.0 → In (a, j) pairs → count_of a (tokens_of (x ∷ pairs)) ≤ 1 → ⊥
    twice a j x pairs e q l =
        let s : (a == x.0) ≡ true = ap (λ z. a == z) (sym e) ∙ same_self a in
        let c = counts a j pairs q in
        let one = ap one_if s in
        omega (arith, c, one, l)
