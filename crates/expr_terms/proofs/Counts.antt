-- Counts of nodes, and sizes that are known.
use Rattle.std.proofs.Common.{◌≡◌, ◌⊎◌, inl, inr, ℕ, zero, suc, ◌<◌, ◌≤◌, ◌++◌, List, [], ◌∷◌, length, slice_get, reverse, Option, Some, None, option_map, refl, sym, ap, subst, ◌∙◌, arith}
use Rattle.std.proofs.lemmas.List.{length-append, take_all}
use Rattle.std.proofs.lemmas.Option.{slice_get_cases, slice_get_within}
use Rattle.cocoon_num.specs.Tree.{FunctionDecl, Design}
use Rattle.cocoon_types.specs.Design.{functions}
use Rattle.expr_terms.specs.Knowing.{KnowsFirst}
use Rattle.expr_terms.specs.Sizes.{AreSizes, IsCount, body_nodes, call_nodes, functions_before}

pub one_counts : IsCount 1 (Some 1)
one_counts = (refl, omega arith)

pub zero_counts : IsCount 0 (Some 0)
zero_counts = (refl, omega arith)

pub none_past : {A : Type 0} (xs : List A) (n : ℕ) → slice_get xs n ≡ None → length xs ≤ n
none_past xs n h = elim (slice_get_cases xs n).1 [
  | inl t ↦ absurd (let e = t.2 in cc)
  | inr t ↦ t.0
]

pub none_there : {A B : Type 0} (f : A → B) (r : Option A) (s : Option B) → option_map f r ≡ s → r ≡ None → s ≡ None
none_there f r s h e = sym h ∙ ap (option_map f) e

split : (xs : List (Option ℕ)) (x y : Option ℕ) (k : ℕ) → slice_get (xs ++ x ∷ []) k ≡ Some y → (slice_get xs k ≡ Some y) ⊎ ((k ≡ length xs) × (x ≡ y))
split [] x y zero h = inr (refl, cc)
split [] x y (suc k) h = absurd cc
split (z ∷ xs) x y zero h = inl h
split (z ∷ xs) x y (suc k) h = elim (split xs x y k h) [ inl a ↦ inl a | inr b ↦ inr (ap suc b.0, b.1) ]

-- before the first size
pub none_known : (d : Design) → KnowsFirst d []
none_known d = record { few = omega arith; before = omega arith; each_ = λ k g size is has. absurd (cc) }

-- one size more
pub knows_more : (d : Design) (sizes : List (Option ℕ)) (g : FunctionDecl) (size : Option ℕ) → KnowsFirst d sizes → slice_get (functions d) (length sizes) ≡ Some g → length sizes < 128
    → IsCount (body_nodes (call_nodes (functions_before d (length sizes))) g.body) size → KnowsFirst d (sizes ++ size ∷ [])
knows_more d sizes g size knows at few count =
    let longer = length-append sizes (size ∷ []) in
    let within : length sizes < length (functions d) = slice_get_within (functions d) (length sizes) g at in
    record {
      few = omega (arith, longer, few);
      before = omega (arith, longer, within);
      each_ = λ k f s is has. elim (split sizes size s k has) [
        | inl a ↦ knows.each_ k f s is a
        | inr b ↦
            let here : slice_get (functions d) (length sizes) ≡ Some f = ap (slice_get (functions d)) (sym b.0) ∙ is in
            let same : g ≡ f = cc in
            subst (IsCount (body_nodes (call_nodes (functions_before d k)) f.body)) b.1
            (subst (λ j. IsCount (body_nodes (call_nodes (functions_before d j)) f.body) size) (sym b.0)
            (subst (λ (x : FunctionDecl). IsCount (body_nodes (call_nodes (functions_before d (length sizes))) x.body) size) same count))
      ];
    }

-- the sizes of all functions
pub all_known : (d : Design) (sizes : List (Option ℕ)) → KnowsFirst d sizes → slice_get (functions d) (length sizes) ≡ None → AreSizes d sizes
all_known d sizes knows end =
    let past = none_past (functions d) (length sizes) end in
    let before = knows.before in
    record { count = omega (arith, past, before); each_ = knows.each_ }

pub knows_all : (d : Design) (sizes : List (Option ℕ)) → AreSizes d sizes → length (functions d) ≤ 128 → KnowsFirst d sizes
knows_all d sizes are few =
    let count = are.count in
    record { few = omega (arith, count, few); before = omega (arith, count); each_ = are.each_ }

pub all_before : (d : Design) (n : ℕ) → n ≡ length (functions d) → functions_before d n ≡ reverse (functions d)
all_before d n e = ap reverse (take_all n (functions d) (omega (arith, e)))
