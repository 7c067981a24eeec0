-- What is counted of a call of a function, by its name.
use Rattle.std.specs.Prelude.{IfSome, ◌⊎◌}
use Rattle.std.proofs.Common.{◌≡◌, inl, inr, ℕ, ◌++◌, zero, suc, ◌+◌, ◌<◌, ◌≤◌, List, [], ◌∷◌, length, slice_get, Bool, true, false, Option, Some, None, if◌then◌else◌, refl, sym, ap, subst, ◌∙◌, arith}
use Rattle.cocoon_num.specs.Names.{same_name}
use Rattle.cocoon_num.specs.Tree.{FunctionDecl, Design}
use Rattle.cocoon_types.specs.Design.{functions}
use Rattle.lowering.specs.Counting.{call_count, closed_count, expr_count, group_count}
use Rattle.lower_code.specs.Scopes.{function_count, functions_before, KnowsCounts, number_in}
use Rattle.lower_code.proofs.Found.{before_count, before_more, plus_one, there}

-- what is counted of a call of the function of this number, by its name
pub record CountAt (part : ℕ) (d : Design) (before : ℕ) (f : List ℕ) (k : ℕ) : Type 0 where
  pub within : k < before
  pub function : FunctionDecl
  pub is : slice_get (functions d) k ≡ Some function
  pub call : call_count part (functions_before d before) f ≡ function_count part d k function
  pub group : group_count (functions_before d before) f ≡ 1

one_more : (part : ℕ) (d : Design) (before : ℕ) (f : List ℕ) (k : ℕ) (g : FunctionDecl) (b : Bool) → slice_get (functions d) before ≡ Some g → same_name f g.name.text ≡ b
    → (if b then Some (length (functions_before d before)) else number_in (functions_before d before) f) ≡ Some k
    → (number_in (functions_before d before) f ≡ Some k → CountAt part d before f k) → CountAt part d (before + 1) f k
one_more part d before f k g true h e is inner =
    let counted : length (functions_before d before) ≡ k = cc in
    let same : before ≡ k = sym (before_count d before g h) ∙ counted in
    subst (λ m. CountAt part d (before + 1) f m) same (record {
      within = omega arith;
      function = g;
      is = h;
      call = ap (λ fs. call_count part fs f) (before_more d before g h)
          ∙ ap (λ b. if b then function_count part d before g else call_count part (functions_before d before) f) e;
      group = ap (λ fs. group_count fs f) (before_more d before g h)
          ∙ ap (λ b. if b then 1 else group_count (functions_before d before) f) e;
    })
one_more part d before f k g false h e is inner =
    let r = inner is in
    let l : k < before = r.within in
    record {
      within = omega arith;
      function = r.function;
      is = r.is;
      call = ap (λ fs. call_count part fs f) (before_more d before g h)
          ∙ ap (λ b. if b then function_count part d before g else call_count part (functions_before d before) f) e ∙ r.call;
      group = ap (λ fs. group_count fs f) (before_more d before g h)
          ∙ ap (λ b. if b then 1 else group_count (functions_before d before) f) e ∙ r.group;
    }

pub count_at : (part : ℕ) (d : Design) (before : ℕ) (f : List ℕ) (k : ℕ) → before ≤ length (functions d) → number_in (functions_before d before) f ≡ Some k → CountAt part d before f k
count_at part d zero f k l is = absurd (cc)
count_at part d (suc n) f k l is =
    let g = there (functions d) n (omega arith) in
    subst (λ m. CountAt part d m f k) (plus_one n)
    (one_more part d n f k g.0 (same_name f g.0.name.text) g.1 refl
    (sym (ap (λ fs. number_in fs f) (before_more d n g.0 g.1)) ∙ ap (λ m. number_in (functions_before d m) f) (plus_one n) ∙ is)
    (λ h. count_at part d n f k (omega arith) h))

-- a name that stands for none
abbrev pub NoCount : (part : ℕ) → List FunctionDecl → List ℕ → Type 0
NoCount part fs f = (call_count part fs f ≡ 0) × (group_count fs f ≡ 0)

past_one : (part : ℕ) (g : FunctionDecl) (fs : List FunctionDecl) (f : List ℕ) (b : Bool) → same_name f g.name.text ≡ b
    → (if b then Some (length fs) else number_in fs f) ≡ None → (number_in fs f ≡ None → NoCount part fs f) → NoCount part (g ∷ fs) f
past_one part g fs f true e k inner = absurd (cc)
past_one part g fs f false e k inner =
    let r = inner k in (
      ap (λ b. if b then elim g.body [ None ↦ 1 | Some e ↦ closed_count part (length g.params) (expr_count part (call_count part fs) e) ] else call_count part fs f) e ∙ r.0,
      ap (λ b. if b then 1 else group_count fs f) e ∙ r.1,
    )

pub no_count_at : (part : ℕ) (fs : List FunctionDecl) (f : List ℕ) → number_in fs f ≡ None → NoCount part fs f
no_count_at part [] f h = (refl, refl)
no_count_at part (g ∷ fs) f h = past_one part g fs f (same_name f g.name.text) refl h (λ k. no_count_at part fs f k)

-- ---- counts that are kept

split : (xs : List (Option ℕ)) (x : Option ℕ) (k n : ℕ) → slice_get (xs ++ x ∷ []) k ≡ Some (Some n) → (slice_get xs k ≡ Some (Some n)) ⊎ ((k ≡ length xs) × (x ≡ Some n))
split [] x zero n h = inr (refl, cc)
split [] x (suc zero) n h = absurd cc
split [] x (suc (suc k)) n h = absurd cc
split (y ∷ xs) x zero n h = inl h
split (y ∷ xs) x (suc k) n h = elim (split xs x k n h) [ inl a ↦ inl a | inr b ↦ inr (ap suc b.0, b.1) ]

counted : (count : Option ℕ) (n m : ℕ) → IfSome count (λ k. k ≡ m) → count ≡ Some n → n ≡ m
counted None n m h e = absurd cc
counted (Some k) n m h e = let same : k ≡ n = cc in sym same ∙ h

-- one count more
pub knows_more : (part : ℕ) (d : Design) (known : List (Option ℕ)) (number : ℕ) (count : Option ℕ) → length known ≡ number → KnowsCounts part d known
    → ((g : FunctionDecl) → slice_get (functions d) number ≡ Some g → IfSome count (λ n. n ≡ function_count part d number g)) → KnowsCounts part d (known ++ count ∷ [])
knows_more part d known number count l h new k n g at has = elim (split known count k n has) [
  | inl a ↦ h k n g at a
  | inr b ↦
      let same : k ≡ number = b.0 ∙ l in
      counted count n (function_count part d number g) (new g (ap (slice_get (functions d)) (sym same) ∙ at)) b.1 ∙ ap (λ j. function_count part d j g) (sym same)
]
