-- Sets of functions: what they hold, and with one more.
use Rattle.std.proofs.Common.{◌≡◌, arith, ℕ, ◌==◌, ◌||◌, Bool, true, false, List, ◌∷◌, Some, None, refl, sym, ap, ◌∙◌}
use Rattle.std.proofs.lemmas.Bool.Decides.{nat_tests}
use Rattle.cocoon_num.specs.Tree.{Design}
use Rattle.cocoon_num.specs.Names.{same_name}
use Rattle.cocoon_num.specs.Lists.{is_one_of}
use Rattle.declarations.specs.Declares.{function_number, function_texts}
use Rattle.cocoon_types.specs.Design.{functions}
use Rattle.runtime_defs.specs.declared.function_set.FunctionSet.{FunctionSet}
use Rattle.runtime_defs.specs.Sets.{has_flag, Holds}
use Rattle.runtime_defs.proofs.Numbers.{index-same, same-refl, same-true}

-- the same set by other names
pub holds-alike : (d : Design) (set : FunctionSet) (fs gs : List (List ℕ)) → ((x : List ℕ) → is_one_of fs x ≡ is_one_of gs x) → Holds d fs set → Holds d gs set
holds-alike d set fs gs same h x n e = h x n e ∙ same x

eq-true : (m n : ℕ) → (m == n) ≡ true → m ≡ n
eq-true m n h = grind (arith, nat_tests, h)

-- what flags say of the functions of a design
abbrev HoldsFlags : Design → List (List ℕ) → List Bool → Type 0
HoldsFlags d fs flags = (x : List ℕ) (n : ℕ) → function_number d x ≡ Some n → has_flag flags n ≡ is_one_of fs x

-- one function more
pub holds-more : (d : Design) (fs : List (List ℕ)) (old new : List Bool) (y : List ℕ) (m : ℕ) → function_number d y ≡ Some m
    → has_flag new m ≡ true → ((i : ℕ) → (i == m) ≡ false → has_flag new i ≡ has_flag old i)
    → HoldsFlags d fs old → HoldsFlags d (y ∷ fs) new
holds-more d fs old new y m known there others h x n e = by (n == m) refl (same_name y x) refl
  where
    by : (b : Bool) → (n == m) ≡ b → (c : Bool) → same_name y x ≡ c → has_flag new n ≡ is_one_of (y ∷ fs) x
    by true p true q = ap (has_flag new) (eq-true n m p) ∙ there ∙ sym (ap (λ t. t || is_one_of fs x) q)
    by true p false q = absurd (false-true (sym q ∙ ap (same_name y) (sym (index-same (function_texts (functions d)) y x m known (e ∙ ap Some (eq-true n m p)))) ∙ same-refl y))
      where
        false-true : false ≡ true → ⊥
        false-true h = cc
    by false p true q = absurd (apart p (number-same (sym e ∙ ap (function_number d) (sym (same-true y x q)) ∙ known)))
      where
        number-same : Some n ≡ Some m → n ≡ m
        number-same h = cc

        apart : (n == m) ≡ false → n ≡ m → ⊥
        apart h k = grind (arith, nat_tests, h, k)
    by false p false q = others n p ∙ h x n e ∙ sym (ap (λ t. t || is_one_of fs x) q)

-- a name that stands for no function
pub holds-unknown : (d : Design) (fs : List (List ℕ)) (set : List Bool) (y : List ℕ) → function_number d y ≡ None → HoldsFlags d fs set → HoldsFlags d (y ∷ fs) set
holds-unknown d fs set y unknown h x n e = by (same_name y x) refl
  where
    by : (c : Bool) → same_name y x ≡ c → has_flag set n ≡ is_one_of (y ∷ fs) x
    by true q = absurd (none-some (sym unknown ∙ ap (function_number d) (same-true y x q) ∙ e))
      where
        none-some : None ≡ Some n → ⊥
        none-some h = cc
    by false q = h x n e ∙ sym (ap (λ t. t || is_one_of fs x) q)
