-- One limit at most is the first that a design is over, and there is none exactly where it is within all of them.
use Rattle.std.specs.Prelude.{◌≡◌, ℕ, ◌⊎◌, List, [], ◌∷◌, ◌++◌, Option, Some, None, refl}
use Rattle.std.proofs.Common.{sym, ◌∙◌, ap, subst, inl, inr}
use Rattle.cocoon_num.specs.declared.limit_name.LimitName.{LimitName}
use Rattle.cocoon_num.specs.Tree.{Design}
use Rattle.cocoon_types.specs.Limits.{counts, most, limits, first_above, Over, IsWithin, AreWithin, FirstOver, WithinLimits}

-- what is above is not within
over_not_within : (d : Design) (x y : LimitName) (n : ℕ) → x ≡ y → Over d x n → IsWithin d y → ⊥
over_not_within d x y n e o w = none_some (sym (subst (IsWithin d) (sym e) w) ∙ o)
  where
    none_some : ◌≡◌ {A = Option ℕ} None (Some n) → ⊥
    none_some h = cc

-- a limit has one first count over it
one_count : (d : Design) (x y : LimitName) (m n : ℕ) → x ≡ y → Over d x m → Over d y n → m ≡ n
one_count d x y m n e o p = same_some (sym o ∙ subst (λ z. Over d z n) (sym e) p)
  where
    same_some : ◌≡◌ {A = Option ℕ} (Some m) (Some n) → m ≡ n
    same_some h = cc

heads : (x y : LimitName) (xs ys : List LimitName) → x ∷ xs ≡ y ∷ ys → x ≡ y
heads x y xs ys h = cc

tails : (x y : LimitName) (xs ys : List LimitName) → x ∷ xs ≡ y ∷ ys → xs ≡ ys
tails x y xs ys h = cc

-- two first ones in one list are one
agree : (d : Design) (before others after rest : List LimitName) (x y : LimitName) (m n : ℕ) → before ++ (x ∷ after) ≡ others ++ (y ∷ rest)
    → AreWithin d before → AreWithin d others → Over d x m → Over d y n → (x ≡ y) × (m ≡ n)
agree d [] [] after rest x y m n e v w o p = (heads x y after rest e, one_count d x y m n (heads x y after rest e) o p)
agree d [] (z ∷ others) after rest x y m n e v w o p = absurd (over_not_within d x z m (heads x z after (others ++ (y ∷ rest)) e) o w.0)
agree d (z ∷ before) [] after rest x y m n e v w o p = absurd (over_not_within d y z n (sym (heads z y (before ++ (x ∷ after)) rest e)) p v.0)
agree d (z ∷ before) (u ∷ others) after rest x y m n e v w o p =
    agree d before others after rest x y m n (tails z u (before ++ (x ∷ after)) (others ++ (y ∷ rest)) e) v.1 w.1 o p

pub one_first_over : (d : Design) (x y : LimitName) (m n : ℕ) → FirstOver d x m → FirstOver d y n → (x ≡ y) × (m ≡ n)
one_first_over d x y m n f g = agree d f.before g.before f.after g.after x y m n (sym f.order ∙ g.order) f.within g.within f.over g.over

-- of limits that are kept, no one is exceeded
kept : (d : Design) (before after : List LimitName) (x : LimitName) (n : ℕ) → AreWithin d (before ++ (x ∷ after)) → Over d x n → ⊥
kept d [] after x n w o = over_not_within d x x n refl o w.0
kept d (z ∷ before) after x n w o = kept d before after x n w.1 o

pub within_is_not_over : (d : Design) (x : LimitName) (n : ℕ) → WithinLimits d → FirstOver d x n → ⊥
within_is_not_over d x n w f = kept d f.before f.after x n (subst (AreWithin d) f.order w) f.over

-- a first one in a list
FirstIn : Design → List LimitName → Type 0
FirstIn d xs = (x : LimitName) × (n : ℕ) × (before : List LimitName) × (after : List LimitName) × (xs ≡ before ++ (x ∷ after)) × AreWithin d before × Over d x n

-- the limits of a list are kept, or one is the first that is not
either_way : (d : Design) (xs : List LimitName) → AreWithin d xs ⊎ FirstIn d xs
unfolding FirstIn
either_way d [] = inl tt
either_way d (x ∷ xs) = by_count (first_above (most x) (counts d x)) refl (either_way d xs)
  where
    by_count : (o : Option ℕ) → first_above (most x) (counts d x) ≡ o → AreWithin d xs ⊎ FirstIn d xs → AreWithin d (x ∷ xs) ⊎ FirstIn d (x ∷ xs)
    by_count (Some n) e h = inr (x, n, [], xs, refl, tt, e)
    by_count None e (inl w) = inl (e, w)
    by_count None e (inr f) = inr (f.0, f.1, x ∷ f.2, f.3, ap (λ ys. x ∷ ys) f.4, (e, f.5), f.6)

pub not_over_is_within : (d : Design) → ((x : LimitName) (n : ℕ) → FirstOver d x n → ⊥) → WithinLimits d
unfolding FirstIn
not_over_is_within d h = elim (either_way d limits) [
  | inl w ↦ w
  | inr f ↦ absurd (h f.0 f.1 (record { before = f.2; after = f.3; order = f.4; within = f.5; over = f.6 }))
]
