-- Of the tokens of a text, one is at fault at most, and none is where they are those of a tree.
use Rattle.std.specs.Prelude.{◌≡◌, ℕ, suc, ◌<◌, ◌&&◌, Bool, true, false, List, [], ◌∷◌, length, take, nat_le, refl}
use Rattle.std.proofs.Common.{sym, ◌∙◌, arith, inl, inr}
use Rattle.std.proofs.lemmas.Bool.{cases_lt}
use Rattle.cocoon_num.specs.Tokens.{Kind, Bounds, brackets_after, operators_after, is_shallow, none_deep}
use Rattle.cocoon_num.specs.FirstFaults.{TooDeep, Unexpected}
use Rattle.p4_ir.specs.P4Text.{p4_bounds}
use Rattle.p4_texts.specs.Reading.{DeepAt}
use Rattle.p4_texts.specs.Written.{BeginsP4, P4TextAt, ProgramText}
use Rattle.p4_read.proofs.Prefixes.{shallow_before, take_begins, take_shallow, text_begins}

-- of two numbers that are not less than each other
same_number : (i j : ℕ) → (i < j → ⊥) → (j < i → ⊥) → i ≡ j
same_number i j f g = elim (cases_lt i j) [
  | inl l ↦ absurd (f l)
  | inr l ↦ elim (cases_lt j i) [ inl m ↦ absurd (g m) | inr m ↦ omega arith ]
]

unexpected_first : (ks : List Kind) (i j : ℕ) → Unexpected p4_bounds BeginsP4 ks i → Unexpected p4_bounds BeginsP4 ks j → i < j → ⊥
unexpected_first ks i j u v l = u.none_with (take_begins ks (suc i) j (omega arith) v.before)

pub one_unexpected : (ks : List Kind) (i j : ℕ) → Unexpected p4_bounds BeginsP4 ks i → Unexpected p4_bounds BeginsP4 ks j → i ≡ j
one_unexpected ks i j u v = same_number i j (unexpected_first ks i j u v) (unexpected_first ks j i v u)

deep_and_shallow : (ks : List Kind) (i j : ℕ) → i < j → is_shallow p4_bounds (take (suc i) ks) ≡ false → is_shallow p4_bounds (take j ks) ≡ true → ⊥
deep_and_shallow ks i j l h g = let no : false ≡ true = sym h ∙ take_shallow ks (suc i) j (omega arith) g in cc

pub one_deep : (ks : List Kind) (i j : ℕ) → TooDeep p4_bounds BeginsP4 ks i → TooDeep p4_bounds BeginsP4 ks j → i ≡ j
one_deep ks i j u v = same_number i j (λ l. deep_and_shallow ks i j l u.deep v.before) (λ l. deep_and_shallow ks j i l v.deep u.before)

pub not_both : (ks : List Kind) (i j : ℕ) → Unexpected p4_bounds BeginsP4 ks i → TooDeep p4_bounds BeginsP4 ks j → ⊥
not_both ks i j u v = elim (cases_lt j i) [
  | inl l ↦ deep_and_shallow ks j i l v.deep u.shallow
  | inr l ↦ u.none_with (take_begins ks (suc i) (suc j) (omega arith) v.begins)
]

pub text_expected : (ks : List Kind) (t : ProgramText) (i : ℕ) → P4TextAt ks t → Unexpected p4_bounds BeginsP4 ks i → ⊥
text_expected ks t i p u = u.none_with (text_begins ks t (suc i) p)

pub text_not_deep : (ks : List Kind) (i : ℕ) → is_shallow p4_bounds ks ≡ true → TooDeep p4_bounds BeginsP4 ks i → ⊥
text_not_deep ks i h u = let no : false ≡ true = sym u.deep ∙ shallow_before ks (suc i) h in cc

-- ---- the first deep token

record DeepFrom (bounds : Bounds) (b o : ℕ) (ks : List Kind) : Type 0 where
  at : ℕ
  within : at < length ks
  before : none_deep bounds b o (take at ks) ≡ true
  deep : none_deep bounds b o (take (suc at) ks) ≡ false

deep_here : (bounds : Bounds) (b o : ℕ) (k : Kind) (ks : List Kind) (x : Bool) → (nat_le (brackets_after b k) bounds.open_most && nat_le (operators_after bounds.operators o k) bounds.operators_most) ≡ x
    → none_deep bounds b o (k ∷ ks) ≡ false
    → (none_deep bounds (brackets_after b k) (operators_after bounds.operators o k) ks ≡ false → DeepFrom bounds (brackets_after b k) (operators_after bounds.operators o k) ks) → DeepFrom bounds b o (k ∷ ks)
deep_here bounds b o k ks true e h later =
    let r = later (rw e at h) in
    record { at = suc r.at; within = let w = r.within in omega arith; before = rw e r.before; deep = rw e r.deep }
deep_here bounds b o k ks false e h later = record { at = 0; within = omega arith; before = refl; deep = rw e refl }

deep_from : (bounds : Bounds) (b o : ℕ) (ks : List Kind) → none_deep bounds b o ks ≡ false → DeepFrom bounds b o ks
deep_from bounds b o [] h = absurd (let no : true ≡ false = h in cc)
deep_from bounds b o (k ∷ ks) h = deep_here bounds b o k ks _ refl h (deep_from bounds (brackets_after b k) (operators_after bounds.operators o k) ks)

pub first_deep : (ks : List Kind) → is_shallow p4_bounds ks ≡ false → (d : ℕ) × DeepAt ks d
first_deep ks h = let r = deep_from p4_bounds 0 0 ks h in (r.at, record { within = r.within; before = r.before; deep = r.deep })
