-- What noting one more row leaves: for lists of numbers as keys of a map.
use Rattle.std.proofs.Common.{◌≡◌, ℕ, Bool, true, false, cond, ◌==◌, ◌&&◌, List, [], ◌∷◌, Vec, Global, Option, refl, sym, ap, subst, ◌∙◌, BTreeMap}
use Rattle.std.specs.Prelude.{bytes_eq}
use Rattle.std.specs.Ordering.{is_eq, nat_cmp, eq_by_cmp}
use Rattle.std.specs.Cmp.{eq_by_cmp_equiv}
use Rattle.std.specs.Cmp.Lexicographic.{slice_cmp, bytes_decides, nat_list_cmp_total}
use Rattle.std.specs.Map.{lookup, KeepsOthers, IsKeyTest, AreApart}
use Rattle.std.specs.BTreeMap.{get_by, is_at, UpdatesBy}
use Rattle.std.proofs.lemmas.Map.Text.{is_eq-slice_cmp}
use Rattle.cocoon_num.specs.Names.{same_name}
use Rattle.row_search.proofs.PairFacts.{key_cmp}

bytes_same : (x y : List ℕ) → bytes_eq x y ≡ same_name x y
bytes_same [] [] = refl
bytes_same [] (b ∷ y) = refl
bytes_same (a ∷ x) [] = refl
bytes_same (a ∷ x) (b ∷ y) = ap (λ t. (a == b) && t) (bytes_same x y)

pub same_true : (x y : List ℕ) → same_name x y ≡ true → x ≡ y
same_true x y h = (bytes_decides x y).0 (bytes_same x y ∙ h)

pub same_compare : (x y : List ℕ) → is_eq (slice_cmp nat_cmp x y) ≡ same_name x y
same_compare x y = is_eq-slice_cmp x y ∙ bytes_same x y

abbrev value_at : BTreeMap (Vec ℕ Global) ℕ → List ℕ → Option ℕ
value_at m x = get_by (λ (k : Vec ℕ Global). slice_cmp nat_cmp x k.items) m

other_values : (test : Vec ℕ Global → Bool) (old new : List (Vec ℕ Global × ℕ)) → KeepsOthers (eq_by_cmp key_cmp) test old new
    → (other : Vec ℕ Global → Bool) → IsKeyTest (eq_by_cmp key_cmp) other → AreApart test other → lookup other new ≡ lookup other old
unfolding KeepsOthers
other_values test old new h = h

apart : (x y k : List ℕ) → same_name x y ≡ false → is_eq (slice_cmp nat_cmp y k) ≡ true → is_eq (slice_cmp nat_cmp x k) ≡ false
apart x y k n h = same_compare x k ∙ subst (λ l. same_name x l ≡ false) (same_true y k (sym (same_compare y k) ∙ h)) n

-- what an insertion leaves under each list
pub value_updated : (m n : BTreeMap (Vec ℕ Global) ℕ) (k : Vec ℕ Global) (w : Option ℕ) → UpdatesBy key_cmp (key_cmp k) m n w
    → (x : List ℕ) → value_at n x ≡ cond (same_name x k.items) w (value_at m x)
value_updated m n k w h x = by (same_name x k.items) refl
  where
    by : (b : Bool) → same_name x k.items ≡ b → value_at n x ≡ cond (same_name x k.items) w (value_at m x)
    by true e = ap (value_at n) (same_true x k.items e) ∙ h.1 ∙ sym (ap (λ c. cond c w (value_at m x)) e)
    by false e = other_values (is_at (key_cmp k)) m.entries n.entries h.3 (is_at (λ q. slice_cmp nat_cmp x q.items)) (λ p q. (eq_by_cmp_equiv nat_list_cmp_total).congr x p.items q.items) (λ q. apart x k.items q.items e)
        ∙ sym (ap (λ c. cond c w (value_at m x)) e)
