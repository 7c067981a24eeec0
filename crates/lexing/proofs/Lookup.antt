-- Reserved words and marks among some.
use Rattle.std.specs.Prelude.{◌≡◌, ℕ, ◌+◌, ◌<◌, ◌||◌, Bool, true, List, ◌∷◌, length, get_or, map, drop}
use Rattle.std.proofs.Common.{ap, sym, ◌∙◌, rules}
use Rattle.std.proofs.lemmas.List.{drop_more}
use Rattle.std.proofs.lemmas.Slice.Eq.{compares_Decides}
use Rattle.cocoon_num.specs.Lists.{is_one_of}
use Rattle.cocoon_num.specs.Names.{same_name}
use Rattle.cocoon_num.specs.Tokens as tokens

-- names that are the same are equal
pub same_bytes : (xs ys : List ℕ) → same_name xs ys ≡ true → xs ≡ ys
same_bytes xs ys = (compares_Decides same_name (search rules) xs ys).0

module _ {W : Type 0} (text_of : W → List ℕ) where
  -- to look for a run among some is to look at the next one and then at the others
  pub is_next : (ks : List W) (i : ℕ) (k : W) (run : List ℕ) → drop i ks ≡ k ∷ drop (i + 1) ks
      → is_one_of (map text_of (drop i ks)) run ≡ (same_name (text_of k) run || is_one_of (map text_of (drop (i + 1) ks)) run)
  is_next ks i k run e = ap (λ rest. is_one_of (map text_of rest) run) e

  -- the same for the marks with which a text begins
  pub begins_next : (ms : List W) (i : ℕ) (m : W) (text : List ℕ) → drop i ms ≡ m ∷ drop (i + 1) ms
      → tokens.beginning (map text_of (drop i ms)) text ≡ tokens.beginning (text_of m ∷ map text_of (drop (i + 1) ms)) text
  begins_next ms i m text e = ap (λ rest. tokens.beginning (map text_of rest) text) e

  -- the next one is the run
  pub one_is : (ks : List W) (i : ℕ) (k : W) (run spelled bytes : List ℕ) (whole : Bool) → i < length ks → k ≡ get_or ks i k → bytes ≡ spelled → spelled ≡ text_of k → true ≡ same_name bytes run
      → whole ≡ is_one_of (map text_of (drop i ks)) run → (text_of k ≡ run) × (whole ≡ true)
  one_is ks i k run spelled bytes whole within item e f h so_far =
      let same : same_name (text_of k) run ≡ true = ap (λ w. same_name w run) (sym (e ∙ f)) ∙ sym h in
      let next : drop i ks ≡ k ∷ drop (i + 1) ks = drop_more ks i k within ∙ ap (λ w. w ∷ drop (i + 1) ks) (sym item) in
      (same_bytes (text_of k) run same, so_far ∙ is_next ks i k run next ∙ ap (λ p. p || is_one_of (map text_of (drop (i + 1) ks)) run) same)
