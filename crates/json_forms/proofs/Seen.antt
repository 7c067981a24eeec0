-- Values, seen as JSON data, and lists of keys.
use Rattle.std.proofs.Common.{◌≡◌, ◌≤◌, ◌<◌, ℕ, zero, suc, false, List, [], ◌∷◌, map, drop, length, Bor, refl, sym, ap, ◌∙◌, inl, inr, arith}
use Rattle.std.specs.Prelude.{◌==◌}
use Rattle.std.proofs.lemmas.Bool.Decides.{eqb_tells}
use Rattle.serde_json.specs.Data.{no_members}
use Rattle.serde_json.specs.Events.{items_len}
use Rattle.serde_json.specs.View.{items_view}
use Rattle.serde_json.specs.declared.value.Value.{Value}
use Rattle.json_forms.specs.Forms.{are_keys}

-- an array has as many items as values
pub items_len_view : (vs : List Value) → items_len (items_view vs) ≡ length vs
items_len_view [] = refl
items_len_view (v ∷ vs) = ap suc (items_len_view vs)

-- no key is left
pub keys_done : (keys : List (Bor (List ℕ))) (i : ℕ) → length keys ≤ i → drop i keys ≡ []
keys_done [] zero h = refl
keys_done [] (suc i) h = refl
keys_done (k ∷ ks) zero h = absurd (omega (arith, h))
keys_done (k ∷ ks) (suc i) h = keys_done ks i (omega (arith, h))

short_of : (keys : List (Bor (List ℕ))) (i : ℕ) → i < length keys → are_keys (map (λ k. k.now) (drop i keys)) no_members ≡ false
short_of [] zero h = absurd (omega (arith, h))
short_of [] (suc i) h = absurd (omega (arith, h))
short_of (k ∷ ks) zero h = refl
short_of (k ∷ ks) (suc i) h = short_of ks i (omega (arith, h))

-- at the end, no key is left where all were met
pub keys_end : (keys : List (Bor (List ℕ))) (i : ℕ) → i ≤ length keys → are_keys (map (λ k. k.now) (drop i keys)) no_members ≡ (i == length keys)
keys_end keys i h = elim (eqb_tells i (length keys)) [
  | inl p ↦ ap (λ (ks : List (Bor (List ℕ))). are_keys (map (λ k. k.now) ks) no_members) (keys_done keys i (omega (arith, p.1))) ∙ sym p.0
  | inr p ↦ let less : i < length keys = omega (arith, h, p.1) in short_of keys i less ∙ sym p.0
]
