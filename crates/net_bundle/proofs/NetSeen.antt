-- Lists of files of a bundle, and of ascending numbers.
use Rattle.std.proofs.Common.{◌≡◌, ◌≤◌, ◌<◌, ℕ, zero, suc, false, List, [], ◌∷◌, map, drop, length, refl, sym, ap, ◌∙◌, inl, inr, arith}
use Rattle.std.specs.Prelude.{◌==◌}
use Rattle.std.proofs.lemmas.Bool.Decides.{eqb_tells}
use Rattle.net_bundle.specs.NetFileOf.{kept_of}
use Rattle.net_bundle.specs.declared.net_json.KeptDigest.{KeptDigest}
use Rattle.net_bundle.specs.NetForm.{are_names}

-- no file is left
pub files_done : (files : List KeptDigest) (i : ℕ) → length files ≤ i → drop i files ≡ []
files_done [] zero h = refl
files_done [] (suc i) h = refl
files_done (k ∷ ks) zero h = absurd (omega (arith, h))
files_done (k ∷ ks) (suc i) h = files_done ks i (omega (arith, h))

more_of : (files : List KeptDigest) (i : ℕ) → i < length files → are_names [] (map kept_of (drop i files)) ≡ false
more_of [] zero h = absurd (omega (arith, h))
more_of [] (suc i) h = absurd (omega (arith, h))
more_of (k ∷ ks) zero h = refl
more_of (k ∷ ks) (suc i) h = more_of ks i (omega (arith, h))

-- at the end, no file is left where all have their names
pub files_end : (files : List KeptDigest) (i : ℕ) → i ≤ length files → are_names [] (map kept_of (drop i files)) ≡ (i == length files)
files_end files i h = elim (eqb_tells i (length files)) [
  | inl p ↦ ap (λ (ks : List KeptDigest). are_names [] (map kept_of ks)) (files_done files i (omega (arith, p.1))) ∙ sym p.0
  | inr p ↦ let less : i < length files = omega (arith, h, p.1) in more_of files i less ∙ sym p.0
]
