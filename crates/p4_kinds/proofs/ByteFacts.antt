-- Names of meta fields.
use Rattle.std.proofs.Common.{◌≡◌, ℕ, suc, ◌-◌, ◌==◌, ◌&&◌, ◌||◌, Bool, true, false, not, List, [], ◌∷◌, length, Option, Some, None, slice_get, refl, ap, sym, ◌∙◌, arith}
use Rattle.cocoon_num.specs.Lists.{each}
use Rattle.cocoon_num.specs.Tokens.{is_digit, is_letter, is_run_byte}
use Rattle.p4_ir.specs.P4Kinds.{last_is_digit, is_meta_name}
use Rattle.cocoon_num.specs.Names.{same_name}
use Rattle.p4_kinds.specs.Parts.{is_numbered}

-- whether this is a digit, if it is there
abbrev pub digit_at : Option ℕ → Bool
digit_at None = false
digit_at (Some b) = is_digit b

pub last_digit : (bs : List ℕ) → last_is_digit bs ≡ digit_at (slice_get bs (length bs - 1))
last_digit [] = refl
last_digit (b ∷ []) = refl
last_digit (b ∷ c ∷ bs) =
    let one_on : length (b ∷ c ∷ bs) - 1 ≡ suc (length (c ∷ bs) - 1) = omega arith in
    last_digit (c ∷ bs) ∙ ap (λ n. digit_at (slice_get (b ∷ c ∷ bs) n)) (sym one_on)

-- what a letter is already known to be is not asked again
letter_runs : (l d u r e : Bool) → (l && u && ((l || d) && r) && e) ≡ (l && u && r && e)
letter_runs true d u r e = refl
letter_runs false d u r e = refl

abbrev first_of : Option ℕ → List ℕ → Bool
first_of None bs = false
first_of (Some b) bs = is_letter b && not (b == 95) && each is_run_byte bs && last_is_digit bs

pub numbered : (bs : List ℕ) → is_numbered bs ≡ first_of (slice_get bs 0) bs
numbered [] = refl
numbered (b ∷ bs) = sym (letter_runs (is_letter b) (is_digit b) (not (b == 95)) (each is_run_byte bs) (last_is_digit (b ∷ bs)))

pub meta_named : (bs : List ℕ) → is_meta_name bs ≡ (same_name bs (115 ∷ 105 ∷ 116 ∷ 101 ∷ []) || is_numbered bs)
meta_named [] = refl
meta_named (b ∷ bs) = refl
