-- The bytes of pairs of digits, from the first pair on.
use Rattle.std.proofs.Common.{◌≡◌, ◌≤◌, ◌++◌, ℕ, List, [], ◌∷◌, length, drop, slice_index_or, Option, Some, None, option_map, option_and_then, append_assoc, refl, sym, ap, ◌∙◌, arith}
use Rattle.packet_runs.specs.Packets.{byte_of, pairs_of}

-- one byte more before others
one_more : (so_far more : List ℕ) (byte : ℕ) → more ≡ so_far ++ (byte ∷ []) → (rest : Option (List ℕ)) → option_map (λ bs. more ++ bs) rest ≡ option_map (λ bs. so_far ++ bs) (option_map (λ bs. byte ∷ bs) rest)
one_more so_far more byte e None = refl
one_more so_far more byte e (Some bs) =
    let moved : (so_far ++ (byte ∷ [])) ++ bs ≡ so_far ++ (byte ∷ bs) = simp append_assoc in
    ap Some (ap (λ p. p ++ bs) e ∙ moved)

pub pair_read : (digits : List ℕ) (d e byte : ℕ) (so_far more : List ℕ) (all : Option (List ℕ)) → 2 ≤ length digits → byte_of (slice_index_or digits 0 d) (slice_index_or digits 1 e) ≡ Some byte
    → more ≡ so_far ++ (byte ∷ []) → option_map (λ bs. so_far ++ bs) (pairs_of digits) ≡ all → option_map (λ bs. more ++ bs) (pairs_of (drop 2 digits)) ≡ all
pair_read [] d e byte so_far more all l is p h = absurd (omega (arith, l))
pair_read (x ∷ []) d e byte so_far more all l is p h = absurd (omega (arith, l))
pair_read (x ∷ y ∷ rest) d e byte so_far more all l is p h =
    one_more so_far more byte p (pairs_of rest)
    ∙ sym (ap (λ o. option_map (λ bs. so_far ++ bs) (option_and_then (λ b. option_map (λ bs. b ∷ bs) (pairs_of rest)) o)) is)
    ∙ h

pub not_read : (digits : List ℕ) (d e : ℕ) (so_far : List ℕ) (all : Option (List ℕ)) → 2 ≤ length digits → byte_of (slice_index_or digits 0 d) (slice_index_or digits 1 e) ≡ None
    → option_map (λ bs. so_far ++ bs) (pairs_of digits) ≡ all → None ≡ all
not_read [] d e so_far all l is h = absurd (omega (arith, l))
not_read (x ∷ []) d e so_far all l is h = absurd (omega (arith, l))
not_read (x ∷ y ∷ rest) d e so_far all l is h = sym (ap (λ o. option_map (λ bs. so_far ++ bs) (option_and_then (λ b. option_map (λ bs. b ∷ bs) (pairs_of rest)) o)) is) ∙ h
