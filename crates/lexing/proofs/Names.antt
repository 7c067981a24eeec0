-- Runs that are no marks and not reserved.
use Rattle.std.specs.Prelude.{◌≡◌, ℕ, ◌==◌, ◌&&◌, Bool, true, false, not, List, [], ◌∷◌, ◌++◌, refl}
use Rattle.std.proofs.Common.{ap, sym, ◌∙◌}
use Rattle.std.proofs.lemmas.Bool.Decides.{Decides-eqb}
use Rattle.cocoon_num.specs.Lists.{each, is_one_of}
use Rattle.cocoon_num.specs.Names.{same_name}
use Rattle.cocoon_num.specs.Tokens as tokens

-- a text that begins with no letter
abbrev pub begins_plainly : List ℕ → Bool
begins_plainly [] = true
begins_plainly (x ∷ xs) = not (tokens.is_letter x)

-- a letter is not a byte that is none
differs_at : (x : ℕ) (xs : List ℕ) (b : ℕ) (w : List ℕ) (t : Bool) → (x == b) ≡ t → not (tokens.is_letter x) ≡ true → tokens.is_letter b ≡ true → (t && same_name xs w) ≡ false
differs_at x xs b w false e p l = refl
differs_at x xs b w true e p l =
    let same : x ≡ b = (Decides-eqb x b).0 e in
    let letter : tokens.is_letter x ≡ true = ap tokens.is_letter same ∙ l in
    let wrong : false ≡ true = ap not (sym letter) ∙ p in
    absurd cc

-- a text that begins with no letter is no run that begins with one
differs : (xs : List ℕ) (b : ℕ) (w : List ℕ) → begins_plainly xs ≡ true → tokens.is_letter b ≡ true → same_name xs (b ∷ w) ≡ false
differs [] b w p l = refl
differs (x ∷ xs) b w p l = rw (differs_at x xs b w (x == b) refl p l) refl

-- both parts of a test hold
both : (p q : Bool) → (p && q) ≡ true → (p ≡ true) × (q ≡ true)
both true q e = (refl, e)
both false q e = absurd cc

-- marks that begin with no letter are no run that begins with one
pub no_mark : (ms ns : List (List ℕ)) (b : ℕ) (w : List ℕ) → each begins_plainly ms ≡ true → tokens.is_letter b ≡ true → is_one_of (ms ++ ns) (b ∷ w) ≡ is_one_of ns (b ∷ w)
no_mark [] ns b w p l = refl
no_mark (m ∷ ms) ns b w p l = rw (differs m b w (both (begins_plainly m) (each begins_plainly ms) p).0 l) (no_mark ms ns b w (both (begins_plainly m) (each begins_plainly ms) p).1 l)

-- a run that is no mark and not reserved is a name
pub of_neither : (x : tokens.Lexicon) (w : List ℕ) → is_one_of x.marks w ≡ false → is_one_of x.reserved w ≡ false → tokens.a_name w ≡ tokens.run_kind x w
of_neither x w m r = rw (m, r) refl
