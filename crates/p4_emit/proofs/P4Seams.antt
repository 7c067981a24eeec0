-- The seams of P4 texts: which bytes join what stands before them.
use Rattle.std.proofs.Common.{◌≡◌, ℕ, List, [], ◌∷◌, Bool, true, false, not, ◌&&◌, ◌||◌, refl, ap, ap₂, sym, subst, ◌∙◌, arith, inl, inr, Option}
use Rattle.std.specs.Prelude.{◌==◌, if◌then◌else◌}
use Rattle.std.proofs.lemmas.Bool.{cases_Bool, eqb-true, and_parts, false≢true}
use Rattle.std.proofs.lemmas.Bool.Decides.{nat_tests}
use Rattle.cocoon_num.specs.Names.{same_name}
use Rattle.cocoon_num.specs.Lists.{is_one_of}
use Rattle.cocoon_num.specs.Tokens.{Kind, a_name, mark, is_letter, is_run_byte, run_kind}
use Rattle.p4_ir.specs.P4Text.{p4_lexicon}
use Rattle.text_lines.proofs.Seams as seams
use Rattle.text_lines.proofs.Seams.{Seams, all_word_bytes, is_name}

abbrev pub extends : ℕ → Bool
extends b = (b == 61) || (b == 43) || (b == 38) || (b == 124)

pub words_part : (b : ℕ) → is_run_byte b ≡ true → not (extends b) ≡ true
words_part b h = grind (arith, nat_tests)

abbrev pub p4_seams : Seams
p4_seams = record { lexicon = p4_lexicon; extends = extends; marks_steady = refl; no_slash = refl; line_parts = refl; word_parts = words_part }

abbrev pub bare : List ℕ → Option (List Kind)
bare s = seams.bare p4_lexicon s

abbrev pub is_clear : List ℕ → Bool
is_clear s = seams.is_clear p4_seams s

abbrev pub is_apart : List ℕ → Bool
is_apart s = seams.is_apart p4_seams s

abbrev pub Spells : List ℕ → List Kind → Type 0
Spells s ks = seams.Spells p4_seams s ks

-- no mark begins with a letter
abbrev unlettered : List (List ℕ) → Bool
unlettered [] = true
unlettered ([] ∷ ms) = false
unlettered ((c ∷ m) ∷ ms) = not (is_letter c) && unlettered ms

no_mark : (ms : List (List ℕ)) (b : ℕ) (rest : List ℕ) → unlettered ms ≡ true → is_letter b ≡ true → is_one_of ms (b ∷ rest) ≡ false
no_mark [] b rest h l = refl
no_mark ([] ∷ ms) b rest h l = cc
no_mark ((c ∷ m) ∷ ms) b rest h l =
    let hs = and_parts (not (is_letter c)) (unlettered ms) h in
    let other : (c == b) ≡ false = elim (cases_Bool (c == b)) as (λ _. (c == b) ≡ false) [
      | inl e ↦ (let c_is : is_letter c ≡ true = ap is_letter (eqb-true c b e) ∙ l in let x : not true ≡ true = ap not (sym c_is) ∙ hs.0 in absurd (false≢true x))
      | inr e ↦ e
    ] in
    ap₂ (λ u v. (u && same_name m rest) || v) other (no_mark ms b rest hs.1 l)

pub word_spells : (w : List ℕ) → is_name w ≡ true → Spells w (a_name w ∷ [])
word_spells [] h = cc
word_spells (b ∷ rest) h =
    let k : run_kind p4_lexicon (b ∷ rest) ≡ a_name (b ∷ rest) = ap (λ m. if m then mark (b ∷ rest) else a_name (b ∷ rest)) (no_mark p4_lexicon.marks b rest refl (and_parts (is_letter b) (all_word_bytes rest) h).0) in
    subst (λ (x : Kind). Spells (b ∷ rest) (x ∷ [])) k (seams.word_spells p4_seams (b ∷ rest) h)
