-- How texts are put together: parts, which may stand after a mark or a blank, and lines, which may stand after anything.
use Rattle.std.proofs.Common.{◌≡◌, ℕ, zero, suc, List, [], ◌∷◌, ◌++◌, Bool, true, false, not, ◌&&◌, Option, Some, refl, ap, subst}
use Rattle.std.specs.Prelude.{replicate}
use Rattle.std.proofs.lemmas.Bool.{and_parts}
use Rattle.std.proofs.lemmas.List.{append-nil}
use Rattle.cocoon_num.specs.Tokens.{Kind}
use Rattle.text_lines.proofs.Seams.{Seams, bare, Spells, then_apart, then_clear, is_clear, is_apart, starts_open, ends_open, open_after}

-- ---- the ends x of texts

pub clear_append : (x : Seams) → (s t : List ℕ) → is_clear x s ≡ true → is_clear x t ≡ true → is_clear x (s ++ t) ≡ true
clear_append x [] t h g = g
clear_append x (b ∷ s) t h g = h

apart_append : (x : Seams) → (s t : List ℕ) → is_apart x s ≡ true → is_apart x t ≡ true → is_apart x (s ++ t) ≡ true
apart_append x [] t h g = g
apart_append x (b ∷ s) t h g = h

apart_clear : (x : Seams) → (s : List ℕ) → is_apart x s ≡ true → is_clear x s ≡ true
apart_clear x s h = (and_parts (is_clear x s) (starts_open s) h).0

blanks_spell : (x : Seams) → (n : ℕ) → bare x.lexicon (replicate n 32) ≡ Some []
blanks_spell x zero = refl
blanks_spell x (suc n) = blanks_spell x n

blanks_open : (n : ℕ) → open_after true (replicate n 32) ≡ true
blanks_open zero = refl
blanks_open (suc n) = blanks_open n

-- a text that is written out
pub fixed : (x : Seams) → (s : List ℕ) (ks : List Kind) → bare x.lexicon s ≡ Some ks → Spells x s ks
fixed x s ks e = record { are = e }

-- a text that may stand after x a mark or a blank, and one that may stand after x any other
pub record Part (x : Seams) (s : List ℕ) (ks : List Kind) : Type 0 where
  pub spells : Spells x s ks
  pub clear : is_clear x s ≡ true

pub record Lines (x : Seams) (s : List ℕ) (ks : List Kind) : Type 0 where
  pub spells : Spells x s ks
  pub apart : is_apart x s ≡ true

-- what is computed of a text that is written out: give `refl` for each
abbrev pub begins_apart : Seams → List ℕ → Bool
begins_apart x [] = false
begins_apart x (b ∷ s) = is_apart x (b ∷ s)

begins_apart_on : (x : Seams) → (s t : List ℕ) → begins_apart x s ≡ true → is_apart x (s ++ t) ≡ true
begins_apart_on x [] t h = cc
begins_apart_on x (b ∷ s) t h = h

abbrev pub head_of : Seams → List ℕ → Option (List Kind) × Bool × Bool
head_of x s = (bare x.lexicon s, ends_open s, is_clear x s)

abbrev pub lead_of : Seams → List ℕ → Option (List Kind) × Bool × Bool
lead_of x s = (bare x.lexicon s, ends_open s, begins_apart x s)

abbrev pub middle_of : Seams → List ℕ → Option (List Kind) × Bool
middle_of x s = (bare x.lexicon s, begins_apart x s)

abbrev pub word_of : Seams → List ℕ → Option (List Kind) × Bool
word_of x s = (bare x.lexicon s, is_clear x s)

-- a part after x a fixed x text that ends x open, and lines after x any part
pub opens : (x : Seams) → (s : List ℕ) {ks : List Kind} {t : List ℕ} {ls : List Kind} → head_of x s ≡ (Some ks, true, true) → Part x t ls → Part x (s ++ t) (ks ++ ls)
opens x s {ks} {t} {ls} e h = record { spells = then_clear (fixed x s ks (ap (λ x. x.0) e)) (ap (λ x. x.1) e) h.clear h.spells; clear = clear_append x s t (ap (λ x. x.2) e) h.clear }

pub follows : (x : Seams) → {s t : List ℕ} {ks ls : List Kind} → Part x s ks → Lines x t ls → Part x (s ++ t) (ks ++ ls)
follows x {s} {t} {ks} {ls} a b = record { spells = then_apart a.spells b.apart b.spells; clear = clear_append x s t a.clear (apart_clear x t b.apart) }

pub after : (x : Seams) → {s t : List ℕ} {ks ls : List Kind} → Lines x s ks → Lines x t ls → Lines x (s ++ t) (ks ++ ls)
after x {s} {t} {ks} {ls} a b = record { spells = then_apart a.spells b.apart b.spells; apart = apart_append x s t a.apart b.apart }

pub line : (x : Seams) → (n : ℕ) {t : List ℕ} {ls : List Kind} → Part x t ls → Lines x ((10 ∷ replicate n 32) ++ t) ls
line x n {t} {ls} h = record { spells = then_clear (fixed x ((10 ∷ replicate n 32)) [] (blanks_spell x n)) (blanks_open n) h.clear h.spells; apart = ap (λ v. not v && true) x.line_parts }

-- lines that begin with a fixed x text that ends x open
pub leads : (x : Seams) → (s : List ℕ) {ks : List Kind} {t : List ℕ} {ls : List Kind} → lead_of x s ≡ (Some ks, true, true) → Part x t ls → Lines x (s ++ t) (ks ++ ls)
leads x s {ks} {t} {ls} e h = record { spells = then_clear (fixed x s ks (ap (λ x. x.0) e)) (ap (λ x. x.1) e) h.clear h.spells; apart = begins_apart_on x s t (ap (λ x. x.2) e) }

-- lines that begin with a fixed x text, before lines, and that are one
pub between : (x : Seams) → (s : List ℕ) {ks : List Kind} {t : List ℕ} {ls : List Kind} → middle_of x s ≡ (Some ks, true) → Lines x t ls → Lines x (s ++ t) (ks ++ ls)
between x s {ks} {t} {ls} e h = record { spells = then_apart (fixed x s ks (ap (λ x. x.0) e)) h.apart h.spells; apart = begins_apart_on x s t (ap (λ x. x.1) e) }

pub ends : (x : Seams) → (s : List ℕ) {ks : List Kind} → middle_of x s ≡ (Some ks, true) → Lines x s ks
ends x s {ks} e = let same : s ++ [] ≡ s = append-nil s in record { spells = fixed x s ks (ap (λ x. x.0) e); apart = subst (λ r. is_apart x r ≡ true) same (begins_apart_on x s [] (ap (λ x. x.1) e)) }

pub reads_as : (x : Seams) → {s : List ℕ} {ks ls : List Kind} → Part x s ks → ks ≡ ls → Part x s ls
reads_as x {s} {ks} {ls} h e = subst (λ ms. Part x s ms) e h

pub lines_as : (x : Seams) → {s : List ℕ} {ks ls : List Kind} → Lines x s ks → ks ≡ ls → Lines x s ls
lines_as x {s} {ks} {ls} h e = subst (λ ms. Lines x s ms) e h

pub lines_part : (x : Seams) → {s : List ℕ} {ks : List Kind} → Lines x s ks → Part x s ks
lines_part x {s} {ks} h = record { spells = h.spells; clear = apart_clear x s h.apart }

pub no_lines : (x : Seams) → Lines x [] []
no_lines x = record { spells = record { are = refl }; apart = refl }

pub whole : (x : Seams) (s : List ℕ) {ks : List Kind} → word_of x s ≡ (Some ks, true) → Part x s ks
whole x s {ks} e = record { spells = fixed x s ks (ap (λ x. x.0) e); clear = ap (λ x. x.1) e }
