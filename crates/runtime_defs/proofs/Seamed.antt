-- The texts of designs and definitions: which bytes join what stands before them.
use Rattle.std.proofs.Common.{◌≡◌, ℕ, Bool, true, not, ◌||◌, refl, arith}
use Rattle.std.specs.Prelude.{◌==◌}
use Rattle.std.proofs.lemmas.Bool.Decides.{nat_tests}
use Rattle.cocoon_num.specs.Tokens.{is_run_byte, language}
use Rattle.text_lines.proofs.Seams.{Seams}

abbrev pub extends : ℕ → Bool
extends b = (b == 61) || (b == 43) || (b == 38) || (b == 62)

pub words_part : (b : ℕ) → is_run_byte b ≡ true → not (extends b) ≡ true
words_part b h = grind (arith, nat_tests)

abbrev pub language_seams : Seams
language_seams = record { lexicon = language; extends = extends; marks_steady = refl; no_slash = refl; line_parts = refl; word_parts = words_part }
