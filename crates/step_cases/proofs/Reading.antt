-- The case of what its lines say.
use Rattle.std.proofs.Common.{◌≡◌, ℕ, List, Option, None, Result, Ok, sym, ap, ◌∙◌}
use Rattle.cocoon_num.specs.Tree.{Design}
use Rattle.cocoon_types.specs.Runs.{Loc}
use Rattle.text_lines.specs.Lines.{Line, filled_lines, line_count}
use Rattle.text_lines.specs.Numbers.{list_of}
use Rattle.step_cases.specs.Cases.{case_by, case_in, case_of, fields_in, line_at, location_in, number_at}

by_parts : (a : Result Loc ℕ) (f c : Result (List ℕ) ℕ) (further : Option ℕ) (at : Loc) (fields choices : List ℕ) → a ≡ Ok at → f ≡ Ok fields → c ≡ Ok choices → further ≡ None
    → case_by a f c further ≡ Ok (record { at = at; fields = fields; choices = choices })
by_parts a f c further at fields choices p q r s =
    ap (λ x. case_by x f c further) p ∙ ap (λ x. case_by (Ok at) x c further) q
    ∙ ap (λ x. case_by (Ok at) (Ok fields) x further) r ∙ ap (λ x. case_by (Ok at) (Ok fields) (Ok choices) x) s

pub is_case : (level : ℕ) (d : Design) (bytes : List ℕ) (lines : List Line) (count : ℕ) (at : Loc) (fields choices : List ℕ) → lines ≡ filled_lines bytes → count ≡ line_count bytes
    → line_at (location_in level d) 0 lines count ≡ Ok at → line_at (fields_in d) 1 lines count ≡ Ok fields → line_at list_of 2 lines count ≡ Ok choices → number_at 3 lines ≡ None
    → case_of level d bytes ≡ Ok (record { at = at; fields = fields; choices = choices })
unfolding case_of
is_case level d bytes lines count at fields choices e k p q r s =
    ap (λ x. case_in level d x (line_count bytes)) (sym e) ∙ ap (case_in level d lines) (sym k)
    ∙ by_parts _ _ _ _ at fields choices p q r s
