-- The lines of a function without a default, and of an assumption that is broken, piece by piece.
use Rattle.std.proofs.Common.{◌≡◌, ℕ, List, [], ◌∷◌, ◌++◌, ap, ◌∙◌}
use Rattle.std.proofs.lemmas.List.{append_assoc}
use Rattle.std.specs.Prelude.{codes, decimal}
use Rattle.command_reports.specs.Report.{broken_line, list_text, no_default_line}

-- pieces in their order, grouped to the left and to the right
grouped : (p f s n e : List ℕ) → ((p ++ (f ++ s)) ++ n) ++ e ≡ p ++ (f ++ (s ++ (n ++ e)))
grouped p f s n e = simp append_assoc

pub no_default : (file named n items with_name line : List ℕ) → file ≡ named → items ≡ codes "definitions " ++ (file ++ codes " NoDefault ") → with_name ≡ items ++ n → line ≡ with_name ++ 10 ∷ []
    → line ≡ no_default_line named n
no_default file named n items with_name line is begun more whole =
    whole ∙ ap (λ x. x ++ 10 ∷ []) (more ∙ ap (λ x. x ++ n) begun) ∙ grouped (codes "definitions ") file (codes " NoDefault ") n (10 ∷ [])
    ∙ ap (λ f. no_default_line f n) is

pub broken : (number : ℕ) (values items with_values line : List ℕ) → items ≡ codes "broken assumption " ++ (decimal number ++ codes " at") → with_values ≡ items ++ list_text values → line ≡ with_values ++ 10 ∷ [] → line ≡ broken_line number values
broken number values items with_values line begun more whole =
    whole ∙ ap (λ x. x ++ 10 ∷ []) (more ∙ ap (λ x. x ++ list_text values) begun)
    ∙ grouped (codes "broken assumption ") (decimal number) (codes " at") (list_text values) (10 ∷ [])
