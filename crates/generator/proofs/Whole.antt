-- What a printer gives that printed one text alone.
use Rattle.std.proofs.Common.{◌≡◌, ℕ, List, [], ◌++◌, Option, Some, None, sym, ap, ◌∙◌}
use Rattle.std.specs.Prelude.{option_map}
use Rattle.text_lines.specs.Printing.{Prints}

abbrev or_none : Option (List ℕ) → List ℕ
or_none None = []
or_none (Some x) = x

pub is_all : (p q : Option (List ℕ)) (t all : List ℕ) → p ≡ Some [] → Prints p t q → q ≡ Some all → all ≡ t
is_all p q t all none prints h = sym (ap or_none (sym (ap (option_map (λ bytes. bytes ++ t)) none) ∙ prints.whole all h))
