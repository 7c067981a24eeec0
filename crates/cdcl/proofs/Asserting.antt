-- A learned clause that forces a literal.
use Rattle.std.proofs.Common.{◌≡◌, ℕ, ◌&&◌, ◌||◌, ℤ, true, List, [], ◌∷◌, ◌++◌, length, sym, ap, ◌∙◌, subst}
use Rattle.std.specs.Prelude.{slice_get}
use Rattle.std.proofs.lemmas.Bool.{and_parts}
use Rattle.cocoon_num.specs.Lists.{each}
use Rattle.cnf_core.specs.Deriving.{forces, has_no_value, is_false}
use Rattle.cnf_core.specs.Literals.{has_literal, same}
use Rattle.cdcl.specs.Searching.{IsForcedBy}
use Rattle.cdcl.proofs.Jumping.{get-last}
use Rattle.cdcl.proofs.Trailing.{forced-here}

pub unset : (ts c : List ℤ) (l : ℤ) → forces ts c l ≡ true → has_no_value ts l ≡ true
unset ts c l h =
    let first = and_parts (has_literal c l) (has_no_value ts l && each (λ m. same l m || is_false ts m) c) h in
    (and_parts (has_no_value ts l) (each (λ m. same l m || is_false ts m) c) first.1).0

pub asserted-reason : (cs ds : List (List ℤ)) (c ts us : List ℤ) (l : ℤ) (n : ℕ) → ds ≡ cs ++ c ∷ [] → us ≡ ts → n ≡ length cs → forces ts c l ≡ true → IsForcedBy ds (us ++ l ∷ []) (length us) n
asserted-reason cs ds c ts us l n e k is f = subst (λ es. IsForcedBy es (us ++ l ∷ []) (length us) n) (sym e)
    (forced-here (cs ++ c ∷ []) us l c n (ap (slice_get (cs ++ c ∷ [])) is ∙ get-last cs c) (subst (λ vs. forces vs c l ≡ true) (sym k) f))
