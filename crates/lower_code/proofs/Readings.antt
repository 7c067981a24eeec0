-- Variables, one by one.
use Rattle.std.proofs.Common.{◌≡◌, ℕ, ◌+◌, ◌<◌, List, [], ◌∷◌, ◌++◌, map, take, length, get_or, sym, ap, ◌∙◌}
use Rattle.std.proofs.lemmas.List.{take_more, reverse-append}
use Rattle.lower_code.specs.Variables.{variable_of, variables_of}
use Rattle.lower_code.specs.declared.variables.Variable.{Variable}

-- one more is the first of them
pub variables_push : (vs : List Variable) (v : Variable) → variables_of (vs ++ v ∷ []) ≡ variable_of v ∷ variables_of vs
variables_push vs v = ap (map variable_of) (reverse-append vs (v ∷ []))

pub variables_more : (vs : List Variable) (i : ℕ) (v : Variable) → i < length vs → v ≡ get_or vs i v
    → variables_of (take (i + 1) vs) ≡ variable_of v ∷ variables_of (take i vs)
variables_more vs i v l e = ap variables_of (take_more vs i v l) ∙ (λ k. variables_of (take i vs ++ sym e k ∷ [])) ∙ variables_push (take i vs) v
