-- Cited by the clauses of the laws here, of `Checked::know_reading` (cocoon_resolve) and of runtime_defs: which names functions have in a
-- design that was read. It follows the section "Texts" of docs/LANGUAGE.md.
use Rattle.std.specs.Prelude.{◌≡◌, ◌≤◌, ◌&&◌, ℕ, Bool, true, false, not, List, [], ◌∷◌, length}
use Rattle.cocoon_num.specs.Lists.{each, is_one_of}
use Rattle.cocoon_num.specs.Tokens.{is_letter, is_run_byte, language}
use Rattle.cocoon_num.specs.Tree.{FunctionDecl}

-- a letter or `_`, and then letters, digits and `_`; neither `_` alone nor a reserved word
abbrev pub is_name : List ℕ → Bool
is_name [] = false
is_name (b ∷ bs) =
    is_letter b && each is_run_byte bs && not (is_one_of language.marks (b ∷ bs)) && not (is_one_of language.reserved (b ∷ bs))

-- a function that was read: its name is one of the language, and it has one or more parameters
pub record IsNamed (f : FunctionDecl) : Type 0 where
  pub name : is_name f.name.text ≡ true
  pub params : 1 ≤ length f.params
