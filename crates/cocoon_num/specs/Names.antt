-- Names are lists of bytes, and are compared as such, byte by byte. They are the names of the section "Texts" of
-- docs/LANGUAGE.md.
use Rattle.std.specs.Prelude.{ℕ, ◌==◌, ◌&&◌, Bool, true, false, List, [], ◌∷◌, Option}
use Rattle.std.specs.List.{find}
use Rattle.cocoon_num.specs.Tree.{Name}

abbrev pub same_name : List ℕ → List ℕ → Bool
same_name [] [] = true
same_name (x ∷ xs) (y ∷ ys) = (x == y) && same_name xs ys
same_name _ _ = false

-- the first that is called x
abbrev pub named : {A : Type 0} → (A → Name) → List ℕ → List A → Option A
named name_of x = find (λ a. same_name x (name_of a).text)
