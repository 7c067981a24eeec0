-- Cited by the clauses of the tables of names: which number a name has.
use Rattle.std.specs.Prelude.{◌≡◌, ℕ, suc, List, [], ◌∷◌, ◌++◌, length, fold, Option, Some, None, is_some, option_map, if◌then◌else◌}
use Rattle.std.specs.Ordering.{nat_cmp}
use Rattle.std.specs.Cmp.Lexicographic.{slice_cmp}
use Rattle.std.specs.BTreeMap.{get_by}
use Rattle.cocoon_num.specs.Names.{same_name}
use Rattle.numbering.specs.declared.name_table.NameTable.{NameTable}

-- the index of the first of some names that is x
abbrev pub index_of : List ℕ → List (List ℕ) → Option ℕ
index_of x [] = None
index_of x (n ∷ ns) = if same_name x n then Some 0 else option_map suc (index_of x ns)

-- the names, each where it stands first
abbrev pub with_name : List (List ℕ) → List ℕ → List (List ℕ)
with_name ns x = if is_some (index_of x ns) then ns else ns ++ x ∷ []

abbrev pub firsts : List (List ℕ) → List (List ℕ)
firsts ns = fold with_name [] ns

-- the number that a table has under a name
abbrev pub number_of : NameTable → List ℕ → Option ℕ
number_of t x = get_by (λ k. slice_cmp nat_cmp x k.items) t.held

-- a table of these names: each has the index at which it stands first
pub record Numbers (t : NameTable) (ns : List (List ℕ)) : Type 0 where
  pub numbers : (x : List ℕ) → number_of t x ≡ index_of x ns
  pub count : t.count ≡ length ns
