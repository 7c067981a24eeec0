-- Cited by private clauses of `args_table`: which number some arguments have.
use Rattle.std.specs.Prelude.{◌≡◌, ℕ, List, map, Option}
use Rattle.std.specs.Ordering.{nat_cmp}
use Rattle.std.specs.Cmp.Lexicographic.{slice_cmp}
use Rattle.std.specs.BTreeMap.{get_by}
use Rattle.declarations.specs.NameNumbers.{index_of}
use Rattle.lower_rows.specs.declared.args_table.ArgsTable.{ArgsTable}

-- the number that a table has for some arguments
abbrev pub held_index : ArgsTable → List ℕ → Option ℕ
held_index t x = get_by (λ k. slice_cmp nat_cmp x k.items) t.held

-- a table of these arguments: each has the index at which it stands first
pub record Holds (t : ArgsTable) (ns : List (List ℕ)) : Type 0 where
  pub numbers : (x : List ℕ) → held_index t x ≡ index_of x ns
  pub lists : map (λ v. v.items) t.lists.items ≡ ns
