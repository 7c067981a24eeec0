-- Literals as signed numbers, as DIMACS writes them: n is true where variable n is, and -n where it is not. Cited by the
-- clauses of `Lit`, and by the other definitions of this crate.
use Rattle.std.specs.Prelude.{ℕ, ◌+◌, ◌*◌, ◌≤◌, ℤ, pos, negsuc, neg_ℤ, unsigned_abs, Bool, List}
use Rattle.std.specs.Ordering.{int_eq}
use Rattle.std.specs.List.{list_any}

abbrev pub variable : ℤ → ℕ
variable l = unsigned_abs l

abbrev pub opposite : ℤ → ℤ
opposite l = neg_ℤ l

-- a place of its own for each literal: the even ones are those of variables, each followed by that of its negation
abbrev pub index_of : ℤ → ℕ
index_of (pos n) = n * 2
index_of (negsuc n) = (n + 1) * 2 + 1

abbrev pub same : ℤ → ℤ → Bool
same l m = int_eq l m

abbrev pub has_literal : List ℤ → ℤ → Bool
has_literal ls l = list_any (same l) ls

-- it names a variable from 1 to `vars`
abbrev pub Names : (vars : ℕ) → ℤ → Type 0
Names vars l = (1 ≤ variable l) × (variable l ≤ vars)
