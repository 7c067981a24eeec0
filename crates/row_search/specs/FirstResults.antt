-- Cited by the private clauses of `first_results`: what it notes.
use Rattle.std.specs.Prelude.{All, ◌≡◌, ℕ, List, length, Option}
use Rattle.std.specs.Cmp.Lexicographic.{slice_cmp}
use Rattle.std.specs.BTreeMap.{get_by, keys}
use Rattle.std.specs.Ordering.{nat_cmp}
use Rattle.row_search.specs.declared.first_results.FirstResults.{FirstResults}

-- the result that is noted of some values
abbrev pub result_by : FirstResults → List ℕ → Option ℕ
result_by t xs = get_by (λ k. slice_cmp nat_cmp xs k.items) t.results

-- each has so many values
abbrev pub AreCounted : ℕ → FirstResults → Type 0
AreCounted count t = All (λ k. length k.items ≡ count) (keys t.results)
