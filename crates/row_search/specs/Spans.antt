-- Cited by the private clauses of `search`: how a search by halves goes on.
use Rattle.std.specs.Prelude.{◌≡◌, ℕ, ◌+◌}
use Rattle.std.specs.declared.cmp.Ordering.{Ordering}
use Rattle.std.specs.declared.cmp.Ordering.TheVariants.{Less, Equal, Greater}
use Rattle.row_search.specs.declared.search.Span.{Span}

abbrev pub IsNarrowed : Span → (middle : ℕ) → Ordering → Span → Type 0
IsNarrowed s m Less t = (t.low ≡ m + 1) × (t.high ≡ s.high)
IsNarrowed s m Equal t = (t.low ≡ s.low) × (t.high ≡ m)
IsNarrowed s m Greater t = (t.low ≡ s.low) × (t.high ≡ m)
