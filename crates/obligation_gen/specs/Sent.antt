-- Cited by private clauses: what a leaf of the code sends, and where a term stands among others.
use Rattle.std.specs.Prelude.{ℕ, suc, ◌==◌, List, [], ◌∷◌, if◌then◌else◌, Option, Some, None, option_map, option_and_then, slice_get}
use Rattle.obligation_gen.specs.declared.tree.End.{End}
use Rattle.obligation_gen.specs.declared.tree.End.TheVariants.{Sent, Inside}

abbrev pub role_in : End → ℕ
role_in (Sent role values fields) = role
role_in (Inside role values fields) = role

abbrev pub values_of : End → List ℕ
values_of (Sent role values fields) = values
values_of (Inside role values fields) = values

abbrev pub fields_of : End → List ℕ
fields_of (Sent role values fields) = fields
fields_of (Inside role values fields) = fields

-- the first place of a number among some
abbrev pub position_of : ℕ → List ℕ → Option ℕ
position_of t [] = None
position_of t (u ∷ us) = if u == t then Some 0 else option_map suc (position_of t us)

-- what is sent at the place that a number has among old ones
abbrev pub sent_at : ℕ → (old sent : List ℕ) → Option ℕ
sent_at t old sent = option_and_then (slice_get sent) (position_of t old)
