-- Cited by the clause of `first_limit`: what it answers.
use Rattle.std.specs.Prelude.{◌≡◌, ℕ, Option, Some, None}
use Rattle.cocoon_num.specs.declared.limit_name.LimitName.{LimitName}
use Rattle.cocoon_num.specs.Tree.{Design}
use Rattle.cocoon_types.specs.Limits.{FirstOver, WithinLimits, reported}

-- the first limit that the design is over, with its count as it is reported; none where it is within all limits
abbrev pub IsFirstOver : Design → Option (LimitName × ℕ) → Type 0
IsFirstOver d None = WithinLimits d
IsFirstOver d (Some found) = (n : ℕ) × FirstOver d found.0 n × (found.1 ≡ reported n)
