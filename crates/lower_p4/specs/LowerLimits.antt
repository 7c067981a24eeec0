-- Cited by the clauses of `lower` and of `one_lowering`, and by those of command_answers. The first of the limits of lowering that a
-- design exceeds under definitions. It follows the section "Limits" of docs/LANGUAGE.md.
use Rattle.std.specs.Prelude.{ℕ, Some, None}
use Rattle.cocoon_num.specs.Tree.{Design, DefsText}
use Rattle.cocoon_num.specs.declared.limit_name.LimitName.{LimitName}
use Rattle.lowering_correct.specs.Counts.{FirstOver}
-- the most of each, which reports tell
pub use Rattle.lowering_correct.specs.Counts.{most_hosts, most_members, most_sites, most_switches, most_tables}
use Rattle.runtime_defs.specs.Places.{Places}
use Rattle.lower_p4.specs.OfText.{AreOfText}

-- the design is over this limit first under the definitions, by this count
abbrev pub IsOver : Design → DefsText → LimitName → ℕ → Type 0
IsOver design defs limit count =
    (places : Places) × AreOfText design defs places × FirstOver design places (Some (limit, count))

-- it is over none
abbrev pub IsWithin : Design → DefsText → Type 0
IsWithin design defs = (places : Places) × AreOfText design defs places × FirstOver design places None
