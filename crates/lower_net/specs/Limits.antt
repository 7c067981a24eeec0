-- Cited by private clauses of `lengths`, `limits` and `lowering`, and by `Refused`: the counts of a network, in three parts, and
-- which texts are too long.
use Rattle.std.specs.Prelude.{ℕ, nat_lt, List, [], ◌∷◌, map, length, if◌then◌else◌, Option, Some, None, option_and_then, slice_get}
use Rattle.cocoon_num.specs.Tree.{Design}
use Rattle.cocoon_num.specs.declared.limit_name.LimitName.TheVariants as limit
use Rattle.p4_ir.specs.FileSizes.{most_file_bytes}
use Rattle.lowering.specs.Counting.{role_size}
use Rattle.lowering.specs.Whole.{SwitchRole}
use Rattle.lowering_correct.specs.Counts.{Counted, most_hosts, most_members, most_sites, most_switches, most_tables}
use Rattle.lowering.specs.SwitchProgram.{switch_made}
use Rattle.lowering_correct.specs.Groups.{ForkGroup}
use Rattle.lowering_correct.specs.SwitchRows.{switch_rows}
use Rattle.lower_rows.specs.AllRows.{all_rows}
use Rattle.runtime_defs.specs.Places.{Places}

abbrev pub of_network : (switches hosts : ℕ) → List Counted
of_network switches hosts =
    record { limit = limit.Switches; count = switches; most = most_switches } ∷ record { limit = limit.Hosts; count = hosts; most = most_hosts } ∷ []

abbrev pub of_program : (tables forks : ℕ) → List Counted
of_program tables forks =
    record { limit = limit.Tables; count = tables; most = most_tables } ∷ record { limit = limit.Sites; count = forks; most = most_sites } ∷ []

abbrev pub of_groups : List ForkGroup → List Counted
of_groups gs = map (λ (g : ForkGroup). record { limit = limit.Members; count = length g.grouped.members; most = most_members }) gs

-- the first switch, where the code of the programs is so large that their texts are over the limit of a file
abbrev pub long_program : SwitchRole → List ℕ → Option ℕ
long_program r switches = option_and_then (λ s. if nat_lt most_file_bytes (role_size r) then Some s else None) (slice_get switches 0)

-- the most rows that a file can hold, since its text has at least 20 bytes for each
abbrev pub most_file_rows : ℕ
most_file_rows = 209715

-- the first switch, where it has more of them
abbrev pub many_rows : Design → Places → SwitchRole → List ℕ → Option ℕ
many_rows d places r switches =
    option_and_then (λ s. if nat_lt most_file_rows (length (all_rows (switch_rows d places (switch_made r s)))) then Some s else None) (slice_get switches 0)
