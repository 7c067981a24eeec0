-- Groups, the numbers that were seen, and where the group of a number stands.
use Rattle.std.proofs.Common.{◌≡◌, ℕ, ◌<◌, ◌≤◌, List, [], length, map, get_or, slice_get, Option, Some, None, option_map, refl, sym, ◌∙◌, ap}
use Rattle.std.proofs.lemmas.Option.{slice_get-map, slice_get_past, slice_get_read}
use Rattle.numbering.specs.NumberPlaces.{place_of}
use Rattle.p4_ir.specs.NetOf.{group_of}
use Rattle.p4_ir.specs.P4Tree.{Group}
use Rattle.p4_ir.specs.Switch.{members}
use Rattle.p4_ir.specs.declared.rows.Group.{Group as CodeGroup}
use Rattle.p4_run.proofs.TableFacts.{found_at}

-- their numbers
abbrev pub group_numbers : List Group → List ℕ
group_numbers gs = map (λ (g : Group). g.number) gs

-- ---- the group of a number

abbrev members_in : Option Group → List ℕ
members_in o = elim o [ None ↦ [] | Some g ↦ g.members ]

members_at : (groups : List CodeGroup) (i n : ℕ) → i ≡ place_of (group_numbers (map group_of groups)) n
    → members (map group_of groups) n ≡ members_in (option_map group_of (slice_get groups i))
members_at groups i n p =
    ap members_in (found_at (λ (g : Group). g.number) (map group_of groups) n ∙ ap (slice_get (map group_of groups)) (sym p) ∙ slice_get-map group_of groups i)

pub members_some : (groups : List CodeGroup) (g : CodeGroup) (i n : ℕ) → i ≡ place_of (group_numbers (map group_of groups)) n → i < length groups → g ≡ get_or groups i g
    → members (map group_of groups) n ≡ (group_of g).members
members_some groups g i n p l e =
    members_at groups i n p ∙ ap (λ o. members_in (option_map group_of o)) (slice_get_read groups (length groups) i g refl l e)

pub members_none : (groups : List CodeGroup) (i n : ℕ) → i ≡ place_of (group_numbers (map group_of groups)) n → length groups ≤ i
    → members (map group_of groups) n ≡ []
members_none groups i n p l = members_at groups i n p ∙ ap (λ o. members_in (option_map group_of o)) (slice_get_past groups i l)
