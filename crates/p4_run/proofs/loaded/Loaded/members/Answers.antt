use Rattle.std.proofs.Common.{◌≡◌, ◌==◌, ◌<◌, ◌≤◌, true, not, IsTrue, List, length, map, get_or, rules, sym, subst, ap, ◌∙◌}
use Rattle.std.proofs.lemmas.Bool.{and_parts}
use Rattle.cocoon_num.specs.Lists.{ascend, each}
use Rattle.numbering.specs.NumberPlaces.{place_in, place_of}
use Rattle.p4_ir.specs.Loading.{group_fits}
use Rattle.p4_ir.specs.NetOf.{group_of}
use Rattle.p4_ir.specs.P4Tree.{Group}
use Rattle.p4_ir.specs.Switch.{members}
use Rattle.p4_run.specs.Running.{program_in, rows_in}
use Rattle.p4_run.proofs.GroupSteps.{group_numbers, members_none, members_some}
use Rattle.p4_run.proofs.TableFacts.{each_at, loads_of}
use Rattle.p4_run.proofs.loaded.Loaded.members.Goals as goal

pub returns-in-Some-clause-members : goal.returns-in-Some-clause-members
returns-in-Some-clause-members c =
    let l = c.args.self.now in
    let n = c.args.group in
    let gs = l.all_groups.items in
    let g = c.in-Some.known.now in
    let i = c.place-place.result in
    let own : i ≡ place_in l.groups n = search rules in
    let at : i ≡ place_of (group_numbers (map group_of gs)) n = own ∙ l.groups_are n ∙ ap (λ (kept : List Group). place_of (group_numbers kept) n) (sym l.groups_kept) in
    let listed = c.deref.result.now in
    let listed_within : i < length listed = search rules in
    let listed_is : g ≡ get_or listed i g = search rules in
    let within : i < length gs = subst (λ xs. i < length xs) c.deref.ensures.value listed_within in
    let is : g ≡ get_or gs i g = subst (λ xs. g ≡ get_or xs i g) c.deref.ensures.value listed_is in
    c.items.ensures ∙ sym (members_some gs g i n at within is) ∙ ap (λ kept. members kept n) l.groups_kept

pub returns-in-Some-clause-ascend : goal.returns-in-Some-clause-ascend
returns-in-Some-clause-ascend c =
    let l = c.args.self.now in
    let gs = l.all_groups.items in
    let g = c.in-Some.known.now in
    let i = c.place-place.result in
    let listed = c.deref.result.now in
    let listed_within : i < length listed = search rules in
    let listed_is : g ≡ get_or listed i g = search rules in
    let within : i < length gs = subst (λ xs. i < length xs) c.deref.ensures.value listed_within in
    let is : g ≡ get_or gs i g = subst (λ xs. g ≡ get_or xs i g) c.deref.ensures.value listed_is in
    let fit : each group_fits (map group_of gs) ≡ true = subst (λ kept. each group_fits kept ≡ true) (sym l.groups_kept) (loads_of (program_in l) (rows_in l) l.loads).groups in
    let own : group_fits (group_of g) ≡ true = each_at group_of group_fits gs i g fit within is in
    subst (λ ms. IsTrue (ascend ms)) (sym c.items.ensures) (and_parts (not (g.number == 0)) (ascend g.members) own).1

pub returns-in-None-clause-members : goal.returns-in-None-clause-members
returns-in-None-clause-members c =
    let l = c.args.self.now in
    let n = c.args.group in
    let gs = l.all_groups.items in
    let i = c.place-place.result in
    let own : i ≡ place_in l.groups n = search rules in
    let at : i ≡ place_of (group_numbers (map group_of gs)) n = own ∙ l.groups_are n ∙ ap (λ (kept : List Group). place_of (group_numbers kept) n) (sym l.groups_kept) in
    let listed_past : length c.deref.result.now ≤ i = search rules in
    let past : length gs ≤ i = subst (λ xs. length xs ≤ i) c.deref.ensures.value listed_past in
    sym (members_none gs i n at past) ∙ ap (λ kept. members kept n) l.groups_kept
