use Rattle.std.proofs.Common.{◌<◌, ◌^◌, length, arith}
use Rattle.lowering_correct.specs.Groups.{fork_groups}
use Rattle.lowering.specs.SwitchProgram.{switch_program}
use Rattle.lower_p4.proofs.Grounded.{CountAlike, few_made, few_of, has_tables, short_number, well_kinded}
use Rattle.lower_p4.proofs.laws.networks_are_writable.Goals as goal

pub returns : goal.returns
returns c = λ d es places net g n f ports held.
    let alike : CountAlike = (c.programs_count_alike.ensures.tables, c.programs_count_alike.ensures.forks) in
    let text = g.read.0 in
    let groups : length (fork_groups d places) < 2 ^ 16 =
    (let few = c.groups_are_few.ensures d places in
    let rows = c.rows_are_few.ensures d es places g.rules g.of_text.bound in
    let most = g.of_text.bound.few in
    omega (arith, few, rows, most)) in
    c.networks_fit.ensures d places net (has_tables d es places g) n ports groups
    (λ s l.
    let few = few_of alike d places net n f s l in
    let made = few_made d places net n held s l few in
    let kinds = c.programs_are_kinded.ensures d g.rules g.literals (c.readings_are_plain.ensures.literals text d g.read.1) (c.readings_are_plain.ensures.params text d g.read.1) g.words
    n.parts n.parts_are s (short_number d places net n s l) few.tables few.forks made in
    let shallow = c.programs_are_shallow.ensures d (c.readings_are_shallow.ensures text d g.read.1) n.parts n.parts_are s in
    let tables = few.tables in
    record { kinds = well_kinded (switch_program n.parts.role s) kinds shallow; tables = omega (arith, tables) })
