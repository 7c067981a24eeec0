use Rattle.std.proofs.Common.{◌≡◌, ◌<◌, ◌^◌, length, true, sym, subst}
use Rattle.p4_ir.specs.WellKinded.{is_well_kinded}
use Rattle.lowering.specs.SwitchProgram.{switch_program}
use Rattle.lower_p4.proofs.Grounded.{few_first, made_by, program_of_role, short_first, well_kinded}
use Rattle.lower_p4.proofs.laws.first_programs_are_kinded.Goals as goal

pub returns : goal.returns
returns c = λ d places s read words rules literals long p runs held.
    let text = read.0 in
    let w = long.within in
    let is = program_of_role d s p w.parts w.parts_are runs in
    let few = few_first d places s long in
    let made = made_by w.parts.role s few (subst (λ q. length q.meta < 2 ^ 63) is held) in
    let kinds = c.programs_are_kinded.ensures d rules literals (c.readings_are_plain.ensures.literals text d read.1) (c.readings_are_plain.ensures.params text d read.1) words
    w.parts w.parts_are s (short_first d places s long) few.tables few.forks made in
    let shallow = c.programs_are_shallow.ensures d (c.readings_are_shallow.ensures text d read.1) w.parts w.parts_are s in
    subst (λ q. is_well_kinded q ≡ true) (sym is) (well_kinded (switch_program w.parts.role s) kinds shallow)
