use Rattle.std.proofs.Common.{◌≡◌, nat_lt, length, rules, sym, ap, ◌∙◌}
use Rattle.cocoon_syntax.specs.TreeOf.{design_of}
use Rattle.p4_emit.specs.Printed.{printed}
use Rattle.p4_ir.specs.FileSizes.{most_file_bytes}
use Rattle.p4_ir.specs.Program.{program_of}
use Rattle.lower_p4.specs.Lowers.{RunsProgram}
use Rattle.lower_p4.proofs.OneNetwork.{one_program}
use Rattle.lower_p4.proofs.networks.has_long_text.Goals as goal

pub emit-requires : goal.emit-requires
unfolding RunsProgram
emit-requires c =
    let d = design_of c.args.checked.now in
    let w = c.requires.first.within in
    record {
      well_kinded = c.first_programs_are_kinded.ensures d c.args.defs.now c.args.switch c.know_reading.ensures.read c.know_reading.ensures.spelled c.design.ensures.resolves.rules
          (c.code_literals_fit.ensures.designs c.args.checked.now) c.requires.first (program_of c.in_ok-program.program)
          (w.parts, w.parts_are, c.in_ok-program.ensures w.parts w.parts_are) c.know_meta.ensures;
    }

pub returns : goal.returns
unfolding RunsProgram
returns c = λ p runs.
    let d = design_of c.args.checked.now in
    let w = c.requires.first.within in
    let is : p ≡ program_of c.in_ok-program.program =
    one_program d c.args.switch p (program_of c.in_ok-program.program) runs (w.parts, w.parts_are, c.in_ok-program.ensures w.parts w.parts_are) in
    let size : c.len.result ≡ length c.in_ok-text.text.items = search rules in
    ap (nat_lt most_file_bytes) (size ∙ ap length (c.in_ok-text.ensures.text ∙ ap printed (sym is)))
