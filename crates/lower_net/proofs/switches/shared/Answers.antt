use Rattle.std.proofs.Common.{◌≡◌, ◌++◌, map, ap, ap₂, ◌∙◌, rules}
use Rattle.cocoon_syntax.specs.TreeOf.{design_of}
use Rattle.lowering_correct.specs.SwitchRows.{switch_rows}
use Rattle.lower_code.specs.Growth.{made_in}
use Rattle.lower_net.specs.NetDeclarations.{parts_of}
use Rattle.p4_ir.specs.NetOf.{rows_of}
use Rattle.p4_ir.specs.Program.{program_of}
use Rattle.shared_net.specs.Merging.{merged}
use Rattle.lower_net.proofs.Sharing.{all_switches}
use Rattle.lower_net.proofs.switches.shared.Goals as goal

pub returns : goal.returns
returns c =
    let d = design_of c.args.checked.now in
    let places = c.args.defs.now in
    let parts = parts_of d c.args.parts.now in
    let numbers : c.from-numbers.result ≡ c.args.numbers.now = search rules in
    ap (map (λ s. record { number = s; program = merged s (program_of c.in_ok-code.code.program) (program_of c.in_ok-others.others.program); rows = rows_of c.in_ok-rows.rows })) numbers
    ∙ all_switches d places parts c.requires.one (program_of c.in_ok-code.code.program) (program_of c.in_ok-others.others.program) (rows_of c.in_ok-rows.rows)
    c.in_ok-code.ensures.program c.in_ok-others.ensures.program (c.in_ok-rows.ensures ∙ ap (switch_rows d places) (ap₂ (λ a b. made_in d (a ++ b)) c.deref.ensures.value c.deref-2.ensures.value ∙ c.in_ok-code.ensures.made)) c.args.numbers.now
