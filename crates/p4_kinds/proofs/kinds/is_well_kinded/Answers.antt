use Rattle.std.proofs.Common.{sym, ◌∙◌}
use Rattle.std.proofs.lemmas.Result.{IfOk-weaker}
use Rattle.cocoon_num.specs.Tokens.{is_shallow}
use Rattle.p4_ir.specs.P4Kinds.{kinds_fit}
use Rattle.p4_ir.specs.P4Text.{p4_bounds, program_tokens}
use Rattle.p4_ir.specs.Program.{program_of}
use Rattle.p4_kinds.proofs.TestFacts.{with_true, with_false}
use Rattle.p4_kinds.proofs.kinds.is_well_kinded.Goals as goal

pub returns-then-keeps_bounds : goal.returns-then-keeps_bounds
returns-then-keeps_bounds c =
    let p = program_of c.args.program.now in
    IfOk-weaker c.keeps_rules.result _ _ (λ v h. h ∙ with_true (kinds_fit p) (is_shallow p4_bounds (program_tokens p)) (sym c.keeps_bounds.ensures ∙ c.if-keeps_bounds.true)) c.keeps_rules.ensures

pub returns-else-keeps_bounds : goal.returns-else-keeps_bounds
returns-else-keeps_bounds c =
    let p = program_of c.args.program.now in
    with_false (kinds_fit p) (is_shallow p4_bounds (program_tokens p)) (sym c.keeps_bounds.ensures ∙ c.if-keeps_bounds.false)
