use Rattle.std.proofs.Common.{List, ℕ, subst, sym}
use Rattle.std.proofs.lemmas.Result.{IfOk-weaker}
use Rattle.p4_ir.specs.P4Reads.{P4Reads}
use Rattle.shared_net.specs.Shared.{switch_program}
use Rattle.p4_emit.proofs.WellKinded.{printed_reads}
use Rattle.p4_emit.proofs.print.emit_switch.Goals as goal

pub returns-clause-reads : goal.returns-clause-reads
returns-clause-reads c =
    let p = switch_program c.args.switch.now in
    IfOk-weaker c.text_of.result _ _ (λ v h. subst (λ (t : List ℕ). P4Reads t p) (sym h) (printed_reads p c.requires.well_kinded)) c.text_of.ensures
