use Rattle.lowering.specs.Lower.{Counts}
use Rattle.lowering.specs.Whole.{role_lowered, role_vars}
use Rattle.lowering.specs.SwitchProgram.{egress_lowered}
use Rattle.lowering_correct.proofs.Made.{log-of, role-forks, role-functions}
use Rattle.lowering_correct.proofs.rows.logs_are_made.Goals as goal

pub returns : goal.returns
returns c d parts s w e =
    let r = parts.role in
    let begin : Counts = record { app = 0; var = 0; field = 1; site = 1 } in
    let inner = role_lowered r s in
    let outer = egress_lowered r s in
    log-of d r s inner.next.field inner.next.app outer.next.field outer.next.app (role-functions d parts w e) (role-forks d parts w e)
    (c.all_numbered.ensures.placed r.headers r.functions r.port r.body (role_vars r s) begin) (c.all_numbered.ensures.copies r.headers r.functions r.port inner.sites inner.next)
    (λ ms p. c.all_numbered.ensures.fields 0 outer.next.field outer.next.app ms p)
