use Rattle.std.proofs.Common.{◌≡◌, false, Some, option_map, sym, subst, ap, ◌∙◌}
use Rattle.p4_ir.specs.Switch.{egress_of, p4_run_all, state_of}
use Rattle.p4_run.specs.Controls.{running_in}
use Rattle.p4_run.specs.RegisterStates.{state_in}
use Rattle.p4_run.proofs.WidthFacts.{Widths}
use Rattle.p4_run.specs.Frames.{left_in}
use Rattle.p4_run.specs.Running.{layout_in, program_in, rows_in}
use Rattle.p4_run.specs.Visits.{after_egress, AreHeaders}
use Rattle.p4_run.proofs.FitFacts.{declared_at}
use Rattle.p4_run.proofs.VisitSteps.{headers_of}
use Rattle.p4_run.proofs.loaded.Loaded.egress.Goals as goal

pub returns-clause-next : goal.returns-clause-next
returns-clause-next c =
    let l = c.args.self.now in
    let p = program_in l in
    let layout = layout_in l in
    let is : egress_of p (rows_in l) c.args.rid (left_in l c.args.frame.now) ≡ Some (state_in layout c.run_egress.new.registers) =
    ap (λ s. option_map state_of (p4_run_all (running_in p (rows_in l).tables false c.args.rid) p.egress.body s)) (sym c.start.ensures.state)
    ∙ ap (λ n. option_map state_of (p4_run_all (running_in p (rows_in l).tables false n) p.egress.body (state_in layout c.start.new.registers))) (sym c.start.ensures.own)
    ∙ c.run_egress.ensures.left in
    c.next_after_egress.ensures layout ∙ ap after_egress (sym is)

pub returns-clause-headers : goal.returns-clause-headers
returns-clause-headers c =
    let l = c.args.self.now in
    let p = program_in l in
    let layout = layout_in l in
    let is : egress_of p (rows_in l) c.args.rid (left_in l c.args.frame.now) ≡ Some (state_in layout c.run_egress.new.registers) =
    ap (λ s. option_map state_of (p4_run_all (running_in p (rows_in l).tables false c.args.rid) p.egress.body s)) (sym c.start.ensures.state)
    ∙ ap (λ n. option_map state_of (p4_run_all (running_in p (rows_in l).tables false n) p.egress.body (state_in layout c.start.new.registers))) (sym c.start.ensures.own)
    ∙ c.run_egress.ensures.left in
    let w : Widths p = declared_at p l.kinds in
    subst (λ o. AreHeaders layout o c.leave.new.bytes.items) (sym is)
    (headers_of layout c.run_egress.new.registers c.leave.new.bytes.items w.whole c.run_egress.ensures.fit.fields c.leave.ensures.bytes)
