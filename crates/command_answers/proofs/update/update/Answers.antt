use Rattle.std.proofs.Common.{◌≡◌, [], ◌∷◌, Err, IfErr, ap, inl, inr, refl, subst, sym, ◌∙◌}
use Rattle.std.specs.Prelude.{None, ℕ}
use Rattle.std.specs.declared.alloc.Global.{Global}
use Rattle.cocoon_syntax.specs.TreeOf.{design_of}
use Rattle.command_line.specs.Command.{update as command}
use Rattle.p4_ir.specs.NetOf.{net_of}
use Rattle.shared_net.specs.Shared.{shared_of}
use Rattle.command_reports.specs.Report.{fault_of, success}
use Rattle.command_reports.specs.declared.report.Report.{Report}
use Rattle.command_reports.specs.declared.report.Verdict.{Verdict}
use Rattle.command_reports.specs.declared.report.Verdict.TheVariants as verdict
use Rattle.command_reports.specs.declared.refusal.Refusal.TheVariants as refusal
use Rattle.command_answers.specs.Commands.{certificate_steps, rewiring_steps}
use Rattle.command_answers.specs.Deciding.{AnswersSpent, AnswersUnmet}
use Rattle.command_answers.specs.Outcomes.{no_memory}
use Rattle.command_answers.specs.ReportLines.{updated_line}
use Rattle.command_answers.specs.FolderCalls.{count, CalledUnder, IsReading}
use Rattle.command_answers.specs.Answering.{Asked}
use Rattle.command_answers.specs.Updating.{StandsUnder, Updates}
use Rattle.command_answers.specs.declared.answer.Writing.TheVariants.{Bundle}
use Rattle.command_answers.proofs.Assuming.{all_met_good, is_found, is_none, not_met}
use Rattle.command_answers.proofs.Calling.{quiet_called, quiet_reading}
use Rattle.command_answers.proofs.Compiling.{plans_done}
use Rattle.command_answers.proofs.Counted.{called_after, called_ok, passed}
use Rattle.command_answers.proofs.Rewiring.{matched_quiet, met_quiet, rewired_quiet, standing_reading}
use Rattle.command_answers.proofs.TextSteps.{Texts, not_matched}
use Rattle.command_answers.proofs.Updating.{as_many, asks_good, here, not_rewired, not_standing, reports, standing, stands}
use Rattle.command_answers.proofs.update.update.Goals as goal

-- ---- the texts

pub returns-in_err-bound-clause-asked : goal.returns-in_err-bound-clause-asked
returns-in_err-bound-clause-asked g c = λ inputs design defs at.
    let asked = c.args.asked.now in
    let r = c.in_err-bound.field-0.0 in
    passed (Asked (command asked.design.now asked.defs.now asked.out.now asked.conflicts) inputs) _ r c.from_residual.ensures.1
    (not_matched inputs c.args.design.now c.args.defs.now _ r (record { design = design; defs = defs }) c.in_err-bound.ensures.refused)

pub returns-in_err-bound-clause-called : goal.returns-in_err-bound-clause-called
returns-in_err-bound-clause-called g c =
    let r = c.in_err-bound.field-0.0 in
    passed (CalledUnder (g.F.Folder.last_failure c.args.folder.now) c.args.asked.now.out.now (count g.F.Folder.last_read_fault _ _) (count g.F.Folder.last_write_fault _ _)) _ r c.from_residual.ensures.1
    (λ names is. quiet_called _ names (count g.F.Folder.last_read_fault _ _) (count g.F.Folder.last_write_fault _ _) (Err r) refl refl (matched_quiet c.args.design.now c.args.defs.now r c.in_err-bound.ensures.refused))

pub returns-in_err-bound-clause-reading : goal.returns-in_err-bound-clause-reading
returns-in_err-bound-clause-reading g c =
    let r = c.in_err-bound.field-0.0 in
    passed (λ answer. IfErr answer (λ r. IsReading (fault_of r))) _ r c.from_residual.ensures.1 (quiet_reading r (matched_quiet c.args.design.now c.args.defs.now r c.in_err-bound.ensures.refused))

-- ---- the assumptions

pub returns-in_err-answer-clause-asked : goal.returns-in_err-answer-clause-asked
returns-in_err-answer-clause-asked g c = λ inputs design defs at.
    let asked = c.args.asked.now in
    let r = c.in_err-answer.field-0.0 in
    passed (Asked (command asked.design.now asked.defs.now asked.out.now asked.conflicts) inputs) _ r c.from_residual-in_err-answer.ensures.1
    (not_met inputs c.args.design.now c.args.defs.now (standing asked.out.now) asked.conflicts (design_of c.in_ok-bound.bound.checked) c.in_ok-bound.bound.defs r (record { design = design; defs = defs }) c.in_ok-bound.ensures.binds
    (c.code_literals_fit.ensures.designs c.in_ok-bound.bound.checked) c.in_err-answer.ensures.refused)

pub returns-in_err-answer-clause-called : goal.returns-in_err-answer-clause-called
returns-in_err-answer-clause-called g c =
    let r = c.in_err-answer.field-0.0 in
    passed (CalledUnder (g.F.Folder.last_failure c.args.folder.now) c.args.asked.now.out.now (count g.F.Folder.last_read_fault _ _) (count g.F.Folder.last_write_fault _ _)) _ r c.from_residual-in_err-answer.ensures.1
    (λ names is. quiet_called _ names (count g.F.Folder.last_read_fault _ _) (count g.F.Folder.last_write_fault _ _) (Err r) refl refl
    (met_quiet (design_of c.in_ok-bound.bound.checked) c.in_ok-bound.bound.defs c.args.asked.now.conflicts r c.in_err-answer.ensures.refused))

pub returns-in_err-answer-clause-reading : goal.returns-in_err-answer-clause-reading
returns-in_err-answer-clause-reading g c =
    let r = c.in_err-answer.field-0.0 in
    passed (λ answer. IfErr answer (λ r. IsReading (fault_of r))) _ r c.from_residual-in_err-answer.ensures.1
    (quiet_reading r (met_quiet (design_of c.in_ok-bound.bound.checked) c.in_ok-bound.bound.defs c.args.asked.now.conflicts r c.in_err-answer.ensures.refused))

pub returns-in-Some-clause-asked : goal.returns-in-Some-clause-asked
returns-in-Some-clause-asked g c = λ inputs design defs at.
    let asked = c.args.asked.now in
    let d = design_of c.in_ok-bound.bound.checked in
    let tables = c.in_ok-bound.bound.defs in
    inr (is_found inputs c.args.design.now c.args.defs.now (certificate_steps asked.out.now (rewiring_steps asked.out.now)) asked.conflicts d tables c.in-Some.answer (record { design = design; defs = defs }) c.in_ok-bound.ensures.binds
    (c.code_literals_fit.ensures.designs c.in_ok-bound.bound.checked) (subst (AnswersUnmet d tables asked.conflicts) c.in-Some.is c.in_ok-answer.ensures.decided))

pub returns-in-Some-clause-stands : goal.returns-in-Some-clause-stands
returns-in-Some-clause-stands g c = λ done.
    let d = design_of c.in_ok-bound.bound.checked in
    let spent : AnswersSpent d c.in_ok-bound.bound.defs c.args.asked.now.conflicts c.in-Some.answer = subst (AnswersUnmet d c.in_ok-bound.bound.defs c.args.asked.now.conflicts) c.in-Some.is c.in_ok-answer.ensures.decided in
    let no : ◌≡◌ {A = Verdict} verdict.Done verdict.Budget = sym done ∙ ap (λ (r : Report). r.verdict) spent.tells.told in
    absurd cc

pub returns-in-Some-clause-called : goal.returns-in-Some-clause-called
returns-in-Some-clause-called g c = λ names is. called_ok _ names (count g.F.Folder.last_read_fault _ _) (count g.F.Folder.last_write_fault _ _) _ refl refl

-- ---- what stands

pub returns-in_err-standing-clause-asked : goal.returns-in_err-standing-clause-asked
returns-in_err-standing-clause-asked g c = λ inputs design defs at.
    let asked = c.args.asked.now in
    let x = c.args.design.now in
    let y = c.args.defs.now in
    let d = design_of c.in_ok-bound.bound.checked in
    let tables = c.in_ok-bound.bound.defs in
    let t : Texts inputs x y = record { design = design; defs = defs } in
    let binds = c.in_ok-bound.ensures.binds in
    let r = c.in_err-standing.field-0.0 in
    let met = all_met_good inputs x y asked.conflicts d tables c.in_ok-answer.field-0 t binds (c.code_literals_fit.ensures.designs c.in_ok-bound.bound.checked) (is_none c.in_ok-answer.field-0 c.in_default.not-Some) c.in_ok-answer.ensures.decided in
    passed (Asked (command asked.design.now asked.defs.now asked.out.now asked.conflicts) inputs) _ r c.from_residual-in_err-standing.ensures.1
    (not_standing inputs asked.out.now x y asked.conflicts d tables r _ t binds at met c.in_err-standing.ensures.refused)

pub returns-in_err-standing-clause-called : goal.returns-in_err-standing-clause-called
returns-in_err-standing-clause-called g c =
    let r = c.in_err-standing.field-0.0 in
    passed (CalledUnder (g.F.Folder.last_failure c.read_standing.new.folder) c.args.asked.now.out.now (count g.F.Folder.last_read_fault _ _) (count g.F.Folder.last_write_fault _ _)) _ r c.from_residual-in_err-standing.ensures.1
    (λ names is. called_after _ names names g.F.Folder.last_read_fault g.F.Folder.last_write_fault _ _ _ _ _ _ r refl refl refl (c.in_err-standing.ensures.called names is))

pub returns-in_err-standing-clause-reading : goal.returns-in_err-standing-clause-reading
returns-in_err-standing-clause-reading g c =
    let r = c.in_err-standing.field-0.0 in
    passed (λ answer. IfErr answer (λ r. IsReading (fault_of r))) _ r c.from_residual-in_err-standing.ensures.1 (standing_reading _ c.args.asked.now.out.now (design_of c.in_ok-bound.bound.checked) r c.in_err-standing.ensures.refused)

-- ---- the network

pub returns-in_err-net-clause-asked : goal.returns-in_err-net-clause-asked
returns-in_err-net-clause-asked g c = λ inputs design defs at.
    let asked = c.args.asked.now in
    let x = c.args.design.now in
    let y = c.args.defs.now in
    let d = design_of c.in_ok-bound.bound.checked in
    let tables = c.in_ok-bound.bound.defs in
    let t : Texts inputs x y = record { design = design; defs = defs } in
    let binds = c.in_ok-bound.ensures.binds in
    let r = c.in_err-net.field-0.0 in
    let wires = net_of c.in_ok-standing.standing.wires in
    let met = all_met_good inputs x y asked.conflicts d tables c.in_ok-answer.field-0 t binds (c.code_literals_fit.ensures.designs c.in_ok-bound.bound.checked) (is_none c.in_ok-answer.field-0 c.in_default.not-Some) c.in_ok-answer.ensures.decided in
    passed (Asked (command asked.design.now asked.defs.now asked.out.now asked.conflicts) inputs) _ r c.from_residual-in_err-net.ensures.1
    (not_rewired inputs asked.out.now x y asked.conflicts d tables wires r t binds met (here inputs asked.out.now d c.in_ok-standing.standing.obligations wires _ at c.in_ok-standing.ensures.stands) (c.in_err-net.ensures.refused x y binds))

pub returns-in_err-net-clause-called : goal.returns-in_err-net-clause-called
returns-in_err-net-clause-called g c =
    let x = c.args.design.now in
    let y = c.args.defs.now in
    let r = c.in_err-net.field-0.0 in
    passed (CalledUnder (g.F.Folder.last_failure c.read_standing.new.folder) c.args.asked.now.out.now (count g.F.Folder.last_read_fault _ _) (count g.F.Folder.last_write_fault _ _)) _ r c.from_residual-in_err-net.ensures.1
    (λ names is.
    let counts = (c.in_ok-standing.ensures.called names is).counts in
    quiet_called _ names (count g.F.Folder.last_read_fault _ _) (count g.F.Folder.last_write_fault _ _) (Err r) counts.0 counts.1
    (rewired_quiet (net_of c.in_ok-standing.standing.wires) x y (design_of c.in_ok-bound.bound.checked) c.in_ok-bound.bound.defs r (c.in_err-net.ensures.refused x y c.in_ok-bound.ensures.binds)))

pub returns-in_err-net-clause-reading : goal.returns-in_err-net-clause-reading
returns-in_err-net-clause-reading g c =
    let x = c.args.design.now in
    let y = c.args.defs.now in
    let r = c.in_err-net.field-0.0 in
    passed (λ answer. IfErr answer (λ r. IsReading (fault_of r))) _ r c.from_residual-in_err-net.ensures.1
    (quiet_reading r (rewired_quiet (net_of c.in_ok-standing.standing.wires) x y (design_of c.in_ok-bound.bound.checked) c.in_ok-bound.bound.defs r (c.in_err-net.ensures.refused x y c.in_ok-bound.ensures.binds)))

pub returns-in_err-made-clause-asked : goal.returns-in_err-made-clause-asked
returns-in_err-made-clause-asked g c = λ inputs design defs at.
    let asked = c.args.asked.now in
    passed (Asked (command asked.design.now asked.defs.now asked.out.now asked.conflicts) inputs) _ refusal.NoMemory c.from_residual-in_err-made.ensures.1 (no_memory refl)

pub returns-in_err-made-clause-called : goal.returns-in_err-made-clause-called
returns-in_err-made-clause-called g c =
    passed (CalledUnder (g.F.Folder.last_failure c.read_standing.new.folder) c.args.asked.now.out.now (count g.F.Folder.last_read_fault _ _) (count g.F.Folder.last_write_fault _ _)) _ refusal.NoMemory c.from_residual-in_err-made.ensures.1
    (λ names is.
    let counts = (c.in_ok-standing.ensures.called names is).counts in
    quiet_called _ names (count g.F.Folder.last_read_fault _ _) (count g.F.Folder.last_write_fault _ _) (Err refusal.NoMemory) counts.0 counts.1 tt)

pub returns-in_err-made-clause-reading : goal.returns-in_err-made-clause-reading
returns-in_err-made-clause-reading g c = passed (λ answer. IfErr answer (λ r. IsReading (fault_of r))) _ refusal.NoMemory c.from_residual-in_err-made.ensures.1 tt

-- ---- all is good

pub returns-clause-asked : goal.returns-clause-asked
returns-clause-asked g c = λ inputs design defs at.
    let asked = c.args.asked.now in
    let n = asked.conflicts in
    let x = c.args.design.now in
    let y = c.args.defs.now in
    let d = design_of c.in_ok-bound.bound.checked in
    let tables = c.in_ok-bound.bound.defs in
    let net = shared_of c.in_ok-net.net in
    let t : Texts inputs x y = record { design = design; defs = defs } in
    let binds = c.in_ok-bound.ensures.binds in
    let kept = c.in_ok-standing.ensures.stands in
    let lowers = c.in_ok-net.ensures.lowers x y binds in
    let met = all_met_good inputs x y n d tables c.in_ok-answer.field-0 t binds (c.code_literals_fit.ensures.designs c.in_ok-bound.bound.checked) (is_none c.in_ok-answer.field-0 c.in_default.not-Some) c.in_ok-answer.ensures.decided in
    inl (
      asks_good asked.design.now asked.defs.now asked.out.now n inputs x y d tables (net_of c.in_ok-standing.standing.wires) net t binds met
          (here inputs asked.out.now d c.in_ok-standing.standing.obligations (net_of c.in_ok-standing.standing.wires) _ at kept) lowers.0 (c.in_ok-net.ensures.same binds.entries binds.are),
      reports asked.design.now asked.defs.now asked.out.now n inputs x y d c.in_ok-standing.standing.obligations net _ t lowers (as_many d kept.bytes c.in_ok-standing.standing.obligations kept.accepts)
          c.in_ok-made.ensures.report,
    )

pub returns-clause-plans : goal.returns-clause-plans
returns-clause-plans g c =
    let x = c.args.design.now in
    let y = c.args.defs.now in
    let out = c.args.asked.now.out.now in
    let is : Updates out x y (Bundle c.args.asked.now.out c.in_ok-net.net None) = (refl, (c.in_ok-net.ensures.lowers x y c.in_ok-bound.ensures.binds).0) in
    plans_done (λ w. Updates out x y w) _ _ (ap (λ (r : Report). r.verdict) c.in_ok-made.ensures.report) (subst (λ w. Updates out x y w) (sym c.in_ok-made.ensures.writing) is)

pub returns-clause-stands : goal.returns-clause-stands
returns-clause-stands g c = λ done.
    let out = c.args.asked.now.out.now in
    let x = c.args.design.now in
    let content = g.F.Folder.content c.args.folder.now in
    let is : StandsUnder content out x (Bundle c.args.asked.now.out c.in_ok-net.net None) =
    stands c.net_form_is_exact.ensures _ out x (design_of c.in_ok-bound.bound.checked) c.in_ok-standing.standing.obligations (net_of c.in_ok-standing.standing.wires) (shared_of c.in_ok-net.net)
    c.in_ok-bound.ensures.binds.binds.checked.reads c.in_ok-standing.ensures.stands (c.in_ok-net.ensures.same c.in_ok-bound.ensures.binds.entries c.in_ok-bound.ensures.binds.are) in
    subst (λ w. StandsUnder content out x w) (sym c.in_ok-made.ensures.writing) is

pub returns-clause-called : goal.returns-clause-called
returns-clause-called g c = λ names is.
    let counts = (c.in_ok-standing.ensures.called names is).counts in
    called_ok _ names (count g.F.Folder.last_read_fault _ _) (count g.F.Folder.last_write_fault _ _) _ counts.0 counts.1
