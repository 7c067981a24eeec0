use Rattle.std.proofs.Common.{◌≡◌, [], ◌∷◌, length, ap, inl, inr, refl, rules, subst, sym, ◌∙◌}
use Rattle.std.specs.Prelude.{Some, ℕ}
use Rattle.std.specs.declared.alloc.Global.{Global}
use Rattle.cocoon_syntax.specs.TreeOf.{design_of}
use Rattle.command_line.specs.Command.{compile as command}
use Rattle.shared_net.specs.Shared.{shared_of}
use Rattle.command_reports.specs.Report.{success}
use Rattle.command_reports.specs.declared.report.Report.{Report}
use Rattle.command_reports.specs.declared.refusal.Refusal.TheVariants as refusal
use Rattle.obligation_gen.specs.Counted.{AreFew, all_counts}
use Rattle.command_answers.specs.Commands.{owed_steps}
use Rattle.command_answers.specs.Compiling.{Compiles, CompilesTexts}
use Rattle.command_answers.specs.Deciding.{AnswersUnmet}
use Rattle.command_answers.specs.Outcomes.{good, no_memory, none}
use Rattle.command_answers.specs.Refining.{IsEnded, IsRefined, KeepsAll}
use Rattle.command_answers.specs.ReportLines.{compiled_line}
use Rattle.command_answers.specs.Answering.{Asked}
use Rattle.command_answers.specs.Steps.{lowering_within}
use Rattle.command_answers.specs.declared.answer.Writing.TheVariants.{Bundle}
use Rattle.command_answers.proofs.Assuming.{all_met_good, is_found, is_none, not_met}
use Rattle.command_answers.proofs.Counted.{passed}
use Rattle.command_answers.proofs.Owing.{plans_ended, refined_good}
use Rattle.command_answers.proofs.TextSteps.{Texts, not_matched}
use Rattle.command_answers.proofs.Compiling.{asks_good, assuming, compiles_texts, ended_found, lowering, not_lowered, plans_done, reports, unrefined}
use Rattle.command_answers.proofs.compile.compile.Goals as goal

pub returns-in_err-bound-clause-asked : goal.returns-in_err-bound-clause-asked
returns-in_err-bound-clause-asked c = λ inputs design defs.
    let asked = c.args.asked.now in
    let r = c.in_err-bound.field-0.0 in
    passed (Asked (command asked.design.now asked.defs.now asked.out.now asked.conflicts asked.rounds) inputs) _ r c.from_residual.ensures.1
    (not_matched inputs c.args.design.now c.args.defs.now (assuming asked.conflicts asked.rounds) r (record { design = design; defs = defs }) c.in_err-bound.ensures.refused)

pub returns-in_err-answer-clause-asked : goal.returns-in_err-answer-clause-asked
returns-in_err-answer-clause-asked c = λ inputs design defs.
    let asked = c.args.asked.now in
    let d = design_of c.in_ok-bound.bound.checked in
    let g : Texts inputs c.args.design.now c.args.defs.now = record { design = design; defs = defs } in
    let r = c.in_err-answer.field-0.0 in
    passed (Asked (command asked.design.now asked.defs.now asked.out.now asked.conflicts asked.rounds) inputs) _ r c.from_residual-in_err-answer.ensures.1
    (not_met inputs c.args.design.now c.args.defs.now (owed_steps asked.conflicts asked.rounds lowering) asked.conflicts d c.in_ok-bound.bound.defs r g c.in_ok-bound.ensures.binds (c.code_literals_fit.ensures.designs c.in_ok-bound.bound.checked)
    c.in_err-answer.ensures.refused)

pub returns-in-Some-clause-asked : goal.returns-in-Some-clause-asked
returns-in-Some-clause-asked c = λ inputs design defs.
    let asked = c.args.asked.now in
    let d = design_of c.in_ok-bound.bound.checked in
    let g : Texts inputs c.args.design.now c.args.defs.now = record { design = design; defs = defs } in
    inr (is_found inputs c.args.design.now c.args.defs.now _ asked.conflicts d c.in_ok-bound.bound.defs c.in-Some.answer g c.in_ok-bound.ensures.binds (c.code_literals_fit.ensures.designs c.in_ok-bound.bound.checked)
    (subst (AnswersUnmet d c.in_ok-bound.bound.defs asked.conflicts) c.in-Some.is c.in_ok-answer.ensures.decided))

pub returns-in_err-decided-clause-asked : goal.returns-in_err-decided-clause-asked
returns-in_err-decided-clause-asked c = λ inputs design defs.
    let asked = c.args.asked.now in
    let d = design_of c.in_ok-bound.bound.checked in
    let g : Texts inputs c.args.design.now c.args.defs.now = record { design = design; defs = defs } in
    let binds = c.in_ok-bound.ensures.binds in
    let r = c.in_err-decided.field-0.0 in
    let met = all_met_good inputs c.args.design.now c.args.defs.now asked.conflicts d c.in_ok-bound.bound.defs c.in_ok-answer.field-0 g binds (c.code_literals_fit.ensures.designs c.in_ok-bound.bound.checked) (is_none c.in_ok-answer.field-0 c.in_default.not-Some) c.in_ok-answer.ensures.decided in
    passed (Asked (command asked.design.now asked.defs.now asked.out.now asked.conflicts asked.rounds) inputs) _ r c.from_residual-in_err-decided.ensures.1
    (unrefined inputs c.args.design.now c.args.defs.now asked.conflicts asked.rounds d c.in_ok-bound.bound.defs r g binds met c.in_err-decided.ensures.refused)

pub returns-in-Ended-clause-asked : goal.returns-in-Ended-clause-asked
returns-in-Ended-clause-asked c = λ inputs design defs.
    let n = c.args.asked.now.conflicts in
    let m = c.args.asked.now.rounds in
    let d = design_of c.in_ok-bound.bound.checked in
    let g : Texts inputs c.args.design.now c.args.defs.now = record { design = design; defs = defs } in
    let binds = c.in_ok-bound.ensures.binds in
    let answer = c.in-Ended.answer in
    let met = all_met_good inputs c.args.design.now c.args.defs.now n d c.in_ok-bound.bound.defs c.in_ok-answer.field-0 g binds (c.code_literals_fit.ensures.designs c.in_ok-bound.bound.checked) (is_none c.in_ok-answer.field-0 c.in_default.not-Some) c.in_ok-answer.ensures.decided in
    let is : AreFew (all_counts d) × IsEnded d n m answer = subst (IsRefined d n m) c.in-Ended.is c.in_ok-decided.ensures.decided in
    inr (ended_found inputs c.args.design.now c.args.defs.now n m (lowering_within ∷ []) d c.in_ok-bound.bound.defs answer g binds met is.0 is.1)

pub returns-in_err-net-in-Holds-clause-asked : goal.returns-in_err-net-in-Holds-clause-asked
returns-in_err-net-in-Holds-clause-asked c = λ inputs design defs.
    let asked = c.args.asked.now in
    let n = asked.conflicts in
    let m = asked.rounds in
    let x = c.args.design.now in
    let d = design_of c.in_ok-bound.bound.checked in
    let g : Texts inputs x c.args.defs.now = record { design = design; defs = defs } in
    let binds = c.in_ok-bound.ensures.binds in
    let r = c.in_err-net-in-Holds.field-0.0 in
    let met = all_met_good inputs x c.args.defs.now n d c.in_ok-bound.bound.defs c.in_ok-answer.field-0 g binds (c.code_literals_fit.ensures.designs c.in_ok-bound.bound.checked) (is_none c.in_ok-answer.field-0 c.in_default.not-Some) c.in_ok-answer.ensures.decided in
    let kept : KeepsAll d c.in-Holds.certs.certs = subst (IsRefined d n m) c.in-Holds.is c.in_ok-decided.ensures.decided in
    passed (Asked (command asked.design.now asked.defs.now asked.out.now asked.conflicts asked.rounds) inputs) _ r c.from_residual-in_err-net-in-Holds.ensures.1
    (not_lowered inputs x c.args.defs.now n m d c.in_ok-bound.bound.defs r g (good met (refined_good inputs x n m [] d design binds.binds.checked kept.few kept.refines none)) (c.in_err-net-in-Holds.ensures.refused x c.args.defs.now binds))

pub returns-in_err-made-in-Holds-clause-asked : goal.returns-in_err-made-in-Holds-clause-asked
returns-in_err-made-in-Holds-clause-asked c = λ inputs design defs.
    let asked = c.args.asked.now in
    passed (Asked (command asked.design.now asked.defs.now asked.out.now asked.conflicts asked.rounds) inputs) _ refusal.NoMemory c.from_residual-in_err-made-in-Holds.ensures.1 (no_memory refl)

pub returns-clause-asked : goal.returns-clause-asked
returns-clause-asked c = λ inputs design defs.
    let asked = c.args.asked.now in
    let n = asked.conflicts in
    let m = asked.rounds in
    let d = design_of c.in_ok-bound.bound.checked in
    let net = shared_of c.in_ok-net-in-Holds.net in
    let g : Texts inputs c.args.design.now c.args.defs.now = record { design = design; defs = defs } in
    let lowers = c.in_ok-net-in-Holds.ensures.lowers c.args.design.now c.args.defs.now c.in_ok-bound.ensures.binds in
    let kept : KeepsAll d c.in-Holds.certs.certs = subst (IsRefined d n m) c.in-Holds.is c.in_ok-decided.ensures.decided in
    let same : length c.items.result.now ≡ length c.in-Holds.certs.certs = search rules in
    inl (
      asks_good asked.design.now asked.defs.now asked.out.now n m inputs c.args.design.now c.args.defs.now net g lowers.0,
      reports asked.design.now asked.defs.now asked.out.now n m inputs c.args.design.now c.args.defs.now d (length c.items.result.now) net _ g lowers (same ∙ kept.counted)
          c.in_ok-made-in-Holds.ensures.report,
    )

pub returns-in_err-text-in-Holds-clause-asked : goal.returns-in_err-text-in-Holds-clause-asked
returns-in_err-text-in-Holds-clause-asked c = λ inputs design defs.
    let asked = c.args.asked.now in
    passed (Asked (command asked.design.now asked.defs.now asked.out.now asked.conflicts asked.rounds) inputs) _ refusal.NoMemory c.from_residual-in_err-text-in-Holds.ensures.1 (no_memory refl)

pub returns-clause-plans : goal.returns-clause-plans
returns-clause-plans c =
    let n = c.args.asked.now.conflicts in
    let m = c.args.asked.now.rounds in
    let x = c.args.design.now in
    let y = c.args.defs.now in
    let d = design_of c.in_ok-bound.bound.checked in
    let net = shared_of c.in_ok-net-in-Holds.net in
    let kept : KeepsAll d c.in-Holds.certs.certs = subst (IsRefined d n m) c.in-Holds.is c.in_ok-decided.ensures.decided in
    let lowers = c.in_ok-net-in-Holds.ensures.lowers x y c.in_ok-bound.ensures.binds in
    let made = compiles_texts x y d net c.in-Holds.certs.certs c.in_ok-text-in-Holds.text.items lowers kept c.in_ok-text-in-Holds.ensures.reads in
    let is : Compiles c.args.asked.now.out.now x y (Bundle c.args.asked.now.out c.in_ok-net-in-Holds.net (Some c.from-certificates.result)) = (refl, subst (CompilesTexts x y net) (sym c.from-certificates.ensures) made) in
    plans_done (λ w. Compiles c.args.asked.now.out.now x y w) _ _ (ap (λ (r : Report). r.verdict) c.in_ok-made-in-Holds.ensures.report) (subst (λ w. Compiles c.args.asked.now.out.now x y w) (sym c.in_ok-made-in-Holds.ensures.writing) is)

pub returns-in-Ended-clause-plans : goal.returns-in-Ended-clause-plans
returns-in-Ended-clause-plans c =
    let n = c.args.asked.now.conflicts in
    let m = c.args.asked.now.rounds in
    let d = design_of c.in_ok-bound.bound.checked in
    let answer = c.in-Ended.answer in
    let is : AreFew (all_counts d) × IsEnded d n m answer = subst (IsRefined d n m) c.in-Ended.is c.in_ok-decided.ensures.decided in
    plans_ended (λ w. Compiles c.args.asked.now.out.now c.args.design.now c.args.defs.now w) d n m answer is.1
