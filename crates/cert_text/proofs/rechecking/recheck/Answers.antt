use Rattle.std.proofs.Common.{subst}
use Rattle.std.specs.List.{AllZip}
use Rattle.std.specs.Result.{IfErr, OnOk}
use Rattle.cocoon_syntax.specs.TreeOf.{design_of}
use Rattle.obligation_laws.specs.Obligations.{all_obligations}
use Rattle.cert_text.specs.Faults.{of_tree}
use Rattle.cert_text.specs.Rechecking.{IsAccepted, Tells}
use Rattle.cert_text.proofs.Accepting.{they_show}
use Rattle.cert_text.proofs.Telling.{always, large_tree, on_ok, passed}
use Rattle.cert_text.proofs.rechecking.recheck.Goals as goal

pub returns-in_err-obligations-clause-fault : goal.returns-in_err-obligations-clause-fault
returns-in_err-obligations-clause-fault c =
    passed c.from_residual.result (of_tree c.in_err-obligations.field-0.0) _ c.from_residual.ensures.1
    (large_tree (design_of c.args.checked.now) c.args.certs.now.certs c.in_err-obligations.field-0.0 c.in_err-obligations.ensures.paths)

pub returns-clause-few : goal.returns-clause-few
returns-clause-few c = always c.accept_all.result c.in_ok-obligations.ensures.few

pub returns-clause-accepted : goal.returns-clause-accepted
returns-clause-accepted c =
    let d = design_of c.args.checked.now in
    subst (λ xs. OnOk c.accept_all.result (AllZip (IsAccepted d) (all_obligations d) xs)) c.items.ensures c.accept_all.ensures.accepted

pub returns-clause-show : goal.returns-clause-show
returns-clause-show c =
    let d = design_of c.args.checked.now in
    on_ok c.accept_all.result (they_show d c.args.certs.now.certs)
    (subst (λ xs. OnOk c.accept_all.result (AllZip (IsAccepted d) (all_obligations d) xs)) c.items.ensures c.accept_all.ensures.accepted)

pub returns-clause-refines : goal.returns-clause-refines
returns-clause-refines c =
    let d = design_of c.args.checked.now in
    on_ok c.accept_all.result (c.blocks_that_never_fail_are_refined.ensures.design d c.design-design.ensures.resolves.rules (c.code_literals_fit.ensures.designs c.args.checked.now)) c.accept_all.ensures.holds

pub returns-clause-fault : goal.returns-clause-fault
returns-clause-fault c = subst (λ xs. IfErr c.accept_all.result (Tells (design_of c.args.checked.now) xs)) c.items.ensures c.accept_all.ensures.fault
