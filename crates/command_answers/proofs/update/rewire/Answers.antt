use Rattle.std.proofs.Common.{IfErr, List, ℕ}
use Rattle.cocoon_syntax.specs.TreeOf.{design_of}
use Rattle.command_reports.specs.DesignTexts.{BindsTables}
use Rattle.p4_ir.specs.NetOf.{net_of}
use Rattle.shared_net.specs.Shared.{shared_of}
use Rattle.command_answers.specs.Updating.{NotRewired}
use Rattle.command_answers.proofs.Counted.{passed}
use Rattle.command_answers.proofs.Rewiring.{made_differs}
use Rattle.command_answers.proofs.update.rewire.Goals as goal

pub returns-in_err-compare_bound-in-Ok-clause-refused : goal.returns-in_err-compare_bound-in-Ok-clause-refused
returns-in_err-compare_bound-in-Ok-clause-refused c =
    let d = design_of c.args.bound.now.checked in
    let tables = c.args.bound.now.defs in
    let r = c.in_err-compare_bound-in-Ok.field-0.0 in
    passed (λ answer. IfErr answer (λ r. (design defs : List ℕ) → BindsTables design defs d tables → NotRewired (net_of c.args.old.now) design defs d tables r)) _ r c.from_residual.ensures.1
    (λ x y binds. made_differs (net_of c.args.old.now) x y d tables (shared_of c.in-Ok.net) r (c.in-Ok.ensures.lowers x y binds)
    (c.in_err-compare_bound-in-Ok.ensures.differ binds.entries (shared_of c.in-Ok.net) binds.are (c.in-Ok.ensures.network binds.entries binds.are)))

pub returns-in_ok-compare_bound-in-Ok-clause-same : goal.returns-in_ok-compare_bound-in-Ok-clause-same
returns-in_ok-compare_bound-in-Ok-clause-same c = λ text are. c.in_ok-compare_bound-in-Ok.ensures.same text (shared_of c.in-Ok.net) are (c.in-Ok.ensures.network text are)
