use Rattle.std.proofs.Common.{subst, sym, ◌∙◌}
use Rattle.cocoon_syntax.specs.TreeOf.{design_of}
use Rattle.command_reports.specs.declared.refusal.Refusal.{Refusal}
use Rattle.p4_ir.specs.NetOf.{net_of}
use Rattle.command_answers.specs.Compiling.{LongFile, NotLowered}
use Rattle.command_answers.proofs.Rewiring.{long_differs, none_made}
use Rattle.command_answers.proofs.update.other_wires.Goals as goal

pub returns-in-Ok : goal.returns-in-Ok
returns-in-Ok c = λ x y binds.
    let d = design_of c.args.bound.now.checked in
    let tables = c.args.bound.now.defs in
    let long : LongFile x y d tables c.in-TooLong.file c.in-TooLong.most = subst (NotLowered x y d tables) c.in-TooLong.is (c.requires.refused x y binds) in
    (long, c.in-Ok.ensures.same long.binds.entries long.net long.binds.are long.lowers)

pub returns-in-Err : goal.returns-in-Err
returns-in-Err c = λ x y binds.
    let d = design_of c.args.bound.now.checked in
    let tables = c.args.bound.now.defs in
    let long : LongFile x y d tables c.in-TooLong.file c.in-TooLong.most = subst (NotLowered x y d tables) c.in-TooLong.is (c.requires.refused x y binds) in
    long_differs (net_of c.args.old.now) x y d tables c.in-TooLong.file c.in-TooLong.most long c.in-Err.other (c.in-Err.ensures.differ long.binds.entries long.net long.binds.are long.lowers)

pub returns-in_default : goal.returns-in_default
returns-in_default c = λ x y binds.
    none_made (net_of c.args.old.now) x y (design_of c.args.bound.now.checked) c.args.bound.now.defs c.args.refusal c.in_default.not-TooLong (c.requires.refused x y binds)
