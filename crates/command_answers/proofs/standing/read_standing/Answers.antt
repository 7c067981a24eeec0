use Rattle.std.proofs.Common.{◌∙◌, Err, IfErr, refl, subst, sym}
use Rattle.cocoon_syntax.specs.TreeOf.{design_of}
use Rattle.p4_ir.specs.NetOf.{net_of}
use Rattle.command_answers.specs.FolderCalls.{count, CalledUnder}
use Rattle.command_answers.specs.Standing.{GivesWires, LacksWires}
use Rattle.command_answers.specs.Updating.{HoldsCertificates, NotStanding, unaccepted, unread, unwired}
use Rattle.command_answers.proofs.Calling.{quiet_called}
use Rattle.command_answers.proofs.Counted.{called_after, called_ok, passed}
use Rattle.command_answers.proofs.standing.read_standing.Goals as goal

pub returns-in_err-bytes-clause-refused : goal.returns-in_err-bytes-clause-refused
returns-in_err-bytes-clause-refused g c =
    passed (λ answer. IfErr answer (NotStanding (g.F.Folder.content c.args.folder.now) c.args.out.now (design_of c.args.checked.now))) _ c.in_err-bytes.field-0.0 c.from_residual.ensures.1 (unread c.in_err-bytes.ensures.refused)

pub returns-in_err-bytes-clause-called : goal.returns-in_err-bytes-clause-called
returns-in_err-bytes-clause-called g c =
    passed (CalledUnder (g.F.Folder.last_failure c.read_bytes.new.folder) c.args.out.now (count g.F.Folder.last_read_fault _ _) (count g.F.Folder.last_write_fault _ _)) _ c.in_err-bytes.field-0.0 c.from_residual.ensures.1
    (λ names is. called_after _ names names g.F.Folder.last_read_fault g.F.Folder.last_write_fault _ _ _ _ _ _ c.in_err-bytes.field-0.0 refl refl refl (c.in_err-bytes.ensures.called names is))

pub returns-in_err-obligations-clause-refused : goal.returns-in_err-obligations-clause-refused
returns-in_err-obligations-clause-refused g c =
    passed (λ answer. IfErr answer (NotStanding (g.F.Folder.content c.args.folder.now) c.args.out.now (design_of c.args.checked.now))) _ c.in_err-obligations.field-0.0 c.from_residual-in_err-obligations.ensures.1
    (unaccepted c.deref.result.now (subst (HoldsCertificates (g.F.Folder.content c.args.folder.now) c.args.out.now) (sym c.deref.ensures.value) c.in_ok-bytes.ensures.held) c.in_err-obligations.ensures.refused)

pub returns-in_err-obligations-clause-called : goal.returns-in_err-obligations-clause-called
returns-in_err-obligations-clause-called g c =
    passed (CalledUnder (g.F.Folder.last_failure c.read_bytes.new.folder) c.args.out.now (count g.F.Folder.last_read_fault _ _) (count g.F.Folder.last_write_fault _ _)) _ c.in_err-obligations.field-0.0 c.from_residual-in_err-obligations.ensures.1
    (λ names is.
    let counts = (c.in_ok-bytes.ensures.called names is).counts in
    quiet_called _ names (count g.F.Folder.last_read_fault _ _) (count g.F.Folder.last_write_fault _ _) (Err c.in_err-obligations.field-0.0) counts.0 counts.1 c.in_err-obligations.ensures.quiet)

pub returns-in_err-wires-clause-refused : goal.returns-in_err-wires-clause-refused
returns-in_err-wires-clause-refused g c =
    let h = c.in_err-wires.ensures.refused in
    passed (λ answer. IfErr answer (NotStanding (g.F.Folder.content c.args.folder.now) c.args.out.now (design_of c.args.checked.now))) _ c.in_err-wires.field-0.0 c.from_residual-in_err-wires.ensures.1
    (unwired c.deref.result.now c.in_ok-obligations.obligations (subst (HoldsCertificates (g.F.Folder.content c.args.folder.now) c.args.out.now) (sym c.deref.ensures.value) c.in_ok-bytes.ensures.held) c.in_ok-obligations.ensures.accepts h.0 (subst (λ content. LacksWires content c.args.out.now h.0) c.in_ok-bytes.ensures.same h.1) h.2)

pub returns-in_err-wires-clause-called : goal.returns-in_err-wires-clause-called
returns-in_err-wires-clause-called g c =
    passed (CalledUnder (g.F.Folder.last_failure c.read_wires.new.folder) c.args.out.now (count g.F.Folder.last_read_fault _ _) (count g.F.Folder.last_write_fault _ _)) _ c.in_err-wires.field-0.0 c.from_residual-in_err-wires.ensures.1
    (λ names is.
    let counts = (c.in_ok-bytes.ensures.called names is).counts in
    called_after _ names names g.F.Folder.last_read_fault g.F.Folder.last_write_fault _ _ _ _ _ _ c.in_err-wires.field-0.0 refl counts.0 counts.1 (c.in_err-wires.ensures.called names is))

pub returns-clause-stands : goal.returns-clause-stands
returns-clause-stands g c = record {
  bytes = c.deref.result.now;
  held = subst (HoldsCertificates (g.F.Folder.content c.args.folder.now) c.args.out.now) (sym c.deref.ensures.value) c.in_ok-bytes.ensures.held;
  accepts = c.in_ok-obligations.ensures.accepts;
  given = subst (λ content. GivesWires content c.args.out.now (net_of c.in_ok-wires.wires)) c.in_ok-bytes.ensures.same c.in_ok-wires.ensures.given;
}

pub returns-clause-called : goal.returns-clause-called
returns-clause-called g c = λ names is.
    let first = (c.in_ok-bytes.ensures.called names is).counts in
    let second = (c.in_ok-wires.ensures.called names is).counts in
    called_ok _ names (count g.F.Folder.last_read_fault _ _) (count g.F.Folder.last_write_fault _ _) _ (second.0 ∙ first.0) (second.1 ∙ first.1)
