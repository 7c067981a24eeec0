use Rattle.command_answers.specs.FolderCalls.{count}
use Rattle.command_answers.proofs.Calling.{told_unread}
use Rattle.command_answers.proofs.Counted.{called_ok}
use Rattle.command_answers.proofs.standing.read_bytes.Goals as goal

pub returns-in-Err-clause-refused : goal.returns-in-Err-clause-refused
returns-in-Err-clause-refused g c = (c.in-Err.fault, c.in-Err.ensures.refused, c.unread.ensures)

pub returns-in-Err-clause-called : goal.returns-in-Err-clause-called
returns-in-Err-clause-called g c = λ names is.
    told_unread (g.F.Folder.last_failure c.read_certificates.new.folder) names c.args.out.now g.F.Folder.last_read_fault g.F.Folder.last_write_fault _ _ _ _ c.in-Err.fault _ c.unread.ensures is c.in-Err.ensures.writes c.in-Err.ensures.failed
    c.in-Err.ensures.named

pub returns-in-Ok-clause-called : goal.returns-in-Ok-clause-called
returns-in-Ok-clause-called g c = λ names is.
    called_ok (g.F.Folder.last_failure c.read_certificates.new.folder) names (count g.F.Folder.last_read_fault _ _) (count g.F.Folder.last_write_fault _ _) _ c.in-Ok.ensures.counted c.in-Ok.ensures.writes
