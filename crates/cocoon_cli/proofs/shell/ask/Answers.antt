use Rattle.std.proofs.Common.{refl, subst, sym}
use Rattle.command_line.specs.Command.{stands_for}
use Rattle.command_answers.specs.Commands.{files_of}
use Rattle.command_answers.specs.FolderCalls.{count, Called}
use Rattle.command_answers.specs.Answering.{Asked}
use Rattle.command_answers.specs.declared.answer.Answer.{Answer}
use Rattle.cocoon_cli.proofs.shell.ask.Goals as goal

pub returns-in-Update-clause-called : goal.returns-in-Update-clause-called
returns-in-Update-clause-called g c =
    subst (λ command. Called {A = Answer} (g.F.Folder.last_failure c.update.new.folder) (files_of (stands_for command)) (count g.F.Folder.last_read_fault (g.F.Folder.read_faults c.args.folder.now) (g.F.Folder.read_faults c.update.new.folder))
    (count g.F.Folder.last_write_fault (g.F.Folder.write_faults c.args.folder.now) (g.F.Folder.write_faults c.update.new.folder)) c.update.result) (sym c.in-Update.is) (c.update.ensures.called _ refl)

pub returns-in-Gen-clause-asked : goal.returns-in-Gen-clause-asked
returns-in-Gen-clause-asked g c = λ inputs given at.
    subst (λ command. Asked (stands_for command) inputs c.generate.result) (sym c.in-Gen.is) (c.generate.ensures.asked inputs)
