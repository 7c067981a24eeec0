use Rattle.std.proofs.Common.{◌∙◌, refl, subst, sym}
use Rattle.command_line.specs.Command.{stands_for}
use Rattle.command_answers.specs.Commands.{files_of}
use Rattle.command_answers.specs.FolderCalls.{count}
use Rattle.cocoon_cli.specs.Shell.{StandsFor, Acts, AllWritten, CanWrite, NotAllWritten, ReadsAll, ReadsNot, writing_of}
use Rattle.command_answers.proofs.Counted.{called_after, called_ok, passed}
use Rattle.cocoon_cli.proofs.Certified.{certified_of}
use Rattle.cocoon_cli.proofs.Commands.{can_write, headline}
use Rattle.cocoon_cli.proofs.Performing.{done, unanswered, unread, unwritten}
use Rattle.cocoon_cli.proofs.shell.perform.Goals as goal

pub write_all-requires : goal.write_all-requires
write_all-requires g c = record {
  can = subst (λ names. CanWrite names c.in_ok-answer.answer.writing) (sym c.names_of-names.ensures) (can_write (stands_for c.args.command.now) c.in_ok-read.read c.in_ok-answer.answer c.in_ok-answer.ensures.plans);
}

pub returns-in_err-read-clause-acts : goal.returns-in_err-read-clause-acts
returns-in_err-read-clause-acts g c =
    let asked = stands_for c.args.command.now in
    let before = g.F.Folder.content c.args.folder.now in
    let r = c.in_err-read.field-0.0 in
    passed (Acts (g.F.Folder.last_failure c.read_all.new.folder) asked _ _ (count g.F.Folder.last_read_fault _ _) (count g.F.Folder.last_write_fault _ _)) _ r c.from_residual.ensures.1 (record {
      performs = unread asked before _ r c.in_err-read.ensures.same (subst (λ names. ReadsNot names before r) c.names_of-names.ensures c.in_err-read.ensures.refused);
      called = called_after _ _ (files_of asked) g.F.Folder.last_read_fault g.F.Folder.last_write_fault _ _ _ _ _ _ r c.names_of-names.ensures refl refl c.in_err-read.ensures.called;
    })

-- what the command is asked over the content of before
pub returns-in_err-answer-clause-acts : goal.returns-in_err-answer-clause-acts
returns-in_err-answer-clause-acts g c =
    let asked = stands_for c.args.command.now in
    let before = g.F.Folder.content c.args.folder.now in
    let r = c.in_err-answer.field-0.0 in
    passed (Acts (g.F.Folder.last_failure c.ask.new.folder) asked _ _ (count g.F.Folder.last_read_fault _ _) (count g.F.Folder.last_write_fault _ _)) _ r c.from_residual-in_err-answer.ensures.1 (record {
      performs = unanswered asked before _ c.in_ok-read.read r (c.in_err-answer.ensures.same ∙ c.in_ok-read.ensures.same) (subst (λ names. ReadsAll names before c.in_ok-read.read) c.names_of-names.ensures c.in_ok-read.ensures.all) c.in_err-answer.ensures.reading
          (λ i given at. c.in_err-answer.ensures.asked i given (at ∙ sym c.in_ok-read.ensures.same));
      called = called_after _ _ (files_of asked) g.F.Folder.last_read_fault g.F.Folder.last_write_fault _ _ _ _ _ _ r refl c.in_ok-read.ensures.called.counts.0 c.in_ok-read.ensures.called.counts.1 c.in_err-answer.ensures.called;
    })

pub returns-in_err-write_all-clause-acts : goal.returns-in_err-write_all-clause-acts
returns-in_err-write_all-clause-acts g c =
    let asked = stands_for c.args.command.now in
    let before = g.F.Folder.content c.args.folder.now in
    let mid = g.F.Folder.content c.ask.new.folder in
    let after = g.F.Folder.content c.write_all.new.folder in
    let read = c.in_ok-read.read in
    let answer = c.in_ok-answer.answer in
    let r = c.in_err-write_all.field-0.0 in
    passed (Acts (g.F.Folder.last_failure c.write_all.new.folder) asked _ _ (count g.F.Folder.last_read_fault _ _) (count g.F.Folder.last_write_fault _ _)) _ r c.from_residual-in_err-write_all.ensures.1 (record {
      performs = unwritten asked before mid after read answer r (c.in_ok-answer.ensures.same ∙ c.in_ok-read.ensures.same) (subst (λ names. ReadsAll names before read) c.names_of-names.ensures c.in_ok-read.ensures.all)
          (λ i given at. c.in_ok-answer.ensures.asked i given (at ∙ sym c.in_ok-read.ensures.same)) c.in_ok-answer.ensures.plans
          (subst (λ names. NotAllWritten (writing_of names read answer.writing) mid after r) c.names_of-names.ensures c.in_err-write_all.ensures.refused);
      called = called_after _ _ (files_of asked) g.F.Folder.last_read_fault g.F.Folder.last_write_fault _ _ _ _ _ _ r c.names_of-names.ensures
          (c.in_ok-answer.ensures.called.counts.0 ∙ c.in_ok-read.ensures.called.counts.0) (c.in_ok-answer.ensures.called.counts.1 ∙ c.in_ok-read.ensures.called.counts.1) c.in_err-write_all.ensures.called;
    })

pub returns-clause-acts : goal.returns-clause-acts
returns-clause-acts g c =
    let asked = stands_for c.args.command.now in
    let before = g.F.Folder.content c.args.folder.now in
    let mid = g.F.Folder.content c.ask.new.folder in
    let after = g.F.Folder.content c.write_all.new.folder in
    let read = c.in_ok-read.read in
    let answer = c.in_ok-answer.answer in
    record {
      performs = done asked before mid after read answer (c.in_ok-answer.ensures.same ∙ c.in_ok-read.ensures.same) (subst (λ names. ReadsAll names before read) c.names_of-names.ensures c.in_ok-read.ensures.all)
          (λ i given at. c.in_ok-answer.ensures.asked i given (at ∙ sym c.in_ok-read.ensures.same)) c.in_ok-answer.ensures.plans
          (subst (λ names. AllWritten (writing_of names read answer.writing) mid after) c.names_of-names.ensures c.in_ok-write_all.ensures.written);
      called = called_ok _ (files_of asked) (count g.F.Folder.last_read_fault _ _) (count g.F.Folder.last_write_fault _ _) _
          (c.in_ok-write_all.ensures.called.counts.0 ∙ (c.in_ok-answer.ensures.called.counts.0 ∙ c.in_ok-read.ensures.called.counts.0))
          (c.in_ok-write_all.ensures.called.counts.1 ∙ (c.in_ok-answer.ensures.called.counts.1 ∙ c.in_ok-read.ensures.called.counts.1));
    }

pub returns-clause-headline : goal.returns-clause-headline
returns-clause-headline g c done =
    let asked = stands_for c.args.command.now in
    let read = c.in_ok-read.read in
    let answer = c.in_ok-answer.answer in
    headline asked _ _ _ read answer (c.in_ok-answer.ensures.same ∙ c.in_ok-read.ensures.same)
    (subst (λ names. ReadsAll names (g.F.Folder.content c.args.folder.now) read) c.names_of-names.ensures c.in_ok-read.ensures.all) c.in_ok-answer.ensures.plans done
    (subst (λ content. StandsFor asked content read answer.writing) c.in_ok-read.ensures.same (c.in_ok-answer.ensures.stands done)) c.in_ok-write_all.ensures.holds

pub returns-clause-certified : goal.returns-clause-certified
returns-clause-certified g c done =
    let asked = stands_for c.args.command.now in
    let read = c.in_ok-read.read in
    let answer = c.in_ok-answer.answer in
    let mid = g.F.Folder.content c.ask.new.folder in
    let after = g.F.Folder.content c.write_all.new.folder in
    certified_of asked _ mid after read answer (c.in_ok-answer.ensures.same ∙ c.in_ok-read.ensures.same)
    (subst (λ names. ReadsAll names (g.F.Folder.content c.args.folder.now) read) c.names_of-names.ensures c.in_ok-read.ensures.all) c.in_ok-answer.ensures.plans done
    (subst (λ content. StandsFor asked content read answer.writing) c.in_ok-read.ensures.same (c.in_ok-answer.ensures.stands done))
    (subst (λ names. AllWritten (writing_of names read answer.writing) mid after) c.names_of-names.ensures c.in_ok-write_all.ensures.written) c.in_ok-write_all.ensures.holds
