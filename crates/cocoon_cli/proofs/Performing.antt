-- What a command does to a folder, put together from what is read, answered and written.
use Rattle.std.proofs.Common.{◌≡◌, ◌++◌, Option, Result, Ok, Err, refl, ap, subst, ◌∙◌, inl, inr}
use Rattle.cocoon_io.specs.Files.{Files}
use Rattle.command_line.specs.Command.{Command}
use Rattle.command_reports.specs.Report.{Ending, Fault, IsEnding, by_read, by_write, by_memory, no_fault, fault_of, refusal_status, status_of}
use Rattle.command_reports.specs.declared.refusal.Refusal.{Refusal}
use Rattle.command_reports.specs.declared.report.Report.{Report}
use Rattle.command_answers.specs.declared.answer.Answer.{Answer}
use Rattle.command_answers.specs.Answering.{IsFound, Asked}
use Rattle.command_answers.specs.Commands.{Reports, asks, files_of, writes}
use Rattle.command_answers.specs.Outcomes.{AllGood, Answers, FirstWith, at_step, reads, steps}
use Rattle.command_answers.specs.FolderCalls.{IsReading}
use Rattle.command_answers.specs.Steps.{Inputs, Step}
use Rattle.command_answers.specs.Writing.{with_writing}
use Rattle.cocoon_cli.specs.declared.reading.Read.{Read}
use Rattle.cocoon_cli.specs.Shell.{Plans, PlansDone, AllWritten, IsGiven, NotAllWritten, ReadsAll, ReadsNot, writing_of}
use Rattle.cocoon_cli.specs.Leaves.{LeavesFault}
use Rattle.cocoon_cli.specs.Run.{Performs}
use Rattle.command_answers.proofs.Ending.{all_good, ends_after, ends_before, first_after, first_before}
use Rattle.cocoon_cli.proofs.Commands.{all_tell, not_written, planned_done, writes_good, writes_it}
use Rattle.cocoon_cli.proofs.Finding.{ends_of, not_found, writes_of}
use Rattle.cocoon_cli.proofs.Telling.{ends_has}

-- ---- what is left where nothing was written

-- a refusal before the writes
left_same : (c : Command) (i : Inputs) (before after : Option Files) (f : Fault) → IsReading f → after ≡ before → LeavesFault c i before after f
left_same c i before after (by_read file) q same = same
left_same c i before after (by_write file) q same = absurd q
left_same c i before after by_memory q same = inl same
left_same c i before after no_fault q same = same

-- ---- what is read

pub unread : (c : Command) (before after : Option Files) (r : Refusal) → after ≡ before → ReadsNot (files_of c) before r → Performs c before after (Err r)
unread c before after r same h = record {
  inputs = h.inputs;
  inputs_are = h.inputs_are;
  answers = inl (ends_before h.inputs (Err r) (reads (files_of c)) (asks c ++ writes c) h.ends);
  leaves = left_same c h.inputs before after (fault_of r) h.reading same;
}

-- ---- what is answered

pub unanswered : (c : Command) (before after : Option Files) (read : Read) (r : Refusal) → after ≡ before → ReadsAll (files_of c) before read → IsReading (fault_of r) → ((i : Inputs) → IsGiven (files_of c) i read → i.content ≡ before → Asked c i (Err r)) → Performs c before after (Err r)
unanswered c before after read r same g reading h = record {
  inputs = g.inputs;
  inputs_are = g.inputs_are;
  answers = inl (ends_after g.inputs (Err r) (reads (files_of c)) (asks c ++ writes c) g.good (h g.inputs g.given g.content_is));
  leaves = left_same c g.inputs before after (fault_of r) reading same;
}

-- ---- what is written

-- all of it was written: where all steps are good
all_done : (c : Command) (before mid after : Option Files) (read : Read) (answer : Answer) → mid ≡ before → (g : ReadsAll (files_of c) before read) → AllGood g.inputs (asks c) → Reports c g.inputs answer.report → PlansDone c read answer.writing
    → AllWritten (writing_of (files_of c) read answer.writing) mid after → Performs c before after (Ok answer.report)
all_done c before mid after read answer same g a k p w =
    let i = g.inputs in
    let all = all_good i (reads (files_of c)) (asks c ++ writes c) g.good (all_good i (asks c) (writes c) a (writes_good c i read answer.writing g.given p w.fits)) in
    record {
      inputs = i;
      inputs_are = g.inputs_are;
      answers = inr (all, k);
      leaves = (
        writing_of (files_of c) read answer.writing,
        inl ((all, writes_it c i read answer.writing g.given p w.fits), k),
        w.stands ∙ ap (with_writing (writing_of (files_of c) read answer.writing)) same,
      );
    }

-- the step of the questions that ends a command is one of all its steps
of_all : (c : Command) (before : Option Files) (read : Read) (g : ReadsAll (files_of c) before read) (P : Step → Type 0) → FirstWith g.inputs P (asks c) → FirstWith g.inputs P (steps c)
of_all c before read g P f = first_after g.inputs P (reads (files_of c)) (asks c ++ writes c) g.good (first_before g.inputs P (asks c) (writes c) f)

-- and where a step ends the command
found_done : (c : Command) (before mid after : Option Files) (read : Read) (answer : Answer) → mid ≡ before → (g : ReadsAll (files_of c) before read) → FirstWith g.inputs (IsFound g.inputs answer.report answer.writing) (asks c)
    → AllWritten (writing_of (files_of c) read answer.writing) mid after → Performs c before after (Ok answer.report)
found_done c before mid after read answer same g f w =
    let i = g.inputs in
    let found = of_all c before read g (IsFound i answer.report answer.writing) f in
    record {
      inputs = i;
      inputs_are = g.inputs_are;
      answers = inl (at_step (ends_of c i answer.report answer.writing found));
      leaves = (
        writing_of (files_of c) read answer.writing,
        inr (writes_of c i read answer.report answer.writing found),
        w.stands ∙ ap (with_writing (writing_of (files_of c) read answer.writing)) same,
      );
    }

pub done : (c : Command) (before mid after : Option Files) (read : Read) (answer : Answer) → mid ≡ before → ReadsAll (files_of c) before read → ((i : Inputs) → IsGiven (files_of c) i read → i.content ≡ before → Asked c i (Ok answer)) → Plans c read answer
    → AllWritten (writing_of (files_of c) read answer.writing) mid after → Performs c before after (Ok answer.report)
done c before mid after read answer same g h p w =
    elim (h g.inputs g.given g.content_is) [
      | inl (a, k) ↦ all_done c before mid after read answer same g a k (planned_done c g.inputs read answer k p) w
      | inr f ↦ found_done c before mid after read answer same g f w
    ]

all_unwritten : (c : Command) (before after : Option Files) (read : Read) (answer : Answer) (r : Refusal) (g : ReadsAll (files_of c) before read) → AllGood g.inputs (asks c) → Reports c g.inputs answer.report → PlansDone c read answer.writing
    → NotAllWritten (writing_of (files_of c) read answer.writing) before after r → Performs c before after (Err r)
all_unwritten c before after read answer r g a k p n =
    let i = g.inputs in
    let u = not_written c i before after read answer.writing r answer.report k g.good a g.given p n in
    record {
      inputs = i;
      inputs_are = g.inputs_are;
      answers = inl (ends_after i (Err r) (reads (files_of c)) (asks c ++ writes c) g.good (ends_after i (Err r) (asks c) (writes c) a u.ends));
      leaves = u.leaves;
    }

found_unwritten : (c : Command) (before after : Option Files) (read : Read) (answer : Answer) (r : Refusal) (g : ReadsAll (files_of c) before read) → FirstWith g.inputs (IsFound g.inputs answer.report answer.writing) (asks c)
    → NotAllWritten (writing_of (files_of c) read answer.writing) before after r → Performs c before after (Err r)
found_unwritten c before after read answer r g f n =
    let i = g.inputs in
    let u = not_found c i before after read answer.report answer.writing r (of_all c before read g (IsFound i answer.report answer.writing) f) n in
    record { inputs = i; inputs_are = g.inputs_are; answers = inl u.ends; leaves = u.leaves }

pub unwritten : (c : Command) (before mid after : Option Files) (read : Read) (answer : Answer) (r : Refusal) → mid ≡ before → ReadsAll (files_of c) before read → ((i : Inputs) → IsGiven (files_of c) i read → i.content ≡ before → Asked c i (Ok answer)) → Plans c read answer
    → NotAllWritten (writing_of (files_of c) read answer.writing) mid after r → Performs c before after (Err r)
unwritten c before mid after read answer r same g h p n =
    let here = subst (λ content. NotAllWritten (writing_of (files_of c) read answer.writing) content after r) same n in
    elim (h g.inputs g.given g.content_is) [
      | inl (a, k) ↦ all_unwritten c before after read answer r g a k (planned_done c g.inputs read answer k p) here
      | inr f ↦ found_unwritten c before after read answer r g f here
    ]

-- ---- what is told of it

-- each outcome has an ending
pub ended : (c : Command) (i : Inputs) (outcome : Result Report Refusal) → Answers c i outcome → (e : Ending) × IsEnding (files_of c) outcome e
ended c i (Ok report) h = (record { status = status_of (Ok report); report = report.lines }, record { status = refl; line = refl })
ended c i (Err r) (inr h) = absurd h.1
ended c i (Err r) (inl h) =
    let line = ends_has (files_of c) i r (steps c) (all_tell c) h in
    (record { status = refusal_status r; report = line.0 }, record { status = refl; line = line.1 })
