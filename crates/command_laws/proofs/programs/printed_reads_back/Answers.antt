-- The program that it reads as is one of its answers, and it has one.
use Rattle.p4_read.specs.Answers.{a_program}
use Rattle.command_laws.proofs.programs.printed_reads_back.Goals as goal

pub returns : goal.returns
returns c = λ text p r a h. c.one_answer.ensures text a (a_program p) h r
