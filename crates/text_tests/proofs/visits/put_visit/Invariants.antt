use Rattle.p4_run.specs.Frames.{Fits}
use Rattle.p4_run.specs.Running.{program_in}
use Rattle.text_tests.proofs.visits.put_visit.Given as goal

abbrev pub invariant-loop-copy : goal.invariant-loop-copy
invariant-loop-copy l = Fits (program_in l.loaded) l.frame
