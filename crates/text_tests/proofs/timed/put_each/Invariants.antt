use Rattle.p4_run.specs.Frames.{Fits}
use Rattle.p4_run.specs.Running.{program_in}
use Rattle.text_tests.proofs.timed.put_each.Given as goal

abbrev pub invariant-loop-done : goal.invariant-loop-done
invariant-loop-done l = Fits (program_in l.loaded) l.frame
