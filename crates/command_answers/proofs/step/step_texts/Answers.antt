use Rattle.cocoon_syntax.specs.TreeOf.{design_of}
use Rattle.command_answers.proofs.step.step_texts.Goals as goal

pub returns-clause-steps : goal.returns-clause-steps
returns-clause-steps c =
    let binds = c.in_ok-bound.ensures.binds in
    let read = c.in_ok-case.ensures.read in record {
      tree = design_of c.in_ok-bound.bound.checked;
      tables = c.in_ok-bound.bound.defs;
      binds = binds;
      there = c.in_ok-case.ensures.there;
      case = read.0;
      says = read.1;
      steps = c.in_ok-run_case.ensures _ binds.are.stand read.0 read.2;
    }
