use Rattle.cocoon_syntax.specs.TreeOf.{design_of}
use Rattle.obligation_gen.specs.declared.obligation.Kind.TheVariants.{Contained, Bounded}
use Rattle.command_answers.proofs.Kept.{tells_run}
use Rattle.command_answers.proofs.obligations.failed_answer.Goals as goal

pub returns-in_ok-text-in-Contained : goal.returns-in_ok-text-in-Contained
returns-in_ok-text-in-Contained c = tells_run (design_of c.args.checked.now) c.args.obligation.now Contained c.args.failure.now _ _ c.in-Contained.is c.refuted.ensures c.in_ok-text-in-Contained.ensures.tells

pub returns-in_ok-text-in-Bounded : goal.returns-in_ok-text-in-Bounded
returns-in_ok-text-in-Bounded c = tells_run (design_of c.args.checked.now) c.args.obligation.now Bounded c.args.failure.now _ _ c.in-Bounded.is c.hop_bound.ensures c.in_ok-text-in-Bounded.ensures.tells
