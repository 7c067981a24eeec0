use Rattle.std.proofs.Common.{◌∙◌, rules}
use Rattle.command_line.proofs.Matching.{argument_added, still_local}
use Rattle.command_line.proofs.syntax.with_arguments.Goals as goal

pub loop-id-preserved : goal.loop-id-preserved
loop-id-preserved c = record {
  app = argument_added _ _ _ c.args.ids.now c.loop-id.id-index _ (search rules) c.required_argument.ensures.rule (c.in_ok-command.ensures.shape c.required_argument.ensures.local) ∙ c.loop-id.invariant.app;
  local = still_local _ _ _ c.in_ok-command.ensures.globals c.required_argument.ensures.local ∙ c.loop-id.invariant.local;
}
