use Rattle.std.proofs.Common.{◌≡◌, drop, map}
use Rattle.clap.specs.Words.{app_of}
use Rattle.clap.specs.declared.builder.Command.TheViews.{out-Command}
use Rattle.command_line.specs.Syntax.{with_arguments}
use Rattle.command_line.proofs.syntax.with_arguments.Given as goal

abbrev pub invariant-loop-id : goal.invariant-loop-id
invariant-loop-id l = record {
  app : with_arguments (app_of l.command) (map (λ id. id.now) (drop l.id-index l.ids)) ≡ with_arguments (app_of l.fn.command) (map (λ id. id.now) l.ids);
  local : (out-Command l.command).has_globals ≡ (out-Command l.fn.command).has_globals;
}
