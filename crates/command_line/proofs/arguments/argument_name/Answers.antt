use Rattle.std.proofs.Common.{sym}
use Rattle.command_line.proofs.Matching.{is_name, is_other, is_absent}
use Rattle.command_line.proofs.arguments.argument_name.Goals as goal
use Rattle.command_line.proofs.arguments.argument_name.Goals.{in_default-via-in-Some+else-is_file_name, in_default-via-in_default}

pub returns-in-Some : goal.returns-in-Some
returns-in-Some c = is_name c.args.matches.now c.args.argument.now c.in-Some.word.now c.in-Some.ensures (sym c.if-is_file_name.ensures)

pub returns-in_default : goal.returns-in_default
returns-in_default c = elim c.in_default.branch [
  | in_default-via-in-Some+else-is_file_name w ↦ is_other c.args.matches.now c.args.argument.now w.in-Some.word.now w.in-Some.ensures (sym w.if-is_file_name.ensures)
  | in_default-via-in_default w ↦ is_absent c.args.matches.now c.args.argument.now w.in_default.ensures
]
