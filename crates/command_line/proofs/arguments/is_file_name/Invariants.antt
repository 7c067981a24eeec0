use Rattle.std.proofs.Common.{◌≡◌, drop}
use Rattle.std.specs.List.{list_all}
use Rattle.command_line.specs.Names.{is_name_byte}
use Rattle.command_line.proofs.arguments.is_file_name.Given as goal

abbrev pub invariant-loop-byte : goal.invariant-loop-byte
invariant-loop-byte l = list_all is_name_byte l.word ≡ list_all is_name_byte (drop l.byte-index l.byte-items)
