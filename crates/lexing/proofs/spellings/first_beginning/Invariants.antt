use Rattle.std.proofs.Common.{drop, map, ◌≡◌}
use Rattle.cocoon_num.specs.Tokens.{beginning}
use Rattle.lexing.proofs.spellings.first_beginning.Given as goal

abbrev pub invariant-loop-mark : goal.invariant-loop-mark
invariant-loop-mark g l = beginning (map g.M.Spelled.text_of l.marks) l.text ≡ beginning (map g.M.Spelled.text_of (drop l.mark-index l.marks)) l.text
