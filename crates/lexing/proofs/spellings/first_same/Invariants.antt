use Rattle.std.proofs.Common.{drop, map, ◌≡◌}
use Rattle.cocoon_num.specs.Lists.{is_one_of}
use Rattle.lexing.proofs.spellings.first_same.Given as goal

abbrev pub invariant-loop-word : goal.invariant-loop-word
invariant-loop-word g l = is_one_of (map g.W.Spelled.text_of l.words) l.run ≡ is_one_of (map g.W.Spelled.text_of (drop l.word-index l.words)) l.run
