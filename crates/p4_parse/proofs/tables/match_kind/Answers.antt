use Rattle.std.proofs.Common.{rules}
use Rattle.p4_parse.proofs.TablePhrases.{exact_read, no_kind_read, ternary_read}
use Rattle.p4_parse.proofs.tables.match_kind.Goals as goal

pub returns-then-is_word : goal.returns-then-is_word
returns-then-is_word c = exact_read c.args.source.now c.args.pos (search rules)

pub returns-then-is_word-2 : goal.returns-then-is_word-2
returns-then-is_word-2 c = ternary_read c.args.source.now c.args.pos (search rules)

pub returns : goal.returns
returns c = no_kind_read c.args.source.now c.args.pos c.requires (search rules) (search rules)
