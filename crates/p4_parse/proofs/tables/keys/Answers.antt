use Rattle.std.proofs.Common.{rules}
use Rattle.p4_parse.proofs.TablePhrases.{as_first, no_keys_read}
use Rattle.p4_parse.proofs.tables.keys.Goals as goal

pub returns-then-is_mark : goal.returns-then-is_mark
returns-then-is_mark c = no_keys_read c.args.source.now c.args.pos c.new.result c.new.ensures.items (search rules)

pub returns : goal.returns
returns c = as_first c.args.source.now c.args.pos c.some_keys.result (search rules) c.some_keys.ensures
