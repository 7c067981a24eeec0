use Rattle.std.proofs.Common.{rules, arith}
use Rattle.parsing.specs.PlainParser.{entry_from}
use Rattle.cocoon_text.proofs.defs.entry.Goals as goal

pub returns-then-is_keyword-2-clause-agrees : goal.returns-then-is_keyword-2-clause-agrees
unfolding entry_from
returns-then-is_keyword-2-clause-agrees c = record { depth = c.row.ensures.agrees.depth; agrees = λ n h. let e0 = c.row.ensures.agrees.agrees n (omega arith) in search rules }
