use Rattle.std.proofs.Common.{rules}
use Rattle.parsing.specs.PlainParser.{marked}
use Rattle.cocoon_text.proofs.stmts.tested.Goals as goal

pub returns-in_err-expect-clause-agrees : goal.returns-in_err-expect-clause-agrees
unfolding marked
returns-in_err-expect-clause-agrees c = record { depth = 0; agrees = λ n h. let e0 = c.in_err-expect.ensures.is in search rules }

pub returns-clause-agrees : goal.returns-clause-agrees
unfolding marked
returns-clause-agrees c = record { depth = c.expr_then.ensures.agrees.depth; agrees = λ n h. rw c.in_ok-expect.ensures.is (c.expr_then.ensures.agrees.agrees n h) }
