use Rattle.std.proofs.Common.{rules, arith, ◌+◌}
use Rattle.parsing.specs.PlainParser.{after, marked, reserved, design_from}
use Rattle.cocoon_text.proofs.decls.design.Goals as goal

pub returns-in_err-expect_keyword : goal.returns-in_err-expect_keyword
unfolding after marked reserved design_from
returns-in_err-expect_keyword c = record { depth = 0; agrees = λ n h. let e0 = c.in_err-expect_keyword.ensures.is in search rules }

pub returns-in_err-expect : goal.returns-in_err-expect
unfolding after marked reserved design_from
returns-in_err-expect c = record { depth = 0; agrees = λ n h. let e0 = c.in_ok-expect_keyword.ensures.is in let e1 = c.in_err-expect.ensures.is in search rules }

pub returns-in_err-headers : goal.returns-in_err-headers
unfolding after marked reserved design_from
returns-in_err-headers c = record { depth = c.in_err-headers.ensures.agrees.depth; agrees = λ n h. let e0 = c.in_ok-expect_keyword.ensures.is in let e1 = c.in_ok-expect.ensures.is in let e2 = c.in_err-headers.ensures.agrees.agrees n (omega arith) in search rules }

pub returns-in_err-expect-2 : goal.returns-in_err-expect-2
unfolding after marked reserved design_from
returns-in_err-expect-2 c = record { depth = c.in_ok-headers.ensures.agrees.depth; agrees = λ n h. let e0 = c.in_ok-expect_keyword.ensures.is in let e1 = c.in_ok-expect.ensures.is in let e2 = c.in_ok-headers.ensures.agrees.agrees n (omega arith) in let e3 = c.in_err-expect-2.ensures.is in search rules }

pub returns-in_err-decls : goal.returns-in_err-decls
unfolding after marked reserved design_from
returns-in_err-decls c = record { depth = c.in_ok-headers.ensures.agrees.depth + c.in_err-decls.ensures.agrees.depth; agrees = λ n h. let e0 = c.in_ok-expect_keyword.ensures.is in let e1 = c.in_ok-expect.ensures.is in let e2 = c.in_ok-headers.ensures.agrees.agrees n (omega arith) in let e3 = c.in_ok-expect-2.ensures.is in let e4 = c.in_err-decls.ensures.agrees.agrees n (omega arith) in search rules }

pub returns-in_err-refines : goal.returns-in_err-refines
unfolding after marked reserved design_from
returns-in_err-refines c = record { depth = c.in_ok-headers.ensures.agrees.depth + c.in_ok-decls.ensures.agrees.depth + c.in_err-refines.ensures.agrees.depth; agrees = λ n h. let e0 = c.in_ok-expect_keyword.ensures.is in let e1 = c.in_ok-expect.ensures.is in let e2 = c.in_ok-headers.ensures.agrees.agrees n (omega arith) in let e3 = c.in_ok-expect-2.ensures.is in let e4 = c.in_ok-decls.ensures.agrees.agrees n (omega arith) in let e5 = c.in_err-refines.ensures.agrees.agrees n (omega arith) in search rules }

pub returns : goal.returns
unfolding after marked reserved design_from
returns c = record { depth = c.in_ok-headers.ensures.agrees.depth + c.in_ok-decls.ensures.agrees.depth + c.in_ok-refines.ensures.agrees.depth; agrees = λ n h. let e0 = c.in_ok-expect_keyword.ensures.is in let e1 = c.in_ok-expect.ensures.is in let e2 = c.in_ok-headers.ensures.agrees.agrees n (omega arith) in let e3 = c.in_ok-expect-2.ensures.is in let e4 = c.in_ok-decls.ensures.agrees.agrees n (omega arith) in let e5 = c.in_ok-refines.ensures.agrees.agrees n (omega arith) in let f = c.in_ok-refines.ensures.ends in search rules }
