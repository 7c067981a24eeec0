use Rattle.std.proofs.Common.{rules}
use Rattle.parsing.specs.PlainParser.{decl_from}
use Rattle.cocoon_text.proofs.decls.decl.Goals as goal

pub returns-then-is_keyword-clause-agrees : goal.returns-then-is_keyword-clause-agrees
unfolding decl_from
returns-then-is_keyword-clause-agrees c = record { depth = c.function.ensures.agrees.depth; agrees = λ n h. let e0 = c.function.ensures.agrees.agrees n h in search rules }

pub returns-then-is_keyword-2-clause-agrees : goal.returns-then-is_keyword-2-clause-agrees
unfolding decl_from
returns-then-is_keyword-2-clause-agrees c = record { depth = c.assumption.ensures.agrees.depth; agrees = λ n h. let e0 = c.assumption.ensures.agrees.agrees n h in search rules }

pub returns-then-is_keyword-3-clause-agrees : goal.returns-then-is_keyword-3-clause-agrees
unfolding decl_from
returns-then-is_keyword-3-clause-agrees c = record { depth = c.role.ensures.agrees.depth; agrees = λ n h. let e0 = c.role.ensures.agrees.agrees n h in search rules }

pub returns-then-is_keyword-4-clause-agrees : goal.returns-then-is_keyword-4-clause-agrees
unfolding decl_from
returns-then-is_keyword-4-clause-agrees c = record { depth = 0; agrees = λ n h. let e0 = c.host.ensures.agrees in search rules }

pub returns-then-is_keyword-5-clause-agrees : goal.returns-then-is_keyword-5-clause-agrees
unfolding decl_from
returns-then-is_keyword-5-clause-agrees c = record { depth = 0; agrees = λ n h. let e0 = c.switch.ensures.agrees in search rules }

pub returns-clause-agrees : goal.returns-clause-agrees
unfolding decl_from
returns-clause-agrees c = record { depth = 0; agrees = λ n h. search rules }
