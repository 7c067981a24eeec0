use Rattle.std.proofs.Common.{rules, arith}
use Rattle.parsing.specs.PlainParser.{after, marked, optional_params_from}
use Rattle.cocoon_text.proofs.decls.optional_params.Goals as goal

pub returns-in_err-params-clause-agrees : goal.returns-in_err-params-clause-agrees
unfolding after marked optional_params_from
returns-in_err-params-clause-agrees c = record { depth = c.in_err-params.ensures.agrees.depth; agrees = λ n h. let e0 = c.in_err-params.ensures.agrees.agrees n (omega arith) in search rules }

pub returns-clause-agrees : goal.returns-clause-agrees
unfolding after marked optional_params_from
returns-clause-agrees c = record { depth = c.in_ok-params.ensures.agrees.depth; agrees = λ n h. let e0 = c.in_ok-params.ensures.agrees.agrees n (omega arith) in search rules }

pub returns-then-is_mark-clause-agrees : goal.returns-then-is_mark-clause-agrees
unfolding after marked optional_params_from
returns-then-is_mark-clause-agrees c = record { depth = 0; agrees = λ n h. search rules }
