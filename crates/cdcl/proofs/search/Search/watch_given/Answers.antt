use Rattle.std.proofs.Common.{◌∙◌, ap, sym}
use Rattle.cnf_core.specs.Deriving.{is_conflict}
use Rattle.cnf_core.specs.TrailViews.{trues}
use Rattle.cdcl.proofs.FirstClauses.{first-has, first-none}
use Rattle.cdcl.proofs.search.Search.watch_given.Goals as goal

pub watch_from-requires-clause-inside : goal.watch_from-requires-clause-inside
watch_from-requires-clause-inside c = first-has c.args.clause.now.lits c.in-Some.first (sym c.first_literal.ensures ∙ c.in-Some.is)

pub returns-in-None-clause-conflict : goal.returns-in-None-clause-conflict
returns-in-None-clause-conflict c = λ off. ap (is_conflict (trues c.args.self.now.trail)) (first-none c.args.clause.now.lits (sym c.first_literal.ensures ∙ c.in-None.is))
