use Rattle.std.proofs.Common.{sym, subst}
use Rattle.expr_terms.specs.Variables.{AreThere}
use Rattle.obligation_gen.proofs.InputTerms.{makes_none}
use Rattle.obligation_gen.proofs.last.Last.new.Goals as goal

pub returns : goal.returns
returns c = λ nodes. record {
  there = subst (AreThere nodes) (sym c.new-2.ensures.items) (makes_none nodes).there;
  knows = c.in_ok-new.ensures nodes _;
}
