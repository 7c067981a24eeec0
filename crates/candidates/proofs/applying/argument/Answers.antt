use Rattle.std.proofs.Common.{subst, sym, ◌≤◌}
use Rattle.candidates.proofs.Applications.{argument-is, argument-width}
use Rattle.candidates.proofs.applying.argument.Goals as goal

pub number-requires : goal.number-requires
number-requires c = subst (λ w. w ≤ 64) (sym (argument-width c.args.terms.now c.args.env.now c.args.id c.requires.term c.in_ok-value.value c.in_ok-value.ensures)) c.requires.narrow

pub returns : goal.returns
returns c = argument-is c.args.terms.now c.args.env.now c.args.id c.requires.term c.in_ok-value.value c.in_ok-value.ensures c.number.result c.number.ensures
