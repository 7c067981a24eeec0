use Rattle.std.proofs.Common.{refl}
use Rattle.rounds.proofs.Guesses.{covers, true-of}
use Rattle.rounds.proofs.guessing.tried.Goals as goal

pub environment-requires : goal.environment-requires
environment-requires c = c.requires.inputs.mapped.count

pub eval-requires-clause-there : goal.eval-requires-clause-there
eval-requires-clause-there c = c.requires.part.there

pub eval-requires-clause-covered : goal.eval-requires-clause-covered
eval-requires-clause-covered c =
    covers c.args.own.terms c.args.inputs c.args.assignment c.requires.inputs c.count-count.ensures.arena c.in_ok-env.env c.in_ok-env.ensures c.args.own.goal c.requires.part

pub returns-then-holds : goal.returns-then-holds
returns-then-holds c = record {
  of = refl;
  is_true = true-of c.args.own.terms c.args.inputs c.args.assignment c.requires.inputs c.count-count.ensures.arena c.in_ok-env.env c.in_ok-env.ensures c.args.own.goal c.requires.part
      c.in_ok-value.value c.in_ok-value.ensures c.if-holds.true;
}
