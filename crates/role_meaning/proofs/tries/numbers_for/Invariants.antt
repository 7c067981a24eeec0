use Rattle.std.proofs.Common.{◌≡◌, take, map}
use Rattle.refinement.specs.Trails.{wanted}
use Rattle.role_meaning.proofs.tries.numbers_for.Given as goal

abbrev pub invariant-loop-choice : goal.invariant-loop-choice
invariant-loop-choice l = l.numbers.items ≡ map (wanted l.args l.wanted.to.now l.fields l.wanted.sent.now) (take l.choice-index l.choices)
