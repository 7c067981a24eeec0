use Rattle.std.proofs.Common.{arith}
use Rattle.obligation_gen.proofs.RoleNames.{few_enough, too_many}
use Rattle.obligation_gen.proofs.counting.allow.Goals as goal

pub returns-then-leaves-gt-MOST_LEAVES-clause-told : goal.returns-then-leaves-gt-MOST_LEAVES-clause-told
returns-then-leaves-gt-MOST_LEAVES-clause-told c = λ count e. (e, too_many c.args.leaves count e c.if-leaves-gt-MOST_LEAVES.true)

pub returns-clause-few : goal.returns-clause-few
returns-clause-few c = λ count e. few_enough c.args.leaves count e (omega (arith, c.if-leaves-gt-MOST_LEAVES.false))
