use Rattle.obligation_gen.proofs.Chains.{Joined}
use Rattle.obligation_gen.specs.Becoming.{Knows}
use Rattle.obligation_gen.specs.Replacing.{replacing_in}
use Rattle.obligation_gen.proofs.replacing.Replacing.and_equal.Given as goal

abbrev pub invariant-loop-at : goal.invariant-loop-at
invariant-loop-at l = record {
  joined : Joined l.fn.terms l.terms l.self l.condition l.all l.at l.old l.sent;
  knows : Knows l.terms (replacing_in l.fn.terms l.self) l.known;
}
