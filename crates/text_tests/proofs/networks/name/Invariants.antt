use Rattle.std.proofs.Common.{IsTrue}
use Rattle.cocoon_num.specs.Tokens.{is_run}
use Rattle.text_tests.proofs.networks.name.Given as goal

abbrev pub invariant-loop : goal.invariant-loop
invariant-loop l = IsTrue (is_run l.name.items)
