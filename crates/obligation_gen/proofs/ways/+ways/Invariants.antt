use Rattle.std.proofs.Common.{◌≡◌, map, take}
use Rattle.cocoon_syntax.specs.TreeOf.{block_of, stmt_of}
use Rattle.obligation_gen.specs.Weighed.{leaves_in, reported_ways, weighed_in}
use Rattle.obligation_gen.proofs.ways.+ways.Given as goal

abbrev pub invariant-block_ways-loop-stmt : goal.invariant-block_ways-loop-stmt
invariant-block_ways-loop-stmt l = l.ways ≡ reported_ways (weighed_in (leaves_in l.roles) (block_of (map stmt_of (take l.stmt-index l.stmts))))
