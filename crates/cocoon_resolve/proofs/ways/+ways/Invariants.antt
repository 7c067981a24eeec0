use Rattle.std.proofs.Common.{◌≡◌, map, take}
use Rattle.cocoon_syntax.specs.TreeOf.{block_of, stmt_of}
use Rattle.cocoon_types.specs.Limits.{ways_in}
use Rattle.cocoon_resolve.specs.Saturated.{reported_ways}
use Rattle.cocoon_resolve.proofs.ways.+ways.Given as goal

abbrev pub invariant-block_ways-loop-stmt : goal.invariant-block_ways-loop-stmt
invariant-block_ways-loop-stmt l = l.ways ≡ reported_ways (ways_in (block_of (map stmt_of (take l.stmt-index l.stmts))))
