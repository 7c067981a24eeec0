use Rattle.std.proofs.Common.{◌∙◌}
use Rattle.p4_kinds.proofs.NumberFacts.{one_inserted}
use Rattle.p4_kinds.proofs.numbers.numbers_of.Goals as goal

pub loop-table-preserved : goal.loop-table-preserved
loop-table-preserved c = λ n.
    one_inserted c.args.tables.now c.loop-table.table-index c.table-item.result c.loop-table.numbers.keys c.insert.new.self.keys c.loop-table-test.true c.table-item.is c.in_ok-insert.ensures.keys n
    ∙ c.loop-table.invariant n
