use Rattle.std.proofs.Common.{◌++◌, map, sym, ap, ◌∙◌}
use Rattle.std.proofs.lemmas.List.{append-nil, drop_all}
use Rattle.lower_code.specs.Growth.{made_in, made_of}
use Rattle.lowering.specs.Log.{tables_in}
use Rattle.p4_ir.specs.Program.{table_of}
use Rattle.lower_net.proofs.Walks.{tables-split, walk-step}
use Rattle.lower_net.proofs.switch_tables.tables.Goals as goal

pub loop-part-preserved : goal.loop-part-preserved
loop-part-preserved c = λ d.
    walk-step tables_in tables-split (made_of d) c.args.made.now c.loop-part.part-index c.part-item.result c.loop-part-test.true c.part-item.is
    (map table_of c.loop-part.tables.items) (map table_of c.push_table.new.tables.items) _ (c.in_ok-push_table.ensures d) (c.loop-part.invariant d)

pub returns : goal.returns
returns c = λ d.
    sym (append-nil (map table_of c.loop-part.tables.items))
    ∙ ap (λ xs. map table_of c.loop-part.tables.items ++ tables_in (made_in d xs)) (sym (drop_all c.loop-part.part-index c.args.made.now c.loop-part-test.false))
    ∙ c.loop-part.invariant d
