use Rattle.std.proofs.Common.{ap, map, ◌∙◌}
use Rattle.p4_ir.specs.NetOf.{key_row_of}
use Rattle.p4_ir.specs.Switch.{table_result}
use Rattle.row_search.proofs.grouped.parted.Goals as goal

pub returns : goal.returns
returns c = record {
  many = c.in_ok-new.ensures.count;
  answers = λ xs l. c.in_ok-new.ensures.answers xs l ∙ ap (λ rs. table_result (map key_row_of rs) c.args.rows.now.default xs) c.items-listed.ensures;
}
