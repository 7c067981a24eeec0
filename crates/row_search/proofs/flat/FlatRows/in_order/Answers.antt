use Rattle.std.proofs.Common.{map, ap, ◌∙◌}
use Rattle.p4_ir.specs.NetOf.{key_row_of}
use Rattle.p4_ir.specs.Switch.{table_result}
use Rattle.row_search.proofs.flat.FlatRows.in_order.Goals as goal

pub returns : goal.returns
returns c =
    let otherwise = c.args.rows.now.default in
    let held = c.in_ok-form.ensures otherwise in
    record {
      many = held.many;
      answers = λ xs l. held.answers xs l ∙ ap (λ rs. table_result (map key_row_of rs) otherwise xs) c.items.ensures;
    }
