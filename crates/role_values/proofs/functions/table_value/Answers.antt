use Rattle.std.proofs.Common.{ℕ, length, ap, sym, ◌∙◌, Some, None, if◌then◌else◌, option_map, Vec, Global}
use Rattle.role_values.specs.ByTables.{all_fit_widths}
use Rattle.role_values.proofs.FunctionSteps.{narrowed_count}
use Rattle.role_values.proofs.functions.table_value.Goals as goal

pub look-requires : goal.look-requires
look-requires c =
    let ns = c.args.args.now in
    let count = ap length c.deref.ensures.value
    ∙ narrowed_count c.args.table.now.widths ns c.in-Some.args.items
    (ap (option_map (λ (v : Vec ℕ Global). v.items)) (sym c.in-Some.is) ∙ c.in_ok-args.ensures ∙ ap (λ ws. if all_fit_widths ws ns then Some ns else None) c.items.ensures) in
    record { table = c.args.table.now; is_there = c.requires.is_there; widths = sym count }
