use Rattle.std.proofs.Common.{map, sym, ap, subst, ◌∙◌}
use Rattle.std.specs.Prelude.{filter_map, option_map}
use Rattle.std.specs.List.{AllZip}
use Rattle.cocoon_syntax.specs.TreeOf.{const_of, entry_of, expr_of, function_of, param_of}
use Rattle.cocoon_types.specs.Design.{widths_of}
use Rattle.cocoon_types.specs.Tables.{row_of}
use Rattle.runtime_defs.specs.Bound.{IsRow}
use Rattle.runtime_defs.proofs.Tabled.{place-there}
use Rattle.runtime_defs.proofs.tables.runtime_table.Goals as goal

pub returns : goal.returns
returns c = place-there (map entry_of c.args.entries.now) (function_of c.args.function.now) c.bytes-name.result.now (const_of c.unwrap-default.result)
    (record { widths = c.from.result; rows = c.from-2.result; default = c.bits_of.result })
    c.bytes-name.ensures (ap (option_map expr_of) c.requires.bodiless) (ap (option_map const_of) (sym c.unwrap-default.ensures) ∙ c.default_value.ensures)
    (c.from.ensures ∙ c.in_ok-widths.ensures ∙ ap (λ ps. widths_of (map param_of ps)) c.deref.ensures.value)
    (subst (AllZip IsRow (filter_map (row_of c.bytes-name.result.now) (map entry_of c.args.entries.now))) (sym c.from-2.ensures) c.in_ok-rows.ensures)
    c.bits_of.ensures
