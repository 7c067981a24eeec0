use Rattle.std.proofs.Common.{◌≡◌, length, arith, sym, ap, ◌∙◌}
use Rattle.std.specs.Prelude.{option_map}
use Rattle.std.proofs.lemmas.Bool.Decides.{nat_tests}
use Rattle.runtime_defs.specs.Places.{table_at}
use Rattle.design_tests.proofs.bindings.takes.Goals as goal

pub returns-in-Some : goal.returns-in-Some
returns-in-Some c = λ h.
    let same : length c.items.result.now ≡ c.args.count = grind (arith, nat_tests, h) in
    record {
      table = c.in-Some.table.now;
      is_there = ap (λ ts. table_at ts c.args.function) (sym c.tables.ensures.are) ∙ sym c.table_of.ensures ∙ ap (option_map (λ t. t.now)) c.in-Some.is;
      widths = ap length (sym c.items.ensures) ∙ same;
    }
