use Rattle.std.proofs.Common.{sym, subst}
use Rattle.std.specs.Prelude.{option_map}
use Rattle.cocoon_syntax.specs.TreeOf.{design_of}
use Rattle.lower_rows.proofs.Narrow.{MayHaveWords, named-has-words}
use Rattle.lower_rows.proofs.rows.named_rows.Goals as goal

pub function_rows-requires : goal.function_rows-requires
function_rows-requires c =
    let words = named-has-words (design_of c.args.checked.now) c.args.defs.now c.know_reading.ensures.named c.design.ensures.resolves.rules c.requires c.args.name.now in
    subst (λ o. MayHaveWords (option_map (λ t. t.now) o)) c.in-Some.is (subst MayHaveWords (sym c.function_table.ensures) words)
