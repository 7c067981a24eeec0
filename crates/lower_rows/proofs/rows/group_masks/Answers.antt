use Rattle.std.proofs.Common.{sym, subst}
use Rattle.cocoon_syntax.specs.TreeOf.{design_of}
use Rattle.cocoon_types.specs.Design.{widths_of}
use Rattle.cocoon_resolve.specs.Kept.{AreDeclared}
use Rattle.lower_rows.proofs.Narrow.{group-declared}
use Rattle.lower_rows.proofs.rows.group_masks.Goals as goal

pub all_ones-requires : goal.all_ones-requires
all_ones-requires c =
    subst (λ ps. AreDeclared (widths_of ps)) (sym c.group_params.ensures)
    (group-declared (design_of c.args.checked.now) c.know_reading.ensures.named c.design.ensures.resolves.rules c.args.number)
