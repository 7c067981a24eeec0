use Rattle.std.proofs.Common.{◌==◌, subst, sym}
use Rattle.std.proofs.Math.Bool.{and-false}
use Rattle.cocoon_syntax.specs.TreeOf.{name_of, result_of}
use Rattle.cocoon_types.specs.FirstFault.{rank}
use Rattle.cocoon_types.specs.Noting.{Notes}
use Rattle.cocoon_types.specs.Rules.{too_wide}
use Rattle.type_rules.specs.Tests.{fails_among, wide_kind}
use Rattle.type_rules.proofs.DeclParts.{width_noted}
use Rattle.type_rules.proofs.decls.note_result.Goals as goal

pub returns-in-Width : goal.returns-in-Width
returns-in-Width c =
    subst (λ k. Notes (fails_among too_wide (wide_kind (name_of c.args.name.now) (result_of k))) c.args.noted.now c.note_width.new.noted) (sym c.in-Width.is)
    (width_noted c.noting_laws.ensures (name_of c.args.name.now) c.in-Width.width c.note_width.ensures)

pub returns-in-Truth : goal.returns-in-Truth
returns-in-Truth c =
    subst (λ k. Notes (fails_among too_wide (wide_kind (name_of c.args.name.now) (result_of k))) c.args.noted.now c.args.noted.now) (sym c.in-Truth.is)
    (c.noting_laws.ensures.nothing _ c.args.noted.now (λ f. and-false (rank f.rule == rank too_wide)))
