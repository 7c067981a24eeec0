use Rattle.std.proofs.Common.{◌∙◌, ap, slice_get, arith}
use Rattle.declarations.proofs.TableFacts.{level-read}
use Rattle.declarations.proofs.place.level_decls.Goals as goal

pub returns-in_ok-item-in-Some : goal.returns-in_ok-item-in-Some
returns-in_ok-item-in-Some c = level-read c.args.design.now c.args.level c.in-Some.block c.item.result c.in_ok-item-in-Some.field-0 c.deref-in-Some-2.result.now (omega (arith, c.in-Some.ensures)) (c.item.ensures ∙ ap (λ l. slice_get l c.in-Some.block) c.deref-in-Some.ensures.value) c.in_ok-item-in-Some.was c.deref-in-Some-2.ensures.value
