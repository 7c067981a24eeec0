use Rattle.std.proofs.Common.{All, sym, subst}
use Rattle.std.specs.Prelude.{option_map}
use Rattle.std.specs.List.{AllZip}
use Rattle.cocoon_syntax.specs.TreeOf.{design_of}
use Rattle.runtime_defs.specs.Guards.{switch_table, ListsTrue}
use Rattle.runtime_defs.specs.Places.{MayHaveShape}
use Rattle.runtime_defs.specs.TrueRows.{IsListed, MayBeListed}
use Rattle.runtime_defs.proofs.Guarding.{switches-kept}
use Rattle.runtime_defs.proofs.defs.Defs.switches.Goals as goal

pub returns-in-Some : goal.returns-in-Some
returns-in-Some c =
    let d = design_of c.args.checked.now in
    let listed = c.numbers_at.ensures c.args.self.now (subst (AllZip IsListed c.args.self.now) (sym c.deref.ensures.value)
    (subst (λ places. AllZip IsListed places c.self.inside.numbers.items) c.self.view_is c.self.invariant.listed)) in
    subst (ListsTrue 16 (switch_table d c.args.self.now)) (sym c.deref-in-Some.ensures.value)
    (switches-kept d c.args.self.now c.requires (subst (All MayHaveShape) c.self.view_is c.self.invariant.shapes) c.switch_function.result c.in-Some.numbers.now c.switch_function.ensures
    (subst (λ o. MayBeListed c.args.self.now c.switch_function.result (option_map (λ kept. kept.now) o)) c.in-Some.is listed))
