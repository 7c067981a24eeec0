use Rattle.std.proofs.Common.{◌≡◌, ◌+◌, ◌++◌, [], length, map, refl, subst, sym, ap, ◌∙◌}
use Rattle.cocoon_syntax.specs.TreeOf.{decl_of, design_of, refine_of}
use Rattle.cocoon_types.specs.Design.{functions}
use Rattle.cocoon_types.specs.Noting.{Notes}
use Rattle.cocoon_types.specs.Sites.{sites_from, sites_of}
use Rattle.name_rules.specs.Tests.{in_decls}
use Rattle.name_rules.proofs.DeclSteps.{counted, decls_in, functions_in, outside_and_in}
use Rattle.name_rules.proofs.Whole.{design_notes}
use Rattle.name_rules.proofs.uses.note_uses.Goals as goal

pub returns : goal.returns
returns c =
    let d = design_of c.args.design.now in
    let own = functions_in (map decl_of c.args.design.now.decls.items) in
    design_notes c.noting_laws.ensures d
    (subst (λ ds. Notes (in_decls (sites_of d 0 [] (map decl_of ds))) c.args.noted.now c.note_decls.new.noted) c.deref.ensures.value
    (c.in_ok-functions.ensures.noted [] (functions_in (decls_in d.refines)) refl
    (subst (λ ds. functions d ≡ [] ++ functions_in (map decl_of ds) ++ functions_in (decls_in d.refines)) (sym c.deref.ensures.value) (outside_and_in d))))
    (subst (λ bs. Notes (in_decls (sites_from d 1 own (map refine_of bs))) c.note_decls.new.noted c.note_blocks.new.noted) c.deref-2.ensures.value
    (c.in_ok-note_blocks.ensures own (counted c.in_ok-functions.functions own (c.in_ok-functions.ensures.functions ∙ ap (λ ds. 0 + length (functions_in (map decl_of ds))) c.deref.ensures.value))
    (subst (λ bs. functions d ≡ own ++ functions_in (decls_in (map refine_of bs))) (sym c.deref-2.ensures.value) (outside_and_in d))))
