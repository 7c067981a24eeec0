use Rattle.std.proofs.Common.{[], map, subst}
use Rattle.std.specs.Prelude.{filter_map}
use Rattle.cocoon_syntax.specs.TreeOf.{decl_of, design_of, header_of, refine_of}
use Rattle.cocoon_types.specs.Design.{as_function}
use Rattle.cocoon_types.specs.Noting.{Notes}
use Rattle.cocoon_types.specs.Sites.{sites_of}
use Rattle.type_rules.specs.Tests.{in_blocks, in_decls, in_headers}
use Rattle.type_rules.proofs.DeclSteps.{design_notes}
use Rattle.type_rules.proofs.types.note_types.Goals as goal

pub returns : goal.returns
returns c =
    let d = design_of c.args.design.now in
    design_notes c.noting_laws.ensures d
    (subst (λ hs. Notes (in_headers (map header_of hs)) c.args.noted.now c.note_headers.new.noted) c.deref.ensures.value c.note_headers.ensures)
    (subst (λ ds. Notes (in_decls (sites_of d 0 [] (map decl_of ds))) c.note_headers.new.noted c.note_decls.new.noted) c.deref-2.ensures.value (c.in_ok-note_decls.ensures 0 []))
    (subst (λ bs. Notes (in_blocks d 1 (filter_map as_function (map decl_of c.args.design.now.decls.items)) (map refine_of bs)) c.note_decls.new.noted c.note_blocks.new.noted) c.deref-3.ensures.value
    (c.in_ok-note_blocks.ensures 1 (filter_map as_function (map decl_of c.args.design.now.decls.items))))
