use Rattle.std.proofs.Common.{◌∷◌, [], ◌++◌, map, take, sym, ap, subst, ◌∙◌, append_assoc}
use Rattle.std.proofs.lemmas.List.{map_more}
use Rattle.cocoon_syntax.specs.TreeOf.{decl_of, design_of}
use Rattle.cocoon_resolve.specs.Kept.{HoldsRow}
use Rattle.cocoon_resolve.proofs.bodies.note_level.Goals as goal

pub loop-decl-preserved : goal.loop-decl-preserved
loop-decl-preserved c = λ before h. subst (λ l. HoldsRow (design_of c.args.design.now) l c.note_decl.new.row.items)
    (append_assoc before (map decl_of (take c.loop-decl.decl-index c.args.decls.now)) (decl_of c.decl-item.result ∷ [])
    ∙ ap (λ l. before ++ l) (ap (λ y. map decl_of (take c.loop-decl.decl-index c.args.decls.now) ++ decl_of y ∷ []) c.decl-item.is ∙ sym (map_more decl_of c.args.decls.now c.loop-decl.decl-index c.decl-item.result c.loop-decl-test.true)))
    (c.in_ok-note_decl.ensures (before ++ map decl_of (take c.loop-decl.decl-index c.args.decls.now)) (c.loop-decl.invariant before h))
