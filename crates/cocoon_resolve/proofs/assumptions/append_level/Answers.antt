use Rattle.std.proofs.Common.{◌∷◌, [], ◌++◌, filter_map, map, take, sym, ap, ◌∙◌, append_assoc}
use Rattle.cocoon_syntax.specs.TreeOf.{assume_of, decl_of}
use Rattle.cocoon_types.specs.Limits.{as_assumption}
use Rattle.cocoon_resolve.proofs.Levels.{picked-more}
use Rattle.cocoon_resolve.proofs.assumptions.append_level.Goals as goal

pub loop-decl-preserved : goal.loop-decl-preserved
loop-decl-preserved c =
    c.in_ok-append.ensures ∙ ap (λ l. l ++ filter_map as_assumption (decl_of c.decl-item.result ∷ [])) c.loop-decl.invariant
    ∙ append_assoc (map assume_of c.args.held.now.items) (filter_map as_assumption (map decl_of (take c.loop-decl.decl-index c.args.decls.now))) (filter_map as_assumption (decl_of c.decl-item.result ∷ []))
    ∙ ap (λ l. map assume_of c.args.held.now.items ++ l) (sym (picked-more as_assumption decl_of c.args.decls.now c.loop-decl.decl-index c.decl-item.result c.loop-decl-test.true c.decl-item.is))
