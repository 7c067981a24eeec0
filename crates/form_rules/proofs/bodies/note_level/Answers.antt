use Rattle.std.proofs.Common.{[], ◌∷◌, ◌++◌, ◌+◌, map, take, subst, sym, append-nil}
use Rattle.cocoon_syntax.specs.TreeOf.{decl_of, design_of}
use Rattle.form_rules.specs.Walked.{Walked, role_names_in}
use Rattle.form_rules.proofs.WalkFacts.{level-more, taken}
use Rattle.form_rules.proofs.bodies.note_level.Goals as goal

pub loop-decl-init : goal.loop-decl-init
loop-decl-init c = λ xs start h. subst (λ l. Walked (design_of c.args.design.now) c.args.seen.now l start c.args.noted.now) (sym (append-nil xs)) h

pub loop-decl-preserved : goal.loop-decl-preserved
loop-decl-preserved c = λ xs start h.
    level-more (design_of c.args.design.now) c.note_decl.new.seen xs (map decl_of (take c.loop-decl.decl-index c.args.decls.now)) (decl_of c.decl-item.result ∷ []) (map decl_of (take (c.loop-decl.decl-index + 1) c.args.decls.now))
    (taken decl_of c.args.decls.now c.loop-decl.decl-index c.decl-item.result c.loop-decl-test.true c.decl-item.is)
    (c.in_ok-note_decl.ensures (xs ++ role_names_in (map decl_of (take c.loop-decl.decl-index c.args.decls.now))) start (c.loop-decl.invariant xs start h))
