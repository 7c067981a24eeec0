use Rattle.std.proofs.Common.{[], ◌∷◌, ◌++◌, ◌+◌, map, take, subst, sym, append-nil}
use Rattle.cocoon_syntax.specs.TreeOf.{decl_of}
use Rattle.cocoon_types.specs.Rules.{twice}
use Rattle.name_rules.specs.Among.{Seen, function_names}
use Rattle.name_rules.proofs.AmongFacts.{taken}
use Rattle.name_rules.proofs.AgainFacts.{notes-level, seen-level}
use Rattle.name_rules.proofs.again.note_level.Goals as goal

pub loop-decl-init : goal.loop-decl-init
loop-decl-init c = record {
  kept = λ names h. subst (Seen c.args.table.now) (sym (append-nil names)) h;
  notes = λ names h. c.among_laws.ensures.none twice c.args.noted.now;
}

pub loop-decl-preserved : goal.loop-decl-preserved
loop-decl-preserved c = record {
  kept = λ names h. seen-level c.note_decl.new.table names (map decl_of (take c.loop-decl.decl-index c.args.decls.now)) (decl_of c.decl-item.result ∷ []) (map decl_of (take (c.loop-decl.decl-index + 1) c.args.decls.now)) (taken decl_of c.args.decls.now c.loop-decl.decl-index c.decl-item.result c.loop-decl-test.true c.decl-item.is) (c.in_ok-note_decl.ensures.kept (names ++ function_names (map decl_of (take c.loop-decl.decl-index c.args.decls.now))) (c.loop-decl.invariant.kept names h));
  notes = λ names h. notes-level c.among_laws.ensures names (map decl_of (take c.loop-decl.decl-index c.args.decls.now)) (decl_of c.decl-item.result ∷ []) (map decl_of (take (c.loop-decl.decl-index + 1) c.args.decls.now)) c.args.noted.now c.loop-decl.noted c.note_decl.new.noted (taken decl_of c.args.decls.now c.loop-decl.decl-index c.decl-item.result c.loop-decl-test.true c.decl-item.is) (c.loop-decl.invariant.notes names h) (c.in_ok-note_decl.ensures.notes (names ++ function_names (map decl_of (take c.loop-decl.decl-index c.args.decls.now))) (c.loop-decl.invariant.kept names h));
}
