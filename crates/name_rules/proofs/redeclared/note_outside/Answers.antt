use Rattle.std.proofs.Common.{◌+◌, true, map, take, subst, refl}
use Rattle.cocoon_syntax.specs.TreeOf.{decl_of}
use Rattle.cocoon_types.specs.RuleParts.{role_names}
use Rattle.cocoon_types.specs.Rules.{twice}
use Rattle.name_rules.specs.Among.{Seen}
use Rattle.name_rules.proofs.AmongFacts.{taken}
use Rattle.name_rules.proofs.ListedFacts.{roles-more}
use Rattle.name_rules.proofs.RedeclaredFacts.{notes-roles}
use Rattle.name_rules.proofs.redeclared.note_outside.Goals as goal

pub loop-decl-init : goal.loop-decl-init
loop-decl-init c = record { kept = c.new-seen.ensures; notes = c.among_laws.ensures.none twice c.args.noted.now }

pub loop-decl-preserved : goal.loop-decl-preserved
loop-decl-preserved c =
    let before = map decl_of (take c.loop-decl.decl-index c.args.decls.now) in
    let after = map decl_of (take (c.loop-decl.decl-index + 1) c.args.decls.now) in
    record {
      kept = subst (Seen c.note_decl.new.seen) (roles-more decl_of c.args.decls.now c.loop-decl.decl-index c.decl-item.result c.loop-decl-test.true c.decl-item.is) (c.in_ok-note_decl.ensures.kept (role_names before) c.loop-decl.invariant.kept);
      notes = notes-roles c.among_laws.ensures (λ r. true) true before after (decl_of c.decl-item.result) c.args.noted.now c.loop-decl.noted c.note_decl.new.noted (taken decl_of c.args.decls.now c.loop-decl.decl-index c.decl-item.result c.loop-decl-test.true c.decl-item.is) (λ r e. refl) c.loop-decl.invariant.notes (c.in_ok-note_decl.ensures.notes (role_names before) c.loop-decl.invariant.kept);
    }
