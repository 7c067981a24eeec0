use Rattle.cocoon_syntax.specs.TreeOf.{decl_of, design_of}
use Rattle.cocoon_types.specs.Rules.{unknown_role}
use Rattle.name_rules.specs.Among.{unknown_named}
use Rattle.name_rules.proofs.AmongFacts.{notes-more}
use Rattle.name_rules.proofs.unknown.note_in_level.Goals as goal

pub loop-decl-init : goal.loop-decl-init
loop-decl-init c = c.among_laws.ensures.none unknown_role c.args.noted.now

pub loop-decl-preserved : goal.loop-decl-preserved
loop-decl-preserved c = notes-more c.among_laws.ensures unknown_role (unknown_named (design_of c.args.design.now) c.args.level) decl_of c.args.decls.now c.loop-decl.decl-index c.decl-item.result c.args.noted.now c.loop-decl.noted c.note_named.new.noted c.loop-decl-test.true c.decl-item.is c.loop-decl.invariant c.note_named.ensures
