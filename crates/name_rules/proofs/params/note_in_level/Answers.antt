use Rattle.std.proofs.Common.{[], subst}
use Rattle.cocoon_types.specs.Noting.{Notes}
use Rattle.cocoon_syntax.specs.TreeOf.{decl_of}
use Rattle.cocoon_types.specs.Rules.{twice}
use Rattle.cocoon_types.specs.RuleParts.{repeated, param_names}
use Rattle.cocoon_types.specs.Among.{among}
use Rattle.name_rules.specs.Among.{repeated_params}
use Rattle.name_rules.proofs.AmongFacts.{notes-more}
use Rattle.name_rules.proofs.params.note_in_level.Goals as goal

pub loop-decl-init : goal.loop-decl-init
loop-decl-init c = c.among_laws.ensures.none twice c.args.noted.now

pub loop-decl-preserved : goal.loop-decl-preserved
loop-decl-preserved c = notes-more c.among_laws.ensures twice repeated_params decl_of c.args.decls.now c.loop-decl.decl-index c.decl-item.result c.args.noted.now c.loop-decl.noted c.note_params.new.noted c.loop-decl-test.true c.decl-item.is c.loop-decl.invariant (subst (λ l. Notes (among twice (repeated [] (param_names l))) c.loop-decl.noted c.note_params.new.noted) c.params_in.ensures c.in_ok-note_params.ensures)
