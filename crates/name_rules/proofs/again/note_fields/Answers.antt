use Rattle.std.proofs.Common.{[], subst, map}
use Rattle.cocoon_types.specs.Noting.{Notes}
use Rattle.cocoon_syntax.specs.TreeOf.{header_of, param_of}
use Rattle.cocoon_types.specs.Rules.{twice}
use Rattle.cocoon_types.specs.RuleParts.{repeated, param_names}
use Rattle.cocoon_types.specs.Among.{among}
use Rattle.name_rules.specs.Among.{repeated_fields}
use Rattle.name_rules.proofs.AmongFacts.{notes-more}
use Rattle.name_rules.proofs.again.note_fields.Goals as goal

pub loop-header-init : goal.loop-header-init
loop-header-init c = c.among_laws.ensures.none twice c.args.noted.now

pub loop-header-preserved : goal.loop-header-preserved
loop-header-preserved c = notes-more c.among_laws.ensures twice repeated_fields header_of c.args.headers.now c.loop-header.header-index c.header-item.result c.args.noted.now c.loop-header.noted c.note_params.new.noted c.loop-header-test.true c.header-item.is c.loop-header.invariant (subst (λ l. Notes (among twice (repeated [] (param_names (map param_of l)))) c.loop-header.noted c.note_params.new.noted) c.deref.ensures.value c.in_ok-note_params.ensures)
