use Rattle.std.proofs.Common.{map, subst}
use Rattle.cocoon_syntax.specs.TreeOf.{design_of, refine_of}
use Rattle.cocoon_types.specs.Noting.{Notes}
use Rattle.cocoon_types.specs.Rules.{not_refinable}
use Rattle.cocoon_types.specs.RuleParts.{blocks_from}
use Rattle.cocoon_types.specs.NameRules.{not_refinable_in}
use Rattle.cocoon_types.specs.Among.{among}
use Rattle.name_rules.proofs.listed.note_not_refinable.Goals as goal

pub returns : goal.returns
returns c = subst (λ l. Notes (among not_refinable (blocks_from (not_refinable_in (design_of c.args.design.now)) 0 (map refine_of l))) c.args.noted.now c.note_blocks.new.noted) c.deref.ensures.value c.in_ok-note_blocks.ensures
