use Rattle.std.proofs.Common.{map, subst}
use Rattle.std.specs.Prelude.{flat_map}
use Rattle.cocoon_syntax.specs.TreeOf.{decl_of, design_of, refine_of}
use Rattle.cocoon_types.specs.Noting.{Notes}
use Rattle.cocoon_types.specs.RuleParts.{blocks_from}
use Rattle.cocoon_types.specs.Rules.{unknown_role}
use Rattle.cocoon_types.specs.Among.{among}
use Rattle.name_rules.specs.Among.{unknown_in_block, unknown_named}
use Rattle.name_rules.proofs.SiteFacts.{unknown-of-design}
use Rattle.name_rules.proofs.unknown.note_unknown_roles.Goals as goal

pub returns : goal.returns
returns c =
    let d = design_of c.args.design.now in
    subst (λ l. Notes (among unknown_role l) c.args.noted.now c.note_in_blocks.new.noted) (unknown-of-design d)
    (c.among_laws.ensures.append unknown_role (flat_map (unknown_named d 0) d.decls) (blocks_from (unknown_in_block d) 1 d.refines) c.args.noted.now c.note_in_level.new.noted c.note_in_blocks.new.noted
    (subst (λ l. Notes (among unknown_role (flat_map (unknown_named d 0) (map decl_of l))) c.args.noted.now c.note_in_level.new.noted) c.deref.ensures.value c.note_in_level.ensures)
    (subst (λ l. Notes (among unknown_role (blocks_from (unknown_in_block d) 1 (map refine_of l))) c.note_in_level.new.noted c.note_in_blocks.new.noted) c.deref-2.ensures.value c.in_ok-note_in_blocks.ensures))
