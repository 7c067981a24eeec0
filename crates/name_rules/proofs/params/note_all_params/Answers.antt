use Rattle.std.proofs.Common.{map, subst}
use Rattle.std.specs.Prelude.{flat_map}
use Rattle.cocoon_syntax.specs.TreeOf.{decl_of, design_of, refine_of}
use Rattle.cocoon_types.specs.Noting.{Notes}
use Rattle.cocoon_types.specs.Rules.{twice}
use Rattle.cocoon_types.specs.Among.{among}
use Rattle.name_rules.specs.Among.{repeated_params, repeated_in_block}
use Rattle.name_rules.proofs.SiteFacts.{of-design}
use Rattle.name_rules.proofs.params.note_all_params.Goals as goal

pub returns : goal.returns
returns c = subst (λ l. Notes (among twice l) c.args.noted.now c.note_in_blocks.new.noted) (of-design (design_of c.args.design.now))
    (c.among_laws.ensures.append twice (flat_map repeated_params (design_of c.args.design.now).decls) (flat_map repeated_in_block (design_of c.args.design.now).refines) c.args.noted.now c.note_in_level.new.noted c.note_in_blocks.new.noted
    (subst (λ l. Notes (among twice (flat_map repeated_params (map decl_of l))) c.args.noted.now c.note_in_level.new.noted) c.deref.ensures.value c.in_ok-note_in_level.ensures)
    (subst (λ l. Notes (among twice (flat_map repeated_in_block (map refine_of l))) c.note_in_level.new.noted c.note_in_blocks.new.noted) c.deref-2.ensures.value c.in_ok-note_in_blocks.ensures))
