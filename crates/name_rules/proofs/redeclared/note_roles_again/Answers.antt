use Rattle.std.proofs.Common.{map, subst}
use Rattle.cocoon_syntax.specs.TreeOf.{decl_of, design_of, refine_of}
use Rattle.cocoon_types.specs.Noting.{Notes}
use Rattle.cocoon_types.specs.RuleParts.{blocks_from}
use Rattle.cocoon_types.specs.Rules.{twice}
use Rattle.cocoon_types.specs.Among.{among}
use Rattle.name_rules.specs.Among.{again_in_block, again_outside}
use Rattle.name_rules.proofs.redeclared.note_roles_again.Goals as goal

pub returns : goal.returns
returns c =
    let d = design_of c.args.design.now in
    c.among_laws.ensures.append twice (again_outside d.decls) (blocks_from (again_in_block d) 0 d.refines) c.args.noted.now c.note_outside.new.noted c.note_in_blocks.new.noted
    (subst (λ l. Notes (among twice (again_outside (map decl_of l))) c.args.noted.now c.note_outside.new.noted) c.deref.ensures.value c.in_ok-note_outside.ensures)
    (subst (λ l. Notes (among twice (blocks_from (again_in_block d) 0 (map refine_of l))) c.note_outside.new.noted c.note_in_blocks.new.noted) c.deref-2.ensures.value c.in_ok-note_in_blocks.ensures)
