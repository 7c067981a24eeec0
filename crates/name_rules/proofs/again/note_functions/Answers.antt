use Rattle.std.proofs.Common.{[], map, subst}
use Rattle.std.specs.Prelude.{flat_map}
use Rattle.cocoon_syntax.specs.TreeOf.{decl_of, design_of, refine_of}
use Rattle.cocoon_types.specs.Design.{all_decls}
use Rattle.cocoon_types.specs.Noting.{Notes}
use Rattle.cocoon_types.specs.Rules.{twice}
use Rattle.cocoon_types.specs.RuleParts.{repeated}
use Rattle.cocoon_types.specs.Among.{among}
use Rattle.name_rules.specs.Among.{Seen, function_names, block_functions}
use Rattle.name_rules.proofs.AgainFacts.{block_decls, notes-level, whole}
use Rattle.name_rules.proofs.again.note_functions.Goals as goal

pub returns : goal.returns
returns c =
    let seen = subst (λ l. Seen c.note_level.new.table (function_names (map decl_of l))) c.deref.ensures.value (c.in_ok-note_level.ensures.kept [] c.new-table.ensures) in
    notes-level c.among_laws.ensures [] (design_of c.args.design.now).decls (flat_map block_decls (design_of c.args.design.now).refines) (all_decls (design_of c.args.design.now)) c.args.noted.now c.note_level.new.noted c.note_blocks.new.noted (whole (design_of c.args.design.now))
    (subst (λ l. Notes (among twice (repeated [] (function_names (map decl_of l)))) c.args.noted.now c.note_level.new.noted) c.deref.ensures.value (c.in_ok-note_level.ensures.notes [] c.new-table.ensures))
    (subst (λ l. Notes (among twice (repeated (function_names (design_of c.args.design.now).decls) (block_functions (map refine_of l)))) c.note_level.new.noted c.note_blocks.new.noted) c.deref-2.ensures.value (c.in_ok-note_blocks.ensures (function_names (design_of c.args.design.now).decls) seen))
