use Rattle.std.proofs.Common.{[], map, subst}
use Rattle.std.specs.Prelude.{flat_map}
use Rattle.cocoon_syntax.specs.TreeOf.{decl_of, design_of, name_of}
use Rattle.cocoon_types.specs.Noting.{Notes}
use Rattle.cocoon_types.specs.Rules.{not_refinable}
use Rattle.cocoon_types.specs.RuleParts.{repeated, role_names}
use Rattle.cocoon_types.specs.Among.{among}
use Rattle.name_rules.specs.Among.{Seen, unrefinable}
use Rattle.name_rules.proofs.listed.note_block.Goals as goal

pub returns : goal.returns
returns c =
    let declared = role_names (map decl_of c.args.block.now.decls.items) in
    let seen = subst (λ l. Seen c.in_ok-table.table (role_names (map decl_of l))) c.deref-2.ensures.value c.in_ok-table.ensures in
    c.among_laws.ensures.append not_refinable (repeated [] (map name_of c.args.block.now.roles.items)) (flat_map (unrefinable (design_of c.args.design.now) c.args.above declared) (map name_of c.args.block.now.roles.items)) c.args.noted.now c.note_listed.new.noted c.note_unrefinable.new.noted
    (subst (λ l. Notes (among not_refinable (repeated [] (map name_of l))) c.args.noted.now c.note_listed.new.noted) c.deref.ensures.value c.in_ok-note_listed.ensures)
    (subst (λ l. Notes (among not_refinable (flat_map (unrefinable (design_of c.args.design.now) c.args.above declared) (map name_of l))) c.note_listed.new.noted c.note_unrefinable.new.noted) c.deref-3.ensures.value (c.note_unrefinable.ensures declared seen))
