use Rattle.std.proofs.Common.{map, subst, false}
use Rattle.std.specs.Prelude.{flat_map}
use Rattle.cocoon_syntax.specs.TreeOf.{decl_of, design_of, refine_of}
use Rattle.cocoon_types.specs.Noting.{Notes}
use Rattle.cocoon_types.specs.Rules.{twice}
use Rattle.cocoon_types.specs.Among.{among}
use Rattle.name_rules.specs.Among.{later, host_places, block_hosts}
use Rattle.name_rules.proofs.LaterFacts.{hosts-twice}
use Rattle.name_rules.proofs.later.note_hosts.Goals as goal

pub returns : goal.returns
returns c = subst (λ l. Notes (among twice l) c.args.noted.now c.note_hosts_of.new.noted) (hosts-twice (design_of c.args.design.now))
    (c.among_laws.ensures.append twice (later false (flat_map host_places (design_of c.args.design.now).decls)) (flat_map block_hosts (design_of c.args.design.now).refines) c.args.noted.now c.note_hosts_in.new.noted c.note_hosts_of.new.noted
    (subst (λ l. Notes (among twice (later false (flat_map host_places (map decl_of l)))) c.args.noted.now c.note_hosts_in.new.noted) c.deref.ensures.value c.note_hosts_in.ensures)
    (subst (λ l. Notes (among twice (flat_map block_hosts (map refine_of l))) c.note_hosts_in.new.noted c.note_hosts_of.new.noted) c.deref-2.ensures.value c.note_hosts_of.ensures))
