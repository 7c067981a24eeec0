use Rattle.std.proofs.Common.{map, take, subst}
use Rattle.cocoon_syntax.specs.TreeOf.{decl_of}
use Rattle.cocoon_types.specs.RuleParts.{role_names}
use Rattle.name_rules.specs.Among.{Seen}
use Rattle.name_rules.proofs.ListedFacts.{roles-more}
use Rattle.name_rules.proofs.listed.declared.Goals as goal

pub loop-decl-preserved : goal.loop-decl-preserved
loop-decl-preserved c = subst (Seen c.put_role.new.table) (roles-more decl_of c.args.decls.now c.loop-decl.decl-index c.decl-item.result c.loop-decl-test.true c.decl-item.is) (c.in_ok-put_role.ensures (role_names (map decl_of (take c.loop-decl.decl-index c.args.decls.now))) c.loop-decl.invariant)
