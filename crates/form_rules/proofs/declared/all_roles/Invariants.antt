use Rattle.std.proofs.Common.{◌≡◌, ◌++◌, map, take}
use Rattle.std.specs.Prelude.{filter_map, flat_map}
use Rattle.cocoon_num.specs.Tree.{Refine}
use Rattle.cocoon_syntax.specs.TreeOf.{decl_of, refine_of, role_of}
use Rattle.cocoon_types.specs.Design.{as_role}
use Rattle.form_rules.proofs.declared.all_roles.Given as goal

abbrev pub invariant-loop-block : goal.invariant-loop-block
invariant-loop-block l = map (λ r. role_of r.now) l.roles.items ≡ filter_map as_role (map decl_of l.design.decls.items ++ flat_map (λ (b : Refine). b.decls) (map refine_of (take l.block-index l.design.refines.items)))
