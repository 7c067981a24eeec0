use Rattle.std.proofs.Common.{◌≡◌, ◌++◌, map, take}
use Rattle.std.specs.Prelude.{filter_map}
use Rattle.cocoon_syntax.specs.TreeOf.{decl_of, role_of}
use Rattle.cocoon_types.specs.Design.{as_role}
use Rattle.form_rules.proofs.declared.push_roles.Given as goal

abbrev pub invariant-loop-decl : goal.invariant-loop-decl
invariant-loop-decl l = map (λ r. role_of r.now) l.roles.items ≡ map (λ r. role_of r.now) l.initial.roles.items ++ filter_map as_role (map decl_of (take l.decl-index l.decls))
