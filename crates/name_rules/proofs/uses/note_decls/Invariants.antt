use Rattle.std.proofs.Common.{◌≡◌, ◌+◌, ◌++◌, List, map, drop, length, Option}
use Rattle.cocoon_num.specs.Tree.{FunctionDecl}
use Rattle.cocoon_syntax.specs.TreeOf.{decl_of, design_of}
use Rattle.cocoon_types.specs.Design.{functions}
use Rattle.cocoon_types.specs.FirstFault.{Fault}
use Rattle.cocoon_types.specs.Noting.{Notes}
use Rattle.cocoon_types.specs.Sites.{sites_of}
use Rattle.name_rules.specs.Tests.{in_decls}
use Rattle.name_rules.proofs.DeclSteps.{functions_in}
use Rattle.name_rules.proofs.uses.note_decls.Given as goal

abbrev pub invariant-loop-decl : goal.invariant-loop-decl
invariant-loop-decl l = record {
  level : l.point.level ≡ l.fn.start.level;
  count : l.point.functions + length (functions_in (map decl_of (drop l.decl-index l.decls))) ≡ l.fn.start.functions + length (functions_in (map decl_of l.decls));
  noted : (before after : List FunctionDecl) → l.fn.start.functions ≡ length before → functions (design_of l.design) ≡ before ++ functions_in (map decl_of l.decls) ++ after
      → (now : List FunctionDecl) × (l.point.functions ≡ length now) × (functions (design_of l.design) ≡ now ++ functions_in (map decl_of (drop l.decl-index l.decls)) ++ after)
      × ((last : Option Fault)
      → Notes (in_decls (sites_of (design_of l.design) l.fn.start.level now (map decl_of (drop l.decl-index l.decls)))) l.noted last
      → Notes (in_decls (sites_of (design_of l.design) l.fn.start.level before (map decl_of l.decls))) l.fn.noted last);
}
