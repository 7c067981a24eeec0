use Rattle.std.proofs.Common.{ℕ, List, map, drop, Option}
use Rattle.cocoon_num.specs.Tree.{FunctionDecl}
use Rattle.cocoon_syntax.specs.TreeOf.{decl_of, design_of}
use Rattle.cocoon_types.specs.FirstFault.{Fault}
use Rattle.cocoon_types.specs.Noting.{Notes}
use Rattle.cocoon_types.specs.Sites.{sites_of}
use Rattle.type_rules.specs.Tests.{in_decls}
use Rattle.type_rules.proofs.types.note_decls.Given as goal

abbrev pub invariant-loop-decl : goal.invariant-loop-decl
invariant-loop-decl l = (level : ℕ) (before : List FunctionDecl) → (now : List FunctionDecl) × ((last : Option Fault)
    → Notes (in_decls (sites_of (design_of l.design) level now (map decl_of (drop l.decl-index l.decls)))) l.noted last
    → Notes (in_decls (sites_of (design_of l.design) level before (map decl_of l.decls))) l.fn.noted last)
