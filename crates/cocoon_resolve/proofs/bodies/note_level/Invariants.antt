use Rattle.std.proofs.Common.{List, ◌++◌, map, take}
use Rattle.cocoon_num.specs.Tree.{Decl}
use Rattle.cocoon_syntax.specs.TreeOf.{decl_of, design_of}
use Rattle.cocoon_resolve.specs.Kept.{HoldsRow}
use Rattle.cocoon_resolve.proofs.bodies.note_level.Given as goal

abbrev pub invariant-loop-decl : goal.invariant-loop-decl
invariant-loop-decl l = (before : List Decl) → HoldsRow (design_of l.design) before l.fn.row.items → HoldsRow (design_of l.design) (before ++ map decl_of (take l.decl-index l.decls)) l.row.items
