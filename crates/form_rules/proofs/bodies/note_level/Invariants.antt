use Rattle.std.proofs.Common.{ℕ, List, ◌++◌, map, take, Option}
use Rattle.cocoon_syntax.specs.TreeOf.{decl_of, design_of}
use Rattle.cocoon_types.specs.FirstFault.{Fault}
use Rattle.form_rules.specs.Walked.{Walked, role_names_in}
use Rattle.form_rules.proofs.bodies.note_level.Given as goal

abbrev pub invariant-loop-decl : goal.invariant-loop-decl
invariant-loop-decl l = (xs : List (List ℕ)) (start : Option Fault)
    → Walked (design_of l.design) l.fn.seen xs start l.fn.noted
    → Walked (design_of l.design) l.seen (xs ++ role_names_in (map decl_of (take l.decl-index l.decls))) start l.noted
