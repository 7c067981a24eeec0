use Rattle.std.proofs.Common.{◌≡◌, map, take}
use Rattle.std.specs.Prelude.{filter}
use Rattle.cocoon_syntax.specs.TreeOf.{decl_of, design_of}
use Rattle.refinement.specs.Segments.{is_new}
use Rattle.obligation_gen.specs.Tabled.{entries, role_texts, valued}
use Rattle.obligation_gen.proofs.counts.next_table.Given as goal

abbrev pub invariant-loop-decl : goal.invariant-loop-decl
invariant-loop-decl l = entries l.next.items ≡ valued (design_of l.checked) l.above l.table (filter (is_new l.above (design_of l.checked)) (role_texts (map decl_of (take l.decl-index l.decls))))
