use Rattle.std.proofs.Common.{◌≡◌, ◌++◌, Bool, List, map, drop, true, Option}
use Rattle.cocoon_num.specs.Tree.{Param}
use Rattle.cocoon_syntax.specs.TreeOf.{block_of, design_of, stmt_of}
use Rattle.cocoon_types.specs.FirstFault.{Fault}
use Rattle.cocoon_types.specs.Noting.{Notes}
use Rattle.name_rules.specs.Tests.{in_block, scope_at}
use Rattle.name_rules.proofs.stmts.+stmts.Given as goal

abbrev pub invariant-note_block-loop-stmt : goal.invariant-note_block-loop-stmt
invariant-note_block-loop-stmt l = record {
  bound : (ps : List Param) × (l.vars ≡ ps ++ l.fn.vars);
  noted : (ended : Bool) → (now : Bool) × ((last : Option Fault)
      → Notes (in_block (scope_at (design_of l.design) l.point l.vars true) now (block_of (map stmt_of (drop l.stmt-index l.stmts)))) l.noted last
      → Notes (in_block (scope_at (design_of l.design) l.point l.fn.vars true) ended (block_of (map stmt_of l.stmts))) l.fn.noted last);
}
