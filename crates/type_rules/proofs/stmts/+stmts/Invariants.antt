use Rattle.std.proofs.Common.{◌≡◌, ◌||◌, ◌++◌, List, map, drop, true, false, Option}
use Rattle.cocoon_num.specs.Tree.{Param}
use Rattle.cocoon_syntax.specs.TreeOf.{block_of, design_of, stmt_of}
use Rattle.cocoon_types.specs.FirstFault.{Fault}
use Rattle.cocoon_types.specs.Noting.{Notes}
use Rattle.cocoon_types.specs.Sites.{block_ends}
use Rattle.type_rules.specs.Tests.{in_block}
use Rattle.type_rules.specs.Typed.{Around, scope_of}
use Rattle.type_rules.proofs.stmts.+stmts.Given as goal

abbrev pub invariant-note_block-loop-stmt : goal.invariant-note_block-loop-stmt
invariant-note_block-loop-stmt l = record {
  bound : (ps : List Param) × (l.vars ≡ ps ++ l.fn.vars);
  ends : (l.ended || block_ends (block_of (map stmt_of (drop l.stmt-index l.stmts)))) ≡ block_ends (block_of (map stmt_of l.stmts));
  noted : (w : Around) (last : Option Fault)
      → Notes (in_block (scope_of w (design_of l.design) l.vars true) l.ended (block_of (map stmt_of (drop l.stmt-index l.stmts)))) l.noted last
      → Notes (in_block (scope_of w (design_of l.design) l.fn.vars true) false (block_of (map stmt_of l.stmts))) l.fn.noted last;
}
