use Rattle.std.proofs.Common.{◌≡◌, ◌||◌, map, drop, Option}
use Rattle.cocoon_syntax.specs.TreeOf.{block_of, design_of, stmt_of}
use Rattle.cocoon_types.specs.FirstFault.{Fault}
use Rattle.cocoon_types.specs.Noting.{Notes}
use Rattle.form_rules.specs.Stmts.{holds_fork}
use Rattle.form_rules.specs.Tested.{in_block}
use Rattle.form_rules.proofs.stmts.+stmts.Given as goal

abbrev pub invariant-note_block-loop-stmt : goal.invariant-note_block-loop-stmt
invariant-note_block-loop-stmt l = record {
  forks : (l.forks || holds_fork (block_of (map stmt_of (drop l.stmt-index l.stmts)))) ≡ holds_fork (block_of (map stmt_of l.stmts));
  noted : (last : Option Fault)
      → Notes (in_block (design_of l.design) l.asked (block_of (map stmt_of (drop l.stmt-index l.stmts)))) l.noted last
      → Notes (in_block (design_of l.design) l.asked (block_of (map stmt_of l.stmts))) l.fn.noted last;
}
