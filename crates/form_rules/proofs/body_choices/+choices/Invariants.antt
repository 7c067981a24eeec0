use Rattle.std.proofs.Common.{◌≡◌, ◌++◌, drop, map}
use Rattle.cocoon_syntax.specs.TreeOf.{block_of, stmt_of}
use Rattle.form_rules.specs.Following.{choices_in}
use Rattle.form_rules.proofs.body_choices.+choices.Given as goal

abbrev pub invariant-note_block-loop-stmt : goal.invariant-note_block-loop-stmt
invariant-note_block-loop-stmt l = l.choices.items ++ choices_in (block_of (map stmt_of (drop l.stmt-index l.stmts))) ≡ l.fn.choices.items ++ choices_in (block_of (map stmt_of l.stmts))
