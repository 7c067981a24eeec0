use Rattle.std.proofs.Common.{◌∙◌, map, ap, sym}
use Rattle.std.proofs.lemmas.List.{drop_all}
use Rattle.p4_ir.specs.Program.{block_of, stmt_of}
use Rattle.net_wiring.specs.SameTrees.{same_block}
use Rattle.net_wiring.proofs.ItemByItem.{none-left}
use Rattle.net_wiring.proofs.stmts.+same_stmts.Goals as goal

pub same_stmts-returns : goal.same_stmts-returns
same_stmts-returns t c =
    c.is_empty.ensures ∙ none-left c.loop-stmt.rest.now
    ∙ ap (λ l. same_block (block_of (map stmt_of l)) (block_of (map stmt_of c.loop-stmt.rest.now))) (sym (drop_all c.loop-stmt.stmt-index c.args.stmts.now c.loop-stmt-test.false))
    ∙ c.loop-stmt.invariant
