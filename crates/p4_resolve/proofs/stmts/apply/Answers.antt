use Rattle.std.proofs.Common.{[], ap, ◌∙◌}
use Rattle.p4_ir.specs.P4Tree as tree
use Rattle.p4_texts.specs.KindFaults.{Piece, stmt_keeps}
use Rattle.p4_texts.specs.Written as text
use Rattle.p4_resolve.proofs.StmtFacts as facts
use Rattle.p4_resolve.proofs.TreeFacts as forms
use Rattle.p4_resolve.proofs.stmts.apply.Goals as goal

pub returns-in-Some-clause-keeps : goal.returns-in-Some-clause-keeps
returns-in-Some-clause-keeps c = λ t d k.
    let s = text.w_apply c.args.name.now in
    let x : Piece = record { tokens = text.stmt_then s []; keeps = stmt_keeps t d s } in
    let f = c.in-Some.ensures t d k in
    record {
      is = forms.apply_code c.in-Some.number ∙ ap tree.apply_table f.1;
      passes = facts.one_passes x c.args.at c.after.result f.0 c.after.ensures;
    }
