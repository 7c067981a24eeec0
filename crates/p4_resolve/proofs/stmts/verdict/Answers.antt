use Rattle.std.proofs.Common.{◌≡◌, [], ◌∙◌, sym, ap, true, ◌==◌, ◌&&◌, ◌||◌, nat_le}
use Rattle.p4_texts.specs.KindFaults.{Piece, stmt_keeps}
use Rattle.p4_texts.specs.Written as text
use Rattle.p4_resolve.proofs.StmtFacts as facts
use Rattle.p4_resolve.proofs.TreeFacts as forms
use Rattle.p4_resolve.proofs.stmts.verdict.Goals as goal

pub returns-clause-keeps : goal.returns-clause-keeps
returns-clause-keeps c = λ t d k.
    let w = c.args.bits.width in
    let n = c.args.bits.value in
    let s = text.w_verdict w n in
    let x : Piece = record { tokens = text.stmt_then s []; keeps = stmt_keeps t d s } in
    let keeps : stmt_keeps t d s ≡ true = ap (λ b. (w == 8) && (nat_le n 1 || (b && (n == 2)))) (sym k.in_ingress) ∙ sym c.verdict_fits.ensures ∙ c.in_ok-end.ensures.passed.0 in
    record {
      is = forms.verdict_code n;
      passes = facts.one_passes x c.args.at c.in_ok-end.end keeps c.in_ok-end.ensures.passed.1;
    }
