use Rattle.std.proofs.Common.{◌≡◌, ◌+◌, ◌∙◌, ◌∷◌, [], ap, arith, false, get_or, inl, inr, length, pos, sym}
use Rattle.std.proofs.lemmas.Bool.{cases_lt}
use Rattle.std.proofs.lemmas.List.{get_or_append_left, get_or_push, length_push}
use Rattle.cnf_core.specs.Literals.{has_literal}
use Rattle.cnf_core.specs.TrailViews.{trues}
use Rattle.cdcl.proofs.Totals.{total-satisfies}
use Rattle.cdcl.proofs.search.Search.assignment.Goals as goal

pub returns-clause-satisfies : goal.returns-clause-satisfies
returns-clause-satisfies c =
    let s = c.args.self.now in
    total-satisfies (record { values = c.from.result }) c.args.cnf.now s.steps.items (trues s.trail) c.requires.named c.requires.total c.requires.closed
    (λ v lt. ap (λ vs. get_or vs v false) c.from.ensures ∙ c.loop-index.invariant.agree v (omega (arith, lt, c.loop-index-test.false)))

pub loop-index-preserved : goal.loop-index-preserved
loop-index-preserved c =
    let vs = c.loop-index.values.items in
    let x = c.is_true.result in
    let pushed = c.in_ok-push.ensures.items in
    let sized = c.loop-index.invariant.sized in
    record {
      sized = ap length pushed ∙ length_push vs x ∙ ap (λ n. n + 1) sized;
      agree = λ v lt. ap (λ us. get_or us v false) pushed ∙ elim (cases_lt v c.loop-index.index) [
        | inl below ↦ get_or_append_left vs (x ∷ []) false v (omega (arith, below, sized)) ∙ c.loop-index.invariant.agree v below
        | inr above ↦ let is : length vs ≡ v = omega (arith, lt, above, sized) in
            get_or_push vs x false v is ∙ c.is_true.ensures
            ∙ ap (has_literal (trues c.args.self.now.trail)) (c.positive.ensures ∙ ap (λ n. pos (n + 1)) (sym sized ∙ is))
      ];
    }
