use Rattle.std.proofs.Common.{◌≡◌, ◌<◌, ◌≤◌, ◌∙◌, ℕ, ap, arith, false, length, sym}
use Rattle.cnf_core.specs.Literals.{opposite}
use Rattle.cnf_core.specs.Trails.{literal_at}
use Rattle.cnf_core.specs.TrailViews.{trues}
use Rattle.cdcl.specs.Marks.{count_from, is_marked}
use Rattle.cdcl.proofs.Counting.{last-marked, some-last}
use Rattle.cdcl.proofs.learning.asserting_pair.Goals as goal

pub opposite_before-first-requires-clause-some : goal.opposite_before-first-requires-clause-some
opposite_before-first-requires-clause-some c =
    let a = c.args.analysis.now in
    let marks = a.marks.items in
    let end = c.last_before-end.result in
    let sized = c.requires.sized in
    let counted : count_from a.floor marks ≡ 1 = sym a.counted ∙ c.requires.one in
    let within : end ≤ length marks = omega (arith, c.last_before-end.ensures.within, c.len.ensures, sized) in
    let none : (p : ℕ) → end ≤ p → p < length marks → is_marked marks p ≡ false = λ p le lt. c.last_before-end.ensures.none p le (omega (arith, lt, c.len.ensures, sized)) in
    some-last a.floor marks end counted within none c.last_before-end.ensures.marked

pub returns-then-second-eq0-clause-first : goal.returns-then-second-eq0-clause-first
returns-then-second-eq0-clause-first c = λ p le lt on.
    let ts = trues c.args.search.now.trail in
    let a = c.args.analysis.now in
    let marks = a.marks.items in
    let end = c.last_before-end.result in
    let sized = c.requires.sized in
    let counted : count_from a.floor marks ≡ 1 = sym a.counted ∙ c.requires.one in
    let within : end ≤ length marks = omega (arith, c.last_before-end.ensures.within, c.len.ensures, sized) in
    let none : (p : ℕ) → end ≤ p → p < length marks → is_marked marks p ≡ false = λ p le lt. c.last_before-end.ensures.none p le (omega (arith, lt, c.len.ensures, sized)) in
    c.twice.ensures.first ∙ c.opposite_before-first.ensures ∙ ap (λ q. opposite (literal_at ts q))
    (last-marked a.floor marks end counted within none c.last_before-end.ensures.marked p le (omega (arith, lt, sized)) on)

pub returns-clause-first : goal.returns-clause-first
returns-clause-first c = λ p le lt on.
    let ts = trues c.args.search.now.trail in
    let a = c.args.analysis.now in
    let marks = a.marks.items in
    let end = c.last_before-end.result in
    let sized = c.requires.sized in
    let counted : count_from a.floor marks ≡ 1 = sym a.counted ∙ c.requires.one in
    let within : end ≤ length marks = omega (arith, c.last_before-end.ensures.within, c.len.ensures, sized) in
    let none : (p : ℕ) → end ≤ p → p < length marks → is_marked marks p ≡ false = λ p le lt. c.last_before-end.ensures.none p le (omega (arith, lt, c.len.ensures, sized)) in
    c.new.ensures.first ∙ c.opposite_before-first.ensures ∙ ap (λ q. opposite (literal_at ts q))
    (last-marked a.floor marks end counted within none c.last_before-end.ensures.marked p le (omega (arith, lt, sized)) on)
