use Rattle.std.proofs.Common.{◌≡◌, ◌≤◌, ◌+◌, ◌-◌, ◌<◌, ◌∙◌, ℕ, ap, arith, get_or, inl, inr, length, map, refl, subst, sym, take, true}
use Rattle.std.proofs.lemmas.Bool.{cases_lt}
use Rattle.std.proofs.lemmas.List.{get_or_read}
use Rattle.std.specs.List.{All}
use Rattle.cnf_core.specs.Clauses.{literals}
use Rattle.cnf_core.specs.Deriving.{Follows, known}
use Rattle.cnf_core.specs.Licensing.{IsNew}
use Rattle.cnf_core.specs.Literals.{Names, opposite}
use Rattle.cnf_core.specs.Trails.{HasStatus, literal_at}
use Rattle.cnf_core.specs.TrailViews.{trues}
use Rattle.cnf_core.specs.declared.clause_status.ClauseStatus.TheVariants.{Open}
use Rattle.cdcl.specs.Marks.{count_from, is_marked, marked_literals}
use Rattle.cdcl.specs.Searching.{IsAsserting, IsClosed}
use Rattle.cdcl.specs.States.{clauses_of}
use Rattle.cdcl.proofs.Backjumps.{back-asserting, back-new, back-unforced}
use Rattle.cdcl.proofs.Jumping.{after-last}
use Rattle.cdcl.proofs.LearnedClauses.{learned-follows}
use Rattle.cdcl.proofs.learning.learn.Goals as goal

pub analyze-requires-clause-forced : goal.analyze-requires-clause-forced
analyze-requires-clause-forced c = λ p le lt.
    let s = c.args.search.now in
    let last = c.len-last.result - 1 in
    let count : length s.starts.items ≡ last + 1 = omega (arith, c.len-last.ensures, s.starts.ok.0, c.requires.decided) in
    let floor = get_or_read s.starts.items last c.index-floor.result.now (omega (arith, count)) c.index-floor.ensures 0 in
    after-last (clauses_of c.args.cnf.now s) (trues s.trail) s.reasons.items s.starts.items c.requires.sound.reasoned last p count (omega (arith, le, floor))

pub analyze-requires-clause-level : goal.analyze-requires-clause-level
analyze-requires-clause-level c =
    let s = c.args.search.now in
    let last = c.len-last.result - 1 in
    let within : last < length s.starts.items = omega (arith, c.len-last.ensures, s.starts.ok.0, c.requires.decided) in
    let floor = get_or_read s.starts.items last c.index-floor.result.now within c.index-floor.ensures 0 in
    inr (refl, subst (λ n. IsClosed (clauses_of c.args.cnf.now s) (take n (trues s.trail))) (sym floor) (c.requires.sound.reasoned.closed last within))

pub asserting_pair-pair-requires-clause-within : goal.asserting_pair-pair-requires-clause-within
asserting_pair-pair-requires-clause-within c =
    let s = c.args.search.now in
    let last = c.len-last.result - 1 in
    let within : last < length s.starts.items = omega (arith, c.len-last.ensures, s.starts.ok.0, c.requires.decided) in
    let start = get_or_read s.starts.items last c.index-floor.result.now within c.index-floor.ensures 0 in
    omega (arith, start, c.requires.sound.reasoned.under last within, c.last_before-second.ensures.within)

pub asserting_pair-pair-requires-clause-sized : goal.asserting_pair-pair-requires-clause-sized
asserting_pair-pair-requires-clause-sized c = c.in_ok-analysis.ensures.analyzed.1.sized

pub backtrack-requires-clause-within : goal.backtrack-requires-clause-within
backtrack-requires-clause-within c =
    let s = c.args.search.now in
    let floor = c.index-floor.result.now in
    let level = c.backtrack_level-level.result in
    let second = c.last_before-second.result in
    let last = c.len-last.result - 1 in
    let within : last < length s.starts.items = omega (arith, c.len-last.ensures, s.starts.ok.0, c.requires.decided) in
    let start = get_or_read s.starts.items last floor within c.index-floor.ensures 0 in
    let before : level ≤ last = elim (cases_lt last level) [
      | inl late ↦ absurd (omega (arith, c.backtrack_level-level.ensures.below last late, start, c.last_before-second.ensures.within))
      | inr early ↦ early
    ] in
    let inside : level < length s.starts.items = omega (arith, before, within) in
    inside

pub add_step-requires-clause-numbered : goal.add_step-requires-clause-numbered
add_step-requires-clause-numbered c = omega (arith, c.requires.numbered, ap (λ ss. length (known c.args.cnf.now ss)) c.backtrack.ensures.back.steps)

pub add_step-requires-clause-follows : goal.add_step-requires-clause-follows
add_step-requires-clause-follows c =
    let s = c.args.search.now in
    let cnf = c.args.cnf.now in
    let ts = trues s.trail in
    let cs = clauses_of cnf s in
    let a = c.in_ok-analysis.analysis in
    let analyzed = c.in_ok-analysis.ensures.analyzed in
    subst (λ ds. Follows cnf.vars ds (literals c.in_ok-clause.clause) c.in_ok-hints.hints) (sym (ap (known cnf) c.backtrack.ensures.back.steps))
    (subst (λ ls. Follows cnf.vars cs ls c.in_ok-hints.hints) (sym c.in_ok-clause.ensures)
    (subst (Follows cnf.vars cs (map opposite (marked_literals a.marks.items ts))) (sym c.in_ok-hints.ensures)
    (learned-follows cs ts s.trail.apart cnf.vars (subst (λ v. All (Names v) ts) c.requires.sound.same_room s.trail.named) a.marks.items analyzed.0 a.hints.items analyzed.1.below analyzed.1.shows)))

pub add_step-requires-clause-new : goal.add_step-requires-clause-new
add_step-requires-clause-new c =
    let s = c.args.search.now in
    let cnf = c.args.cnf.now in
    let ts = trues s.trail in
    let cs = clauses_of cnf s in
    let a = c.in_ok-analysis.analysis in
    let res = c.in_ok-analysis.ensures in
    let marks = a.marks.items in
    let floor = c.index-floor.result.now in
    let level = c.backtrack_level-level.result in
    let second = c.last_before-second.result in
    let last = c.len-last.result - 1 in
    let within : last < length s.starts.items = omega (arith, c.len-last.ensures, s.starts.ok.0, c.requires.decided) in
    let start = get_or_read s.starts.items last floor within c.index-floor.ensures 0 in
    let before : level ≤ last = elim (cases_lt last level) [
      | inl late ↦ absurd (omega (arith, c.backtrack_level-level.ensures.below last late, start, c.last_before-second.ensures.within))
      | inr early ↦ early
    ] in
    let inside : level < length s.starts.items = omega (arith, before, within) in
    let counted : count_from floor marks ≡ 1 = ap (λ n. count_from n marks) (sym res.at_floor) ∙ sym a.counted ∙ res.exact in
    let named = subst (λ v. All (Names v) ts) c.requires.sound.same_room s.trail.named in
    let sized = res.analyzed.1.sized in
    let low = c.last_before-second.ensures.within in
    let none = c.last_before-second.ensures.none in
    let cut = get_or s.starts.items level 0 in
    let above : cut ≤ floor = elim (cases_lt level last) [
      | inl early ↦ omega (arith, c.requires.sound.reasoned.rising level last early within, start)
      | inr late ↦ let is : level ≡ last = omega (arith, late, before) in omega (arith, ap (λ i. get_or s.starts.items i 0) is, start)
    ] in
    let high : second ≤ cut = c.backtrack_level-level.ensures.above inside in
    let back = c.backtrack.ensures.back in
    subst (λ ds. IsNew ds (literals c.in_ok-clause.clause)) (sym (ap (known cnf) back.steps)) (subst (IsNew cs) (sym c.in_ok-clause.ensures)
    (back-new cs ts s.trail.apart cnf.vars named marks floor second sized counted low none cut high above (c.requires.sound.reasoned.closed level inside)))

pub add_step-requires-clause-unforced : goal.add_step-requires-clause-unforced
add_step-requires-clause-unforced c = λ i lt.
    let s = c.args.search.now in
    let cnf = c.args.cnf.now in
    let ts = trues s.trail in
    let cs = clauses_of cnf s in
    let a = c.in_ok-analysis.analysis in
    let res = c.in_ok-analysis.ensures in
    let marks = a.marks.items in
    let floor = c.index-floor.result.now in
    let level = c.backtrack_level-level.result in
    let second = c.last_before-second.result in
    let last = c.len-last.result - 1 in
    let within : last < length s.starts.items = omega (arith, c.len-last.ensures, s.starts.ok.0, c.requires.decided) in
    let start = get_or_read s.starts.items last floor within c.index-floor.ensures 0 in
    let before : level ≤ last = elim (cases_lt last level) [
      | inl late ↦ absurd (omega (arith, c.backtrack_level-level.ensures.below last late, start, c.last_before-second.ensures.within))
      | inr early ↦ early
    ] in
    let inside : level < length s.starts.items = omega (arith, before, within) in
    let counted : count_from floor marks ≡ 1 = ap (λ n. count_from n marks) (sym res.at_floor) ∙ sym a.counted ∙ res.exact in
    let named = subst (λ v. All (Names v) ts) c.requires.sound.same_room s.trail.named in
    let sized = res.analyzed.1.sized in
    let low = c.last_before-second.ensures.within in
    let none = c.last_before-second.ensures.none in
    let cut = get_or s.starts.items level 0 in
    let above : cut ≤ floor = elim (cases_lt level last) [
      | inl early ↦ omega (arith, c.requires.sound.reasoned.rising level last early within, start)
      | inr late ↦ let is : level ≡ last = omega (arith, late, before) in omega (arith, ap (λ i. get_or s.starts.items i 0) is, start)
    ] in
    let high : second ≤ cut = c.backtrack_level-level.ensures.above inside in
    let back = c.backtrack.ensures.back in
    let new = c.backtrack.new.self in
    subst (λ ls. HasStatus (take (get_or new.starts.items i 0) (trues new.trail)) ls Open) (sym c.in_ok-clause.ensures)
    (back-unforced cs ts s.trail.apart cnf.vars named marks floor second sized counted low none c.last_before-second.ensures.marked s.starts.items level cut inside high above
    c.backtrack_level-level.ensures.below (trues new.trail) new.starts.items back.trues back.starts i lt)

pub add_step-requires-clause-asserting : goal.add_step-requires-clause-asserting
add_step-requires-clause-asserting c =
    let s = c.args.search.now in
    let cnf = c.args.cnf.now in
    let ts = trues s.trail in
    let cs = clauses_of cnf s in
    let a = c.in_ok-analysis.analysis in
    let res = c.in_ok-analysis.ensures in
    let marks = a.marks.items in
    let floor = c.index-floor.result.now in
    let level = c.backtrack_level-level.result in
    let second = c.last_before-second.result in
    let last = c.len-last.result - 1 in
    let within : last < length s.starts.items = omega (arith, c.len-last.ensures, s.starts.ok.0, c.requires.decided) in
    let start = get_or_read s.starts.items last floor within c.index-floor.ensures 0 in
    let before : level ≤ last = elim (cases_lt last level) [
      | inl late ↦ absurd (omega (arith, c.backtrack_level-level.ensures.below last late, start, c.last_before-second.ensures.within))
      | inr early ↦ early
    ] in
    let inside : level < length s.starts.items = omega (arith, before, within) in
    let counted : count_from floor marks ≡ 1 = ap (λ n. count_from n marks) (sym res.at_floor) ∙ sym a.counted ∙ res.exact in
    let named = subst (λ v. All (Names v) ts) c.requires.sound.same_room s.trail.named in
    let sized = res.analyzed.1.sized in
    let low = c.last_before-second.ensures.within in
    let none = c.last_before-second.ensures.none in
    let cut = get_or s.starts.items level 0 in
    let above : cut ≤ floor = elim (cases_lt level last) [
      | inl early ↦ omega (arith, c.requires.sound.reasoned.rising level last early within, start)
      | inr late ↦ let is : level ≡ last = omega (arith, late, before) in omega (arith, ap (λ i. get_or s.starts.items i 0) is, start)
    ] in
    let high : second ≤ cut = c.backtrack_level-level.ensures.above inside in
    let back = c.backtrack.ensures.back in
    let new = c.backtrack.new.self in
    let pair = c.asserting_pair-pair.result in
    let first : (p : ℕ) → floor ≤ p → p < length ts → is_marked marks p ≡ true → pair.first.number ≡ opposite (literal_at ts p)
    = λ p le lt on. c.asserting_pair-pair.ensures.first p (omega (arith, le, res.at_floor)) lt on in
    subst (λ ls. IsAsserting (trues new.trail) new.starts.items ls pair.first.number pair.second.number) (sym c.in_ok-clause.ensures)
    (back-asserting cs ts s.trail.apart cnf.vars named marks floor second sized counted low none c.last_before-second.ensures.marked s.starts.items level cut inside high above
    c.backtrack_level-level.ensures.below (trues new.trail) new.starts.items back.trues back.starts pair.first.number pair.second.number first c.asserting_pair-pair.ensures.second c.asserting_pair-pair.ensures.alone)

pub returns-clause-one : goal.returns-clause-one
returns-clause-one c = omega (arith, c.in_ok-add_step.ensures.one, ap length c.backtrack.ensures.back.steps)
