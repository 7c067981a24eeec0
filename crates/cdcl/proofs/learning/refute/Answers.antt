use Rattle.std.proofs.Common.{◌≡◌, ◌-◌, ◌<◌, ◌∙◌, [], List, ap, arith, length, map, subst, sym, ℕ}
use Rattle.std.specs.Prelude.{slice_get}
use Rattle.std.proofs.lemmas.List.{length_push}
use Rattle.std.specs.List.{All}
use Rattle.cnf_core.specs.Clauses.{literals}
use Rattle.cnf_core.specs.Deriving.{EachDerived, Follows}
use Rattle.cnf_core.specs.Licensing.{BringsNew}
use Rattle.cnf_core.specs.Literals.{Names, opposite}
use Rattle.cnf_core.specs.TrailViews.{trues}
use Rattle.cnf_core.specs.declared.log.Step.{Step}
use Rattle.cdcl.specs.Marks.{count_from, marked_literals}
use Rattle.cdcl.specs.States.{clauses_of}
use Rattle.cdcl.proofs.Counting.{none-marked}
use Rattle.cdcl.proofs.Jumping.{derived-push, get-last, new-prefix}
use Rattle.cdcl.proofs.LearnedClauses.{marked-none, learned-follows}
use Rattle.cdcl.proofs.learning.refute.Goals as goal

pub returns : goal.returns
returns c =
    let s = c.args.search.now in
    let cnf = c.args.cnf.now in
    let ts = trues s.trail in
    let cs = clauses_of cnf s in
    let a = c.in_ok-analysis.analysis in
    let res = c.in_ok-analysis.ensures in
    let marks = a.marks.items in
    let step : Step = record { clause = c.in_ok-clause.clause; hints = c.in_ok-hints.hints } in
    let pushed = c.in_ok-push.ensures.items in
    let counted : count_from 0 marks ≡ 0 = ap (λ n. count_from n marks) (sym res.at_floor) ∙ sym a.counted ∙ res.exact in
    let empty : literals c.in_ok-clause.clause ≡ [] = c.in_ok-clause.ensures ∙ ap (map opposite) (marked-none marks ts (none-marked marks counted)) in
    let f = subst (λ ls. Follows cnf.vars cs ls c.in_ok-hints.hints) (sym c.in_ok-clause.ensures)
    (subst (Follows cnf.vars cs (map opposite (marked_literals marks ts))) (sym c.in_ok-hints.ensures)
    (learned-follows cs ts s.trail.apart cnf.vars (subst (λ v. All (Names v) ts) c.requires.sound.same_room s.trail.named) marks res.analyzed.0 a.hints.items res.analyzed.1.below res.analyzed.1.shows)) in
    let grown = ap length pushed ∙ length_push s.steps.items step in
    let place : length c.push.new.self.items - 1 ≡ length s.steps.items = omega (arith, grown) in
    let new_before : List Step → Type 0 = λ ss. (k : ℕ) → k < length s.steps.items → BringsNew cnf ss k in
    record {
      one = grown;
      derived = subst (EachDerived cnf) (sym pushed) (derived-push cnf s.steps.items step c.requires.sound.derived f);
      ends = (step, ap (slice_get c.push.new.self.items) place ∙ ap (λ ss. slice_get ss (length s.steps.items)) pushed ∙ get-last s.steps.items step, empty);
      new_before = λ k lt. subst new_before (sym pushed) (new-prefix cnf s.steps.items step c.requires.sound.new) k (omega (arith, lt, grown));
    }
