-- What is said of one obligation of a design, and then of all.
use Rattle.std.proofs.Common.{◌≡◌, ℕ, zero, suc, ◌+◌, ◌<◌, ◌≤◌, get_or, List, [], ◌∷◌, ◌++◌, length, take, Some, All, IfErr, IfOk, Result, Ok, Err, refl, sym, ap, subst, ◌∙◌, inr, arith}
use Rattle.std.specs.List.{AllZip}
use Rattle.std.specs.Prelude.{slice_get}
use Rattle.std.proofs.lemmas.List.{take_all}
use Rattle.std.proofs.lemmas.List.Elements.{All-append, All-cons, All-nil}
use Rattle.bv_terms.specs.TermTrees.{Term}
use Rattle.bv_terms.specs.declared.node.Node.{Node}
use Rattle.cert_text.specs.Certifying.{CertsShow, Shows}
use Rattle.cnf_core.specs.declared.certificates.Cert.{Cert}
use Rattle.cocoon_num.specs.Tree.{Design}
use Rattle.obligation_gen.specs.Counted.{AreFew, all_counts}
use Rattle.obligation_gen.specs.Shown.{ShowsObligation, ShowsObligations, kind_in}
use Rattle.obligation_gen.specs.declared.obligation.Kind.{Kind}
use Rattle.obligation_gen.specs.declared.obligation.Obligation.{Obligation}
use Rattle.obligation_laws.specs.Failing.{NeverFails}
use Rattle.obligation_laws.specs.Obligations as laws
use Rattle.obligation_laws.specs.Obligations.{all_obligations}
use Rattle.refinement.specs.Owed.{Refines}
use Rattle.obligation_gen.specs.Owed.{IsOwed}
use Rattle.discharge.specs.Answering.{IsSpentOn}
use Rattle.discharge.proofs.Lists.{take_next}
use Rattle.cnf_core.specs.declared.log.Log.{Log}
use Rattle.cert_text.specs.Keeping.{AreShown, IsShown}
use Rattle.failures.specs.Found.{failure_of}
use Rattle.failures.specs.declared.failure.Failure.{Failure}
use Rattle.failures.specs.Told.{Tells}
use Rattle.query_laws.specs.Certified.{HasTooMany}
use Rattle.rounds.specs.Outcomes.{IsAsked, IsSpentAfter}
use Rattle.rounds.specs.declared.outcome.Query.{Query}
use Rattle.rounds.specs.declared.outcome.Query.TheVariants.{Goal, Assumption}
use Rattle.verdicts.specs.Deciding.{Decides, formula_in}
use Rattle.verdicts.specs.Failing as verdicts
use Rattle.verdicts.specs.declared.deciding.Verdict.TheVariants.{Holds, SpentConflicts}
use Rattle.command_reports.specs.declared.refusal.Refusal.{Refusal}
use Rattle.command_reports.specs.declared.refusal.Refusal.TheVariants as refusal
use Rattle.command_answers.specs.Answering.{TellsSpent, failed_with}
use Rattle.command_answers.specs.Owing.{IsFailing, OfObligation, by_conflicts, by_rounds, spent_line, spent_on, verdict_of, word_of}
use Rattle.command_answers.specs.Refining.{HasTables, IsEnded, IsRefined, IsUnshown, KeepsAll, NotAll, NotOne, NotRefined, SaysAll, TellsRun}
use Rattle.command_answers.specs.Refining as refining
use Rattle.command_answers.specs.declared.answer.Answer.{Answer}
use Rattle.command_answers.specs.declared.obligations.Refined.{Refined}
use Rattle.command_answers.specs.declared.obligations.Refined.TheVariants as refined

-- ---- lists side by side

zip_at : {A B : Type 0} (R : A → B → Type 0) (xs : List A) (ys : List B) (k : ℕ) (x : A) → AllZip R xs ys → slice_get xs k ≡ Some x → (y : B) × (slice_get ys k ≡ Some y) × R x y
zip_at R [] ys k x h is = absurd cc
zip_at R (a ∷ xs) [] k x h is = absurd h
zip_at R (a ∷ xs) (b ∷ ys) zero x h is = let e : a ≡ x = cc in (b, refl, subst (λ z. R z b) e h.0)
zip_at R (a ∷ xs) (b ∷ ys) (suc k) x h is = zip_at R xs ys k x h.1 is

zip_length : {A B : Type 0} (R : A → B → Type 0) (xs : List A) (ys : List B) → AllZip R xs ys → length xs ≡ length ys
zip_length R [] [] h = refl
zip_length R [] (b ∷ ys) h = absurd h
zip_length R (a ∷ xs) [] h = absurd h
zip_length R (a ∷ xs) (b ∷ ys) h = ap suc (zip_length R xs ys h.1)

zip_append : {A B : Type 0} (R : A → B → Type 0) (xs us : List A) (ys vs : List B) → AllZip R xs ys → AllZip R us vs → AllZip R (xs ++ us) (ys ++ vs)
zip_append R [] us [] vs h k = k
zip_append R [] us (b ∷ ys) vs h k = absurd h
zip_append R (a ∷ xs) us [] vs h k = absurd h
zip_append R (a ∷ xs) us (b ∷ ys) vs h k = (h.0, zip_append R xs us ys vs h.1 k)

at_index : {A : Type 0} (xs : List A) (k : ℕ) (x : A) → k < length xs → x ≡ get_or xs k x → slice_get xs k ≡ Some x
at_index [] k x less e = absurd (omega (arith, less))
at_index (y ∷ xs) zero x less e = ap Some (sym e)
at_index (y ∷ xs) (suc k) x less e = at_index xs k x (omega (arith, less)) e

-- ---- one obligation

-- it is the one of its number, where those before it never fail
pub record IsNext (d : Design) (nodes : List Node) (o : Obligation) (k : ℕ) : Type 0 where
  pub owed : laws.Obligation
  pub there : slice_get (all_obligations d) k ≡ Some owed
  pub shown : ShowsObligation d nodes o owed
  pub earlier : All (NeverFails d) (take k (all_obligations d))

pub next_at : (d : Design) (nodes : List Node) (os : List Obligation) (k : ℕ) (o : Obligation) → ShowsObligations d nodes os (all_obligations d) → k < length os → o ≡ get_or os k o → All (NeverFails d) (take k (all_obligations d)) → IsNext d nodes o k
next_at d nodes os k o h less is earlier =
    let at = zip_at (ShowsObligation d nodes) os (all_obligations d) k o h (at_index os k o less is) in
    record { owed = at.0; there = at.1; shown = at.2; earlier = earlier }

-- so it is owed
pub is_owed : (d : Design) (nodes : List Node) (o : Obligation) (k : ℕ) → IsNext d nodes o k → IsOwed d nodes o
is_owed d nodes o k n = record { number = k; owed = n.owed; there = n.there; shown = n.shown }

-- this is said of its level and its formula
said : (P : ℕ → Term → Type 0) (d : Design) (nodes : List Node) (o : Obligation) (k : ℕ) → IsNext d nodes o k → P o.level (formula_in nodes o) → OfObligation d k (λ o. P o.level o.formula)
said P d nodes o k n p = record {
  obligation = n.owed;
  is = n.there;
  says = subst (P n.owed.level) n.shown.formula_.term (subst (λ l. P l (formula_in nodes o)) n.shown.level_ p);
  earlier = n.earlier;
}

-- the answer with the text of a run tells it
pub tells_run : (d : Design) (o : Obligation) (kind : Kind) (f : Failure) (answer : Answer) (text : List ℕ) → o.kind ≡ kind → answer ≡ failed_with (verdict_of (kind_in kind)) text
    → Tells d (word_of (kind_in kind)) o.level o.leaf (failure_of d f) text → TellsRun d (kind_in o.kind) o.level o.leaf (failure_of d f) answer
tells_run d o kind f answer text is made tells =
    subst (λ k. TellsRun d (kind_in k) o.level o.leaf (failure_of d f) answer) (sym is)
    (subst (TellsRun d (kind_in kind) o.level o.leaf (failure_of d f)) (sym made) (record { verdict_ = refl; lines_ = tells; written = refl }))

-- a run by which it fails is told
fails_told : (d : Design) (nodes : List Node) (o : Obligation) (k : ℕ) (f : Failure) (answer : Answer) → IsNext d nodes o k → verdicts.IsFailureOf d nodes o o.kind f → TellsRun d (kind_in o.kind) o.level o.leaf (failure_of d f) answer
    → IsFailing d k answer.report
fails_told d nodes o k f answer n h tells =
    let run = failure_of d f in
    let lines = answer.report.lines in
    record {
      obligation = n.owed;
      is = n.there;
      says = record {
        failure = run;
        fails = h.fails k n.owed n.there n.shown;
        verdict_ = tells.verdict_ ∙ ap verdict_of n.shown.kind_;
        lines_ = subst (λ leaf. Tells d (word_of n.owed.kind) n.owed.level leaf run lines) n.shown.leaf_
            (subst (λ level. Tells d (word_of n.owed.kind) level o.leaf run lines) n.shown.level_
            (subst (λ kind. Tells d (word_of kind) o.level o.leaf run lines) n.shown.kind_ tells.lines_));
      };
      earlier = n.earlier;
    }

pub not_shown : (d : Design) (nodes : List Node) (o : Obligation) (conflicts rounds k : ℕ) (answer : Answer) → IsNext d nodes o k → IsUnshown d nodes o conflicts rounds k answer → IsEnded d conflicts rounds answer
not_shown d nodes o conflicts rounds k answer n (refining.by_run f h tells) = refining.fails k (fails_told d nodes o k f answer n h tells) tells.written
not_shown d nodes o conflicts rounds k answer n (refining.by_conflicts q vars log h tells) =
    refining.given_up tells.bytes
    (by_conflicts k q (record { vars = vars; log = log; spent_ = said (λ level t. IsAsked d level t rounds q (λ goal. IsSpentOn goal conflicts vars log)) d nodes o k n h; file = tells.file }) tells.told)
    tells.written
not_shown d nodes o conflicts rounds k answer n (refining.by_rounds instances h tells) =
    refining.given_up tells.bytes
    (by_rounds k (record { instances = instances; spent_ = said (λ level t. IsSpentAfter d level t rounds instances) d nodes o k n h; file = tells.file }) tells.told)
    tells.written

-- what the search says shows it
pub is_shown : (d : Design) (nodes : List Node) (o : Obligation) (conflicts rounds : ℕ) (cert : Cert) → Decides d nodes o conflicts rounds (Holds cert) → IsShown d nodes o cert
is_shown d nodes o conflicts rounds cert h = record { certified = h.certified; never_fails = h.never_fails }

-- or does not
pub failing : (d : Design) (nodes : List Node) (o : Obligation) (conflicts rounds k : ℕ) (kind : Kind) (f : Failure) (answer : Answer) → verdicts.IsFailureOf d nodes o kind f → TellsRun d (kind_in o.kind) o.level o.leaf (failure_of d f) answer
    → IsUnshown d nodes o conflicts rounds k answer
failing d nodes o conflicts rounds k kind f answer h tells = refining.by_run f (subst (λ x. verdicts.IsFailureOf d nodes o x f) (sym h.kind_) h) tells

pub unshown_by : (d : Design) (nodes : List Node) (o : Obligation) (conflicts rounds budget k : ℕ) (q : Query) (vars : ℕ) (log : Log) (answer : Answer) → budget ≡ conflicts → Decides d nodes o budget rounds (SpentConflicts q vars log)
    → TellsSpent (spent_line conflicts k q) (spent_on d k q log) answer → IsUnshown d nodes o conflicts rounds k answer
unshown_by d nodes o conflicts rounds budget k q vars log answer same h tells =
    refining.by_conflicts q vars log (subst (λ (n : ℕ). IsAsked d o.level (formula_in nodes o) rounds q (λ goal. IsSpentOn goal n vars log)) same h) tells

-- the definitions that were asked are of the design
pub has_tables : (d : Design) (level : ℕ) (formula : Term) (rounds : ℕ) (q : Query) (P : Term → Type 0) → IsAsked d level formula rounds q P → HasTables d q
has_tables d level formula rounds (Goal instances) P h = tt
has_tables d level formula rounds (Assumption i tables instances) P h = h.allowed.1.1.definitions

pub not_decided : (d : Design) (nodes : List Node) (o : Obligation) (rounds k : ℕ) (r : Refusal) → IsNext d nodes o k → NotOne d nodes o rounds r → NotAll d rounds r
not_decided d nodes o rounds k (refusal.OverLimit limit count) n (l, (q, big)) = (k, l, (q, said (λ level t. IsAsked d level t rounds q (λ goal. HasTooMany goal count)) d nodes o k n big))
not_decided d nodes o rounds k refusal.NoMemory n h = tt
not_decided d nodes o rounds k r n h = absurd h

-- ---- all of them

-- certificates show the first obligations, so many of them
pub record ShownTo (d : Design) (nodes : List Node) (os : List Obligation) (k : ℕ) (certs : List Cert) : Type 0 where
  pub shown : AllZip (IsShown d nodes) (take k os) certs
  pub earlier : All (NeverFails d) (take k (all_obligations d))

pub none_shown : (d : Design) (nodes : List Node) (os : List Obligation) (certs : List Cert) → certs ≡ [] → ShownTo d nodes os 0 certs
none_shown d nodes os certs e = record { shown = subst (AllZip (IsShown d nodes) []) (sym e) tt; earlier = All-nil (NeverFails d) }

shown_more : (d : Design) (nodes : List Node) (os : List Obligation) (k : ℕ) (o : Obligation) (certs : List Cert) (cert : Cert) → slice_get os k ≡ Some o → AllZip (IsShown d nodes) (take k os) certs → IsShown d nodes o cert
    → AllZip (IsShown d nodes) (take (k + 1) os) (certs ++ cert ∷ [])
shown_more d nodes os k o certs cert there h shows =
    subst (λ xs. AllZip (IsShown d nodes) xs (certs ++ cert ∷ [])) (sym (take_next os k o there)) (zip_append (IsShown d nodes) (take k os) (o ∷ []) certs (cert ∷ []) h (shows, tt))

pub one_more : (d : Design) (nodes : List Node) (os : List Obligation) (o : Obligation) (k : ℕ) (certs more : List Cert) (cert : Cert) → k < length os → o ≡ get_or os k o → IsNext d nodes o k → ShownTo d nodes os k certs → IsShown d nodes o cert
    → more ≡ certs ++ cert ∷ [] → ShownTo d nodes os (k + 1) more
one_more d nodes os o k certs more cert less is n h shows e = record {
  shown = subst (AllZip (IsShown d nodes) (take (k + 1) os)) (sym e) (shown_more d nodes os k o certs cert (at_index os k o less is) h.shown shows);
  earlier = subst (All (NeverFails d)) (sym (take_next (all_obligations d) k n.owed n.there))
      (All-append (NeverFails d) (take k (all_obligations d)) (n.owed ∷ []) h.earlier (All-cons (NeverFails d) n.owed [] (shows.never_fails k n.owed n.there n.shown) (All-nil (NeverFails d))));
}

pub all_shown : (d : Design) (nodes : List Node) (os : List Obligation) (k : ℕ) (certs : List Cert) → length os ≤ k → ShownTo d nodes os k certs → AreShown d nodes os certs
all_shown d nodes os k certs done h = subst (λ xs. AllZip (IsShown d nodes) xs certs) (take_all k os done) h.shown

-- what the law says of them, and which blocks are refined where none ever fails
pub keeps_all : (d : Design) (certs : List Cert) → AreFew (all_counts d) → Refines d → CertsShow d certs → KeepsAll d certs
keeps_all d certs few refines shown = record { few = few; refines = refines; shown = shown; counted = sym (zip_length (Shows d) (all_obligations d) certs shown) }

pub all_said : (d : Design) (nodes : List Node) (os : List Obligation) (conflicts rounds : ℕ) (x : Result Refined Refusal) → AreFew (all_counts d) → ((certs : List Cert) → AreShown d nodes os certs → KeepsAll d certs) → IfOk x (SaysAll d nodes os conflicts rounds)
    → IfOk x (IsRefined d conflicts rounds)
all_said d nodes os conflicts rounds (Ok (refined.Holds certs)) few keeps h = keeps certs.certs h
all_said d nodes os conflicts rounds (Ok (refined.Ended answer)) few keeps h = (few, h)
all_said d nodes os conflicts rounds (Err r) few keeps h = tt

pub all_unsaid : (d : Design) (rounds : ℕ) (x : Result Refined Refusal) → AreFew (all_counts d) → IfErr x (NotAll d rounds) → IfErr x (NotRefined d rounds)
all_unsaid d rounds (Ok said) few h = tt
all_unsaid d rounds (Err r) few h = inr (few, h)
