-- How a call ends whose steps have nothing to refuse.
use Rattle.std.proofs.Common.{◌≡◌, ◌⊎◌, ◌||◌, ℕ, Bool, true, false, List, [], ◌∷◌, Option, Some, None, Result, Ok, Err, refl, sym, ap, subst, ◌∙◌, inl, inr}
use Rattle.std.specs.Prelude.{codes}
use Rattle.std.specs.List.{AllByRecursion}
use Rattle.cert_text.specs.Rechecking.{Tells}
use Rattle.cert_text.specs.declared.fault.CertFault.TheVariants as fault
use Rattle.cnf_core.specs.declared.certificates.Cert.{Cert}
use Rattle.cocoon_io.specs.Calls.{appended, with_file}
use Rattle.cocoon_io.specs.Files.{Files}
use Rattle.cocoon_num.specs.Tree.{Design}
use Rattle.cocoon_num.specs.declared.limit_name.LimitName.{LimitName}
use Rattle.cocoon_num.specs.declared.limit_name.LimitName.TheVariants.{Clauses}
use Rattle.command_line.specs.Command.{Command, check, compile, update, step, forward, gen}
use Rattle.command_line.specs.Words.{command}
use Rattle.command_reports.specs.FileNames.{HasName}
use Rattle.command_reports.specs.Report.{Ending, IsEnding, Prints, Puts, all, a_prefix, nothing, fault_in, fault_of, given_up as gave_up, line_of, refusal_status, status_of, verdict_status}
use Rattle.command_reports.specs.declared.files.CommandFile.TheVariants.{Budget}
use Rattle.command_reports.specs.declared.refusal.BundleCause.TheVariants as cause
use Rattle.command_reports.specs.declared.refusal.Refusal.{Refusal}
use Rattle.command_reports.specs.declared.refusal.Refusal.TheVariants as refusal
use Rattle.command_reports.specs.declared.report.Report.{Report}
use Rattle.command_reports.specs.declared.status.Status.{Status}
use Rattle.command_reports.specs.declared.status.Status.TheVariants as status
use Rattle.command_answers.specs.Commands.{Reports, files_of, standing_of}
use Rattle.command_answers.specs.Outcomes.{Answers, Ends, no_memory, at_step, at_fault, EndsAt, FirstWith, here, later, ReportsOutcome, StopsAt, is_any_searched, steps}
use Rattle.command_answers.specs.Owing.{by_conflicts, by_rounds, spent_line}
use Rattle.command_answers.specs.ReportLines.{budget_line, rounds_line}
use Rattle.command_answers.specs.FolderCalls.{Counted, CountsFault}
use Rattle.command_answers.specs.Standing.{NotAccepted}
use Rattle.command_answers.specs.Steps.{Decides, GivesUp, Inputs, IsTooLarge, OfCertified, Spends, Step, Stops, is_searched, is_there, assumptions_met, obligations_hold, bundle_reads, certificates_read, certificates_accepted, wires_read, certificates_within, bundle_written, generated, of_generated}
use Rattle.cocoon_cli.specs.Run.{Call, Cause, CauseOf, DoneOf, InputsAre, IsKnown, IsSpentAt, KeepsMore, SpentOf, inputs_of}
use Rattle.cocoon_cli.proofs.Commands.{report_done, steps_decided}
use Rattle.cocoon_cli.proofs.OneStep.{AllDecided, Decided, Laws, good_or_judged, good_or_refused, on_certified as both_certified}
use Rattle.command_laws.specs.Endings.{EndsWell, done, given_up, too_large, GivenUpBy, IsLarge, IsTooLargeAt, SpendsConflicts, SpendsOnAssumption, SpendsRounds}
use Rattle.command_laws.specs.Endings as endings
use Rattle.command_laws.specs.Enough.{AreEnoughConflicts, AreEnoughRounds, HasConflicts, HasRounds}
use Rattle.command_laws.specs.Sound.{IsSound, NoneRefused, Sound}
use Rattle.command_laws.proofs.Spending.{Short, assumption_not_spent, obligation_not_open, obligation_not_spent}

-- what follows from the cause of an answer
abbrev pub KeepMore : Type 0
KeepMore = (call : Call) → CauseOf (command call.words) call → KeepsMore call

-- ---- steps

-- a search that is given up is one
searched : (i : Inputs) (s : Step) (report : Report) → GivesUp i s (Ok report) → is_searched s ≡ true
searched i (assumptions_met n) report h = refl
searched i (obligations_hold n m) report h = refl
searched i certificates_within report h = refl
searched i (of_generated hosts s) report h = searched (generated hosts) s report h
searched i s report h = absurd h.1

-- something may be too large of such a step, and of certificates that stand
abbrev may_be_large : Step → Bool
may_be_large (certificates_accepted out) = true
may_be_large (of_generated hosts s) = may_be_large s
may_be_large s = is_searched s

abbrev may_any_be_large : List Step → Bool
may_any_be_large [] = false
may_any_be_large (s ∷ ss) = may_be_large s || may_any_be_large ss

large_may_be : (i : Inputs) (s : Step) (r : Refusal) → IsLarge i s r → may_be_large s ≡ true
large_may_be i (assumptions_met n) r h = refl
large_may_be i (obligations_hold n m) r h = refl
large_may_be i certificates_within r h = refl
large_may_be i (certificates_accepted out) r h = refl
large_may_be i (of_generated hosts s) r h = large_may_be (generated hosts) s r h
large_may_be i s r h = absurd h

or_first : (a b : Bool) → a ≡ true → (a || b) ≡ true
or_first true b e = refl
or_first false b e = cc

or_second : (a b : Bool) → b ≡ true → (a || b) ≡ true
or_second true b e = refl
or_second false b e = e

-- one of some steps has this, and so one of them may be large
any_large : (i : Inputs) (P : Step → Type 0) (ss : List Step) → ((s : Step) → P s → may_be_large s ≡ true) → FirstWith i P ss → may_any_be_large ss ≡ true
any_large i P [] f h = elim h [ ]
any_large i P (s ∷ ss) f (here h) = or_first (may_be_large s) (may_any_be_large ss) (f s h)
any_large i P (s ∷ ss) f (later g h) = or_second (may_be_large s) (may_any_be_large ss) (any_large i P ss f h)

-- a command with certificates that stand has a search
none_is_large : (c : Command) → is_any_searched (steps c) ≡ false → may_any_be_large (steps c) ≡ false
none_is_large (check d n m) plain = plain
none_is_large (compile d e o n m) plain = plain
none_is_large (update d e o n) plain = cc
none_is_large (step d e l f) plain = plain
none_is_large (forward o p n) plain = plain
none_is_large (gen hosts packets) plain = cc

-- one of some steps has this, and so one of them is searched
any_searched : (i : Inputs) (P : Step → Type 0) (ss : List Step) → ((s : Step) → P s → is_searched s ≡ true) → FirstWith i P ss → is_any_searched ss ≡ true
any_searched i P [] f h = elim h [ ]
any_searched i P (s ∷ ss) f (here h) = or_first (is_searched s) (is_any_searched ss) (f s h)
any_searched i P (s ∷ ss) f (later g h) = or_second (is_searched s) (is_any_searched ss) (any_searched i P ss f h)

-- what the step has at which some end
of_first : {R : Type 0} (i : Inputs) (P : Step → Type 0) (ss : List Step) → ((s : Step) → P s → R) → FirstWith i P ss → R
of_first i P [] f h = elim h [ ]
of_first i P (s ∷ ss) f (here h) = f s h
of_first i P (s ∷ ss) f (later g h) = of_first i P ss f h

-- it is given up, or something is too large
abbrev IsGivenUp : Inputs → Result Report Refusal → Step → Type 0
IsGivenUp i (Ok report) s = GivesUp i s (Ok report)
IsGivenUp i (Err r) s = IsLarge i s r

-- a certificate's query is too large, and that is what is refused
abbrev IsTooBig : Refusal → Design → List Cert → Type 0
IsTooBig r d certs = (count : ℕ) × Tells d certs (fault.Big count) × (r ≡ refusal.OverLimit Clauses count)

-- where none of them shows too little, it is that one of them has too large a query
unaccepted_large : (d : Design) (certs : List Cert) (r : Refusal) → NoneRefused d certs → NotAccepted d certs r → IsTooBig r d certs
unaccepted_large d certs (refusal.Unread file (cause.Refused number)) none h = absurd (none number h.1)
unaccepted_large d certs (refusal.OverLimit limit count) none h = (count, h.1, ap (λ (l : LimitName). refusal.OverLimit l count) h.0)
unaccepted_large d certs r none h = absurd h

-- what is said of the certificates that are not accepted is said of those that stand
abbrev IsPlaced : Inputs → List ℕ → Refusal → Design → List Cert → Type 0
IsPlaced i out r d certs = NotAccepted d certs r × (IsTooBig r d certs → OfCertified i out (IsTooBig r))

placed : (i : Inputs) (out : List ℕ) (r : Refusal) → OfCertified i out (λ d certs. NotAccepted d certs r) → OfCertified i out (IsPlaced i out r)
placed i out r h =
    record {
      text = h.text;
      is = h.is;
      design = h.design;
      reads = h.reads;
      holds = record {
        certs = h.holds.certs;
        given = h.holds.given;
        holds = (h.holds.holds, λ big. record { text = h.text; is = h.is; design = h.design; reads = h.reads; holds = record { certs = h.holds.certs; given = h.holds.given; holds = big } });
      };
    }

sound_decides : Laws → (i : Inputs) (s : Step) (x : Result Report Refusal) → Decided i s → IsSound i s → Decides i s x → IsGivenUp i x s
sound_decides laws i certificates_within (Ok report) b g h = absurd h
sound_decides laws i certificates_within (Err r) b g h = absurd h
sound_decides laws i (certificates_accepted out) (Ok report) b g h = absurd h
sound_decides laws i (certificates_accepted out) (Err r) b g h = both_certified {P = NoneRefused} {Q = IsPlaced i out r} {R = OfCertified i out (IsTooBig r)} laws i out b (λ d certs none x. x.1 (unaccepted_large d certs r none x.0)) g (placed i out r h)
sound_decides laws i (of_generated hosts s) (Ok report) b g h = sound_decides laws (generated hosts) s (Ok report) b g h
sound_decides laws i (of_generated hosts s) (Err r) b g h = sound_decides laws (generated hosts) s (Err r) b g h
sound_decides laws i s (Ok report) b g h = absurd (good_or_judged laws i s report g h)
sound_decides laws i s (Err r) b g h = absurd (good_or_refused laws i s r b g h)

large_is : (i : Inputs) (s : Step) (r : Refusal) → IsTooLarge i s r → IsLarge i s r
large_is i (certificates_accepted out) r h = absurd h
large_is i (of_generated hosts s) r h = large_is (generated hosts) s r h
large_is i s r h = h

gives_up : (i : Inputs) (s : Step) (x : Result Report Refusal) → GivesUp i s x → IsGivenUp i x s
gives_up i s (Ok report) h = h
gives_up i s (Err r) h = large_is i s r h

-- where none has anything to refuse, none ends the command but by giving up
only_gives_up : Laws → (i : Inputs) (ss : List Step) (x : Result Report Refusal) → AllDecided i ss → AllByRecursion (IsSound i) ss → FirstWith i (EndsAt i x) ss → FirstWith i (IsGivenUp i x) ss
only_gives_up laws i [] x a g h = elim h [ ]
only_gives_up laws i (s ∷ ss) x a g (here (inl h)) = here (sound_decides laws i s x a.0 g.0 h)
only_gives_up laws i (s ∷ ss) x a g (here (inr h)) = here (gives_up i s x h)
only_gives_up laws i (s ∷ ss) x a g (later m h) = later m (only_gives_up laws i ss x a.1 g.1 h)

-- the status of a search that is given up, and of a question that is too large
spends_budget : (i : Inputs) (s : Step) (report : Report) → GivesUp i s (Ok report) → status_of (Ok report) ≡ status.Budget
spends_budget i (assumptions_met n) report (bytes, h) =
    let (number, spent, told) = h.holds.holds in ap (λ (r : Report). status_of (Ok r)) told
spends_budget i (obligations_hold n m) report (bytes, h) = elim h.holds [
  | by_conflicts number q spent told ↦ ap (λ (r : Report). status_of (Ok r)) told
  | by_rounds number is told ↦ ap (λ (r : Report). status_of (Ok r)) told
]
spends_budget i (of_generated hosts s) report h = spends_budget (generated hosts) s report h
spends_budget i s report h = absurd h.1

large_limit : (i : Inputs) (s : Step) (r : Refusal) → IsLarge i s r → refusal_status r ≡ status.Limit
large_limit i (assumptions_met n) r h = let (number, count, big, told) = h.holds.holds in ap refusal_status told
large_limit i (obligations_hold n m) r h = let (number, count, big, told) = h.holds in ap refusal_status told
large_limit i certificates_within r h = let (certificates, certify, (long, told)) = h.holds in ap refusal_status told
large_limit i (certificates_accepted out) r h = let (count, big, told) = h.holds.holds in ap refusal_status told
large_limit i (of_generated hosts s) r h = large_limit (generated hosts) s r h
large_limit i s r h = absurd h

-- a fault that stops a step is one of the folder, and is counted
stops_counted : (i : Inputs) (s : Step) (r : Refusal) (call : Call) → Stops i s r → CountsFault call.reads call.writes (fault_of r) → Counted call.reads ⊎ Counted call.writes
stops_counted i (is_there file) r call h k = inl (subst (λ x. CountsFault call.reads call.writes (fault_of x)) h k).0
stops_counted i (bundle_reads out) r call h k = inl (subst (λ x. CountsFault call.reads call.writes (fault_of x)) h.1 k).0
stops_counted i (assumptions_met n) r call h k = inr (subst (λ x. CountsFault call.reads call.writes (fault_of x)) h.0 k).1
stops_counted i (obligations_hold n m) r call h k = inr (subst (λ x. CountsFault call.reads call.writes (fault_of x)) h.0 k).1
stops_counted i (certificates_read out) r call h k = inl (subst (λ x. CountsFault call.reads call.writes (fault_of x)) h k).0
stops_counted i (wires_read out) r call h k = inl (subst (λ x. CountsFault call.reads call.writes (fault_of x)) h k).0
stops_counted i bundle_written r call h k = inr (subst (λ x. CountsFault call.reads call.writes (fault_of x)) h.1 k).1
stops_counted i (of_generated hosts s) r call h k = stops_counted (generated hosts) s r call h k
stops_counted i s r call h k = absurd h

-- ---- what is printed

-- the whole ending was printed, or there was no memory
abbrev Printed : Call → Ending → Type 0
Printed call e = ((call.status ≡ e.status) × (call.output_after ≡ appended call.output_before e.report)) ⊎ (call.status ≡ status.NoMemory)

printed : (failed : Type 0) (e : Ending) (before after : Option (List ℕ)) (s : Status) → ¬ failed → Prints failed e before after s
    → ((s ≡ e.status) × (after ≡ appended before e.report)) ⊎ (s ≡ status.NoMemory)
printed failed e before after s never (inl (all is told)) = inl (is, told)
printed failed e before after s never (inl (a_prefix is fails told)) = absurd (never fails)
printed failed e before after s never (inl (nothing is told)) = inr is
printed failed e before after s never (inr (all is told)) = inr is
printed failed e before after s never (inr (a_prefix is fails told)) = absurd (never fails)
printed failed e before after s never (inr (nothing is told)) = inr is

-- ---- a call

-- a command over these files: its cause is one over what they have
pub record Sounds (c : Command) (call : Call) : Type 0 where
  pub cause : Cause c call
  pub more : KeepsMore call
  pub is : command call.words ≡ Some c
  pub sound : AllByRecursion (IsSound cause.performs.inputs) (steps c)
  pub decided : AllDecided cause.performs.inputs (steps c)

known : (o : Option (List ℕ)) (files : Files) (i : Inputs) → i.content ≡ Some files → IsKnown o i
known None files i is = tt
known (Some out) files i is = (files, is)

pub sounds : Laws → KeepMore → (c : Command) (call : Call) → command call.words ≡ Some c → CauseOf (command call.words) call → Sound c call → Sounds c call
sounds laws keep c call is cause sound =
    let own : Cause c call = subst (λ o. CauseOf o call) is cause in
    let same : own.performs.inputs ≡ inputs_of (files_of c) sound.files = subst (λ o. InputsAre (files_of c) o own.performs.inputs) sound.known own.performs.inputs_are in
    let content : own.performs.inputs.content ≡ Some sound.files = ap (λ (i : Inputs). i.content) same in
    record {
      cause = own;
      more = keep call cause;
      is = is;
      sound = subst (λ i. AllByRecursion (IsSound i) (steps c)) (sym same) sound.sound;
      decided = steps_decided laws c own.performs.inputs (known (standing_of c) sound.files own.performs.inputs content);
    }

-- ---- how it ends

-- with the status of its outcome, or without memory
at_status : (c : Command) (call : Call) (x : Sounds c call) → Printed call x.cause.ending → (s : Status) → status_of x.cause.outcome ≡ s → (call.status ≡ s → EndsWell c call) → EndsWell c call
at_status c call x (inl (is, told)) s e f = f (is ∙ x.cause.is_ending.status ∙ e)
at_status c call x (inr none) s e f = endings.no_memory none

reported : (c : Command) (i : Inputs) (o : Result Report Refusal) → ReportsOutcome c i o → status_of o ≡ status.Done
reported c i (Ok report) h = ap verdict_status (report_done c i report h)
reported c i (Err r) h = absurd h

-- of some steps this is the first that is not known to be good: what it asks is too large
record Large (i : Inputs) (ss : List Step) (o : Result Report Refusal) : Type 0 where
  refusal : Refusal
  is : o ≡ Err refusal
  limit : refusal_status refusal ≡ status.Limit
  large : FirstWith i (λ s. IsLarge i s refusal) ss

given : (i : Inputs) (ss : List Step) (o : Result Report Refusal) → FirstWith i (IsGivenUp i o) ss → (status_of o ≡ status.Budget) ⊎ Large i ss o
given i ss (Ok report) h = inl (of_first i (λ s. GivesUp i s (Ok report)) ss (λ s g. spends_budget i s report g) h)
given i ss (Err r) h = inr (record {
  refusal = r;
  is = refl;
  limit = of_first i (λ s. IsLarge i s r) ss (λ s g. large_limit i s r g) h;
  large = h;
})

faulted : (i : Inputs) (ss : List Step) (o : Result Report Refusal) (call : Call) → FirstWith i (StopsAt i o) ss → CountsFault call.reads call.writes (fault_in o) → Counted call.reads ⊎ Counted call.writes
faulted i ss (Ok report) call h k = of_first i (StopsAt i (Ok report)) ss (λ s g. absurd g) h
faulted i ss (Err r) call h k = of_first i (StopsAt i (Err r)) ss (λ s g. stops_counted i s r call g k) h

large : (c : Command) (call : Call) (x : Sounds c call) → Printed call x.cause.ending → Large x.cause.performs.inputs (steps c) x.cause.outcome → EndsWell c call
large c call x (inr none) l = endings.no_memory none
large c call x (inl (is, told)) l = too_large (is ∙ x.cause.is_ending.status ∙ ap status_of l.is ∙ l.limit) (record {
  inputs = x.cause.performs.inputs;
  are = x.cause.performs.inputs_are;
  refusal = l.refusal;
  large = l.large;
  line = x.cause.ending.report;
  is = ap (λ o. line_of (files_of c) o) (sym l.is) ∙ x.cause.is_ending.line;
  told = told;
})

pub ends_well : Laws → KeepMore → (c : Command) (call : Call) → command call.words ≡ Some c → CauseOf (command call.words) call → Sound c call → EndsWell c call
ends_well laws keep c call is cause sound =
    let x = sounds laws keep c call is cause sound in
    let i = x.cause.performs.inputs in
    let o = x.cause.outcome in
    let out : Printed call x.cause.ending = printed (Counted call.puts) x.cause.ending call.output_before call.output_after call.status sound.no_put_failed x.cause.prints in
    elim x.cause.performs.answers [
      | inl (no_memory m) ↦ at_status c call x out status.NoMemory (ap status_of m) (λ k. endings.no_memory k)
      | inl (at_step h) ↦ elim (given i (steps c) o (only_gives_up laws i (steps c) o x.decided x.sound h)) [
        | inl b ↦ at_status c call x out status.Budget b (λ k. given_up k (subst (λ w. SpentOf w call) x.is (x.more.spent_leaves k)))
        | inr l ↦ large c call x out l
      ]
      | inl (at_fault h) ↦ elim (faulted i (steps c) o call h x.cause.counts) [
        | inl r ↦ absurd (sound.no_read_failed r)
        | inr w ↦ absurd (sound.no_write_failed w)
      ]
      | inr (g, told) ↦ at_status c call x out status.Done (reported c i o told) (λ k. done k (subst (λ w. DoneOf w call) x.is (x.more.done_leaves k)))
    ]

-- a command that decides nothing by a search
pub plainly : (c : Command) (call : Call) → EndsWell c call → is_any_searched (steps c) ≡ false → (call.status ≡ status.Done) ⊎ (call.status ≡ status.NoMemory)
plainly c call (done is h) plain = inl is
plainly c call (given_up is (i, report, are, first, told)) plain =
    let yes : is_any_searched (steps c) ≡ true = any_searched i (IsSpentAt c i report call.content_before call.content_after) (steps c) (λ s g. searched i s report (g.bytes, g.spends)) first in
    absurd (let clash : true ≡ false = sym yes ∙ plain in cc)
plainly c call (too_large is h) plain =
    let yes : may_any_be_large (steps c) ≡ true = any_large h.inputs (λ s. IsLarge h.inputs s h.refusal) (steps c) (λ s g. large_may_be h.inputs s h.refusal g) h.large in
    absurd (let clash : true ≡ false = sym yes ∙ none_is_large c plain in cc)
plainly c call (endings.no_memory is) plain = inr is

-- ---- how a search was given up

-- what one step spent
record Spent (i : Inputs) (s : Step) (report : Report) (bytes : List ℕ) : Type 0 where
  line : List ℕ
  told : report ≡ gave_up line
  by : SpendsConflicts i s line bytes ⊎ SpendsRounds i s line bytes

spent_of : (i : Inputs) (s : Step) (report : Report) (bytes : List ℕ) → Spends i s report bytes → Spent i s report bytes
spent_of i (assumptions_met n) report bytes h =
    let (number, spent, told) = h.holds.holds in
    record {
      line = budget_line n (codes "assumption") number;
      told = told;
      by = inl (record {
        text = h.text;
        is = h.is;
        design = h.design;
        reads = h.reads;
        holds = record { text = h.holds.text; are = h.holds.are; defs = h.holds.defs; read = h.holds.read; holds = (number, spent, refl) };
      });
    }
spent_of i (obligations_hold n m) report bytes h = elim h.holds [
  | by_conflicts number q spent told ↦ record {
    line = spent_line n number q;
    told = told;
    by = inl (record { text = h.text; is = h.is; design = h.design; reads = h.reads; holds = (number, q, spent, refl) });
  }
  | by_rounds number is told ↦ record {
    line = rounds_line m number;
    told = told;
    by = inr (record { text = h.text; is = h.is; design = h.design; reads = h.reads; holds = (number, is, refl) });
  }
]
spent_of i (of_generated hosts s) report bytes h =
    let inner = spent_of (generated hosts) s report bytes h in record { line = inner.line; told = inner.told; by = inner.by }
spent_of i s report bytes h = absurd h

-- what the first of some steps spent
record SpentAmong (c : Command) (i : Inputs) (report : Report) (before after : Option Files) (ss : List Step) : Type 0 where
  line : List ℕ
  bytes : List ℕ
  told : report ≡ gave_up line
  leaves : HasName (files_of c) Budget (λ name. after ≡ with_file before name bytes)
  by : FirstWith i (λ s. SpendsConflicts i s line bytes) ss ⊎ FirstWith i (λ s. SpendsRounds i s line bytes) ss

spent_among : (c : Command) (i : Inputs) (report : Report) (before after : Option Files) (ss : List Step) → FirstWith i (IsSpentAt c i report before after) ss → SpentAmong c i report before after ss
spent_among c i report before after [] h = elim h [ ]
spent_among c i report before after (s ∷ ss) (here h) =
    let x = spent_of i s report h.bytes h.spends in
    record {
      line = x.line;
      bytes = h.bytes;
      told = x.told;
      leaves = h.leaves;
      by = elim x.by [ inl y ↦ inl (here y) | inr y ↦ inr (here y) ];
    }
spent_among c i report before after (s ∷ ss) (later g h) =
    let x = spent_among c i report before after ss h in
    record {
      line = x.line;
      bytes = x.bytes;
      told = x.told;
      leaves = x.leaves;
      by = elim x.by [ inl y ↦ inl (later g y) | inr y ↦ inr (later g y) ];
    }

-- a call that gave up by one of both
given_up_by : KeepMore → (c : Command) (call : Call) → command call.words ≡ Some c → CauseOf (command call.words) call → call.status ≡ status.Budget → GivenUpBy SpendsConflicts c call ⊎ GivenUpBy SpendsRounds c call
given_up_by keep c call is cause budget =
    let (i, report, are, first, told) = subst (λ w. SpentOf w call) is ((keep call cause).spent_leaves budget) in
    let x = spent_among c i report call.content_before call.content_after (steps c) first in
    let line : call.output_after ≡ appended call.output_before x.line = told ∙ ap (λ (r : Report). appended call.output_before r.lines) x.told in
    elim x.by [
      | inl y ↦ inl (record { inputs = i; are = are; line = x.line; bytes = x.bytes; first = y; told = line; leaves = x.leaves })
      | inr y ↦ inr (record { inputs = i; are = are; line = x.line; bytes = x.bytes; first = y; told = line; leaves = x.leaves })
    ]

-- ---- of an `update`

-- a step on obligations, or on texts that are generated
abbrev is_owed : Step → Bool
is_owed (obligations_hold n m) = true
is_owed (of_generated hosts s) = true
is_owed s = false

abbrev is_any_owed : List Step → Bool
is_any_owed [] = false
is_any_owed (s ∷ ss) = is_owed s || is_any_owed ss

abbrev IsNotOwed : Step → Type 0
IsNotOwed s = is_owed s ≡ false

neither_first : (a b : Bool) → (a || b) ≡ false → a ≡ false
neither_first true b e = e
neither_first false b e = refl

neither_second : (a b : Bool) → (a || b) ≡ false → b ≡ false
neither_second true b e = absurd (let clash : true ≡ false = e in cc)
neither_second false b e = e

none_owed : (ss : List Step) → is_any_owed ss ≡ false → AllByRecursion IsNotOwed ss
none_owed [] e = tt
none_owed (s ∷ ss) e = (neither_first (is_owed s) (is_any_owed ss) e, none_owed ss (neither_second (is_owed s) (is_any_owed ss) e))

on_assumption : (i : Inputs) (s : Step) (line bytes : List ℕ) → IsNotOwed s → SpendsConflicts i s line bytes → SpendsOnAssumption i s line bytes
on_assumption i (assumptions_met n) line bytes own h = h
on_assumption i (obligations_hold n m) line bytes own h = absurd (let clash : true ≡ false = own in cc)
on_assumption i (of_generated hosts s) line bytes own h = absurd (let clash : true ≡ false = own in cc)
on_assumption i s line bytes own h = absurd h

no_round : (i : Inputs) (s : Step) (line bytes : List ℕ) → IsNotOwed s → SpendsRounds i s line bytes → ⊥
no_round i (obligations_hold n m) line bytes own h = let clash : true ≡ false = own in cc
no_round i (of_generated hosts s) line bytes own h = let clash : true ≡ false = own in cc
no_round i s line bytes own h = h

first_on_assumption : (i : Inputs) (line bytes : List ℕ) (ss : List Step) → AllByRecursion IsNotOwed ss → FirstWith i (λ s. SpendsConflicts i s line bytes) ss → FirstWith i (λ s. SpendsOnAssumption i s line bytes) ss
first_on_assumption i line bytes [] own h = elim h [ ]
first_on_assumption i line bytes (s ∷ ss) own (here h) = here (on_assumption i s line bytes own.0 h)
first_on_assumption i line bytes (s ∷ ss) own (later g h) = later g (first_on_assumption i line bytes ss own.1 h)

first_no_round : (i : Inputs) (line bytes : List ℕ) (ss : List Step) → AllByRecursion IsNotOwed ss → FirstWith i (λ s. SpendsRounds i s line bytes) ss → ⊥
first_no_round i line bytes [] own h = elim h [ ]
first_no_round i line bytes (s ∷ ss) own (here h) = no_round i s line bytes own.0 h
first_no_round i line bytes (s ∷ ss) own (later g h) = first_no_round i line bytes ss own.1 h

update_owes_none : (d e o : List ℕ) (n : ℕ) → AllByRecursion IsNotOwed (steps (update d e o n))
update_owes_none d e o n = none_owed (steps (update d e o n)) refl

pub by_assumption : KeepMore → (d e o : List ℕ) (n : ℕ) (call : Call) → command call.words ≡ Some (update d e o n) → CauseOf (command call.words) call → call.status ≡ status.Budget → GivenUpBy SpendsOnAssumption (update d e o n) call
by_assumption keep d e o n call is cause budget = elim (given_up_by keep (update d e o n) call is cause budget) [
  | inl h ↦ record { inputs = h.inputs; are = h.are; line = h.line; bytes = h.bytes; first = first_on_assumption h.inputs h.line h.bytes (steps (update d e o n)) (update_owes_none d e o n) h.first; told = h.told; leaves = h.leaves }
  | inr h ↦ absurd (first_no_round h.inputs h.line h.bytes (steps (update d e o n)) (update_owes_none d e o n) h.first)
]

-- ---- with enough

conflicts_not_spent : Short → (i : Inputs) (s : Step) (line bytes : List ℕ) → HasConflicts i s → SpendsConflicts i s line bytes → ⊥
conflicts_not_spent short i (assumptions_met n) line bytes enough h =
    let (number, spent, told) = h.holds.holds in
    assumption_not_spent short h.design h.holds.defs n number bytes (enough h.text h.design h.is h.reads h.holds.text h.holds.defs h.holds.are h.holds.read) spent
conflicts_not_spent short i (obligations_hold n m) line bytes enough h =
    let (number, q, spent, told) = h.holds in
    obligation_not_spent short h.design n m number q bytes (enough h.text h.design h.is h.reads) spent
conflicts_not_spent short i (of_generated hosts s) line bytes enough h = conflicts_not_spent short (generated hosts) s line bytes enough h
conflicts_not_spent short i s line bytes enough h = h

rounds_not_spent : Short → (i : Inputs) (s : Step) (line bytes : List ℕ) → HasRounds i s → SpendsRounds i s line bytes → ⊥
rounds_not_spent short i (obligations_hold n m) line bytes enough h =
    let (number, spent, told) = h.holds in
    obligation_not_open short h.design m number bytes (enough h.text h.design h.is h.reads) spent
rounds_not_spent short i (of_generated hosts s) line bytes enough h = rounds_not_spent short (generated hosts) s line bytes enough h
rounds_not_spent short i s line bytes enough h = h

none_first : (i : Inputs) (P Q : Step → Type 0) → ((s : Step) → P s → Q s → ⊥) → (ss : List Step) → AllByRecursion P ss → FirstWith i Q ss → ⊥
none_first i P Q never [] ps h = elim h [ ]
none_first i P Q never (s ∷ ss) ps (here h) = never s ps.0 h
none_first i P Q never (s ∷ ss) ps (later g h) = none_first i P Q never ss ps.1 h

not_by_conflicts : Short → (c : Command) (call : Call) → AreEnoughConflicts c call → GivenUpBy SpendsConflicts c call → ⊥
not_by_conflicts short c call enough h =
    none_first h.inputs (HasConflicts h.inputs) (λ s. SpendsConflicts h.inputs s h.line h.bytes) (λ s. conflicts_not_spent short h.inputs s h.line h.bytes) (steps c) (enough h.inputs h.are) h.first

not_by_rounds : Short → (c : Command) (call : Call) → AreEnoughRounds c call → GivenUpBy SpendsRounds c call → ⊥
not_by_rounds short c call enough h =
    none_first h.inputs (HasRounds h.inputs) (λ s. SpendsRounds h.inputs s h.line h.bytes) (λ s. rounds_not_spent short h.inputs s h.line h.bytes) (steps c) (enough h.inputs h.are) h.first

pub by_rounds_alone : Short → KeepMore → (c : Command) (call : Call) → command call.words ≡ Some c → CauseOf (command call.words) call → AreEnoughConflicts c call → call.status ≡ status.Budget → GivenUpBy SpendsRounds c call
by_rounds_alone short keep c call is cause enough budget = elim (given_up_by keep c call is cause budget) [
  | inl h ↦ absurd (not_by_conflicts short c call enough h)
  | inr h ↦ h
]

pub by_conflicts_alone : Short → KeepMore → (c : Command) (call : Call) → command call.words ≡ Some c → CauseOf (command call.words) call → AreEnoughRounds c call → call.status ≡ status.Budget → GivenUpBy SpendsConflicts c call
by_conflicts_alone short keep c call is cause enough budget = elim (given_up_by keep c call is cause budget) [
  | inl h ↦ h
  | inr h ↦ absurd (not_by_rounds short c call enough h)
]

pub by_none : Short → KeepMore → (c : Command) (call : Call) → command call.words ≡ Some c → CauseOf (command call.words) call → AreEnoughConflicts c call → AreEnoughRounds c call → call.status ≡ status.Budget → ⊥
by_none short keep c call is cause conflicts rounds budget = elim (given_up_by keep c call is cause budget) [
  | inl h ↦ not_by_conflicts short c call conflicts h
  | inr h ↦ not_by_rounds short c call rounds h
]
