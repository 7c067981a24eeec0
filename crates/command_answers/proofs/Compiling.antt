-- What `compile` answers over its two texts, put together from its parts.
use Rattle.std.proofs.Common.{◌≡◌, ℕ, List, [], ◌∷◌, length, map, Err, refl, sym, ap, ap₂, subst, ◌∙◌}
use Rattle.cert_text.specs.CertsJson.{certs_data}
use Rattle.cert_text.specs.Certifying.{Certifies}
use Rattle.cnf_core.specs.CertsOf.{cert_of}
use Rattle.cnf_core.specs.declared.certificates.Cert.{Cert}
use Rattle.cocoon_num.specs.Tree.{Design}
use Rattle.json_forms.specs.Values.{IsJson}
use Rattle.obligation_laws.specs.Obligations.{all_obligations}
use Rattle.obligation_gen.specs.Counted.{AreFew, all_counts}
use Rattle.runtime_defs.specs.Places.{Places}
use Rattle.command_reports.specs.DesignTexts.{BindsTables}
use Rattle.p4_ir.specs.NetTree.{NetData}
use Rattle.command_reports.specs.declared.files.CommandFile.{CommandFile}
use Rattle.command_reports.specs.declared.refusal.Refusal.{Refusal}
use Rattle.command_reports.specs.declared.refusal.Refusal.TheVariants as refusal
use Rattle.command_reports.specs.declared.report.Report.{Report}
use Rattle.command_reports.specs.declared.report.Verdict.{Verdict}
use Rattle.command_reports.specs.declared.report.Verdict.TheVariants as verdict
use Rattle.command_reports.specs.Report.{success}
use Rattle.command_line.specs.Command.{compile}
use Rattle.command_answers.specs.Commands.{Reports, asks, owed_steps, text_steps}
use Rattle.command_answers.specs.Compiling.{CompilesTexts, LowersDesign, LowersTexts, NotLowered}
use Rattle.command_answers.specs.Outcomes.{AllGood, none, good, Ends, FirstWith, later, no_memory}
use Rattle.command_answers.specs.Refining.{IsEnded, KeepsAll, NotRefined}
use Rattle.command_answers.specs.ReportLines.{compiled_line, totals_of}
use Rattle.command_answers.specs.Steps.{Inputs, OfNetwork, Step, IsGood, assumptions_met, bundle_written, certificates_within, lowering_within, network_file_within, switch_files_within}
use Rattle.command_answers.specs.Answering.{IsFound, PlansBy}
use Rattle.command_answers.specs.declared.answer.Answer.{Answer}
use Rattle.command_answers.specs.declared.answer.Writing.{Writing as Written}
use Rattle.command_answers.proofs.Assuming.{met_good}
use Rattle.command_answers.proofs.Ending.{ends_after, next, refused}
use Rattle.command_answers.proofs.Owing.{is_ended, not_refined, refined_good}
use Rattle.command_answers.proofs.TextSteps.{Texts, after_texts, on_both, texts_first, texts_good}

-- the steps after the texts
abbrev pub lowering : List Step
lowering = lowering_within ∷ switch_files_within ∷ certificates_within ∷ network_file_within ∷ bundle_written ∷ []

-- those that are good where the definitions meet the assumptions and the blocks keep what they owe
abbrev pub deciding : (conflicts rounds : ℕ) → List Step
deciding n m = assumptions_met n ∷ owed_steps n m []

abbrev pub assuming : (conflicts rounds : ℕ) → List Step
assuming n m = assumptions_met n ∷ owed_steps n m lowering

-- why it is not decided whether the blocks of a design keep what they owe
pub unrefined : (i : Inputs) (x y : List ℕ) (k m : ℕ) (t : Design) (p : Places) (r : Refusal) → Texts i x y → BindsTables x y t p → IsGood i (assumptions_met k) → NotRefined t m r → Ends i (Err r) (text_steps (assuming k m))
unrefined i x y k m t p r g b met h =
    after_texts i x y (assuming k m) t p _ g b (next i (Err r) (assumptions_met k) (owed_steps k m lowering) met (not_refined i x k m lowering t r g.design b.binds.checked h))

-- and an obligation ends the command
pub ended_found : (i : Inputs) (x y : List ℕ) (k m : ℕ) (rest : List Step) (t : Design) (p : Places) (answer : Answer) → Texts i x y → BindsTables x y t p → IsGood i (assumptions_met k) → AreFew (all_counts t) → IsEnded t k m answer
    → FirstWith i (IsFound i answer.report answer.writing) (text_steps (assumptions_met k ∷ owed_steps k m rest))
ended_found i x y k m rest t p answer g b met few h =
    texts_first i x y (assumptions_met k ∷ owed_steps k m rest) t p (IsFound i answer.report answer.writing) g b
    (later met (is_ended i x k m rest t answer g.design b.binds.checked few h))

-- why no network is made of both
pub not_lowered : (i : Inputs) (x y : List ℕ) (k m : ℕ) (t : Design) (p : Places) (r : Refusal) → Texts i x y → AllGood i (deciding k m) → NotLowered x y t p r → Ends i (Err r) (text_steps (assuming k m))
not_lowered i x y k m t p (refusal.OverLimit l n) g a (h, over) =
    after_texts i x y (assuming k m) t p _ g h (ends_after i _ (deciding k m) lowering a (refused i _ lowering_within _ (on_both i x y t h.entries g h.binds (l, n, over, refl))))
not_lowered i x y k m t p (refusal.TooLong file most) g a h =
    let es = h.binds.entries in
    after_texts i x y (assuming k m) t p _ g h.binds
    (ends_after i _ (deciding k m) lowering a
    (next i _ lowering_within _ (on_both i x y t es g h.binds.binds (h.net, h.lowers, h.within))
    (refused i _ switch_files_within _ (on_both i x y t es g h.binds.binds
    (h.net, h.lowers, (h.first, h.long, ap₂ (λ (f : CommandFile) (n : ℕ). refusal.TooLong f n) h.names h.limit))))))
not_lowered i x y k m t p refusal.NoMemory g a h = no_memory refl
not_lowered i x y k m t p r g a h = absurd h

-- ---- a network that is made

-- what holds of it
pub on_net : {P : List ℕ → Design → NetData → Type 0} (i : Inputs) (x y : List ℕ) (net : NetData) → Texts i x y → (h : LowersTexts x y net) → P x h.tree net → OfNetwork i P
on_net i x y net g h p = on_both i x y h.tree h.binds.entries g h.binds.binds (net, h.lowers, p)

pub asks_good : (d e o : List ℕ) (n rounds : ℕ) (i : Inputs) (x y : List ℕ) (net : NetData) → Texts i x y → LowersTexts x y net → AllGood i (asks (compile d e o n rounds))
asks_good d e o n rounds i x y net g h =
    texts_good i x y (assumptions_met n ∷ owed_steps n rounds (lowering_within ∷ [])) h.tree h.tables g h.binds
    (good (met_good i x y n h.tree h.tables g h.binds h.met)
    (refined_good i x n rounds (lowering_within ∷ []) h.tree g.design h.binds.binds.checked h.few h.refines (good (on_both i x y h.tree h.binds.entries g h.binds.binds (net, h.lowers, h.within)) none)))

-- with the certificates of its design
pub compiles_texts : (x y : List ℕ) (t : Design) (net : NetData) (certs : List Cert) (bytes : List ℕ) → LowersDesign x y t net → KeepsAll t certs → IsJson bytes (certs_data (map cert_of certs)) → CompilesTexts x y net bytes
compiles_texts x y t net certs bytes (h, same) kept is =
    record { lowers = h; certify = subst (λ (d : Design). Certifies d bytes) (sym same) (record { certs = certs; is = is; shows = kept.shown }) }

-- what is written with a success
pub plans_done : (P : Written → Type 0) (v : Verdict) (w : Written) → v ≡ verdict.Done → P w → PlansBy P v w
plans_done P v w done p = subst (λ (u : Verdict). PlansBy P u w) (sym done) p

pub reports : (d e o : List ℕ) (n rounds : ℕ) (i : Inputs) (x y : List ℕ) (t : Design) (count : ℕ) (net : NetData) (report : Report) → Texts i x y → LowersDesign x y t net → count ≡ length (all_obligations t)
    → report ≡ success (compiled_line (totals_of count net)) → Reports (compile d e o n rounds) i report
reports d e o n rounds i x y t count net report g (h, same) counted said =
    let owed : count ≡ length (all_obligations h.tree) = counted ∙ ap (λ (u : Design). length (all_obligations u)) (sym same) in
    on_both i x y h.tree h.binds.entries g h.binds.binds (net, h.lowers, said ∙ ap (λ (m : ℕ). success (compiled_line (totals_of m net))) owed)
