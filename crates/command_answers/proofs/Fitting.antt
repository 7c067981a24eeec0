-- The steps on the files of a bundle, by what is said of all of them.
use Rattle.std.proofs.Common.{◌⊎◌, ◌≤◌, ℕ, List, [], ◌∷◌, ◌++◌, length, Some, Err, refl, sym, ap, inl, inr}
use Rattle.net_bundle.specs.Bundle.{MadeFile, all_switch_files, bundle, net_text}
use Rattle.net_bundle.specs.Writing.{AllFit, FirstOver, most_of}
use Rattle.net_bundle.specs.declared.file.BundleFile.{BundleFile}
use Rattle.net_bundle.specs.declared.file.BundleFile.TheVariants as file
use Rattle.p4_ir.specs.NetTree.{NetData}
use Rattle.command_reports.specs.declared.files.CommandFile.TheVariants.{Bundle}
use Rattle.command_reports.specs.declared.refusal.Refusal.TheVariants as refusal
use Rattle.command_answers.specs.Compiling.{CompilesTexts}
use Rattle.command_answers.specs.Outcomes.{AllGood, none, good, Ends}
use Rattle.command_answers.specs.Steps.{Inputs, IsGood, OfCertificates, OfFiles, Step, bundle_written, certificates_within, is_long, network_file_within, switch_files_within}
use Rattle.command_answers.proofs.Compiling.{on_net}
use Rattle.command_answers.proofs.Ending.{ends_after, given_up, next, refused, stopped}
use Rattle.command_answers.proofs.TextSteps.{Texts, on_design}

-- ---- files

pub fit_parts : (fs gs : List MadeFile) → AllFit (fs ++ gs) → AllFit fs × AllFit gs
fit_parts [] gs h = (tt, h)
fit_parts (f ∷ fs) gs h = let rest = fit_parts fs gs h.1 in ((h.0, rest.0), rest.1)

pub over_parts : (fs gs : List MadeFile) (f : BundleFile) → FirstOver (fs ++ gs) f → FirstOver fs f ⊎ (AllFit fs × FirstOver gs f)
over_parts [] gs f h = inr (tt, h)
over_parts (g ∷ fs) gs f (inl h) = inl (inl h)
over_parts (g ∷ fs) gs f (inr (fits, h)) = elim (over_parts fs gs f h) [
  | inl k ↦ inl (inr (fits, k))
  | inr (all, k) ↦ inr ((fits, all), k)
]

-- ---- the steps

abbrev pub writing : List Step
writing = switch_files_within ∷ certificates_within ∷ network_file_within ∷ bundle_written ∷ []

-- the certificates, and the file of the network
abbrev last_files : (certs net : List ℕ) → List MadeFile
last_files certs net = record { file = file.Certificates; bytes = certs } ∷ record { file = file.Network; bytes = net } ∷ []

module _ (i : Inputs) (x y : List ℕ) (net : NetData) (certs : List ℕ) (g : Texts i x y) (made : CompilesTexts x y net certs) where
  pub of_files : (P : List MadeFile → Type 0) → P (bundle x net (Some certs)) → OfFiles i P
  of_files P p = on_net i x y net g made.lowers (certs, made.certify, p)

  on_certificates : {P : List ℕ → Type 0} → P certs → OfCertificates i P
  on_certificates p = on_design i x made.lowers.tree g.design made.lowers.binds.binds.checked.reads (certs, made.certify, p)

  switches_good : AllFit (all_switch_files net.switches) → IsGood i switch_files_within
  switches_good fit = on_net i x y net g made.lowers fit

  certificates_good : length certs ≤ most_of file.Certificates → IsGood i certificates_within
  certificates_good fit = on_certificates fit

  network_good : length (net_text x net) ≤ most_of file.Network → IsGood i network_file_within
  network_good fit = on_net i x y net g made.lowers fit

  before_writes : AllFit (bundle x net (Some certs)) → (rest : List Step) → AllGood i rest → AllGood i (switch_files_within ∷ certificates_within ∷ network_file_within ∷ rest)
  before_writes h rest k =
      let parts = fit_parts (all_switch_files net.switches) (last_files certs (net_text x net)) h in
      good (switches_good parts.0) (good (certificates_good parts.1.0) (good (network_good parts.1.1.0) k))

  pub files_good : AllFit (bundle x net (Some certs)) → AllGood i writing
  files_good h = before_writes h (bundle_written ∷ []) (good tt none)

  -- a fault of the folder stops the writes
  pub files_stopped : (at : BundleFile) → AllFit (bundle x net (Some certs)) → Ends i (Err (refusal.WriteFault (Bundle at))) writing
  files_stopped at h =
      ends_after i _ (switch_files_within ∷ certificates_within ∷ network_file_within ∷ []) (bundle_written ∷ []) (before_writes h [] none) (stopped i _ bundle_written [] (at, refl))

  -- a file is too long
  refused_by : (at : BundleFile) → FirstOver (all_switch_files net.switches) at ⊎ (AllFit (all_switch_files net.switches) × FirstOver (last_files certs (net_text x net)) at) → Ends i (Err (is_long at)) writing
  refused_by at (inl over) = refused i _ switch_files_within _ (on_net i x y net g made.lowers (at, over, refl))
  refused_by at (inr (fit, inl (same, over))) =
      next i _ switch_files_within _ (switches_good fit) (given_up i (Err (is_long at)) certificates_within _ (on_certificates (over, ap is_long (sym same))))
  refused_by at (inr (fit, inr (short, inl (same, over)))) =
      next i _ switch_files_within _ (switches_good fit)
      (next i _ certificates_within _ (certificates_good short) (refused i _ network_file_within _ (on_net i x y net g made.lowers (over, ap is_long (sym same)))))
  refused_by at (inr (fit, inr (short, inr h))) = absurd h.1

  pub files_refused : (at : BundleFile) → FirstOver (bundle x net (Some certs)) at → Ends i (Err (is_long at)) writing
  files_refused at h = refused_by at (over_parts (all_switch_files net.switches) (last_files certs (net_text x net)) at h)
