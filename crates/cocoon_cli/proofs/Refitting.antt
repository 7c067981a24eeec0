-- The steps on the files that an `update` writes, by what is said of all of them.
use Rattle.std.proofs.Common.{◌⊎◌, ◌≤◌, ℕ, List, [], ◌∷◌, ◌++◌, length, None, Err, refl, sym, ap, inl, inr}
use Rattle.net_bundle.specs.Bundle.{MadeFile, all_switch_files, bundle, net_text}
use Rattle.net_bundle.specs.Writing.{AllFit, FirstOver, most_of}
use Rattle.net_bundle.specs.declared.file.BundleFile.{BundleFile}
use Rattle.net_bundle.specs.declared.file.BundleFile.TheVariants as file
use Rattle.p4_ir.specs.NetTree.{NetData}
use Rattle.command_reports.specs.declared.files.CommandFile.TheVariants.{Bundle}
use Rattle.command_reports.specs.declared.refusal.Refusal.TheVariants as refusal
use Rattle.command_answers.specs.Compiling.{LowersTexts}
use Rattle.command_answers.specs.Outcomes.{AllGood, none, good, Ends}
use Rattle.command_answers.specs.Steps.{Inputs, IsGood, OfUpdatedFiles, Step, bundle_written, is_long, network_file_within, switch_files_within}
use Rattle.command_answers.proofs.Compiling.{on_net}
use Rattle.command_answers.proofs.Ending.{ends_after, next, refused, stopped}
use Rattle.command_answers.proofs.Fitting.{fit_parts, over_parts}
use Rattle.command_answers.proofs.TextSteps.{Texts}

abbrev pub rewrites : List Step
rewrites = switch_files_within ∷ network_file_within ∷ bundle_written ∷ []

-- the file of the network
abbrev last_file : (net : List ℕ) → List MadeFile
last_file net = record { file = file.Network; bytes = net } ∷ []

module _ (i : Inputs) (x y : List ℕ) (net : NetData) (g : Texts i x y) (made : LowersTexts x y net) where
  pub of_updated_files : (P : List MadeFile → Type 0) → P (bundle x net None) → OfUpdatedFiles i P
  of_updated_files P p = on_net i x y net g made p

  switches_good : AllFit (all_switch_files net.switches) → IsGood i switch_files_within
  switches_good fit = on_net i x y net g made fit

  network_good : length (net_text x net) ≤ most_of file.Network → IsGood i network_file_within
  network_good fit = on_net i x y net g made fit

  before_writes : AllFit (bundle x net None) → (rest : List Step) → AllGood i rest → AllGood i (switch_files_within ∷ network_file_within ∷ rest)
  before_writes h rest k =
      let parts = fit_parts (all_switch_files net.switches) (last_file (net_text x net)) h in
      good (switches_good parts.0) (good (network_good parts.1.0) k)

  pub rewrites_good : AllFit (bundle x net None) → AllGood i rewrites
  rewrites_good h = before_writes h (bundle_written ∷ []) (good tt none)

  -- a fault of the folder stops the writes
  pub rewrites_stopped : (at : BundleFile) → AllFit (bundle x net None) → Ends i (Err (refusal.WriteFault (Bundle at))) rewrites
  rewrites_stopped at h =
      ends_after i _ (switch_files_within ∷ network_file_within ∷ []) (bundle_written ∷ []) (before_writes h [] none) (stopped i _ bundle_written [] (at, refl))

  -- a file is too long
  refused_by : (at : BundleFile) → FirstOver (all_switch_files net.switches) at ⊎ (AllFit (all_switch_files net.switches) × FirstOver (last_file (net_text x net)) at) → Ends i (Err (is_long at)) rewrites
  refused_by at (inl over) = refused i _ switch_files_within _ (on_net i x y net g made (at, over, refl))
  refused_by at (inr (fit, inl (same, over))) =
      next i _ switch_files_within _ (switches_good fit) (refused i _ network_file_within _ (on_net i x y net g made (over, ap is_long (sym same))))
  refused_by at (inr (fit, inr h)) = absurd h.1

  pub rewrites_refused : (at : BundleFile) → FirstOver (bundle x net None) at → Ends i (Err (is_long at)) rewrites
  rewrites_refused at h = refused_by at (over_parts (all_switch_files net.switches) (last_file (net_text x net)) at h)
