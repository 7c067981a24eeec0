-- The rows of switches, loaded one more at a time.
use Rattle.std.proofs.Common.{◌≡◌, ◌≢◌, Bool, ℕ, ◌+◌, ◌<◌, ◌++◌, List, [], ◌∷◌, length, map, drop, slice_index_or, Option, Some, None, refl, sym, ap, ◌∙◌}
use Rattle.std.proofs.lemmas.List.{append_assoc, drop_more, map_push}
use Rattle.p4_ir.specs.NetOf.{switch_of}
use Rattle.p4_ir.specs.NetTree as tree
use Rattle.p4_ir.specs.WellKinded.{is_well_kinded}
use Rattle.p4_ir.specs.declared.network.SwitchFiles.{SwitchFiles}
use Rattle.p4_run.specs.FaultOf.{fault_of, IsFault}
use Rattle.p4_run.specs.Faults.{Fault, load_fault, or_else}
use Rattle.p4_run.specs.declared.faults.LoadFault.{LoadFault}
use Rattle.p4_run.specs.declared.faults.LoadFault.TheVariants.{MissingTable, UnknownTable, RowShape, GroupShape, NoMemory}
use Rattle.net_run.specs.LoadFaults.{first_load_fault, TellsFirst, told_at}
use Rattle.net_run.specs.Switches.{switch_in}
use Rattle.net_run.specs.declared.loading.NetFault.{NetFault}
use Rattle.net_run.specs.declared.loading.NetFault.TheVariants as faults
use Rattle.net_run.specs.declared.switch.LoadedSwitch.{LoadedSwitch}

-- a fault that is not out of memory is a fault of rows
pub fault_is : (told : LoadFault) (number : ℕ) → (told ≢ NoMemory) → (first : Option Fault) → IsFault told first
    → (fault : Fault) × (fault_of told ≡ Some fault) × (told_at number first ≡ Some (number, fault))
fault_is NoMemory number other first h = absurd (other refl)
fault_is (MissingTable n) number other first h = (_, refl, ap (told_at number) h)
fault_is (UnknownTable n) number other first h = (_, refl, ap (told_at number) h)
fault_is (RowShape t r) number other first h = (_, refl, ap (told_at number) h)
fault_is (GroupShape i) number other first h = (_, refl, ap (told_at number) h)

pub split : (fs : List SwitchFiles) (i : ℕ) (f : SwitchFiles) → i < length fs → f ≡ slice_index_or fs i f → map switch_of (drop i fs) ≡ switch_of f ∷ map switch_of (drop (i + 1) fs)
split fs i f h e = ap (map switch_of) (drop_more fs i f h ∙ ap (λ (r : SwitchFiles). r ∷ drop (i + 1) fs) (sym e))

abbrev pub kinded : tree.SwitchFiles → Bool
kinded f = is_well_kinded f.program

-- the first fault is not before the rest
pub passed : (f : tree.SwitchFiles) (rest all first : List tree.SwitchFiles) → first ≡ f ∷ rest → load_fault f.program f.rows ≡ None → first_load_fault first ≡ first_load_fault all
    → first_load_fault rest ≡ first_load_fault all
passed f rest all first e h is = sym (ap first_load_fault e ∙ ap (λ o. or_else (told_at f.number o) (first_load_fault rest)) h) ∙ is

pub run_pushed : (all now : List LoadedSwitch) (l : LoadedSwitch) (f : tree.SwitchFiles) (rest here whole : List tree.SwitchFiles) → now ≡ all ++ l ∷ [] → switch_in l ≡ f → here ≡ f ∷ rest
    → map switch_in all ++ here ≡ whole → map switch_in now ++ rest ≡ whole
run_pushed all now l f rest here whole e r h is =
    ap (λ ls. map switch_in ls ++ rest) e ∙ ap (λ xs. xs ++ rest) (map_push switch_in all l)
    ∙ append_assoc (map switch_in all) (switch_in l ∷ []) rest ∙ ap (λ x. map switch_in all ++ x ∷ rest) r
    ∙ ap (λ fs. map switch_in all ++ fs) (sym h) ∙ is

-- the fault of a switch before the rest is the first
pub tells : (told : NetFault) (number : ℕ) (fault : Option Fault) (more first : Option (ℕ × Fault)) → or_else (told_at number fault) more ≡ first → TellsFirst told (told_at number fault) → TellsFirst told first
tells faults.NoMemory number fault more first e t = tt
tells (faults.Load n told) number fault more first e t = (t.0, t.1, sym e ∙ ap (λ o. or_else o more) t.2)
