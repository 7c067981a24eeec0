-- What is said of calls on the files of a bundle, and of answers that come without a call.
use Rattle.std.proofs.Common.{◌≡◌, ℕ, List, Option, Some, Result, Ok, Err, IfErr, ap, sym, subst}
use Rattle.std.specs.Prelude.{option_map}
use Rattle.bundle_reader.specs.FolderCounts as counts
use Rattle.bundle_reader.specs.declared.fault.ReadFault.{ReadFault}
use Rattle.bundle_reader.specs.declared.fault.ReadFault.TheVariants as read
use Rattle.cocoon_io.specs.declared.folder.FolderFault.TheVariants.{Failed, TooLong, NoMemory as Wanting}
use Rattle.net_bundle.specs.Bundle.{whole_name}
use Rattle.command_reports.specs.FileNames.{FileNames}
use Rattle.command_reports.specs.Refusals.{unread_as}
use Rattle.command_reports.specs.Report.{Fault, by_write, fault_of}
use Rattle.command_reports.specs.declared.refusal.Refusal.{Refusal}
use Rattle.command_answers.specs.FolderCalls.{Count, Uncounted, count, Called, IsNoFault, IsQuiet, IsReading}
use Rattle.command_answers.proofs.Counted.{called_ok, uncounted, unnamed}

-- ---- no call failed

pub quiet_called : {A : Type 0} (last : List ℕ → Type 0) (names : FileNames) (reads writes : Count) (x : Result A Refusal) → Uncounted reads → Uncounted writes → IfErr x IsQuiet → Called last names reads writes x
quiet_called last names reads writes (Ok a) r w q = called_ok last names reads writes a r w
quiet_called last names reads writes (Err e) r w q = record { counts = uncounted reads writes (fault_of e) q r w; named = unnamed last names (fault_of e) q }

no_fault_reading : (f : Fault) → IsNoFault f → IsReading f
no_fault_reading (by_write file) q = q
no_fault_reading f q = tt

pub quiet_reading : (r : Refusal) → IsQuiet r → IsReading (fault_of r)
quiet_reading r q = no_fault_reading (fault_of r) q

-- ---- a file of a bundle that is not read

unread_called : {A : Type 0} (last : List ℕ → Type 0) (names : FileNames) (out : List ℕ) (last_read last_write : Option ℕ) (r0 r1 w0 w1 : ℕ) (f : ReadFault) → names.bundle ≡ Some out → w1 ≡ w0
    → counts.ReadFaultRose last_read r0 r1 f → counts.NamesFailure last out f → Called {A = A} last names (count last_read r0 r1) (count last_write w0 w1) (Err (unread_as f))
unread_called last names out last_read last_write r0 r1 w0 w1 (read.Folder file Failed) is w rose named =
    record { counts = (rose, w); named = (whole_name out file, ap (option_map (λ o. whole_name o file)) is, named) }
unread_called last names out last_read last_write r0 r1 w0 w1 (read.Folder file (TooLong n)) is w same named = record { counts = (same, w); named = tt }
unread_called last names out last_read last_write r0 r1 w0 w1 (read.Folder file Wanting) is w same named = record { counts = (same, w); named = tt }
unread_called last names out last_read last_write r0 r1 w0 w1 f is w same named = record { counts = (same, w); named = tt }

-- the same of what is told of it
pub told_unread : {A : Type 0} (last : List ℕ → Type 0) (names : FileNames) (out : List ℕ) (last_read last_write : Option ℕ) (r0 r1 w0 w1 : ℕ) (f : ReadFault) (r : Refusal) → r ≡ unread_as f → names.bundle ≡ Some out → w1 ≡ w0
    → counts.ReadFaultRose last_read r0 r1 f → counts.NamesFailure last out f → Called {A = A} last names (count last_read r0 r1) (count last_write w0 w1) (Err r)
told_unread {A = A} last names out last_read last_write r0 r1 w0 w1 f r e is w rose named =
    subst (λ (x : Refusal). Called {A = A} last names (count last_read r0 r1) (count last_write w0 w1) (Err x)) (sym e) (unread_called {A = A} last names out last_read last_write r0 r1 w0 w1 f is w rose named)

unread_is_reading : (f : ReadFault) → IsReading (fault_of (unread_as f))
unread_is_reading (read.Folder file Failed) = tt
unread_is_reading (read.Folder file (TooLong n)) = tt
unread_is_reading (read.Folder file Wanting) = tt
unread_is_reading f = tt

pub unread_reading : (f : ReadFault) (r : Refusal) → r ≡ unread_as f → IsReading (fault_of r)
unread_reading f r e = subst (λ (x : Refusal). IsReading (fault_of x)) (sym e) (unread_is_reading f)
