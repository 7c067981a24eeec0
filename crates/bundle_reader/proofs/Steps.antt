-- One file, read: why it is not well, and what its turn was.
use Rattle.std.proofs.Common.{◌≡◌, ℕ, ◌<◌, Bool, true, false, not, List, length, Option, Some, None, Result, Ok, Err, IfErr, IsErrAnd, refl, sym, ◌∙◌, ap, subst}
use Rattle.std.specs.FinMap.{get}
use Rattle.std.specs.Str.{bytes_eq}
use Rattle.std.proofs.lemmas.Slice.Eq.{bytes_eq-Decides}
use Rattle.cocoon_io.specs.Calls.{AnswersFile, ReadAnswers}
use Rattle.cocoon_io.specs.Files.{Files}
use Rattle.cocoon_io.specs.declared.folder.FolderFault.{FolderFault}
use Rattle.cocoon_io.specs.declared.folder.FolderFault.TheVariants.{TooLong}
use Rattle.p4_ir.specs.P4Tree as tree
use Rattle.p4_read.specs.FirstFault as p4
use Rattle.p4_read.specs.declared.fault.P4Fault.{P4Fault}
use Rattle.p4_read.specs.declared.fault.P4Fault.TheVariants as p4-fault
use Rattle.p4_run.specs.FaultOf.{fault_of}
use Rattle.p4_run.specs.Faults.{Fault, load_fault}
use Rattle.p4_run.specs.declared.faults.LoadFault.{LoadFault}
use Rattle.p4_run.specs.declared.faults.LoadFault.TheVariants as rows-fault
use Rattle.net_run.specs.LoadFaults.{TellsFirst, told_at}
use Rattle.net_run.specs.declared.loading.NetFault.{NetFault}
use Rattle.net_run.specs.declared.loading.NetFault.TheVariants as net
use Rattle.net_bundle.specs.Bundle.{whole_name}
use Rattle.net_bundle.specs.BundleNames.{digest_of}
use Rattle.net_bundle.specs.Writing.{most_of}
use Rattle.net_bundle.specs.declared.file.BundleFile.{BundleFile}
use Rattle.net_bundle.specs.declared.file.BundleFile.TheVariants.{Program, Rows, Network}
use Rattle.net_bundle.specs.NetForm.{net_form}
use Rattle.json_forms.specs.Reading.{Refused}
use Rattle.net_bundle.specs.RowsForm.{rows_form}
use Rattle.json_forms.specs.declared.fault.FormFault.{FormFault}
use Rattle.json_forms.specs.declared.fault.FormFault.TheVariants as form
use Rattle.bundle_reader.specs.FolderCounts.{NamesFailure, ReadFaultRose}
use Rattle.bundle_reader.specs.Parts.{BytesFault, FaultAt, formed_at, IsOfBytes, loaded_at, program_at}
use Rattle.bundle_reader.specs.Readings.{Held, IsFirstFault, ProgramReads, RowsRead, Turn, UpTo}
use Rattle.bundle_reader.specs.Told.{IsTold}
use Rattle.bundle_reader.specs.declared.fault.ReadFault.{ReadFault}
use Rattle.bundle_reader.specs.declared.fault.ReadFault.TheVariants as read

-- ---- what `?` passes on

pub passed : {T E : Type 0} (r : Result T E) (e : E) (P : E → Type 0) → IsErrAnd r (λ y. y ≡ e) → P e → IfErr r P
passed (Ok x) e P is h = tt
passed (Err y) e P is h = subst P (sym is) h

-- ---- equal bytes

not_not : (b : Bool) → false ≡ not b → b ≡ true
not_not true e = refl
not_not false e = absurd cc

pub same_bytes : (x y : List ℕ) → false ≡ not (bytes_eq x y) → x ≡ y
same_bytes x y e = (bytes_eq-Decides x y).0 (not_not (bytes_eq x y) e)

-- ---- faults of bytes

pub bytes_told : (r : ReadFault) → IsOfBytes r → IsTold r
bytes_told (read.Folder file fault) h = absurd h
bytes_told (read.P4 file fault) h = absurd h
bytes_told (read.Load file fault) h = absurd h
bytes_told r h = tt

pub bytes_rose : (last : Option ℕ) (old new : ℕ) (r : ReadFault) → new ≡ old → IsOfBytes r → ReadFaultRose last old new r
bytes_rose last old new (read.Folder file fault) e h = absurd h
bytes_rose last old new r e h = e

pub bytes_named : (last_failure : List ℕ → Type 0) (out : List ℕ) (r : ReadFault) → IsOfBytes r → NamesFailure last_failure out r
bytes_named last_failure out (read.Folder file fault) h = absurd h
bytes_named last_failure out r h = tt

pub bytes_refused : (files : Files) (out : List ℕ) (file : BundleFile) (kept bytes text : List ℕ) (r : ReadFault) → text ≡ bytes → Held files out file bytes → BytesFault file text kept r
    → FaultAt out file (Some kept) r files
bytes_refused files out file kept bytes text r e held fault = fault files out (subst (Held files out file) (sym e) held)

-- ---- files that are too long

pub record Long (files : Files) (out : List ℕ) (file : BundleFile) (n : ℕ) : Type 0 where
  pub bytes : List ℕ
  pub there : get files (whole_name out file) ≡ Some bytes
  pub limit : n ≡ most_of file
  pub over : n < length bytes

pub too_long : (content : Option Files) (files : Files) (name out : List ℕ) (file : BundleFile) (most n : ℕ) (fault : FolderFault) → content ≡ Some files → name ≡ whole_name out file
    → most ≡ most_of file → fault ≡ TooLong n → ReadAnswers content name most (Err fault) → Long files out file n
too_long content files name out file most n fault e p m is h =
    let answers : ReadAnswers (Some files) name most (Err fault) = subst (λ c. ReadAnswers c name most (Err fault)) e h in
    let under : AnswersFile (get files (whole_name out file)) most (Err fault) = subst (λ x. AnswersFile (get files x) most (Err fault)) p answers in
    let at : AnswersFile (get files (whole_name out file)) most (Err (TooLong n)) = subst (λ x. AnswersFile (get files (whole_name out file)) most (Err x)) is under in
    record { bytes = at.1; there = at.2; limit = at.0 ∙ m; over = subst (λ (k : ℕ). k < length at.1) (sym at.0) at.3 }

-- ---- texts that are not of their form

pub net_refused : (files : Files) (out bytes text : List ℕ) (fault : FormFault) (r : ReadFault) → Held files out Network bytes → text ≡ bytes → Refused net_form text fault → r ≡ formed_at Network fault
    → IsFirstFault files out r
net_refused files out bytes text form.NotJson r held e h is = subst (IsFirstFault files out) (sym is) (bytes, (None, refl, held, tt), subst (λ x. Refused net_form x form.NotJson) e h)
net_refused files out bytes text (form.Shape pointer) r held e h is =
    subst (IsFirstFault files out) (sym is) (bytes, (None, refl, held, tt), subst (λ x. Refused net_form x (form.Shape pointer)) e h)
net_refused files out bytes text form.NoMemory r held e h is = subst (IsFirstFault files out) (sym is) tt

pub rows_refused : (files : Files) (out : List ℕ) (s : ℕ) (kept bytes text : List ℕ) (fault : FormFault) (r : ReadFault) → Turn files out (Rows s) (Some kept) → Held files out (Rows s) bytes
    → digest_of bytes ≡ kept → text ≡ bytes → Refused rows_form text fault → r ≡ formed_at (Rows s) fault → IsFirstFault files out r
rows_refused files out s kept bytes text form.NotJson r turn held digest e h is =
    subst (IsFirstFault files out) (sym is) (bytes, (Some kept, turn, held, digest), subst (λ x. Refused rows_form x form.NotJson) e h)
rows_refused files out s kept bytes text (form.Shape pointer) r turn held digest e h is =
    subst (IsFirstFault files out) (sym is) (bytes, (Some kept, turn, held, digest), subst (λ x. Refused rows_form x (form.Shape pointer)) e h)
rows_refused files out s kept bytes text form.NoMemory r turn held digest e h is = subst (IsFirstFault files out) (sym is) tt

pub program_refused : (files : Files) (out : List ℕ) (s : ℕ) (kept bytes text : List ℕ) (fault : P4Fault) (r : ReadFault) → Turn files out (Program s) (Some kept) → Held files out (Program s) bytes
    → digest_of bytes ≡ kept → text ≡ bytes → p4.IsFirstFault text fault → r ≡ program_at (Program s) fault → IsFirstFault files out r
program_refused files out s kept bytes text (p4-fault.Lex i) r turn held digest e h is =
    subst (IsFirstFault files out) (sym is) (bytes, (Some kept, turn, held, digest), subst (λ x. p4.IsFirstFault x (p4-fault.Lex i)) e h)
program_refused files out s kept bytes text (p4-fault.Unexpected i) r turn held digest e h is =
    subst (IsFirstFault files out) (sym is) (bytes, (Some kept, turn, held, digest), subst (λ x. p4.IsFirstFault x (p4-fault.Unexpected i)) e h)
program_refused files out s kept bytes text (p4-fault.TooDeep i) r turn held digest e h is =
    subst (IsFirstFault files out) (sym is) (bytes, (Some kept, turn, held, digest), subst (λ x. p4.IsFirstFault x (p4-fault.TooDeep i)) e h)
program_refused files out s kept bytes text (p4-fault.Kind i) r turn held digest e h is =
    subst (IsFirstFault files out) (sym is) (bytes, (Some kept, turn, held, digest), subst (λ x. p4.IsFirstFault x (p4-fault.Kind i)) e h)
program_refused files out s kept bytes text p4-fault.NoMemory r turn held digest e h is = subst (IsFirstFault files out) (sym is) tt

-- ---- rows that do not load

told_rows : (n : ℕ) (fault : LoadFault) (first : Fault) → fault_of fault ≡ Some first → IsTold (loaded_at (net.Load n fault))
told_rows n (rows-fault.MissingTable t) first e = tt
told_rows n (rows-fault.UnknownTable t) first e = tt
told_rows n (rows-fault.RowShape t i) first e = tt
told_rows n (rows-fault.GroupShape i) first e = tt
told_rows n rows-fault.NoMemory first e = absurd cc

pub load_told : (fault : NetFault) (r : ReadFault) (first : Option (ℕ × Fault)) → TellsFirst fault first → r ≡ loaded_at fault → IsTold r
load_told (net.Load n fault) r first h is = subst IsTold (sym is) (told_rows n fault h.0 h.1)
load_told net.NoMemory r first h is = subst IsTold (sym is) tt

pub load_rose : (last : Option ℕ) (old new : ℕ) (fault : NetFault) (r : ReadFault) → new ≡ old → r ≡ loaded_at fault → ReadFaultRose last old new r
load_rose last old new (net.Load n fault) r e is = subst (ReadFaultRose last old new) (sym is) e
load_rose last old new net.NoMemory r e is = subst (ReadFaultRose last old new) (sym is) e

pub load_named : (last : List ℕ → Type 0) (out : List ℕ) (fault : NetFault) (r : ReadFault) → r ≡ loaded_at fault → NamesFailure last out r
load_named last out (net.Load n fault) r is = subst (NamesFailure last out) (sym is) tt
load_named last out net.NoMemory r is = subst (NamesFailure last out) (sym is) tt

pair_same : (x y : ℕ × Fault) → ◌≡◌ {A = Option (ℕ × Fault)} (Some x) (Some y) → x ≡ y
pair_same x y e = cc

told_parts : (s n : ℕ) (found : Option Fault) (first : Fault) → told_at s found ≡ Some (n, first) → (n ≡ s) × (found ≡ Some first)
told_parts s n None first e = absurd cc
told_parts s n (Some f) first e =
    let same = pair_same (s, f) (n, first) e in
    (sym (ap (λ (x : ℕ × Fault). x.0) same), ap (λ (x : ℕ × Fault). Some x.1) same)

pub load_refused : (files : Files) (out : List ℕ) (s : ℕ) (program rows : List ℕ) (p : tree.Program) (q : tree.RowsFile) (fault : NetFault) (r : ReadFault) → UpTo files out s program rows
    → ProgramReads files out s program p → RowsRead files out s rows q → TellsFirst fault (told_at s (load_fault p q)) → r ≡ loaded_at fault → IsFirstFault files out r
load_refused files out s program rows p q (net.Load n fault) r up reads well h is =
    let parts = told_parts s n (load_fault p q) h.0 h.2 in
    let here : IsFirstFault files out (loaded_at (net.Load s fault)) = (program, rows, p, q, up, reads, well, (h.0, h.1, parts.1)) in
    subst (IsFirstFault files out) (sym (is ∙ ap (λ (m : ℕ). loaded_at (net.Load m fault)) parts.0)) here
load_refused files out s program rows p q net.NoMemory r up reads well h is = subst (IsFirstFault files out) (sym is) tt
