-- The files of one switch are read in one way: they are well, or have one first fault.
use Rattle.std.proofs.Common.{◌≡◌, ℕ, List, Option, Some, None, Ok, sym, ap, ◌∙◌, subst}
use Rattle.cocoon_io.specs.Files.{Files}
use Rattle.p4_ir.specs.P4Reads.{P4Reads}
use Rattle.p4_ir.specs.P4Tree as tree
use Rattle.p4_run.specs.FaultOf.{fault_of}
use Rattle.p4_run.specs.Faults.{Fault, load_fault, unknown_table, missing_table, row_shape, group_shape}
use Rattle.p4_run.specs.declared.faults.LoadFault.{LoadFault}
use Rattle.p4_run.specs.declared.faults.LoadFault.TheVariants.{MissingTable, UnknownTable, RowShape, GroupShape, NoMemory}
use Rattle.net_bundle.specs.declared.file.BundleFile.TheVariants.{Program, Rows}
use Rattle.json_forms.specs.Reading.{Answered}
use Rattle.net_bundle.specs.RowsForm.{rows_form}
use Rattle.bundle_reader.specs.Readings.{NotLoaded, ProgramReads, RowsRead}
use Rattle.bundle_reader.specs.declared.fault.ReadFault.{ReadFault}
use Rattle.bundle_reader.specs.declared.fault.ReadFault.TheVariants.{Load}
use Rattle.bundle_reader.proofs.OneFile.{Fails, Has, Malformed, OneAnswer, Unread, answered_same, fails_or_good, fails_same, found_same, has_same, json_ways, ok_same, program_same, program_ways}

-- ---- files that are well

-- the file of the program, or of the rows, has this digest and reads
has_program : (files : Files) (out : List ℕ) (s : ℕ) (digest : List ℕ) (p : tree.Program) → (r : ProgramReads files out s digest p) → Has files out (Program s) (Some digest) r.0
has_program files out s digest p (text, held, is, reads) = record { held = held; agrees = is }

has_rows : (files : Files) (out : List ℕ) (s : ℕ) (digest : List ℕ) (rows : tree.RowsFile) → (r : RowsRead files out s digest rows) → Has files out (Rows s) (Some digest) r.0
has_rows files out s digest rows (text, held, is, answered) = record { held = held; agrees = is }

one_program : OneAnswer → (files : Files) (out : List ℕ) (s : ℕ) (digest : List ℕ) (p q : tree.Program) → ProgramReads files out s digest p → ProgramReads files out s digest q → p ≡ q
one_program law files out s digest p q x y =
    let text = has_same files out (Program s) (Some digest) x.0 y.0 (has_program files out s digest p x) (has_program files out s digest q y) in
    program_same law y.0 p q (subst (λ t. P4Reads t p) text x.3) y.3

one_rows : (files : Files) (out : List ℕ) (s : ℕ) (digest : List ℕ) (p q : tree.RowsFile) → RowsRead files out s digest p → RowsRead files out s digest q → p ≡ q
one_rows files out s digest p q x y =
    let text = has_same files out (Rows s) (Some digest) x.0 y.0 (has_rows files out s digest p x) (has_rows files out s digest q y) in
    ok_same p q (answered_same rows_form y.0 _ _ (subst (λ t. Answered rows_form t (Ok p)) text x.3) y.3)

-- the files of a switch, of which these digests are kept
pub record Well (files : Files) (out : List ℕ) (s : ℕ) (program rows : List ℕ) (p : tree.Program) (r : tree.RowsFile) : Type 0 where
  pub reads : ProgramReads files out s program p
  pub rows_read : RowsRead files out s rows r
  pub loads : load_fault p r ≡ None

pub record SameFiles (p q : tree.Program) (r t : tree.RowsFile) : Type 0 where
  pub program : p ≡ q
  pub rows : r ≡ t

pub well_same : OneAnswer → (files : Files) (out : List ℕ) (s : ℕ) (program rows : List ℕ) (p q : tree.Program) (r t : tree.RowsFile) → Well files out s program rows p r → Well files out s program rows q t
    → SameFiles p q r t
well_same law files out s program rows p q r t x y =
    record { program = one_program law files out s program p q x.reads y.reads; rows = one_rows files out s rows r t x.rows_read y.rows_read }

-- ---- rows that do not load

abbrev told_as : Fault → LoadFault
told_as (unknown_table number) = UnknownTable number
told_as (missing_table number) = MissingTable number
told_as (row_shape table row) = RowShape table row
told_as (group_shape index) = GroupShape index

some_same : (x y : Fault) → ◌≡◌ {A = Option Fault} (Some x) (Some y) → x ≡ y
some_same x y e = cc

told_back : (fault : LoadFault) (first : Fault) → fault_of fault ≡ Some first → fault ≡ told_as first
told_back (MissingTable number) first e = ap told_as (some_same (missing_table number) first e)
told_back (UnknownTable number) first e = ap told_as (some_same (unknown_table number) first e)
told_back (RowShape table row) first e = ap told_as (some_same (row_shape table row) first e)
told_back (GroupShape index) first e = ap told_as (some_same (group_shape index) first e)
told_back NoMemory first e = absurd cc

load_same : (p : tree.Program) (r : tree.RowsFile) (f g : LoadFault) → NotLoaded p r f → NotLoaded p r g → f ≡ g
load_same p r f g (x, is, at) (y, is', at') = told_back f x is ∙ ap told_as (found_same (load_fault p r) x y at at') ∙ sym (told_back g y is')

not_both : (p : tree.Program) (r : tree.RowsFile) (f : LoadFault) → NotLoaded p r f → load_fault p r ≡ None → ⊥
not_both p r f (x, is, at) none = cc

-- ---- the first fault of a switch

pub data SwitchFails (files : Files) (out : List ℕ) (s : ℕ) (program rows : List ℕ) (f : ReadFault) : Type 0 where
  by_program : Fails files out (Program s) (Some program) (Unread s) f → SwitchFails files out s program rows f
  by_rows : (p : tree.Program) → ProgramReads files out s program p → Fails files out (Rows s) (Some rows) (Malformed (Rows s) rows_form) f → SwitchFails files out s program rows f
  by_load : (p : tree.Program) (r : tree.RowsFile) (fault : LoadFault) → ProgramReads files out s program p → RowsRead files out s rows r → NotLoaded p r fault → f ≡ Load (Rows s) fault
      → SwitchFails files out s program rows f

no_program : OneAnswer → (files : Files) (out : List ℕ) (s : ℕ) (program : List ℕ) (p : tree.Program) (f : ReadFault) → Fails files out (Program s) (Some program) (Unread s) f → ProgramReads files out s program p → ⊥
no_program law files out s program p f x reads =
    fails_or_good files out (Program s) (Some program) _ (Unread s) (program_ways law s) f reads.0 x (has_program files out s program p reads) (p, reads.3)

no_rows : (files : Files) (out : List ℕ) (s : ℕ) (rows : List ℕ) (r : tree.RowsFile) (f : ReadFault) → Fails files out (Rows s) (Some rows) (Malformed (Rows s) rows_form) f → RowsRead files out s rows r → ⊥
no_rows files out s rows r f x reads =
    fails_or_good files out (Rows s) (Some rows) _ (Malformed (Rows s) rows_form) (json_ways (Rows s) rows_form) f reads.0 x (has_rows files out s rows r reads) (r, reads.3)

one_load : OneAnswer → (files : Files) (out : List ℕ) (s : ℕ) (program rows : List ℕ) (p q : tree.Program) (r t : tree.RowsFile) (f g : LoadFault) → ProgramReads files out s program p
    → ProgramReads files out s program q → RowsRead files out s rows r → RowsRead files out s rows t → NotLoaded p r f → NotLoaded q t g → f ≡ g
one_load law files out s program rows p q r t f g x y x' y' refused refused' =
    let same = subst (λ a. NotLoaded a r f) (one_program law files out s program p q x y) refused in
    load_same q t f g (subst (λ a. NotLoaded q a f) (one_rows files out s rows r t x' y') same) refused'

pub switch_same : OneAnswer → (files : Files) (out : List ℕ) (s : ℕ) (program rows : List ℕ) (f g : ReadFault) → SwitchFails files out s program rows f → SwitchFails files out s program rows g → f ≡ g
switch_same law files out s program rows f g (by_program x) (by_program y) = fails_same files out (Program s) (Some program) _ (Unread s) (program_ways law s) f g x y
switch_same law files out s program rows f g (by_program x) (by_rows p reads y) = absurd (no_program law files out s program p f x reads)
switch_same law files out s program rows f g (by_program x) (by_load p r fault reads rows_read refused e) = absurd (no_program law files out s program p f x reads)
switch_same law files out s program rows f g (by_rows p reads x) (by_program y) = absurd (no_program law files out s program p g y reads)
switch_same law files out s program rows f g (by_rows p reads x) (by_rows q reads' y) = fails_same files out (Rows s) (Some rows) _ (Malformed (Rows s) rows_form) (json_ways (Rows s) rows_form) f g x y
switch_same law files out s program rows f g (by_rows p reads x) (by_load q r fault reads' rows_read refused e) = absurd (no_rows files out s rows r f x rows_read)
switch_same law files out s program rows f g (by_load p r fault reads rows_read refused e) (by_program y) = absurd (no_program law files out s program p g y reads)
switch_same law files out s program rows f g (by_load p r fault reads rows_read refused e) (by_rows q reads' y) = absurd (no_rows files out s rows r g y rows_read)
switch_same law files out s program rows f g (by_load p r fault reads rows_read refused d) (by_load q t other reads' rows_read' refused' e) =
    d ∙ ap (Load (Rows s)) (one_load law files out s program rows p q r t fault other reads reads' rows_read rows_read' refused refused') ∙ sym e

pub fails_or_well : OneAnswer → (files : Files) (out : List ℕ) (s : ℕ) (program rows : List ℕ) (f : ReadFault) (p : tree.Program) (r : tree.RowsFile) → SwitchFails files out s program rows f
    → Well files out s program rows p r → ⊥
fails_or_well law files out s program rows f p r (by_program x) well = no_program law files out s program p f x well.reads
fails_or_well law files out s program rows f p r (by_rows q reads x) well = no_rows files out s rows r f x well.rows_read
fails_or_well law files out s program rows f p r (by_load q t fault reads rows_read refused e) well =
    let same = subst (λ a. NotLoaded a t fault) (one_program law files out s program q p reads well.reads) refused in
    not_both p r fault (subst (λ a. NotLoaded p a fault) (one_rows files out s rows t r rows_read well.rows_read) same) well.loads
