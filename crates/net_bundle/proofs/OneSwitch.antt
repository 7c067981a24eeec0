-- The files of one switch, of which the number, the program and the text of the rows are known.
use Rattle.std.proofs.Common.{◌≡◌, ℕ, List, [], ◌∷◌, ◌++◌, Option, map, sym, ap, ap₂, ◌∙◌, subst}
use Rattle.std.proofs.lemmas.List.{append_assoc}
use Rattle.cocoon_io.specs.Files.{Files}
use Rattle.p4_emit.specs.Printed.{printed}
use Rattle.p4_ir.specs.NetTree.{SwitchFiles}
use Rattle.p4_ir.specs.P4Tree.{Program}
use Rattle.net_bundle.specs.declared.fault.BundleFault.{BundleFault}
use Rattle.net_bundle.specs.declared.file.BundleFile.TheVariants as bundle_file
use Rattle.net_bundle.specs.Bundle.{MadeFile, kept_digest, rows_text, switch_files}
use Rattle.net_bundle.specs.NetFileOf.{file_made, program_made, rows_made}
use Rattle.net_bundle.specs.NetJson.{KeptDigest}
use Rattle.net_bundle.specs.Writing.{AllFit, NotMade, NotWritten, with_files}
use Rattle.net_bundle.proofs.InParts.{fit_before, fit_after, stops_first, stops_second, written_both}
use Rattle.net_bundle.proofs.InTurn.{both_fit, stops_before, stops_after}

same_program : (s : SwitchFiles) (number : ℕ) (program : Program) → s.number ≡ number → s.program ≡ program
    → program_made number program ≡ program_made s.number s.program
same_program s number program n p = ap₂ program_made (sym n) (sym p)

same_rows : (s : SwitchFiles) (number : ℕ) (text : List ℕ) → s.number ≡ number → text ≡ rows_text s.rows → rows_made number text ≡ rows_made s.number (rows_text s.rows)
same_rows s number text n r = ap₂ rows_made (sym n) r

-- what is kept of both
pub kept_both : (s : SwitchFiles) (number : ℕ) (program : Program) (text : List ℕ) (k0 k1 k2 : List KeptDigest) → s.number ≡ number → s.program ≡ program → text ≡ rows_text s.rows
    → k1 ≡ k0 ++ kept_digest (program_made number program) ∷ [] → k2 ≡ k1 ++ kept_digest (rows_made number text) ∷ [] → k2 ≡ k0 ++ map kept_digest (switch_files s)
kept_both s number program text k0 k1 k2 n p r a b =
    b ∙ ap (λ k. k ++ kept_digest (rows_made number text) ∷ []) a
    ∙ append_assoc k0 (kept_digest (program_made number program) ∷ []) (kept_digest (rows_made number text) ∷ [])
    ∙ ap₂ (λ f g. k0 ++ kept_digest f ∷ kept_digest g ∷ []) (same_program s number program n p) (same_rows s number text n r)

-- both keep their limits
pub fit_both : (s : SwitchFiles) (number : ℕ) (program : Program) (text : List ℕ) → s.number ≡ number → s.program ≡ program → text ≡ rows_text s.rows
    → AllFit (program_made number program ∷ []) → AllFit (rows_made number text ∷ []) → AllFit (switch_files s)
fit_both s number program text n p r a b =
    both_fit (program_made s.number s.program ∷ []) (rows_made s.number (rows_text s.rows) ∷ [])
    (subst (λ f. AllFit (f ∷ [])) (same_program s number program n p) a)
    (subst (λ f. AllFit (f ∷ [])) (same_rows s number text n r) b)

-- the program was not made
pub program_stops : (s : SwitchFiles) (number : ℕ) (program : Program) (fault : BundleFault) → s.number ≡ number → s.program ≡ program
    → NotMade (program_made number program ∷ []) fault → NotMade (switch_files s) fault
program_stops s number program fault n p h =
    stops_before (program_made s.number s.program ∷ []) (rows_made s.number (rows_text s.rows) ∷ []) fault
    (subst (λ f. NotMade (f ∷ []) fault) (same_program s number program n p) h)

-- the program was made, and the text of the rows was not
pub rows_stop : (s : SwitchFiles) (number : ℕ) (program : Program) (text : List ℕ) (fault : BundleFault) → s.number ≡ number → s.program ≡ program → text ≡ rows_text s.rows
    → AllFit (program_made number program ∷ []) → NotMade (rows_made number text ∷ []) fault → NotMade (switch_files s) fault
rows_stop s number program text fault n p r a h =
    stops_after (program_made s.number s.program ∷ []) (rows_made s.number (rows_text s.rows) ∷ []) fault
    (subst (λ f. AllFit (f ∷ [])) (same_program s number program n p) a)
    (subst (λ f. NotMade (f ∷ []) fault) (same_rows s number text n r) h)

-- the digest of one file was kept, which is this
pub kept_as : (before after : List KeptDigest) (f g : MadeFile) → f ≡ g → after ≡ before ++ kept_digest f ∷ [] → after ≡ before ++ kept_digest g ∷ []
kept_as before after f g same h = h ∙ ap (λ x. before ++ kept_digest x ∷ []) same

-- ---- their writes

same_first : (s : SwitchFiles) (number : ℕ) (program : Program) (bytes : List ℕ) → s.number ≡ number → s.program ≡ program → bytes ≡ printed program
    → file_made (bundle_file.Program number) bytes ≡ program_made s.number s.program
same_first s number program bytes n p b = ap (file_made (bundle_file.Program number)) b ∙ same_program s number program n p

pub first_fit : (s : SwitchFiles) (number : ℕ) (program : Program) (bytes : List ℕ) → s.number ≡ number → s.program ≡ program → bytes ≡ printed program
    → AllFit (switch_files s) → AllFit (file_made (bundle_file.Program number) bytes ∷ [])
first_fit s number program bytes n p b a =
    subst (λ f. AllFit (f ∷ [])) (sym (same_first s number program bytes n p b))
    (fit_before (program_made s.number s.program ∷ []) (rows_made s.number (rows_text s.rows) ∷ []) a)

pub second_fit : (s : SwitchFiles) (number : ℕ) (text : List ℕ) → s.number ≡ number → text ≡ rows_text s.rows → AllFit (switch_files s) → AllFit (rows_made number text ∷ [])
second_fit s number text n r a =
    subst (λ f. AllFit (f ∷ [])) (sym (same_rows s number text n r))
    (fit_after (program_made s.number s.program ∷ []) (rows_made s.number (rows_text s.rows) ∷ []) a)

-- the write of the program stopped
pub first_stops : (out : List ℕ) (s : SwitchFiles) (number : ℕ) (program : Program) (bytes : List ℕ) (was is : Option Files) (fault : BundleFault) → s.number ≡ number → s.program ≡ program
    → bytes ≡ printed program → AllFit (switch_files s) → NotWritten out (file_made (bundle_file.Program number) bytes ∷ []) was is fault → NotWritten out (switch_files s) was is fault
first_stops out s number program bytes was is fault n p b a h =
    stops_first out (program_made s.number s.program ∷ []) (rows_made s.number (rows_text s.rows) ∷ []) was is fault a
    (subst (λ f. NotWritten out (f ∷ []) was is fault) (same_first s number program bytes n p b) h)

-- the program was written, and the write of the rows stopped
pub second_stops : (out : List ℕ) (s : SwitchFiles) (number : ℕ) (program : Program) (bytes text : List ℕ) (was mid is : Option Files) (fault : BundleFault) → s.number ≡ number → s.program ≡ program
    → bytes ≡ printed program → text ≡ rows_text s.rows → AllFit (switch_files s) → mid ≡ with_files out (file_made (bundle_file.Program number) bytes ∷ []) was
    → NotWritten out (rows_made number text ∷ []) mid is fault → NotWritten out (switch_files s) was is fault
second_stops out s number program bytes text was mid is fault n p b r a m h =
    stops_second out (program_made s.number s.program ∷ []) (rows_made s.number (rows_text s.rows) ∷ []) was mid is fault a
    (m ∙ ap (λ f. with_files out (f ∷ []) was) (same_first s number program bytes n p b))
    (subst (λ f. NotWritten out (f ∷ []) mid is fault) (same_rows s number text n r) h)

-- both were written
pub both_written : (out : List ℕ) (s : SwitchFiles) (number : ℕ) (program : Program) (bytes text : List ℕ) (was mid is : Option Files) → s.number ≡ number → s.program ≡ program
    → bytes ≡ printed program → text ≡ rows_text s.rows → mid ≡ with_files out (file_made (bundle_file.Program number) bytes ∷ []) was
    → is ≡ with_files out (rows_made number text ∷ []) mid → is ≡ with_files out (switch_files s) was
both_written out s number program bytes text was mid is n p b r m k =
    written_both out (program_made s.number s.program ∷ []) (rows_made s.number (rows_text s.rows) ∷ []) was mid is
    (m ∙ ap (λ f. with_files out (f ∷ []) was) (same_first s number program bytes n p b))
    (k ∙ ap (λ f. with_files out (f ∷ []) mid) (same_rows s number text n r))
