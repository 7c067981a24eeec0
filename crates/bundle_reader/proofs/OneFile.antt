-- One file of a bundle is read in one way: it lacks the bytes that it should have, or they are good, or they are bad.
use Rattle.std.proofs.Common.{◌≡◌, ℕ, ◌≤◌, ◌<◌, List, length, Option, Some, None, Result, Ok, Err, sym, ap, ◌∙◌, subst, arith}
use Rattle.std.specs.FinMap.{get}
use Rattle.serde_json.specs.Data.{Data}
use Rattle.serde_json.specs.Read.{read}
use Rattle.cocoon_io.specs.Files.{Files}
use Rattle.cocoon_io.specs.declared.folder.FolderFault.TheVariants.{TooLong}
use Rattle.p4_ir.specs.P4Reads.{P4Reads}
use Rattle.p4_ir.specs.P4Tree as tree
use Rattle.p4_read.specs.declared.fault.P4Fault.{P4Fault}
use Rattle.p4_read.specs.declared.fault.P4Fault.TheVariants as p4-fault
use Rattle.p4_read.specs.Answers.{Answer, Answers, a_fault, a_program}
use Rattle.net_bundle.specs.Bundle.{whole_name}
use Rattle.net_bundle.specs.BundleNames.{digest_of}
use Rattle.json_forms.specs.Values.{IsJson}
use Rattle.net_bundle.specs.Writing.{most_of}
use Rattle.net_bundle.specs.declared.file.BundleFile.{BundleFile}
use Rattle.net_bundle.specs.declared.file.BundleFile.TheVariants.{Program}
use Rattle.json_forms.specs.Reading.{Answered}
use Rattle.bundle_reader.specs.Readings.{Agrees, Held, NoProgram}
use Rattle.bundle_reader.specs.declared.fault.ReadFault.{ReadFault}
use Rattle.bundle_reader.specs.declared.fault.ReadFault.TheVariants.{Folder, Missing, NotJson, P4, Shape, Stale}

pub found_same : {A : Type 0} (o : Option A) (x y : A) → o ≡ Some x → o ≡ Some y → x ≡ y
found_same o x y d e = cc

none_or_some : {A : Type 0} (o : Option A) (x : A) → o ≡ None → o ≡ Some x → ⊥
none_or_some o x d e = cc

-- ---- the bytes

-- the file has these bytes, no more than it may, and they are those that were kept
pub record Has (files : Files) (out : List ℕ) (file : BundleFile) (kept : Option (List ℕ)) (bytes : List ℕ) : Type 0 where
  pub held : Held files out file bytes
  pub agrees : Agrees bytes kept

-- it has no such bytes
pub data Lacks (files : Files) (out : List ℕ) (file : BundleFile) (kept : Option (List ℕ)) (f : ReadFault) : Type 0 where
  missing : get files (whole_name out file) ≡ None → f ≡ Missing file → Lacks files out file kept f
  long : (bytes : List ℕ) → get files (whole_name out file) ≡ Some bytes → most_of file < length bytes → f ≡ Folder file (TooLong (most_of file)) → Lacks files out file kept f
  stale : (digest bytes : List ℕ) → Held files out file bytes → kept ≡ Some digest → ¬ (digest_of bytes ≡ digest) → f ≡ Stale file (digest_of bytes) digest → Lacks files out file kept f

too_long : (file : BundleFile) (bytes others : List ℕ) {P : Type 0} (o : Option (List ℕ)) → o ≡ Some bytes → most_of file < length bytes → o ≡ Some others → length others ≤ most_of file → P
too_long file bytes others o e over d short =
    let few : length bytes ≤ most_of file = subst (λ (b : List ℕ). length b ≤ most_of file) (found_same o others bytes d e) short in
    let no : ⊥ = omega (arith, over, few) in
    absurd no

stale_same : (file : BundleFile) (o kept : Option (List ℕ)) (digest bytes mark others : List ℕ) → o ≡ Some bytes → o ≡ Some others → kept ≡ Some digest → kept ≡ Some mark
    → Stale file (digest_of bytes) digest ≡ Stale file (digest_of others) mark
stale_same file o kept digest bytes mark others d e k l =
    ap (λ b. Stale file (digest_of b) digest) (found_same o bytes others d e) ∙ ap (Stale file (digest_of others)) (found_same kept digest mark k l)

lacks_same : (files : Files) (out : List ℕ) (file : BundleFile) (kept : Option (List ℕ)) (f g : ReadFault) → Lacks files out file kept f → Lacks files out file kept g → f ≡ g
lacks_same files out file kept f g (missing n d) (missing m e) = d ∙ sym e
lacks_same files out file kept f g (missing n d) (long bytes is over e) = absurd (none_or_some _ bytes n is)
lacks_same files out file kept f g (missing n d) (stale digest bytes held k other e) = absurd (none_or_some _ bytes n held.0)
lacks_same files out file kept f g (long bytes is over d) (missing m e) = absurd (none_or_some _ bytes m is)
lacks_same files out file kept f g (long bytes is over d) (long others at more e) = d ∙ sym e
lacks_same files out file kept f g (long bytes is over d) (stale digest others held k other e) = too_long file bytes others _ is over held.0 held.1
lacks_same files out file kept f g (stale digest bytes held k other d) (missing m e) = absurd (none_or_some _ bytes m held.0)
lacks_same files out file kept f g (stale digest bytes held k other d) (long others at over e) = too_long file others bytes _ at over held.0 held.1
lacks_same files out file kept f g (stale digest bytes held k other d) (stale mark others at l another e) = d ∙ stale_same file _ kept digest bytes mark others held.0 at.0 k l ∙ sym e

lacks_or_has : (files : Files) (out : List ℕ) (file : BundleFile) (kept : Option (List ℕ)) (f : ReadFault) (bytes : List ℕ) → Lacks files out file kept f → Has files out file kept bytes → ⊥
lacks_or_has files out file kept f bytes (missing n d) h = none_or_some _ bytes n h.held.0
lacks_or_has files out file kept f bytes (long others is over d) h = too_long file others bytes _ is over h.held.0 h.held.1
lacks_or_has files out file kept f bytes (stale digest others held k other d) h =
    let agrees : digest_of bytes ≡ digest = subst (Agrees bytes) k h.agrees in
    other (ap digest_of (found_same _ others bytes held.0 h.held.0) ∙ agrees)

pub has_same : (files : Files) (out : List ℕ) (file : BundleFile) (kept : Option (List ℕ)) (bytes others : List ℕ) → Has files out file kept bytes → Has files out file kept others → bytes ≡ others
has_same files out file kept bytes others h g = found_same _ bytes others h.held.0 g.held.0

-- ---- what the bytes are

-- bytes are bad in one way, and then they are not good
pub record Ways (Good : List ℕ → Type 0) (Bad : List ℕ → ReadFault → Type 0) : Type 0 where
  pub one : (bytes : List ℕ) (f g : ReadFault) → Bad bytes f → Bad bytes g → f ≡ g
  pub apart : (bytes : List ℕ) (f : ReadFault) → Good bytes → Bad bytes f → ⊥

-- the file has this fault
pub data Fails (files : Files) (out : List ℕ) (file : BundleFile) (kept : Option (List ℕ)) (Bad : List ℕ → ReadFault → Type 0) (f : ReadFault) : Type 0 where
  lacks : Lacks files out file kept f → Fails files out file kept Bad f
  bad : (bytes : List ℕ) → Has files out file kept bytes → Bad bytes f → Fails files out file kept Bad f

pub fails_same : (files : Files) (out : List ℕ) (file : BundleFile) (kept : Option (List ℕ)) (Good : List ℕ → Type 0) (Bad : List ℕ → ReadFault → Type 0) → Ways Good Bad → (f g : ReadFault)
    → Fails files out file kept Bad f → Fails files out file kept Bad g → f ≡ g
fails_same files out file kept Good Bad ways f g (lacks x) (lacks y) = lacks_same files out file kept f g x y
fails_same files out file kept Good Bad ways f g (lacks x) (bad bytes h y) = absurd (lacks_or_has files out file kept f bytes x h)
fails_same files out file kept Good Bad ways f g (bad bytes h x) (lacks y) = absurd (lacks_or_has files out file kept g bytes y h)
fails_same files out file kept Good Bad ways f g (bad bytes h x) (bad others k y) =
    ways.one others f g (subst (λ b. Bad b f) (has_same files out file kept bytes others h k) x) y

pub fails_or_good : (files : Files) (out : List ℕ) (file : BundleFile) (kept : Option (List ℕ)) (Good : List ℕ → Type 0) (Bad : List ℕ → ReadFault → Type 0) → Ways Good Bad → (f : ReadFault) (bytes : List ℕ)
    → Fails files out file kept Bad f → Has files out file kept bytes → Good bytes → ⊥
fails_or_good files out file kept Good Bad ways f bytes (lacks x) h good = lacks_or_has files out file kept f bytes x h
fails_or_good files out file kept Good Bad ways f bytes (bad others k x) h good =
    ways.apart bytes f good (subst (λ b. Bad b f) (has_same files out file kept others bytes k h) x)

-- ---- JSON files

pub answered_same : {A : Type 0} (form : Data → Result A (List ℕ)) (bytes : List ℕ) (a b : Result A (List ℕ)) → Answered form bytes a → Answered form bytes b → a ≡ b
answered_same form bytes a b x y = sym x.answers ∙ ap form (found_same (read bytes) x.value y.value x.is.1 y.is.1) ∙ y.answers

pub data Malformed {A : Type 0} (file : BundleFile) (form : Data → Result A (List ℕ)) (bytes : List ℕ) (f : ReadFault) : Type 0 where
  no_json : ((d : Data) → ¬ IsJson bytes d) → f ≡ NotJson file → Malformed file form bytes f
  no_shape : (pointer : List ℕ) → Answered form bytes (Err pointer) → f ≡ Shape file pointer → Malformed file form bytes f

abbrev pub Formed : {A : Type 0} → (Data → Result A (List ℕ)) → List ℕ → Type 0
Formed {A} form bytes = (a : A) × Answered form bytes (Ok a)

pub ok_same : {A : Type 0} (x y : A) → ◌≡◌ {A = Result A (List ℕ)} (Ok x) (Ok y) → x ≡ y
ok_same x y e = cc

err_same : {A : Type 0} (x y : List ℕ) → ◌≡◌ {A = Result A (List ℕ)} (Err x) (Err y) → x ≡ y
err_same x y e = cc

ok_or_err : {A : Type 0} (x : A) (y : List ℕ) → ◌≡◌ {A = Result A (List ℕ)} (Ok x) (Err y) → ⊥
ok_or_err x y e = cc

malformed_same : {A : Type 0} (file : BundleFile) (form : Data → Result A (List ℕ)) (bytes : List ℕ) (f g : ReadFault) → Malformed file form bytes f → Malformed file form bytes g → f ≡ g
malformed_same file form bytes f g (no_json n d) (no_json m e) = d ∙ sym e
malformed_same file form bytes f g (no_json n d) (no_shape pointer a e) = absurd (n a.value a.is)
malformed_same file form bytes f g (no_shape pointer a d) (no_json m e) = absurd (m a.value a.is)
malformed_same file form bytes f g (no_shape pointer a d) (no_shape other b e) = d ∙ ap (Shape file) (err_same pointer other (answered_same form bytes _ _ a b)) ∙ sym e

malformed_or_formed : {A : Type 0} (file : BundleFile) (form : Data → Result A (List ℕ)) (bytes : List ℕ) (f : ReadFault) → Formed form bytes → Malformed file form bytes f → ⊥
malformed_or_formed file form bytes f (a, is) (no_json n d) = n is.value is.is
malformed_or_formed file form bytes f (a, is) (no_shape pointer b d) = ok_or_err a pointer (answered_same form bytes _ _ is b)

pub json_ways : {A : Type 0} (file : BundleFile) (form : Data → Result A (List ℕ)) → Ways (Formed form) (Malformed file form)
json_ways file form = record { one = malformed_same file form; apart = malformed_or_formed file form }

-- ---- programs

-- a text reads as one program or has one first fault
abbrev pub OneAnswer : Type 0
OneAnswer = (text : List ℕ) (a b : Answer) → Answers text a → Answers text b → a ≡ b

pub data Unread (s : ℕ) (text : List ℕ) (f : ReadFault) : Type 0 where
  no_program : (fault : P4Fault) → Answers text (a_fault fault) → f ≡ P4 (Program s) fault → Unread s text f

abbrev pub IsProgram : List ℕ → Type 0
IsProgram text = (p : tree.Program) × P4Reads text p

pub answers : (s : ℕ) (text : List ℕ) (fault : P4Fault) → NoProgram (Program s) text fault → Answers text (a_fault fault)
answers s text (p4-fault.Lex i) h = h
answers s text (p4-fault.Unexpected i) h = h
answers s text (p4-fault.TooDeep i) h = h
answers s text (p4-fault.Kind i) h = h
answers s text p4-fault.NoMemory h = h

program_same_by : (p q : tree.Program) → a_program p ≡ a_program q → p ≡ q
program_same_by p q e = cc

fault_same : (f g : P4Fault) → a_fault f ≡ a_fault g → f ≡ g
fault_same f g e = cc

program_or_fault : (p : tree.Program) (f : P4Fault) → a_program p ≡ a_fault f → ⊥
program_or_fault p f e = cc

pub program_same : OneAnswer → (text : List ℕ) (p q : tree.Program) → P4Reads text p → P4Reads text q → p ≡ q
program_same law text p q x y = program_same_by p q (law text (a_program p) (a_program q) x y)

unread_same : OneAnswer → (s : ℕ) (text : List ℕ) (f g : ReadFault) → Unread s text f → Unread s text g → f ≡ g
unread_same law s text f g (no_program fault x d) (no_program other y e) =
    d ∙ ap (P4 (Program s)) (fault_same fault other (law text (a_fault fault) (a_fault other) x y)) ∙ sym e

unread_or_program : OneAnswer → (s : ℕ) (text : List ℕ) (f : ReadFault) → IsProgram text → Unread s text f → ⊥
unread_or_program law s text f (p, reads) (no_program fault x d) = program_or_fault p fault (law text (a_program p) (a_fault fault) reads x)

pub program_ways : OneAnswer → (s : ℕ) → Ways IsProgram (Unread s)
program_ways law s = record { one = unread_same law s; apart = unread_or_program law s }
