-- What is read for a command, file after file.
use Rattle.std.proofs.Common.{◌≡◌, ◌<◌, Bool, true, false, if◌then◌else◌, ℕ, zero, suc, List, [], ◌∷◌, ◌++◌, length, replicate, Option, Some, None, Result, Err, refl, sym, ap, ap₂, subst, ◌∙◌, ◌⊎◌, inl, inr, arith, option_and_then, option_map}
use Rattle.std.specs.FinMap.{get}
use Rattle.cocoon_io.specs.Files.{Files}
use Rattle.cocoon_io.specs.declared.folder.FolderFault.TheVariants.{Failed, TooLong as Long, NoMemory as Wanting}
use Rattle.bundle_reader.specs.FolderCounts as counts
use Rattle.bundle_reader.specs.Readings.{ContentFault, ContentReads}
use Rattle.bundle_reader.specs.declared.fault.ReadFault.{ReadFault}
use Rattle.bundle_reader.specs.declared.fault.ReadFault.TheVariants as read
use Rattle.net_run.specs.Nets.{net_in}
use Rattle.net_run.specs.declared.net.Net.{Net}
use Rattle.net_bundle.specs.declared.file.BundleFile.{BundleFile}
use Rattle.command_reports.specs.FileNames.{FileNames, bundle_in, name_of, wanted, with_most}
use Rattle.command_reports.specs.Refusals.{IsOfFiles, unread_as}
use Rattle.command_reports.specs.Report.{fault_of}
use Rattle.command_reports.specs.declared.files.CommandFile.{CommandFile}
use Rattle.command_reports.specs.declared.files.CommandFile.TheVariants.{Design, Definitions, Bundle, Case, Packets, Budget}
use Rattle.command_reports.specs.declared.refusal.Refusal.{Refusal}
use Rattle.command_reports.specs.declared.refusal.Refusal.TheVariants as refusal
use Rattle.command_reports.specs.declared.report.Report.{Report}
use Rattle.command_answers.specs.Outcomes.{AllGood, none, good, Ends, bundle_steps, file_steps, no_memory, reads}
use Rattle.command_answers.specs.FolderCalls.{IsReading}
use Rattle.command_answers.specs.Steps.{Inputs, Step, bundle_reads, is_there, is_within}
use Rattle.cocoon_cli.specs.declared.reading.Read.{Read}
use Rattle.cocoon_cli.specs.Reading.{FileNotRead, HasFile, HasLongFile, IsUnread, LacksFile, NamesBundleFailure, ReadFaultRose}
use Rattle.cocoon_cli.specs.Run.{InputsAre, inputs_of}
use Rattle.cocoon_cli.specs.Shell.{Given, GivenNet, HasNet, HasWanted, LacksNet, LacksWanted, ReadsAll, ReadsNot}
use Rattle.command_answers.proofs.Ending.{all_good, ends_after, ends_before, next, refused, stopped}

-- ---- what is read

-- of a folder whose content is not known, what it answered for each kind of file
abbrev by_kind : (x y z w : Option (List ℕ)) → CommandFile → Option (List ℕ)
by_kind x y z w Design = x
by_kind x y z w Definitions = y
by_kind x y z w (Bundle file) = None
by_kind x y z w Case = z
by_kind x y z w Packets = w
by_kind x y z w Budget = None

abbrev answered : (x y z w : Option (List ℕ)) → Inputs
answered x y z w = record { file = by_kind x y z w; content = None }

abbrev pick : FileNames → Option Files → Inputs → Inputs
pick ns None a = a
pick ns (Some files) a = inputs_of ns files

picked : (ns : FileNames) (content : Option Files) (a : Inputs) → InputsAre ns content (pick ns content a)
picked ns None a = tt
picked ns (Some files) a = refl

-- where its content is known, a bundle stands there
content_is : (ns : FileNames) (content : Option Files) (x y z w : Option (List ℕ)) → (pick ns content (answered x y z w)).content ≡ content
content_is ns None x y z w = refl
content_is ns (Some files) x y z w = refl

-- the name of a file that is read
read_name : (made : Bool) (most : Option ℕ) (o : Option (List ℕ)) (name : List ℕ) (m : ℕ) → (if made then None else with_most most o) ≡ Some (name, m) → o ≡ Some name
read_name true most o name m e = cc
read_name false (Some k) (Some x) name m e = ap (option_map (λ (p : List ℕ × ℕ). p.0)) e
read_name false (Some k) None name m e = cc
read_name false None o name m e = cc

at_name : (ns : FileNames) (files : Files) (file : CommandFile) (name : List ℕ) (most : ℕ) → wanted ns file ≡ Some (name, most) → (inputs_of ns files).file file ≡ get files name
at_name ns files file name most q = ap (option_and_then (get files)) (read_name ns.makes_texts _ (name_of ns file) name most q)

there : (ns : FileNames) (content : Option Files) (a : Inputs) (file : CommandFile) (name : List ℕ) (most : ℕ) (bytes : List ℕ) → wanted ns file ≡ Some (name, most) → a.file file ≡ Some bytes → HasFile content name most bytes → (pick ns content a).file file ≡ Some bytes
there ns None a file name most bytes q e h = e
there ns (Some files) a file name most bytes q e h = at_name ns files file name most q ∙ h.0

lacking : (ns : FileNames) (content : Option Files) (a : Inputs) (file : CommandFile) (name : List ℕ) (most : ℕ) → wanted ns file ≡ Some (name, most) → a.file file ≡ None → LacksFile content name → (pick ns content a).file file ≡ None
lacking ns None a file name most q e h = e
lacking ns (Some files) a file name most q e h = at_name ns files file name most q ∙ h

-- bytes that are one more than so many
abbrev more : ℕ → List ℕ
more most = replicate (suc most) 0

length_more : (n : ℕ) → length (replicate {A = ℕ} n 0) ≡ n
length_more zero = refl
length_more (suc n) = ap suc (length_more n)

more_long : (n : ℕ) → n < length {A = ℕ} (more n)
more_long n = let e : length {A = ℕ} (more n) ≡ suc n = length_more (suc n) in omega arith

-- a file with more bytes than it may have
record TooManyBytes (o : Option (List ℕ)) (most : ℕ) : Type 0 where
  bytes : List ℕ
  are : o ≡ Some bytes
  long : most < length bytes

is_long : (ns : FileNames) (content : Option Files) (a : Inputs) (file : CommandFile) (name : List ℕ) (most : ℕ) → wanted ns file ≡ Some (name, most) → a.file file ≡ Some (more most) → HasLongFile content name most → TooManyBytes ((pick ns content a).file file) most
is_long ns None a file name most q e h = record { bytes = more most; are = e; long = more_long most }
is_long ns (Some files) a file name most q e h = record { bytes = h.0; are = at_name ns files file name most q ∙ h.1; long = h.2 }

-- ---- one file

-- of a file that was not read, what a folder whose content is not known may have answered
abbrev pub shown : Refusal → Option (List ℕ × ℕ) → Option (List ℕ)
shown (refusal.TooLong file n) (Some (name, most)) = Some (more most)
shown r w = None

given : (ns : FileNames) (content : Option Files) (a : Inputs) (file : CommandFile) (w : Option (List ℕ × ℕ)) (bytes : List ℕ) → wanted ns file ≡ w → a.file file ≡ Some bytes → HasWanted content w bytes → Given (pick ns content a) file w bytes
given ns content a file None bytes q e h = tt
given ns content a file (Some (name, most)) bytes q e h = (there ns content a file name most bytes q e h.0, h.1)

given_good : (i : Inputs) (file : CommandFile) (w : Option (List ℕ × ℕ)) (bytes : List ℕ) → Given i file w bytes → AllGood i (file_steps file w)
given_good i file None bytes g = none
given_good i file (Some (name, most)) bytes g = good (record { text = bytes; is = g.0; holds = tt }) (good (record { text = bytes; is = g.0; holds = g.1 }) none)

file_ends : (ns : FileNames) (content : Option Files) (a : Inputs) (file : CommandFile) (name : List ℕ) (most : ℕ) (r : Refusal) → wanted ns file ≡ Some (name, most) → a.file file ≡ shown r (Some (name, most)) → FileNotRead content name file most r → Ends (pick ns content a) (Err r) (is_there file ∷ is_within file most ∷ [])
file_ends ns content a file name most (refusal.NoFile f) q e h = refused _ _ (is_there file) _ (lacking ns content a file name most q e h.1, ap refusal.NoFile h.0)
file_ends ns content a file name most (refusal.TooLong f n) q e h =
    let l = is_long ns content a file name most q e h.2 in
    next _ _ (is_there file) _ (record { text = l.bytes; is = l.are; holds = tt })
    (refused _ _ (is_within file most) _ (record { text = l.bytes; is = l.are; holds = (l.long, ap₂ (λ (g : CommandFile) (m : ℕ). refusal.TooLong g m) h.0 h.1) }))
file_ends ns content a file name most (refusal.ReadFault f) q e h = stopped _ _ (is_there file) _ (ap refusal.ReadFault h)
file_ends ns content a file name most refusal.NoMemory q e h = no_memory refl
file_ends ns content a file name most r q e h = absurd h

kind_ends : (ns : FileNames) (content : Option Files) (a : Inputs) (file : CommandFile) (w : Option (List ℕ × ℕ)) (r : Refusal) → wanted ns file ≡ w → a.file file ≡ shown r w → LacksWanted content file w r → Ends (pick ns content a) (Err r) (file_steps file w)
kind_ends ns content a file None r q e h = absurd h
kind_ends ns content a file (Some (name, most)) r q e h = file_ends ns content a file name most r q e h

-- ---- a bundle

-- what is told of it is about the folder, or about its files, or that there was no memory
record Faulted (r : Refusal) : Type 0 where
  file : BundleFile
  is : r ≡ refusal.ReadFault (Bundle file)

sorted : (fault : ReadFault) → (unread_as fault ≡ refusal.NoMemory) ⊎ (Faulted (unread_as fault) ⊎ IsOfFiles (unread_as fault))
sorted (read.Folder file Failed) = inr (inl (record { file = file; is = refl }))
sorted (read.Folder file Wanting) = inl refl
sorted read.NoMemory = inl refl
sorted fault = inr (inr tt)

unread_ends : (i : Inputs) (content : Option Files) (o : List ℕ) (r : Refusal) → i.content ≡ content → IsUnread content o r → Ends i (Err r) (bundle_reads o ∷ [])
unread_ends i content o r e h = elim (sorted h.0) [
  | inl memory ↦ no_memory (ap Err (h.2 ∙ memory))
  | inr (inl f) ↦ stopped i r (bundle_reads o) [] (f.file, h.2 ∙ f.is)
  | inr (inr of) ↦ refused i r (bundle_reads o) [] (h.0, subst (λ x. ContentFault x o h.0) (sym e) h.1, h.2, subst IsOfFiles (sym h.2) of)
]

net_ends : (i : Inputs) (content : Option Files) (o : Option (List ℕ)) (r : Refusal) → i.content ≡ content → LacksNet content o r → Ends i (Err r) (bundle_steps o)
net_ends i content None r e h = absurd h
net_ends i content (Some o) r e h = unread_ends i content o r e h

given_net : (i : Inputs) (content : Option Files) (o : Option (List ℕ)) (net : Option Net) → i.content ≡ content → HasNet content o net → GivenNet i o net
given_net i content None net e h = tt
given_net i content (Some o) None e h = h
given_net i content (Some o) (Some net) e h = subst (λ x. ContentReads x o (net_in net)) (sym e) h

net_good : (i : Inputs) (o : Option (List ℕ)) (net : Option Net) → GivenNet i o net → AllGood i (bundle_steps o)
net_good i None net h = none
net_good i (Some o) None h = absurd h
net_good i (Some o) (Some net) h = good (record { net = net_in net; reads = h; holds = tt }) none

-- ---- all that is read

-- one file was read
abbrev pub Has : FileNames → Option Files → CommandFile → List ℕ → Type 0
Has ns content file bytes = HasWanted content (wanted ns file) bytes

-- it was not
abbrev pub Lacks : FileNames → Option Files → CommandFile → Refusal → Type 0
Lacks ns content file r = LacksWanted content file (wanted ns file) r

-- the same of a folder that is as it was
pub still_has : (ns : FileNames) (file : CommandFile) (bytes : List ℕ) (now before : Option Files) → now ≡ before → Has ns now file bytes → Has ns before file bytes
still_has ns file bytes now before same h = subst (λ content. Has ns content file bytes) same h

pub still_lacks : (ns : FileNames) (file : CommandFile) (r : Refusal) (now before : Option Files) → now ≡ before → Lacks ns now file r → Lacks ns before file r
still_lacks ns file r now before same h = subst (λ content. Lacks ns content file r) same h

file_good : (ns : FileNames) (content : Option Files) (a : Inputs) (file : CommandFile) (bytes : List ℕ) → a.file file ≡ Some bytes → Has ns content file bytes → AllGood (pick ns content a) (file_steps file (wanted ns file))
file_good ns content a file bytes e h = given_good (pick ns content a) file (wanted ns file) bytes (given ns content a file (wanted ns file) bytes refl e h)

after_file : (ns : FileNames) (content : Option Files) (a : Inputs) (file : CommandFile) (bytes : List ℕ) (rest : List Step) (outcome : Result Report Refusal) → a.file file ≡ Some bytes → Has ns content file bytes
    → Ends (pick ns content a) outcome rest → Ends (pick ns content a) outcome (file_steps file (wanted ns file) ++ rest)
after_file ns content a file bytes rest outcome e h k = ends_after (pick ns content a) outcome (file_steps file (wanted ns file)) rest (file_good ns content a file bytes e h) k

at_file : (ns : FileNames) (content : Option Files) (a : Inputs) (file : CommandFile) (rest : List Step) (r : Refusal) → a.file file ≡ shown r (wanted ns file) → Lacks ns content file r
    → Ends (pick ns content a) (Err r) (file_steps file (wanted ns file) ++ rest)
at_file ns content a file rest r e h = ends_before (pick ns content a) (Err r) (file_steps file (wanted ns file)) rest (kind_ends ns content a file (wanted ns file) r refl e h)

-- the steps from each file on
abbrev from_packets : FileNames → List Step
from_packets ns = file_steps Packets (wanted ns Packets) ++ bundle_steps (bundle_in ns)

abbrev from_case : FileNames → List Step
from_case ns = file_steps Case (wanted ns Case) ++ from_packets ns

abbrev from_definitions : FileNames → List Step
from_definitions ns = file_steps Definitions (wanted ns Definitions) ++ from_case ns

-- no read answers that a write failed
file_reading : (content : Option Files) (file : CommandFile) (w : Option (List ℕ × ℕ)) (r : Refusal) → LacksWanted content file w r → IsReading (fault_of r)
file_reading content file None r h = absurd h
file_reading content file (Some (name, most)) (refusal.WriteFault f) h = h
file_reading content file (Some (name, most)) r h = tt

unread_reading : (fault : ReadFault) → IsReading (fault_of (unread_as fault))
unread_reading (read.Folder file Failed) = tt
unread_reading (read.Folder file (Long n)) = tt
unread_reading (read.Folder file Wanting) = tt
unread_reading fault = tt

net_reading : (content : Option Files) (o : Option (List ℕ)) (r : Refusal) → LacksNet content o r → IsReading (fault_of r)
net_reading content None r h = absurd h
net_reading content (Some o) r h = subst (λ (x : Refusal). IsReading (fault_of x)) (sym h.2) (unread_reading h.0)

not_read : (ns : FileNames) (content : Option Files) (a : Inputs) (r : Refusal) → IsReading (fault_of r) → Ends (pick ns content a) (Err r) (reads ns) → ReadsNot ns content r
not_read ns content a r q h = record { inputs = pick ns content a; inputs_are = picked ns content a; ends = h; reading = q }

pub no_design : (ns : FileNames) (content : Option Files) (r : Refusal) → Lacks ns content Design r → ReadsNot ns content r
no_design ns content r h =
    let a = answered (shown r (wanted ns Design)) None None None in
    not_read ns content a r (file_reading content Design (wanted ns Design) r h) (at_file ns content a Design (from_definitions ns) r refl h)

pub no_definitions : (ns : FileNames) (content : Option Files) (x : List ℕ) (r : Refusal) → Has ns content Design x → Lacks ns content Definitions r → ReadsNot ns content r
no_definitions ns content x r d h =
    let a = answered (Some x) (shown r (wanted ns Definitions)) None None in
    not_read ns content a r (file_reading content Definitions (wanted ns Definitions) r h)
    (after_file ns content a Design x (from_definitions ns) _ refl d (at_file ns content a Definitions (from_case ns) r refl h))

pub no_case : (ns : FileNames) (content : Option Files) (x y : List ℕ) (r : Refusal) → Has ns content Design x → Has ns content Definitions y → Lacks ns content Case r → ReadsNot ns content r
no_case ns content x y r d e h =
    let a = answered (Some x) (Some y) (shown r (wanted ns Case)) None in
    not_read ns content a r (file_reading content Case (wanted ns Case) r h)
    (after_file ns content a Design x (from_definitions ns) _ refl d
    (after_file ns content a Definitions y (from_case ns) _ refl e (at_file ns content a Case (from_packets ns) r refl h)))

pub no_packets : (ns : FileNames) (content : Option Files) (x y z : List ℕ) (r : Refusal) → Has ns content Design x → Has ns content Definitions y → Has ns content Case z → Lacks ns content Packets r → ReadsNot ns content r
no_packets ns content x y z r d e f h =
    let a = answered (Some x) (Some y) (Some z) (shown r (wanted ns Packets)) in
    not_read ns content a r (file_reading content Packets (wanted ns Packets) r h)
    (after_file ns content a Design x (from_definitions ns) _ refl d
    (after_file ns content a Definitions y (from_case ns) _ refl e
    (after_file ns content a Case z (from_packets ns) _ refl f (at_file ns content a Packets (bundle_steps (bundle_in ns)) r refl h))))

-- all files were read
pub record HasFiles (ns : FileNames) (content : Option Files) (x y z w : List ℕ) : Type 0 where
  pub design : Has ns content Design x
  pub definitions : Has ns content Definitions y
  pub case : Has ns content Case z
  pub packets : Has ns content Packets w

pub no_net : (ns : FileNames) (content : Option Files) (x y z w : List ℕ) (r : Refusal) → HasFiles ns content x y z w → LacksNet content (bundle_in ns) r → ReadsNot ns content r
no_net ns content x y z w r g h =
    let a = answered (Some x) (Some y) (Some z) (Some w) in
    not_read ns content a r (net_reading content (bundle_in ns) r h)
    (after_file ns content a Design x (from_definitions ns) _ refl g.design
    (after_file ns content a Definitions y (from_case ns) _ refl g.definitions
    (after_file ns content a Case z (from_packets ns) _ refl g.case
    (after_file ns content a Packets w (bundle_steps (bundle_in ns)) _ refl g.packets
    (net_ends (pick ns content a) content (bundle_in ns) r (content_is ns content (Some x) (Some y) (Some z) (Some w)) h)))))

pub all_read : (ns : FileNames) (content : Option Files) (of : Read) → HasFiles ns content of.design.items of.definitions.items of.case.items of.packets.items → HasNet content (bundle_in ns) of.net → ReadsAll ns content of
all_read ns content of g h =
    let x = of.design.items in
    let y = of.definitions.items in
    let z = of.case.items in
    let w = of.packets.items in
    let a = answered (Some x) (Some y) (Some z) (Some w) in
    let i = pick ns content a in
    let n : GivenNet i (bundle_in ns) of.net = given_net i content (bundle_in ns) of.net (content_is ns content (Some x) (Some y) (Some z) (Some w)) h in
    record {
      inputs = i;
      inputs_are = picked ns content a;
      content_is = content_is ns content (Some x) (Some y) (Some z) (Some w);
      good = all_good i _ _ (file_good ns content a Design x refl g.design)
          (all_good i _ _ (file_good ns content a Definitions y refl g.definitions)
          (all_good i _ _ (file_good ns content a Case z refl g.case) (all_good i _ _ (file_good ns content a Packets w refl g.packets) (net_good i (bundle_in ns) of.net n))));
      given = record {
        design = given ns content a Design (wanted ns Design) x refl refl g.design;
        definitions = given ns content a Definitions (wanted ns Definitions) y refl refl g.definitions;
        case = given ns content a Case (wanted ns Case) z refl refl g.case;
        packets = given ns content a Packets (wanted ns Packets) w refl refl g.packets;
        net = n;
      };
    }

-- ---- the faults of a bundle, told as those of a command

rose_by : (last : Option ℕ) (old new : ℕ) (fault : ReadFault) → counts.ReadFaultRose last old new fault → ReadFaultRose last old new (unread_as fault)
rose_by last old new (read.Folder file Failed) h = h
rose_by last old new (read.Folder file (Long n)) h = h
rose_by last old new (read.Folder file Wanting) h = h
rose_by last old new fault h = h

pub rose : (last : Option ℕ) (old new : ℕ) (fault : ReadFault) (r : Refusal) → r ≡ unread_as fault → counts.ReadFaultRose last old new fault → ReadFaultRose last old new r
rose last old new fault r e h = subst (ReadFaultRose last old new) (sym e) (rose_by last old new fault h)

names_by : (last : List ℕ → Type 0) (o : List ℕ) (fault : ReadFault) → counts.NamesFailure last o fault → NamesBundleFailure last o (unread_as fault)
names_by last o (read.Folder file Failed) h = (file, refl, h)
names_by last o (read.Folder file (Long n)) h = tt
names_by last o (read.Folder file Wanting) h = tt
names_by last o fault h = tt

pub names : (last : List ℕ → Type 0) (o : List ℕ) (fault : ReadFault) (r : Refusal) → r ≡ unread_as fault → counts.NamesFailure last o fault → NamesBundleFailure last o r
names last o fault r e h = subst (NamesBundleFailure last o) (sym e) (names_by last o fault h)
