-- The switches that were read so far, and the digests that are left.
use Rattle.std.proofs.Common.{◌≡◌, ℕ, ◌+◌, ◌≤◌, ◌<◌, true, false, ◌↔◌, IsTrue, List, [], ◌∷◌, ◌++◌, length, map, take, drop, get_or, Option, Some, None, Ok, refl, sym, ap, ◌∙◌, subst, arith}
use Rattle.std.specs.Str.{bytes_eq}
use Rattle.std.proofs.lemmas.Bool.{and_parts}
use Rattle.std.proofs.lemmas.List.{append-nil, append_assoc, drop_more, drop_all, map_push, take_all, take-append-drop, take_more}
use Rattle.std.proofs.lemmas.Slice.Eq.{bytes_eq-Decides}
use Rattle.serde_json.specs.Data.{Data}
use Rattle.cocoon_io.specs.Files.{Files}
use Rattle.p4_ir.specs.Loading.{rows_file_fits, rows_load}
use Rattle.p4_ir.specs.NetFits.{switch_numbers}
use Rattle.p4_ir.specs.NetTree.{SwitchFiles}
use Rattle.p4_ir.specs.P4Tree as tree
use Rattle.p4_run.specs.Faults.{load_fault}
use Rattle.net_run.specs.Switches.{switch_in}
use Rattle.net_run.specs.declared.switch.LoadedSwitch.{LoadedSwitch}
use Rattle.net_bundle.specs.BundleNames.{digest_of, program_name, rows_name}
use Rattle.net_bundle.specs.NetFileOf.{kept_of}
use Rattle.net_bundle.specs.NetJson.{KeptDigest, NetFile, rows_data}
use Rattle.json_forms.specs.Values.{IsJson}
use Rattle.net_bundle.specs.Network.{SwitchReads, SwitchesRead}
use Rattle.net_bundle.specs.Writing.{most_of}
use Rattle.net_bundle.specs.declared.file.BundleFile.{BundleFile}
use Rattle.net_bundle.specs.declared.file.BundleFile.TheVariants.{Program, Rows}
use Rattle.net_bundle.specs.declared.net_json.KeptDigest as code-kept
use Rattle.net_bundle.specs.NetForm.{are_names, file_names}
use Rattle.net_bundle.specs.RowsForm.{rows_form}
use Rattle.bundle_reader.specs.Parts.{AllWell, SwitchWell}
use Rattle.bundle_reader.specs.Readings.{AllShort, Held, IsShort, NetReads, UpTo}

-- ---- one more switch

switches_more : (files : Files) (out : List ℕ) (first two : List KeptDigest) (ns : List ℕ) (ss : List SwitchFiles) (s : SwitchFiles) → SwitchesRead files out first ns ss → SwitchReads files out two s
    → SwitchesRead files out (first ++ two) (ns ++ s.number ∷ []) (ss ++ s ∷ [])
switches_more files out first two [] [] s h r = (two, [], refl, ap (λ f. f ++ two) h ∙ sym (append-nil two), r, refl)
switches_more files out first two [] (t ∷ ss) s h r = absurd h
switches_more files out first two (n ∷ ns) [] s h r = absurd h
switches_more files out first two (n ∷ ns) (t ∷ ss) s (prefix, rest, is, parts, here, more) r =
    (prefix, rest ++ two, is, ap (λ f. f ++ two) parts ∙ append_assoc prefix rest two, here, switches_more files out rest two ns ss s more r)

short_more : (files : Files) (out : List ℕ) (ss : List SwitchFiles) (s : SwitchFiles) → AllShort files out ss → IsShort files out (Program s.number) → IsShort files out (Rows s.number) → AllShort files out (ss ++ s ∷ [])
short_more files out [] s h p r = (p, r, tt)
short_more files out (t ∷ ss) s h p r = (h.0, h.1, short_more files out ss s h.2 p r)

-- ---- the digests of a switch

abbrev kept : List ℕ → List ℕ → KeptDigest
kept name digest = record { name = name; digest = digest }

pub record Names (n : ℕ) (more : List (List ℕ)) (k l : KeptDigest) (rest : List KeptDigest) : Type 0 where
  pub program : k.name ≡ program_name n
  pub rows : l.name ≡ rows_name n
  pub others : are_names more rest ≡ true

names : (n : ℕ) (more : List (List ℕ)) (k l : KeptDigest) (rest : List KeptDigest) → are_names (program_name n ∷ rows_name n ∷ more) (k ∷ l ∷ rest) ≡ true → Names n more k l rest
names n more k l rest h =
    let first = and_parts (bytes_eq k.name (program_name n)) _ h in
    let second = and_parts (bytes_eq l.name (rows_name n)) (are_names more rest) first.1 in
    record { program = (bytes_eq-Decides k.name (program_name n)).0 first.0; rows = (bytes_eq-Decides l.name (rows_name n)).0 second.0; others = second.1 }

pub enough : (a b : List ℕ) (more : List (List ℕ)) (rest : List code-kept.KeptDigest) → are_names (a ∷ b ∷ more) (map kept_of rest) ≡ true → 2 ≤ length rest
enough a b more [] h = absurd cc
enough a b more (k ∷ []) h = let parts = and_parts (bytes_eq (kept_of k).name a) false h in let no : false ≡ true = parts.1 in absurd cc
enough a b more (k ∷ l ∷ rest) h = omega arith

-- ---- the files of a switch

abbrev pub RowsExact : Type 0
RowsExact = (d : Data) (file : tree.RowsFile) → (rows_form d ≡ Ok file) ↔ ((d ≡ rows_data file) × IsTrue (rows_file_fits file))

abbrev pub LoadExact : Type 0
LoadExact = (p : tree.Program) (rows : tree.RowsFile) → (load_fault p rows ≡ None) ↔ IsTrue (rows_load p rows)

same_some : {A : Type 0} (x y : A) → ◌≡◌ {A = Option A} (Some x) (Some y) → x ≡ y
same_some x y e = cc

pub held_short : (files : Files) (out : List ℕ) (file : BundleFile) (bytes : List ℕ) → Held files out file bytes → IsShort files out file
held_short files out file bytes held other e = subst (λ (b : List ℕ). length b ≤ most_of file) (same_some bytes other (sym held.0 ∙ e)) held.1

switch_reads : RowsExact → LoadExact → (files : Files) (out : List ℕ) (s : SwitchFiles) (program rows : List ℕ) → SwitchWell out s.number program rows s files
    → SwitchReads files out (kept (program_name s.number) program ∷ kept (rows_name s.number) rows ∷ []) s
switch_reads exact loads files out s program rows ((text, held, digest, reads), (lines, lines_held, lines_digest, answered), none) =
    let form = (exact answered.value s.rows).0 answered.answers in
    record {
      program_text = text;
      rows_text = lines;
      program_is = held.0;
      rows_are = lines_held.0;
      digests = ap (λ d. kept (program_name s.number) d ∷ kept (rows_name s.number) rows ∷ []) (sym digest) ∙ ap (λ d. kept (program_name s.number) (digest_of text) ∷ kept (rows_name s.number) d ∷ []) (sym lines_digest);
      program_reads = reads;
      rows_read = subst (IsJson lines) form.0 answered.is;
      rows_fit = form.1;
      loads = (loads s.program s.rows).0 none;
    }

-- ---- so far

-- these switches are well, and the digests are those of their files and these others
pub record SoFar (files : Files) (out : List ℕ) (all rest : List KeptDigest) (ss : List SwitchFiles) : Type 0 where
  pub first : List KeptDigest
  pub parts : all ≡ first ++ rest
  pub reads : SwitchesRead files out first (switch_numbers ss) ss
  pub short : AllShort files out ss

pub none_yet : (files : Files) (out : List ℕ) (all : List KeptDigest) → SoFar files out all all []
none_yet files out all = record { first = []; parts = refl; reads = refl; short = tt }

two_named : (n : ℕ) (more : List (List ℕ)) (k l : KeptDigest) (rest : List KeptDigest) → Names n more k l rest → k ∷ l ∷ rest ≡ kept (program_name n) k.digest ∷ kept (rows_name n) l.digest ∷ rest
two_named n more k l rest h =
    ap (λ x. kept x k.digest ∷ l ∷ rest) h.program ∙ ap (λ x. kept (program_name n) k.digest ∷ kept x l.digest ∷ rest) h.rows

more_here : RowsExact → LoadExact → (files : Files) (out : List ℕ) (all rest : List KeptDigest) (ss : List SwitchFiles) (s : SwitchFiles) (program rows : List ℕ)
    → SoFar files out all (kept (program_name s.number) program ∷ kept (rows_name s.number) rows ∷ rest) ss → SwitchWell out s.number program rows s files → SoFar files out all rest (ss ++ s ∷ [])
more_here exact loads files out all rest ss s program rows h well =
    let two : List KeptDigest = kept (program_name s.number) program ∷ kept (rows_name s.number) rows ∷ [] in
    record {
      first = h.first ++ two;
      parts = h.parts ∙ sym (append_assoc h.first two rest);
      reads = subst (λ ns. SwitchesRead files out (h.first ++ two) ns (ss ++ s ∷ [])) (sym (map_push (λ (x : SwitchFiles). x.number) ss s))
          (switches_more files out h.first two (switch_numbers ss) ss s h.reads (switch_reads exact loads files out s program rows well));
      short = short_more files out ss s h.short (held_short files out (Program s.number) well.0.0 well.0.1) (held_short files out (Rows s.number) well.1.0 well.1.1);
    }

pub one_more : RowsExact → LoadExact → (files : Files) (out : List ℕ) (all rest others : List KeptDigest) (ss : List SwitchFiles) (s : SwitchFiles) (n : ℕ) (more : List (List ℕ)) (k l : KeptDigest)
    → rest ≡ k ∷ l ∷ others → are_names (program_name n ∷ rows_name n ∷ more) rest ≡ true → s.number ≡ n → SoFar files out all rest ss → SwitchWell out n k.digest l.digest s files
    → SoFar files out all others (ss ++ s ∷ [])
one_more exact loads files out all rest others ss s n more k l e named is h well =
    let here = names n more k l others (subst (λ r. are_names (program_name n ∷ rows_name n ∷ more) r ≡ true) e named) in
    let two = e ∙ two_named n more k l others here ∙ ap (λ m. kept (program_name m) k.digest ∷ kept (rows_name m) l.digest ∷ others) (sym is) in
    more_here exact loads files out all others ss s k.digest l.digest (subst (λ r. SoFar files out all r ss) two h) (subst (λ m. SwitchWell out m k.digest l.digest s files) (sym is) well)

pub others_named : (n : ℕ) (more : List (List ℕ)) (rest others : List KeptDigest) (k l : KeptDigest) → rest ≡ k ∷ l ∷ others → are_names (program_name n ∷ rows_name n ∷ more) rest ≡ true
    → are_names more others ≡ true
others_named n more rest others k l e named = (names n more k l others (subst (λ r. are_names (program_name n ∷ rows_name n ∷ more) r ≡ true) e named)).others

-- ---- the turn of a switch

pub up_to : (files : Files) (out : List ℕ) (network : NetFile) (rest others : List KeptDigest) (ss : List SwitchFiles) (n : ℕ) (after : List ℕ) (more : List (List ℕ)) (k l : KeptDigest)
    → rest ≡ k ∷ l ∷ others → are_names (program_name n ∷ rows_name n ∷ more) rest ≡ true → network.switches ≡ switch_numbers ss ++ n ∷ after → NetReads files out network
    → SoFar files out network.files rest ss → UpTo files out n k.digest l.digest
up_to files out network rest others ss n after more k l e named numbers reads h =
    let here = names n more k l others (subst (λ r. are_names (program_name n ∷ rows_name n ∷ more) r ≡ true) e named) in
    record {
      network = network;
      reads = reads;
      before = ss;
      after = after;
      numbers = numbers;
      first = h.first;
      rest = others;
      digests = h.parts ∙ ap (λ r. h.first ++ r) (e ∙ two_named n more k l others here);
      before_reads = h.reads;
      before_short = h.short;
    }

-- ---- all switches

no_more : (rest : List KeptDigest) → are_names [] rest ≡ true → rest ≡ []
no_more [] h = refl
no_more (k ∷ ks) h = absurd cc

pub all_read : (files : Files) (out : List ℕ) (network : NetFile) (rest : List KeptDigest) (ss : List SwitchFiles) → are_names [] rest ≡ true → switch_numbers ss ≡ network.switches
    → SoFar files out network.files rest ss → AllWell out network ss files
all_read files out network rest ss named numbers h =
    let all : network.files ≡ h.first = h.parts ∙ ap (λ r. h.first ++ r) (no_more rest named) ∙ append-nil h.first in
    (subst (λ ns. SwitchesRead files out network.files ns ss) numbers (subst (λ ks. SwitchesRead files out ks (switch_numbers ss) ss) (sym all) h.reads), h.short)

-- ---- lists of the code

pub named_from : (ns : List ℕ) (i : ℕ) (rest : List KeptDigest) → i < length ns → are_names (file_names (drop i ns)) rest ≡ true
    → are_names (program_name (get_or ns i 0) ∷ rows_name (get_or ns i 0) ∷ file_names (drop (i + 1) ns)) rest ≡ true
named_from ns i rest h named = subst (λ ms. are_names (file_names ms) rest ≡ true) (drop_more ns i 0 h) named

pub named_end : (ns : List ℕ) (i : ℕ) (rest : List KeptDigest) → length ns ≤ i → are_names (file_names (drop i ns)) rest ≡ true → are_names [] rest ≡ true
named_end ns i rest h named = subst (λ ms. are_names (file_names ms) rest ≡ true) (drop_all i ns h) named

pub numbers_end : (ns : List ℕ) (i : ℕ) (all : List ℕ) → length ns ≤ i → all ≡ take i ns → all ≡ ns
numbers_end ns i all h e = e ∙ take_all i ns h

pub numbers_from : (ns : List ℕ) (i : ℕ) (before : List ℕ) → i < length ns → before ≡ take i ns → ns ≡ before ++ get_or ns i 0 ∷ drop (i + 1) ns
numbers_from ns i before h b = sym (take-append-drop i ns) ∙ ap (λ r. take i ns ++ r) (drop_more ns i 0 h) ∙ ap (λ t. t ++ get_or ns i 0 ∷ drop (i + 1) ns) (sym b)

pub numbers_more : (ns : List ℕ) (i : ℕ) (ss now : List LoadedSwitch) (s : LoadedSwitch) → i < length ns → now ≡ ss ++ s ∷ [] → s.number ≡ get_or ns i 0
    → switch_numbers (map switch_in ss) ≡ take i ns → switch_numbers (map switch_in now) ≡ take (i + 1) ns
numbers_more ns i ss now s h p is b =
    ap (λ x. switch_numbers (map switch_in x)) p ∙ ap switch_numbers (map_push switch_in ss s) ∙ map_push (λ (x : SwitchFiles). x.number) (map switch_in ss) (switch_in s)
    ∙ ap (λ t. t ++ s.number ∷ []) b ∙ ap (λ (m : ℕ). take i ns ++ m ∷ []) is ∙ sym (take_more ns i 0 h)

pub two_kept : (rest others : List code-kept.KeptDigest) (k l : code-kept.KeptDigest) → rest ≡ k ∷ l ∷ others → map kept_of rest ≡ kept_of k ∷ kept_of l ∷ map kept_of others
two_kept rest others k l e = ap (map kept_of) e

pub well_pushed : (files : Files) (out : List ℕ) (all others : List KeptDigest) (ss now : List LoadedSwitch) (s : LoadedSwitch) → now ≡ ss ++ s ∷ []
    → SoFar files out all others (map switch_in ss ++ switch_in s ∷ []) → SoFar files out all others (map switch_in now)
well_pushed files out all others ss now s e h = subst (SoFar files out all others) (sym (ap (map switch_in) e ∙ map_push switch_in ss s)) h

-- the digests are those that were given
pub well_given : (files : Files) (out : List ℕ) (n : ℕ) (p q x y : List ℕ) (s : SwitchFiles) → x ≡ p → y ≡ q → SwitchWell out n x y s files → SwitchWell out n p q s files
well_given files out n p q x y s e h w = subst (λ a. SwitchWell out n a q s files) e (subst (λ b. SwitchWell out n x b s files) h w)

pub up_given : (files : Files) (out : List ℕ) (n : ℕ) (p q x y : List ℕ) → x ≡ p → y ≡ q → UpTo files out n p q → UpTo files out n x y
up_given files out n p q x y e h w = subst (λ a. UpTo files out n a y) (sym e) (subst (λ b. UpTo files out n p b) (sym h) w)
