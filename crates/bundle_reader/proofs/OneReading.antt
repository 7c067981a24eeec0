-- The files of a bundle are read in one way: they give one network, or have one first fault.
use Rattle.std.proofs.Common.{◌≡◌, ◌⊎◌, inl, inr, ℕ, ◌<◌, true, IsTrue, List, [], ◌∷◌, ◌++◌, length, Option, Some, None, Ok, refl, sym, ap, ap₂, ◌∙◌, subst}
use Rattle.std.specs.Str.{bytes_eq}
use Rattle.std.proofs.lemmas.Bool.{and_from}
use Rattle.std.proofs.lemmas.List.{append_assoc}
use Rattle.std.proofs.lemmas.Slice.Eq.{bytes_eq-Decides}
use Rattle.cocoon_num.specs.Lists.{each}
use Rattle.cocoon_io.specs.Files.{Files}
use Rattle.cocoon_io.specs.declared.folder.FolderFault.TheVariants.{Failed, TooLong, NoMemory as Wanting}
use Rattle.p4_ir.specs.NetFits.{switch_numbers}
use Rattle.p4_ir.specs.NetTree.{NetData, SwitchFiles}
use Rattle.p4_ir.specs.P4Tree as tree
use Rattle.p4_read.specs.declared.fault.P4Fault.{P4Fault}
use Rattle.net_bundle.specs.BundleNames.{digest_of, program_name, rows_name}
use Rattle.net_bundle.specs.NetJson.{KeptDigest, NetFile, net_data, rows_data}
use Rattle.net_bundle.specs.Network.{SwitchReads, SwitchesRead, is_digest}
use Rattle.net_bundle.specs.declared.file.BundleFile.{BundleFile}
use Rattle.net_bundle.specs.declared.file.BundleFile.TheVariants.{Program, Rows, Certificates, Network}
use Rattle.net_bundle.specs.NetForm.{are_names, file_fits, file_names, kept_fits, net_form}
use Rattle.json_forms.specs.Reading.{Answered}
use Rattle.json_forms.specs.declared.fault.FormFault.TheVariants as form
use Rattle.bundle_reader.specs.OneReading.{IsOfFiles, OneReading}
use Rattle.bundle_reader.specs.Readings.{AllShort, Fresh, IsFirstFault, IsShort, NetReads, NoProgram, ReadsAs, Turn, Unformed, UpTo}
use Rattle.bundle_reader.specs.declared.fault.ReadFault.{ReadFault}
use Rattle.bundle_reader.specs.declared.fault.ReadFault.TheVariants.{Missing, Folder, Stale, NotJson, P4, Shape, Load, NoMemory}
use Rattle.bundle_reader.proofs.OneFile.{Fails, Has, Lacks, Malformed, OneAnswer, answered_same, answers, bad, fails_or_good, fails_same, has_same, json_ways, lacks, long, missing, no_json, no_program, no_shape, ok_same, stale}
use Rattle.bundle_reader.proofs.OneSwitch.{SwitchFails, Well, by_load, by_program, by_rows, fails_or_well, switch_same, well_same}
use Rattle.bundle_reader.proofs.Prefix.{LoadExact, RowsExact}
use Rattle.bundle_reader.proofs.Whole.{NetExact, net_with}

-- what is cited: a text has one answer, and the forms and the loading test say what their laws say
pub record Laws : Type 0 where
  pub answer : OneAnswer
  pub net_exact : NetExact
  pub rows_exact : RowsExact
  pub load_exact : LoadExact
  pub digest_fits : (bytes : List ℕ) → IsTrue (is_digest (digest_of bytes))

-- ---- switches one after another

abbrev kept : List ℕ → List ℕ → KeptDigest
kept name digest = record { name = name; digest = digest }

-- the digests of the files of a switch, and others
abbrev two : ℕ → (program rows : List ℕ) → List KeptDigest → List KeptDigest
two n program rows rest = kept (program_name n) program ∷ kept (rows_name n) rows ∷ rest

-- the first of these switches whose files are not well has this fault
abbrev StopsAt : Files → (out : List ℕ) → List KeptDigest → List ℕ → ReadFault → Type 0
StopsAt files out all [] f = ⊥
StopsAt files out all (n ∷ ns) f =
    (program rows : List ℕ) × (rest : List KeptDigest) × (all ≡ two n program rows rest)
    × (SwitchFails files out n program rows f ⊎ ((p : tree.Program) × (r : tree.RowsFile) × Well files out n program rows p r × StopsAt files out rest ns f))

-- the files of all of them are well
abbrev pub AllRead : Files → (out : List ℕ) → List KeptDigest → List ℕ → List SwitchFiles → Type 0
AllRead files out all [] [] = Unit {0}
AllRead files out all [] (s ∷ ss) = ⊥
AllRead files out all (n ∷ ns) [] = ⊥
AllRead files out all (n ∷ ns) (s ∷ ss) =
    (program rows : List ℕ) × (rest : List KeptDigest) × (all ≡ two n program rows rest) × (s.number ≡ n) × Well files out n program rows s.program s.rows × AllRead files out rest ns ss

record SameTwo (program rows others lines : List ℕ) (rest more : List KeptDigest) : Type 0 where
  program_same : program ≡ others
  rows_same : rows ≡ lines
  rest_same : rest ≡ more

two_parts : (n : ℕ) (program rows others lines : List ℕ) (rest more : List KeptDigest) → two n program rows rest ≡ two n others lines more → SameTwo program rows others lines rest more
two_parts n program rows others lines rest more e =
    let first : kept (program_name n) program ≡ kept (program_name n) others = cc in
    let second : kept (rows_name n) rows ≡ kept (rows_name n) lines = cc in
    record { program_same = ap (λ (k : KeptDigest). k.digest) first; rows_same = ap (λ (k : KeptDigest). k.digest) second; rest_same = cc }

fails_given : (files : Files) (out : List ℕ) (n : ℕ) (program rows others lines : List ℕ) (f : ReadFault) → program ≡ others → rows ≡ lines → SwitchFails files out n program rows f
    → SwitchFails files out n others lines f
fails_given files out n program rows others lines f d e x = subst (λ a. SwitchFails files out n a lines f) d (subst (λ b. SwitchFails files out n program b f) e x)

well_given : (files : Files) (out : List ℕ) (n : ℕ) (program rows others lines : List ℕ) (p : tree.Program) (r : tree.RowsFile) → program ≡ others → rows ≡ lines → Well files out n program rows p r
    → Well files out n others lines p r
well_given files out n program rows others lines p r d e x = subst (λ a. Well files out n a lines p r) d (subst (λ b. Well files out n program b p r) e x)

stops_same : OneAnswer → (files : Files) (out : List ℕ) (all : List KeptDigest) (ns : List ℕ) (f g : ReadFault) → StopsAt files out all ns f → StopsAt files out all ns g → f ≡ g
stops_same law files out all [] f g x y = absurd x
stops_same law files out all (n ∷ ns) f g (program, rows, rest, is, inl x) (others, lines, more, at, inl y) =
    let e = two_parts n program rows others lines rest more (sym is ∙ at) in
    switch_same law files out n others lines f g (fails_given files out n program rows others lines f e.program_same e.rows_same x) y
stops_same law files out all (n ∷ ns) f g (program, rows, rest, is, inl x) (others, lines, more, at, inr (p, r, well, y)) =
    let e = two_parts n program rows others lines rest more (sym is ∙ at) in
    absurd (fails_or_well law files out n others lines f p r (fails_given files out n program rows others lines f e.program_same e.rows_same x) well)
stops_same law files out all (n ∷ ns) f g (program, rows, rest, is, inr (p, r, well, x)) (others, lines, more, at, inl y) =
    let e = two_parts n program rows others lines rest more (sym is ∙ at) in
    absurd (fails_or_well law files out n others lines g p r y (well_given files out n program rows others lines p r e.program_same e.rows_same well))
stops_same law files out all (n ∷ ns) f g (program, rows, rest, is, inr (p, r, well, x)) (others, lines, more, at, inr (q, t, well', y)) =
    let e = two_parts n program rows others lines rest more (sym is ∙ at) in
    stops_same law files out more ns f g (subst (λ k. StopsAt files out k ns f) e.rest_same x) y

stops_or_read : OneAnswer → (files : Files) (out : List ℕ) (all : List KeptDigest) (ns : List ℕ) (ss : List SwitchFiles) (f : ReadFault) → StopsAt files out all ns f → AllRead files out all ns ss → ⊥
stops_or_read law files out all [] ss f x y = x
stops_or_read law files out all (n ∷ ns) [] f x y = y
stops_or_read law files out all (n ∷ ns) (s ∷ ss) f (program, rows, rest, is, inl x) (others, lines, more, at, number, well, y) =
    let e = two_parts n program rows others lines rest more (sym is ∙ at) in
    fails_or_well law files out n others lines f s.program s.rows (fails_given files out n program rows others lines f e.program_same e.rows_same x) well
stops_or_read law files out all (n ∷ ns) (s ∷ ss) f (program, rows, rest, is, inr (p, r, here, x)) (others, lines, more, at, number, well, y) =
    let e = two_parts n program rows others lines rest more (sym is ∙ at) in
    stops_or_read law files out more ns ss f (subst (λ k. StopsAt files out k ns f) e.rest_same x) y

abbrev switch_with : ℕ → tree.Program → tree.RowsFile → SwitchFiles
switch_with number program rows = record { number = number; program = program; rows = rows }

all_same : OneAnswer → (files : Files) (out : List ℕ) (all : List KeptDigest) (ns : List ℕ) (ss us : List SwitchFiles) → AllRead files out all ns ss → AllRead files out all ns us → ss ≡ us
all_same law files out all [] [] [] x y = refl
all_same law files out all [] [] (u ∷ us) x y = absurd y
all_same law files out all [] (s ∷ ss) us x y = absurd x
all_same law files out all (n ∷ ns) [] us x y = absurd x
all_same law files out all (n ∷ ns) (s ∷ ss) [] x y = absurd y
all_same law files out all (n ∷ ns) (s ∷ ss) (u ∷ us) (program, rows, rest, is, number, well, x) (others, lines, more, at, number', well', y) =
    let e = two_parts n program rows others lines rest more (sym is ∙ at) in
    let same = well_same law files out n others lines s.program u.program s.rows u.rows (well_given files out n program rows others lines s.program s.rows e.program_same e.rows_same well) well' in
    let one : s ≡ u = ap₂ (λ a b. switch_with a b s.rows) (number ∙ sym number') same.program ∙ ap (switch_with u.number u.program) same.rows in
    ap₂ (λ a b. a ∷ b) one (all_same law files out more ns ss us (subst (λ k. AllRead files out k ns ss) e.rest_same x) y)

-- ---- the switches of a network are well

switch_well : Laws → (files : Files) (out : List ℕ) (first : List KeptDigest) (s : SwitchFiles) → (r : SwitchReads files out first s) → IsShort files out (Program s.number) → IsShort files out (Rows s.number)
    → Well files out s.number (digest_of r.program_text) (digest_of r.rows_text) s.program s.rows
switch_well laws files out first s r program rows = record {
  reads = (r.program_text, (r.program_is, program r.program_text r.program_is), refl, r.program_reads);
  rows_read = (
    r.rows_text,
    (r.rows_are, rows r.rows_text r.rows_are),
    refl,
    record { value = rows_data s.rows; is = r.rows_read; answers = (laws.rows_exact (rows_data s.rows) s.rows).1 (refl, r.rows_fit) },
  );
  loads = (laws.load_exact s.program s.rows).1 r.loads;
}

more_kept : (files : Files) (out : List ℕ) (n : ℕ) (first rest : List KeptDigest) (s : SwitchFiles) → (r : SwitchReads files out first s) → s.number ≡ n
    → first ++ rest ≡ two n (digest_of r.program_text) (digest_of r.rows_text) rest
more_kept files out n first rest s r e =
    ap (λ k. k ++ rest) r.digests ∙ ap (λ m. two m (digest_of r.program_text) (digest_of r.rows_text) rest) e

all_read : Laws → (files : Files) (out : List ℕ) (all : List KeptDigest) (ns : List ℕ) (ss : List SwitchFiles) → SwitchesRead files out all ns ss → AllShort files out ss → AllRead files out all ns ss
all_read laws files out all [] [] h short = tt
all_read laws files out all [] (s ∷ ss) h short = absurd h
all_read laws files out all (n ∷ ns) [] h short = absurd h
all_read laws files out all (n ∷ ns) (s ∷ ss) (first, rest, number, parts, here, more) short = (
  digest_of here.program_text,
  digest_of here.rows_text,
  rest,
  parts ∙ more_kept files out n first rest s here number,
  number,
  subst (λ m. Well files out m (digest_of here.program_text) (digest_of here.rows_text) s.program s.rows) number (switch_well laws files out first s here short.0 short.1),
  all_read laws files out rest ns ss more short.2,
)

-- and what comes after them has the fault
stops_after : Laws → (files : Files) (out : List ℕ) (all rest : List KeptDigest) (ns after : List ℕ) (ss : List SwitchFiles) (f : ReadFault) → SwitchesRead files out all ns ss → AllShort files out ss
    → StopsAt files out rest after f → StopsAt files out (all ++ rest) (ns ++ after) f
stops_after laws files out all rest [] after [] f h short x = subst (λ k. StopsAt files out (k ++ rest) after f) (sym h) x
stops_after laws files out all rest [] after (s ∷ ss) f h short x = absurd h
stops_after laws files out all rest (n ∷ ns) after [] f h short x = absurd h
stops_after laws files out all rest (n ∷ ns) after (s ∷ ss) f (first, others, number, parts, here, more) short x = (
  digest_of here.program_text,
  digest_of here.rows_text,
  others ++ rest,
  ap (λ k. k ++ rest) parts ∙ append_assoc first others rest ∙ more_kept files out n first (others ++ rest) s here number,
  inr (
    s.program,
    s.rows,
    subst (λ m. Well files out m (digest_of here.program_text) (digest_of here.rows_text) s.program s.rows) number (switch_well laws files out first s here short.0 short.1),
    stops_after laws files out others rest ns after ss f more short.2 x,
  ),
)

-- ---- the file of the network

same_bytes : (x : List ℕ) → bytes_eq x x ≡ true
same_bytes x = (bytes_eq-Decides x x).1 refl

record Fitting (all : List KeptDigest) (ns : List ℕ) : Type 0 where
  digests : IsTrue (each kept_fits all)
  names : IsTrue (are_names (file_names ns) all)

two_fit : Laws → (n : ℕ) (ns : List ℕ) (a b : List ℕ) (rest : List KeptDigest) → Fitting rest ns → Fitting (two n (digest_of a) (digest_of b) rest) (n ∷ ns)
two_fit laws n ns a b rest h = record {
  digests = and_from _ _ (laws.digest_fits a) (and_from _ _ (laws.digest_fits b) h.digests);
  names = and_from (bytes_eq (program_name n) (program_name n)) _ (same_bytes (program_name n)) (and_from (bytes_eq (rows_name n) (rows_name n)) _ (same_bytes (rows_name n)) h.names);
}

switches_fit : Laws → (files : Files) (out : List ℕ) (all : List KeptDigest) (ns : List ℕ) (ss : List SwitchFiles) → SwitchesRead files out all ns ss → Fitting all ns
switches_fit laws files out all [] [] h = subst (λ k. Fitting k []) (sym h) (record { digests = refl; names = refl })
switches_fit laws files out all [] (s ∷ ss) h = absurd h
switches_fit laws files out all (n ∷ ns) [] h = absurd h
switches_fit laws files out all (n ∷ ns) (s ∷ ss) (first, rest, number, parts, here, more) =
    subst (λ k. Fitting k (n ∷ ns)) (sym (parts ∙ more_kept files out n first rest s here number)) (two_fit laws n ns here.program_text here.rows_text rest (switches_fit laws files out rest ns ss more))

-- the network is that of a file, and of the files of its switches
pub record Given (files : Files) (out : List ℕ) (n : NetData) : Type 0 where
  pub file : NetFile
  pub reads : NetReads files out file
  pub whole : n ≡ net_with file.ports n.switches file.links file.hosts
  pub all : AllRead files out file.files file.switches n.switches

pub given : Laws → (files : Files) (out : List ℕ) (n : NetData) → ReadsAs files out n → Given files out n
given laws files out n (network, net_short, short) =
    let fitting = switches_fit laws files out network.file.files network.file.switches n.switches network.switches in
    let fits : IsTrue (file_fits network.file) = and_from _ _ (and_from _ _ network.fits fitting.digests) fitting.names in
    record {
      file = network.file;
      reads = (
        network.text,
        (network.text_is, net_short network.text network.text_is),
        record { value = net_data network.file; is = network.json; answers = (laws.net_exact (net_data network.file) network.file).1 (refl, fits) },
      );
      whole = ap (λ m. net_with m n.switches n.links n.hosts) network.ports ∙ ap₂ (λ k h. net_with network.file.ports n.switches k h) network.links network.hosts;
      all = all_read laws files out network.file.files network.file.switches n.switches network.switches short;
    }

net_has : (files : Files) (out : List ℕ) (file : NetFile) → (r : NetReads files out file) → Has files out Network None r.0
net_has files out file (text, held, answered) = record { held = held; agrees = tt }

pub one_file : (files : Files) (out : List ℕ) (f g : NetFile) → NetReads files out f → NetReads files out g → f ≡ g
one_file files out f g x y =
    let text = has_same files out Network None x.0 y.0 (net_has files out f x) (net_has files out g y) in
    ok_same f g (answered_same net_form y.0 _ _ (subst (λ t. Answered net_form t (Ok f)) text x.2) y.2)

-- ---- the whole

data BundleFails (files : Files) (out : List ℕ) (f : ReadFault) : Type 0 where
  by_network : Fails files out Network None (Malformed Network net_form) f → BundleFails files out f
  by_switches : (network : NetFile) → NetReads files out network → StopsAt files out network.files network.switches f → BundleFails files out f

pub network_or_fails : (files : Files) (out : List ℕ) (f : ReadFault) (network : NetFile) → Fails files out Network None (Malformed Network net_form) f → NetReads files out network → ⊥
network_or_fails files out f network x reads =
    fails_or_good files out Network None _ (Malformed Network net_form) (json_ways Network net_form) f reads.0 x (net_has files out network reads) (network, reads.2)

bundle_same : OneAnswer → (files : Files) (out : List ℕ) (f g : ReadFault) → BundleFails files out f → BundleFails files out g → f ≡ g
bundle_same law files out f g (by_network x) (by_network y) = fails_same files out Network None _ (Malformed Network net_form) (json_ways Network net_form) f g x y
bundle_same law files out f g (by_network x) (by_switches network reads y) = absurd (network_or_fails files out f network x reads)
bundle_same law files out f g (by_switches network reads x) (by_network y) = absurd (network_or_fails files out g network y reads)
bundle_same law files out f g (by_switches network reads x) (by_switches other reads' y) =
    stops_same law files out other.files other.switches f g (subst (λ (n : NetFile). StopsAt files out n.files n.switches f) (one_file files out network other reads reads') x) y

fails_or_given : OneAnswer → (files : Files) (out : List ℕ) (f : ReadFault) (n : NetData) → BundleFails files out f → Given files out n → ⊥
fails_or_given law files out f n (by_network x) g = network_or_fails files out f g.file x g.reads
fails_or_given law files out f n (by_switches network reads x) g =
    stops_or_read law files out g.file.files g.file.switches n.switches f (subst (λ (k : NetFile). StopsAt files out k.files k.switches f) (one_file files out network g.file reads g.reads) x) g.all

given_same : OneAnswer → (files : Files) (out : List ℕ) (m n : NetData) → Given files out m → Given files out n → m ≡ n
given_same law files out m n g h =
    let file = one_file files out g.file h.file g.reads h.reads in
    let switches = all_same law files out h.file.files h.file.switches m.switches n.switches (subst (λ (k : NetFile). AllRead files out k.files k.switches m.switches) file g.all) h.all in
    g.whole ∙ ap₂ (λ (k : NetFile) ss. net_with k.ports ss k.links k.hosts) file switches ∙ sym h.whole

-- ---- each first fault is one of these

switch_stops : Laws → (files : Files) (out : List ℕ) (n : ℕ) (program rows : List ℕ) (f : ReadFault) → UpTo files out n program rows → SwitchFails files out n program rows f → BundleFails files out f
switch_stops laws files out n program rows f up x =
    let here : StopsAt files out (two n program rows up.rest) (n ∷ up.after) f = (program, rows, up.rest, refl, inl x) in
    let before = stops_after laws files out up.first (two n program rows up.rest) (switch_numbers up.before) (n ∷ up.after) up.before f up.before_reads up.before_short here in
    let stops = subst (λ k. StopsAt files out k up.network.switches f) (sym up.digests) (subst (λ ns. StopsAt files out (up.first ++ two n program rows up.rest) ns f) (sym up.numbers) before) in
    by_switches up.network up.reads stops

lacking : Laws → (files : Files) (out : List ℕ) (file : BundleFile) (digest : Option (List ℕ)) (f : ReadFault) → Turn files out file digest → Lacks files out file digest f → BundleFails files out f
lacking laws files out Network digest f is x = by_network (lacks (subst (λ k. Lacks files out Network k f) is x))
lacking laws files out (Program n) digest f (program, rows, is, up) x =
    switch_stops laws files out n program rows f up (by_program (lacks (subst (λ k. Lacks files out (Program n) k f) is x)))
lacking laws files out (Rows n) digest f (program, rows, is, up, p, reads) x =
    switch_stops laws files out n program rows f up (by_rows p reads (lacks (subst (λ k. Lacks files out (Rows n) k f) is x)))
lacking laws files out Certificates digest f turn x = absurd turn

no_json_at : Laws → (files : Files) (out : List ℕ) (file : BundleFile) (bytes : List ℕ) → Fresh files out file bytes → Unformed file bytes form.NotJson → BundleFails files out (NotJson file)
no_json_at laws files out Network bytes (digest, is, held, agrees) x =
    by_network (bad bytes (subst (λ k. Has files out Network k bytes) is (record { held = held; agrees = agrees })) (no_json x refl))
no_json_at laws files out (Rows n) bytes (digest, (program, rows, is, up, p, reads), held, agrees) x =
    switch_stops laws files out n program rows (NotJson (Rows n)) up
    (by_rows p reads (bad bytes (subst (λ k. Has files out (Rows n) k bytes) is (record { held = held; agrees = agrees })) (no_json x refl)))
no_json_at laws files out (Program n) bytes fresh x = absurd x
no_json_at laws files out Certificates bytes fresh x = absurd x

no_shape_at : Laws → (files : Files) (out : List ℕ) (file : BundleFile) (bytes pointer : List ℕ) → Fresh files out file bytes → Unformed file bytes (form.Shape pointer) → BundleFails files out (Shape file pointer)
no_shape_at laws files out Network bytes pointer (digest, is, held, agrees) x =
    by_network (bad bytes (subst (λ k. Has files out Network k bytes) is (record { held = held; agrees = agrees })) (no_shape pointer x refl))
no_shape_at laws files out (Rows n) bytes pointer (digest, (program, rows, is, up, p, reads), held, agrees) x =
    switch_stops laws files out n program rows (Shape (Rows n) pointer) up
    (by_rows p reads (bad bytes (subst (λ k. Has files out (Rows n) k bytes) is (record { held = held; agrees = agrees })) (no_shape pointer x refl)))
no_shape_at laws files out (Program n) bytes pointer fresh x = absurd x
no_shape_at laws files out Certificates bytes pointer fresh x = absurd x

no_program_at : Laws → (files : Files) (out : List ℕ) (file : BundleFile) (bytes : List ℕ) (fault : P4Fault) → Fresh files out file bytes → NoProgram file bytes fault → BundleFails files out (P4 file fault)
no_program_at laws files out (Program n) bytes fault (digest, (program, rows, is, up), held, agrees) x =
    switch_stops laws files out n program rows (P4 (Program n) fault) up
    (by_program (bad bytes (subst (λ k. Has files out (Program n) k bytes) is (record { held = held; agrees = agrees })) (no_program fault (answers n bytes fault x) refl)))
no_program_at laws files out (Rows n) bytes fault fresh x = absurd x
no_program_at laws files out Network bytes fault fresh x = absurd x
no_program_at laws files out Certificates bytes fault fresh x = absurd x

fails : Laws → (files : Files) (out : List ℕ) (f : ReadFault) → IsOfFiles f → IsFirstFault files out f → BundleFails files out f
fails laws files out (Missing file) told (digest, turn, none) = lacking laws files out file digest (Missing file) turn (missing none refl)
fails laws files out (Folder file Failed) told h = absurd told
fails laws files out (Folder file (TooLong most)) told (digest, bytes, turn, is, limit, over) =
    lacking laws files out file digest (Folder file (TooLong most)) turn (long bytes is (subst (λ m. m < length bytes) limit over) (ap (λ m. Folder file (TooLong m)) limit))
fails laws files out (Folder file Wanting) told h = absurd h
fails laws files out (Stale file found mark) told (bytes, turn, held, is, other) =
    lacking laws files out file (Some mark) (Stale file found mark) turn (stale mark bytes held refl (λ e. other (is ∙ e)) (ap (λ d. Stale file d mark) is))
fails laws files out (NotJson file) told (bytes, fresh, x) = no_json_at laws files out file bytes fresh x
fails laws files out (P4 file fault) told (bytes, fresh, x) = no_program_at laws files out file bytes fault fresh x
fails laws files out (Shape file pointer) told (bytes, fresh, x) = no_shape_at laws files out file bytes pointer fresh x
fails laws files out (Load (Rows n) fault) told (program, rows, p, r, up, reads, rows_read, refused) =
    switch_stops laws files out n program rows (Load (Rows n) fault) up (by_load p r fault reads rows_read refused refl)
fails laws files out (Load (Program n) fault) told h = absurd h
fails laws files out (Load Network fault) told h = absurd h
fails laws files out (Load Certificates fault) told h = absurd h
fails laws files out NoMemory told h = absurd told

pub one_reading : Laws → (files : Files) (out : List ℕ) → OneReading files out
one_reading laws files out = record {
  one_network = λ m n x y. given_same laws.answer files out m n (given laws files out m x) (given laws files out n y);
  one_fault = λ f g a b x y. bundle_same laws.answer files out f g (fails laws files out f a x) (fails laws files out g b y);
  no_fault = λ n f a x y. fails_or_given laws.answer files out f n (fails laws files out f a y) (given laws files out n x);
}
