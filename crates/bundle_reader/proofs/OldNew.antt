-- What is read after a write that stopped, and that one file of the network gives one network.
use Rattle.std.proofs.Common.{◌≡◌, ◌⊎◌, inl, inr, ℕ, zero, suc, ◌+◌, List, [], ◌∷◌, ◌++◌, map, take, Option, Some, None, refl, sym, ap, ap₂, subst, ◌∙◌, arith}
use Rattle.std.specs.FinMap.{get}
use Rattle.std.proofs.lemmas.List.{append_assoc}
use Rattle.serde_json.specs.Data.{Data, Items, item, Members, member, object}
use Rattle.serde_json.specs.Read.{read}
use Rattle.serde_json.specs.View.{items_of}
use Rattle.cocoon_io.specs.Files.{Files}
use Rattle.p4_ir.specs.NetTree.{NetData, SwitchFiles}
use Rattle.net_bundle.specs.Bundle.{MadeFile, all_switch_files, bundle, certificate_files, certificates_name, net_text}
use Rattle.net_bundle.specs.BundleNames.{digest_of, file_name, net_name, program_name, rows_name}
use Rattle.json_forms.specs.Values.{array_data, number_data}
use Rattle.net_bundle.specs.NetJson.{KeptDigest, NetFile, digest_data, net_data}
use Rattle.net_bundle.specs.Network.{InBundle, SwitchReads, SwitchesRead}
use Rattle.net_bundle.specs.Writing.{NotWritten, SomeWritten, with_files}
use Rattle.net_bundle.specs.declared.fault.BundleFault.{BundleFault}
use Rattle.net_bundle.specs.declared.fault.BundleFault.TheVariants.{Folder, Limit, NoMemory}
use Rattle.net_bundle.specs.declared.file.BundleFile.TheVariants.{Program, Rows, Network}
use Rattle.bundle_reader.specs.Mixed.{NoTwoAlike, SameNetFile}
use Rattle.bundle_reader.specs.OneReading.{OneReading}
use Rattle.bundle_reader.specs.Readings.{AllShort, IsShort, ReadsAs}
use Rattle.bundle_reader.proofs.Put.{HasName, after, apart}

-- ---- which files were put in

pub some_written : (out : List ℕ) (fs : List MadeFile) (was is : Option Files) (fault : BundleFault) → NotWritten out fs was is fault → SomeWritten out fs was is
some_written out fs was is (Limit file) h = (0, h.1)
some_written out fs was is (Folder file fault) h = elim h.2.left [ inl e ↦ (h.2.index, e) | inr e ↦ (h.2.index + 1, e) ]
some_written out fs was is NoMemory (inl e) = (0, e)
some_written out fs was is NoMemory (inr h) = h.1

-- the last is among the first so many, or it is not
last_taken : (k : ℕ) (fs : List MadeFile) (f : MadeFile) → (take k (fs ++ f ∷ []) ≡ take k fs) ⊎ (take k (fs ++ f ∷ []) ≡ fs ++ f ∷ [])
last_taken zero [] f = inl refl
last_taken zero (g ∷ fs) f = inl refl
last_taken (suc zero) [] f = inr refl
last_taken (suc (suc k)) [] f = inr refl
last_taken (suc k) (g ∷ fs) f = elim (last_taken k fs f) [ inl e ↦ inl (ap (λ x. g ∷ x) e) | inr e ↦ inr (ap (λ x. g ∷ x) e) ]

-- ---- the file of the network, where it was not put in

abbrev NoneNamed : (out : List ℕ) → List MadeFile → List ℕ → Type 0
NoneNamed out fs name = ¬ HasName out fs name

taken_named : (out : List ℕ) (k : ℕ) (fs : List MadeFile) (name : List ℕ) → HasName out (take k fs) name → HasName out fs name
taken_named out zero [] name h = absurd h
taken_named out (suc k) [] name h = absurd h
taken_named out zero (f ∷ fs) name h = absurd h
taken_named out (suc k) (f ∷ fs) name (inl e) = inl e
taken_named out (suc k) (f ∷ fs) name (inr h) = inr (taken_named out k fs name h)

certificates_apart : (out : List ℕ) (certificates : Option (List ℕ)) → NoneNamed out (certificate_files certificates) (file_name out net_name)
certificates_apart out None h = h
certificates_apart out (Some held) (inl e) = apart out certificates_name net_name (λ h. let no : ◌≡◌ {A = ℕ} 99 110 = h in omega arith) e
certificates_apart out (Some held) (inr h) = h

others_apart : (out : List ℕ) (certificates : Option (List ℕ)) (ss : List SwitchFiles) → NoneNamed out (all_switch_files ss ++ certificate_files certificates) (file_name out net_name)
others_apart out certificates [] h = certificates_apart out certificates h
others_apart out certificates (s ∷ ss) (inl e) = apart out (program_name s.number) net_name (λ h. let no : ◌≡◌ {A = ℕ} 115 110 = h in omega arith) e
others_apart out certificates (s ∷ ss) (inr (inl e)) = apart out (rows_name s.number) net_name (λ h. let no : ◌≡◌ {A = ℕ} 115 110 = h in omega arith) e
others_apart out certificates (s ∷ ss) (inr (inr h)) = others_apart out certificates ss h

net_stays : (was is : Files) (out : List ℕ) (k : ℕ) (fs : List MadeFile) → NoneNamed out fs (file_name out net_name) → Some is ≡ with_files out (take k fs) (Some was)
    → get is (file_name out net_name) ≡ get was (file_name out net_name)
net_stays was is out k fs none e =
    elim (after out (take k fs) was is (file_name out net_name) e) [ inl h ↦ h | inr p ↦ absurd (none (taken_named out k fs (file_name out net_name) p.there)) ]

-- ---- the files of switches of which the same digests are kept

some_same : {A : Type 0} (x y : A) → ◌≡◌ {A = Option A} (Some x) (Some y) → x ≡ y
some_same x y e = cc

record SameTwo (a b c d : KeptDigest) (rest others : List KeptDigest) : Type 0 where
  one : a ≡ c
  two : b ≡ d
  rest_same : rest ≡ others

lists_same : (a b c d : KeptDigest) (rest others : List KeptDigest) → a ∷ b ∷ rest ≡ c ∷ d ∷ others → SameTwo a b c d rest others
lists_same a b c d rest others e = record { one = cc; two = cc; rest_same = cc }

two_same : (first prefix rest others kept : List KeptDigest) (a b c d : KeptDigest) → first ≡ a ∷ b ∷ [] → prefix ≡ c ∷ d ∷ [] → kept ≡ first ++ rest → kept ≡ prefix ++ others → SameTwo a b c d rest others
two_same first prefix rest others kept a b c d p q f g = lists_same a b c d rest others (sym (ap (λ l. l ++ rest) p) ∙ sym f ∙ g ∙ ap (λ l. l ++ others) q)

-- a name of a part of the switches is one of all
in_more : (out name : List ℕ) (s : SwitchFiles) (ss : List SwitchFiles) → InBundle out ss name → InBundle out (s ∷ ss) name
in_more out name s ss (inl e) = inl e
in_more out name s ss (inr (r, c, e)) = inr (r, (suc c.0, omega (arith, c.1), c.2), e)

none_alike : (was is : Files) (out : List ℕ) (s : SwitchFiles) (ss : List SwitchFiles) → NoTwoAlike out (s ∷ ss) was is → NoTwoAlike out ss was is
none_alike was is out s ss alike = λ name x y i. alike name x y (in_more out name s ss i)

program_in : (out : List ℕ) (s u : SwitchFiles) (ss : List SwitchFiles) → s.number ≡ u.number → InBundle out (s ∷ ss) (file_name out (program_name u.number))
program_in out s u ss e = inr (s, (0, omega arith, refl), inl (ap (λ (k : ℕ). file_name out (program_name k)) (sym e)))

rows_in : (out : List ℕ) (s u : SwitchFiles) (ss : List SwitchFiles) → s.number ≡ u.number → InBundle out (s ∷ ss) (file_name out (rows_name u.number))
rows_in out s u ss e = inr (s, (0, omega arith, refl), inr (ap (λ (k : ℕ). file_name out (rows_name k)) (sym e)))

-- a file of the same digest had these bytes
was_same : (was is : Files) (out : List ℕ) (ss : List SwitchFiles) → NoTwoAlike out ss was is → (name : ℕ → List ℕ) (m n : ℕ) (x y : List ℕ) → m ≡ n → InBundle out ss (file_name out (name n))
    → get was (file_name out (name m)) ≡ Some x → get is (file_name out (name n)) ≡ Some y → digest_of x ≡ digest_of y → get was (file_name out (name n)) ≡ Some y
was_same was is out ss alike name m n x y e i g h d =
    let under : get was (file_name out (name n)) ≡ Some x = subst (λ (k : ℕ). get was (file_name out (name k)) ≡ Some x) e g in
    under ∙ ap Some (alike (file_name out (name n)) x y i under h d)

switch_back : (was is : Files) (out : List ℕ) (first prefix : List KeptDigest) (s u : SwitchFiles) (ss : List SwitchFiles) → NoTwoAlike out (s ∷ ss) was is → s.number ≡ u.number
    → (r : SwitchReads was out first s) (q : SwitchReads is out prefix u) → digest_of r.program_text ≡ digest_of q.program_text → digest_of r.rows_text ≡ digest_of q.rows_text → SwitchReads was out prefix u
switch_back was is out first prefix s u ss alike e r q d c = record {
  program_text = q.program_text;
  rows_text = q.rows_text;
  program_is = was_same was is out (s ∷ ss) alike program_name s.number u.number r.program_text q.program_text e (program_in out s u ss e) r.program_is q.program_is d;
  rows_are = was_same was is out (s ∷ ss) alike rows_name s.number u.number r.rows_text q.rows_text e (rows_in out s u ss e) r.rows_are q.rows_are c;
  digests = q.digests;
  program_reads = q.program_reads;
  rows_read = q.rows_read;
  rows_fit = q.rows_fit;
  loads = q.loads;
}

switches_back : (was is : Files) (out : List ℕ) (kept : List KeptDigest) (ns : List ℕ) (ss us : List SwitchFiles) → NoTwoAlike out ss was is → SwitchesRead was out kept ns ss
    → SwitchesRead is out kept ns us → SwitchesRead was out kept ns us
switches_back was is out kept [] [] [] alike r q = q
switches_back was is out kept [] [] (u ∷ us) alike r q = absurd q
switches_back was is out kept [] (s ∷ ss) us alike r q = absurd r
switches_back was is out kept (n ∷ ns) [] us alike r q = absurd r
switches_back was is out kept (n ∷ ns) (s ∷ ss) [] alike r q = absurd q
switches_back was is out kept (n ∷ ns) (s ∷ ss) (u ∷ us) alike (first, rest, at, parts, here, more) (prefix, others, at', parts', here', more') =
    let same = two_same first prefix rest others kept _ _ _ _ here.digests here'.digests parts parts' in (
      prefix,
      others,
      at',
      parts',
      switch_back was is out first prefix s u ss alike (at ∙ sym at') here here' (ap (λ (k : KeptDigest). k.digest) same.one) (ap (λ (k : KeptDigest). k.digest) same.two),
      switches_back was is out others ns ss us (none_alike was is out s ss alike) (subst (λ k. SwitchesRead was out k ns ss) same.rest_same more) more',
    )

short_back : (was is : Files) (out : List ℕ) (kept : List KeptDigest) (ns : List ℕ) (ss us : List SwitchFiles) → SwitchesRead was out kept ns ss → SwitchesRead is out kept ns us → AllShort was out ss
    → AllShort was out us
short_back was is out kept [] [] [] r q h = tt
short_back was is out kept [] [] (u ∷ us) r q h = absurd q
short_back was is out kept [] (s ∷ ss) us r q h = absurd r
short_back was is out kept (n ∷ ns) [] us r q h = absurd r
short_back was is out kept (n ∷ ns) (s ∷ ss) [] r q h = absurd q
short_back was is out kept (n ∷ ns) (s ∷ ss) (u ∷ us) (first, rest, at, parts, here, more) (prefix, others, at', parts', here', more') h =
    let same = two_same first prefix rest others kept _ _ _ _ here.digests here'.digests parts parts' in
    let number : s.number ≡ u.number = at ∙ sym at' in (
      subst (λ (k : ℕ). IsShort was out (Program k)) number h.0,
      subst (λ (k : ℕ). IsShort was out (Rows k)) number h.1,
      short_back was is out others ns ss us (subst (λ k. SwitchesRead was out k ns ss) same.rest_same more) more' h.2,
    )

-- ---- the file of the network

object_same : (ms ns : Members) → object ms ≡ object ns → ms ≡ ns
object_same ms ns e = cc

member_same : (k l : List ℕ) (d e : Data) (ms ns : Members) → member k d ms ≡ member l e ns → (d ≡ e) × (ms ≡ ns)
member_same k l d e ms ns h = (cc, cc)

item_same : (d e : Data) (ds es : Items) → item d ds ≡ item e es → (d ≡ e) × (ds ≡ es)
item_same d e ds es h = (cc, cc)

list_same : {A : Type 0} (f : A → Data) → ((x y : A) → f x ≡ f y → x ≡ y) → (xs ys : List A) → items_of (map f xs) ≡ items_of (map f ys) → xs ≡ ys
list_same f one [] [] e = refl
list_same f one [] (y ∷ ys) e = absurd cc
list_same f one (x ∷ xs) [] e = absurd cc
list_same f one (x ∷ xs) (y ∷ ys) e =
    let h = item_same (f x) (f y) (items_of (map f xs)) (items_of (map f ys)) e in
    ap₂ (λ a b. a ∷ b) (one x y h.0) (list_same f one xs ys h.1)

array_same : {A : Type 0} (f : A → Data) → ((x y : A) → f x ≡ f y → x ≡ y) → (xs ys : List A) → array_data f xs ≡ array_data f ys → xs ≡ ys
array_same f one xs ys e =
    let h : items_of (map f xs) ≡ items_of (map f ys) = cc in
    list_same f one xs ys h

number_same : (m n : ℕ) → number_data m ≡ number_data n → m ≡ n
number_same m n e = cc

digest_same : (k l : KeptDigest) → digest_data k ≡ digest_data l → k ≡ l
digest_same k l e =
    let name : k.name ≡ l.name = cc in
    let digest : k.digest ≡ l.digest = cc in
    ap₂ (λ x y. kept_digest x y) name digest
  where
    kept_digest : List ℕ → List ℕ → KeptDigest
    kept_digest name digest = record { name = name; digest = digest }

-- files of one value keep the same digests of the same switches
record SameKept (f g : NetFile) : Type 0 where
  files : f.files ≡ g.files
  switches : f.switches ≡ g.switches

kept_same : (f g : NetFile) → net_data f ≡ net_data g → SameKept f g
kept_same f g e =
    let version = member_same _ _ _ _ _ _ (object_same _ _ e) in
    let design = member_same _ _ _ _ _ _ version.1 in
    let files = member_same _ _ _ _ _ _ design.1 in
    let hosts = member_same _ _ _ _ _ _ files.1 in
    let links = member_same _ _ _ _ _ _ hosts.1 in
    let ports = member_same _ _ _ _ _ _ links.1 in
    let switches = member_same _ _ _ _ _ _ ports.1 in
    record { files = array_same digest_data digest_same f.files g.files files.0; switches = array_same number_data number_same f.switches g.switches switches.0 }

-- ---- networks

reads_back : (was is : Files) (out : List ℕ) (old n : NetData) → SameNetFile out was is → NoTwoAlike out old.switches was is → ReadsAs was out old → ReadsAs is out n → ReadsAs was out n
reads_back was is out old n stays alike was_reads is_reads =
    let a = was_reads.0 in
    let b = is_reads.0 in
    let text : a.text ≡ b.text = some_same a.text b.text (sym a.text_is ∙ sym stays ∙ b.text_is) in
    let same = kept_same a.file b.file (data_same (net_data a.file) (net_data b.file) (sym a.json.1 ∙ ap read text ∙ b.json.1)) in
    let before : SwitchesRead was out b.file.files b.file.switches old.switches =
    subst (λ k. SwitchesRead was out k b.file.switches old.switches) same.files (subst (λ k. SwitchesRead was out a.file.files k old.switches) same.switches a.switches) in (
      record {
        file = b.file;
        text = b.text;
        text_is = sym stays ∙ b.text_is;
        json = b.json;
        fits = b.fits;
        ports = b.ports;
        links = b.links;
        hosts = b.hosts;
        switches = switches_back was is out b.file.files b.file.switches old.switches n.switches alike before b.switches;
      },
      was_reads.1,
      short_back was is out b.file.files b.file.switches old.switches n.switches before b.switches was_reads.2,
    )
  where
    data_same : (x y : Data) → ◌≡◌ {A = Option Data} (Some x) (Some y) → x ≡ y
    data_same x y e = cc

-- what the law `one_file_one_network` says
abbrev pub OneNetwork : Type 0
OneNetwork = (was is : Files) (out : List ℕ) (old n : NetData) → SameNetFile out was is → NoTwoAlike out old.switches was is → ReadsAs was out old → ReadsAs is out n → n ≡ old

pub one_network : ((files : Files) (out : List ℕ) → OneReading files out) → OneNetwork
one_network law was is out old n stays alike was_reads is_reads =
    (law was out).one_network n old (reads_back was is out old n stays alike was_reads is_reads) was_reads

-- ---- a write that stopped

pub left : (was is : Files) (out design : List ℕ) (new : NetData) (certificates : Option (List ℕ)) (fault : BundleFault) → NotWritten out (bundle design new certificates) (Some was) (Some is) fault
    → SameNetFile out was is ⊎ (Some is ≡ with_files out (bundle design new certificates) (Some was))
left was is out design new certificates fault stopped =
    let some = some_written out (bundle design new certificates) (Some was) (Some is) fault stopped in
    let others : List MadeFile = all_switch_files new.switches ++ certificate_files certificates in
    let last : MadeFile = record { file = Network; bytes = net_text design new } in
    let order : bundle design new certificates ≡ others ++ last ∷ [] = sym (append_assoc (all_switch_files new.switches) (certificate_files certificates) (last ∷ [])) in
    let put : Some is ≡ with_files out (take some.0 (others ++ last ∷ [])) (Some was) = some.1 ∙ ap (λ fs. with_files out (take some.0 fs) (Some was)) order in
    elim (last_taken some.0 others last) [
      | inl e ↦ inl (net_stays was is out some.0 others (others_apart out certificates new.switches) (put ∙ ap (λ fs. with_files out fs (Some was)) e))
      | inr e ↦ inr (put ∙ ap (λ fs. with_files out fs (Some was)) (e ∙ sym order))
    ]

pub old_or_new : OneNetwork → (once was is : Files) (out design : List ℕ) (old new n : NetData) (certificates : Option (List ℕ)) (fault : BundleFault) → SameNetFile out once was
    → NoTwoAlike out old.switches once is → ReadsAs once out old → NotWritten out (bundle design new certificates) (Some was) (Some is) fault → ReadsAs is out n
    → (n ≡ old) ⊎ (Some is ≡ with_files out (bundle design new certificates) (Some was))
old_or_new law once was is out design old new n certificates fault same alike once_reads stopped reads =
    elim (left was is out design new certificates fault stopped) [
      | inl e ↦ inl (law once is out old n (e ∙ same) alike once_reads reads)
      | inr e ↦ inr e
    ]
