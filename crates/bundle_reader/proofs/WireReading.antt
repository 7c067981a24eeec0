-- The file of a network alone: its wires fit, and it is read in one way.
use Rattle.std.proofs.Common.{◌≡◌, ◌≢◌, ℕ, ◌<◌, IsTrue, List, [], ◌∷◌, map, length, Some, None, refl, sym, ap, ap₂, ◌∙◌, subst}
use Rattle.std.specs.FinMap.{get}
use Rattle.std.proofs.lemmas.Bool.{and_parts}
use Rattle.cocoon_io.specs.Files.{Files}
use Rattle.cocoon_io.specs.declared.folder.FolderFault.TheVariants.{Failed, TooLong, NoMemory as Wanting}
use Rattle.p4_ir.specs.NetFits.{switch_numbers, wiring_of}
use Rattle.p4_ir.specs.NetTree.{NetData, SwitchFiles}
use Rattle.p4_ir.specs.Wiring.{wiring_fits}
use Rattle.net_wiring.specs.Bare.{bare_switch}
use Rattle.net_wiring.proofs.BareNumbers.{bare_numbers}
use Rattle.net_bundle.specs.Bundle.{whole_name}
use Rattle.net_bundle.specs.NetJson.{KeptDigest, NetFile}
use Rattle.net_bundle.specs.Network.{file_wiring, is_digest}
use Rattle.net_bundle.specs.Writing.{most_of}
use Rattle.net_bundle.specs.declared.file.BundleFile.TheVariants.{Network}
use Rattle.net_bundle.specs.NetForm.{file_fits, net_form}
use Rattle.json_forms.specs.declared.fault.FormFault.TheVariants as form
use Rattle.bundle_reader.specs.Alone.{IsOfFile, OneWiring, WiresRead, bare_net, wires_of}
use Rattle.bundle_reader.specs.OneReading.{IsOfFiles}
use Rattle.bundle_reader.specs.Readings.{Held, IsFirstFault, NoProgram, FilesNotLoaded, ReadsAs, Turn, Unformed}
use Rattle.bundle_reader.specs.declared.fault.ReadFault.{ReadFault}
use Rattle.bundle_reader.specs.declared.fault.ReadFault.TheVariants.{Missing, Folder, Stale, NotJson, P4, Shape, Load, NoMemory}
use Rattle.bundle_reader.proofs.OneFile.{Fails, Malformed, bad, lacks, long, missing, no_json, no_shape}
use Rattle.bundle_reader.proofs.OneReading.{AllRead, Laws, given, network_or_fails, one_file}
use Rattle.bundle_reader.proofs.Whole.{net_with, wires_fit}

-- ---- its wires fit

pub bare_fits : (file : NetFile) → IsTrue (file_fits file) → IsTrue (wiring_fits (wiring_of (bare_net file)))
bare_fits file h =
    let fits : IsTrue (wiring_fits (file_wiring file)) = (and_parts (is_digest file.design) (wiring_fits (file_wiring file)) (wires_fit file h)).1 in
    let same : wiring_of (bare_net file) ≡ file_wiring file = ap (λ ns. record { ports = file.ports; switches = ns; links = file.links; hosts = file.hosts }) (bare_numbers file.switches) in
    subst (λ w. IsTrue (wiring_fits w)) (sym same) fits

-- ---- it is read in one way

one_wires : (files : Files) (out : List ℕ) (m n : NetData) → WiresRead files out m → WiresRead files out n → m ≡ n
one_wires files out m n (f, reads, e) (g, others, d) = e ∙ ap bare_net (one_file files out f g reads others) ∙ sym d

no_digest : (x : List ℕ) → Some x ≢ None
no_digest x e = cc

-- a fault about it is one of its own
net_fails : (files : Files) (out : List ℕ) (f : ReadFault) → IsOfFiles f → IsOfFile Network f → IsFirstFault files out f → Fails files out Network None (Malformed Network net_form) f
net_fails files out (Missing file) told is (digest, turn, none) = lacks (missing (subst (λ k. get files (whole_name out k) ≡ None) is none) (ap Missing is))
net_fails files out (Folder file Failed) told is h = absurd told
net_fails files out (Folder file (TooLong most)) told is (digest, bytes, turn, there, limit, over) =
    let same : most ≡ most_of Network = limit ∙ ap most_of is in
    lacks (long bytes (subst (λ k. get files (whole_name out k) ≡ Some bytes) is there) (subst (λ m. m < length bytes) same over) (ap₂ (λ k m. Folder k (TooLong m)) is same))
net_fails files out (Folder file Wanting) told is h = absurd h
net_fails files out (Stale file found kept) told is (bytes, turn, held, here, other) = absurd (no_digest kept (subst (λ k. Turn files out k (Some kept)) is turn))
net_fails files out (NotJson file) told is (bytes, (digest, turn, held, agrees), x) =
    bad bytes (record { held = subst (λ k. Held files out k bytes) is held; agrees = tt }) (no_json (subst (λ k. Unformed k bytes form.NotJson) is x) (ap NotJson is))
net_fails files out (P4 file fault) told is (bytes, fresh, x) = absurd (subst (λ k. NoProgram k bytes fault) is x)
net_fails files out (Shape file pointer) told is (bytes, (digest, turn, held, agrees), x) =
    bad bytes (record { held = subst (λ k. Held files out k bytes) is held; agrees = tt }) (no_shape pointer (subst (λ k. Unformed k bytes (form.Shape pointer)) is x) (ap (λ k. Shape k pointer) is))
net_fails files out (Load file fault) told is h = absurd (subst (λ k. FilesNotLoaded files out k fault) is h)
net_fails files out NoMemory told is h = absurd told

numbers_read : (files : Files) (out : List ℕ) (all : List KeptDigest) (ns : List ℕ) (ss : List SwitchFiles) → AllRead files out all ns ss → switch_numbers ss ≡ ns
numbers_read files out all [] [] x = refl
numbers_read files out all [] (s ∷ ss) x = absurd x
numbers_read files out all (n ∷ ns) [] x = absurd x
numbers_read files out all (n ∷ ns) (s ∷ ss) (program, rows, rest, is, number, well, x) = ap₂ (λ a b. a ∷ b) number (numbers_read files out rest ns ss x)

wires_given : Laws → (files : Files) (out : List ℕ) (n : NetData) → ReadsAs files out n → WiresRead files out (wires_of n)
wires_given laws files out n x =
    let g = given laws files out n x in
    (g.file, g.reads, ap wires_of g.whole ∙ ap (λ ns. net_with g.file.ports (map bare_switch ns) g.file.links g.file.hosts) (numbers_read files out g.file.files g.file.switches n.switches g.all))

pub one_wiring : Laws → (files : Files) (out : List ℕ) → OneWiring files out
one_wiring laws files out = record {
  one_wiring = one_wires files out;
  no_fault = λ n f a b x y. network_or_fails files out f x.0 (net_fails files out f a b y) x.1;
  of_network = wires_given laws files out;
}
