-- The file of a network and the files of its switches are the network.
use Rattle.std.proofs.Common.{◌≡◌, ℕ, ◌↔◌, IsTrue, List, Option, Some, None, Ok, refl, sym, ap, ◌∙◌, subst}
use Rattle.std.proofs.lemmas.Bool.{and_parts}
use Rattle.serde_json.specs.Data.{Data}
use Rattle.cocoon_num.specs.Lists.{each}
use Rattle.cocoon_io.specs.Files.{Files}
use Rattle.p4_ir.specs.NetFits.{switch_numbers, wiring_of}
use Rattle.p4_ir.specs.NetTree.{HostPort, Link, NetData, SwitchFiles}
use Rattle.p4_ir.specs.Wiring.{wiring_fits}
use Rattle.net_bundle.specs.NetJson.{NetFile, net_data}
use Rattle.json_forms.specs.Values.{IsJson}
use Rattle.net_bundle.specs.Network.{file_wiring, is_digest, net_file_fits}
use Rattle.net_bundle.specs.declared.file.BundleFile.TheVariants.{Network}
use Rattle.net_bundle.specs.NetForm.{are_names, file_fits, file_names, kept_fits, net_form}
use Rattle.bundle_reader.specs.Parts.{AllWell, OfFiles}
use Rattle.bundle_reader.specs.Readings.{ContentReads, NetReads, ReadsAs}
use Rattle.bundle_reader.proofs.Prefix.{held_short}

abbrev pub NetExact : Type 0
NetExact = (d : Data) (file : NetFile) → (net_form d ≡ Ok file) ↔ ((d ≡ net_data file) × IsTrue (file_fits file))

abbrev pub net_with : ℕ → List SwitchFiles → List Link → List HostPort → NetData
net_with ports switches links hosts = record { ports = ports; switches = switches; links = links; hosts = hosts }

pub wires_fit : (f : NetFile) → IsTrue (file_fits f) → IsTrue (net_file_fits f)
wires_fit f h = (and_parts (net_file_fits f) (each kept_fits f.files) (and_parts _ (are_names (file_names f.switches) f.files) h).0).0

-- so do those of switches that have the numbers of the file
pub wires_of_file_fit : (f : NetFile) (ss : List SwitchFiles) → IsTrue (file_fits f) → switch_numbers ss ≡ f.switches → IsTrue (wiring_fits (wiring_of (net_with f.ports ss f.links f.hosts)))
wires_of_file_fit f ss h e =
    let fit : IsTrue (wiring_fits (file_wiring f)) = (and_parts (is_digest f.design) (wiring_fits (file_wiring f)) (wires_fit f h)).1 in
    let same : wiring_of (net_with f.ports ss f.links f.hosts) ≡ file_wiring f = ap (λ ns. record { ports = f.ports; switches = ns; links = f.links; hosts = f.hosts }) e in
    subst (λ w. IsTrue (wiring_fits w)) (sym same) fit

reads_as : NetExact → (files : Files) (out : List ℕ) (f : NetFile) (ss : List SwitchFiles) → NetReads files out f → AllWell out f ss files → ReadsAs files out (net_with f.ports ss f.links f.hosts)
reads_as exact files out f ss (text, held, answered) well =
    let form = (exact answered.value f).0 answered.answers in (
      record {
        file = f;
        text = text;
        text_is = held.0;
        json = subst (IsJson text) form.0 answered.is;
        fits = wires_fit f form.1;
        ports = refl;
        links = refl;
        hosts = refl;
        switches = well.0;
      },
      held_short files out Network text held,
      well.1,
    )

known_reads : (content : Option Files) (out : List ℕ) (n : NetData) → OfFiles content (λ files. ReadsAs files out n) → ContentReads content out n
known_reads None out n h = tt
known_reads (Some files) out n h = h files refl

pub whole : NetExact → (content : Option Files) (out : List ℕ) (f : NetFile) (ss : List SwitchFiles) (n : NetData) → n ≡ net_with f.ports ss f.links f.hosts → OfFiles content (λ files. NetReads files out f)
    → OfFiles content (AllWell out f ss) → ContentReads content out n
whole exact content out f ss n e reads well =
    known_reads content out n (λ files is. subst (ReadsAs files out) (sym e) (reads_as exact files out f ss (reads files is) (well files is)))

pub same_parts : (ports : ℕ) (ss us : List SwitchFiles) (ls ms : List Link) (hs gs : List HostPort) → ss ≡ us → ls ≡ ms → hs ≡ gs → net_with ports ss ls hs ≡ net_with ports us ms gs
same_parts ports ss us ls ms hs gs e f g = ap (λ x. net_with ports x ls hs) e ∙ ap (λ x. net_with ports us x hs) f ∙ ap (net_with ports us ms) g
