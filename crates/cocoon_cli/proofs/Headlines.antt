-- The headline of a command that writes a bundle. A design that is certified, definitions that meet its assumptions, the network
-- that is lowered of both, and its bundle as it was written give it, whatever certificates were written with it.
use Rattle.std.proofs.Common.{◌≡◌, ℕ, List, [], ◌∷◌, Option, Some, None, codes, refl, sym, ap, ap₂, ◌∙◌, inl, inr, arith}
use Rattle.std.specs.FinMap.{get}
use Rattle.std.proofs.lemmas.List.{append_cancel_left}
use Rattle.cocoon_io.specs.Files.{Files}
use Rattle.net_bundle.specs.Bundle.{certificates_name}
use Rattle.net_bundle.specs.BundleNames.{file_name, net_name, program_name, rows_name}
use Rattle.net_bundle.specs.NetJson.{KeptDigest}
use Rattle.net_bundle.specs.Network.{InBundle, Network, SwitchesRead, file_wiring}
use Rattle.net_bundle.specs.Writing.{Holds}
use Rattle.p4_ir.specs.NetFits.{switch_numbers, wiring_of}
use Rattle.p4_ir.specs.NetTree.{NetData, SwitchFiles, Link, HostPort}
use Rattle.p4_ir.specs.Wiring.{Wiring}
use Rattle.command_answers.specs.Compiling.{LowersTexts}
use Rattle.command_answers.specs.Updating.{Stands}
use Rattle.cocoon_cli.specs.Certified.{Recertified}
use Rattle.cocoon_cli.specs.Headline.{Compiled, IsCertificates, Updated}

-- ---- wires

-- those of a network are those of its file
read_numbers : (files : Files) (out : List ℕ) (kept : List KeptDigest) (ns : List ℕ) (ss : List SwitchFiles) → SwitchesRead files out kept ns ss → ns ≡ switch_numbers ss
read_numbers files out kept [] [] h = refl
read_numbers files out kept [] (s ∷ ss) h = absurd h
read_numbers files out kept (n ∷ ns) [] h = absurd h
read_numbers files out kept (n ∷ ns) (s ∷ ss) (first, rest, is, parts, reads, more) = ap₂ (λ (m : ℕ) (ms : List ℕ). m ∷ ms) (sym is) (read_numbers files out rest ns ss more)

abbrev wires : ℕ → List ℕ → List Link → List HostPort → Wiring
wires ports switches links hosts = record { ports = ports; switches = switches; links = links; hosts = hosts }

wires_are : (files : Files) (out : List ℕ) (net : NetData) → (n : Network files out net) → file_wiring n.file ≡ wiring_of net
wires_are files out net n =
    ap (λ k. wires k n.file.switches n.file.links n.file.hosts) (sym n.ports)
    ∙ ap (λ ss. wires net.ports ss n.file.links n.file.hosts) (read_numbers files out n.file.files n.file.switches net.switches n.switches)
    ∙ ap (λ (ls : List Link). wires net.ports (switch_numbers net.switches) ls n.file.hosts) (sym n.links)
    ∙ ap (λ (hs : List HostPort). wires net.ports (switch_numbers net.switches) net.links hs) (sym n.hosts)

-- ---- the headline

module _ (before after : Files) (d e o x y : List ℕ) (net : NetData) (certificates : Option (List ℕ))
    (is : get before d ≡ Some x) (are : get before e ≡ Some y) (l : LowersTexts x y net) (h : Holds before after o x net certificates) where
  pub compiled_by : (besides : List ℕ → Type 0) → ((name : List ℕ) → ¬ besides name → name ≡ file_name o certificates_name → certificates ≡ None) → Compiled before after d e o besides
  compiled_by besides others = record {
    design_text = x;
    defs_text = y;
    design = l.tree;
    entries = l.binds.entries;
    net = net;
    design_is = is;
    defs_are = are;
    design_reads = l.binds.binds.checked.reads;
    well_formed = l.binds.binds.checked.resolves.rules;
    defs_read = l.binds.binds.read;
    defs_fit = l.binds.binds.fits;
    network = h.network;
    digest = h.digest;
    others_same = λ name outside not. h.others_same name outside (others name not);
    exact = l.lowering.exact;
    within = l.stays;
  }

  -- over a bundle with the same wires
  pub updated_by : certificates ≡ None → Stands before o x net → Updated before after d e o
  unfolding compiled_by
  updated_by none s = record {
    compiled = compiled_by (λ name. ⊥) (λ name not same. none);
    old = s.network;
    old_text = s.network_text;
    old_is = s.network_is;
    old_json = s.json;
    same_wires = wires_are after o net h.network ∙ s.same_wires;
  }

-- fewer names may change after an `update`
pub as_compiled : (before after : Files) (d e o : List ℕ) → Updated before after d e o → Compiled before after d e o (IsCertificates o)
as_compiled before after d e o h =
    let c = h.compiled in
    record {
      design_text = c.design_text;
      defs_text = c.defs_text;
      design = c.design;
      entries = c.entries;
      net = c.net;
      design_is = c.design_is;
      defs_are = c.defs_are;
      design_reads = c.design_reads;
      well_formed = c.well_formed;
      defs_read = c.defs_read;
      defs_fit = c.defs_fit;
      network = c.network;
      digest = c.digest;
      others_same = λ name outside not. c.others_same name outside (λ no. no);
      exact = c.exact;
      within = c.within;
    }

-- ---- certificates that stand

abbrev first : List ℕ → ℕ
first [] = 0
first (x ∷ xs) = x

name_apart : (out other : List ℕ) (n : ℕ) → first other ≡ n → (n ≡ 99 → ⊥) → file_name out certificates_name ≡ file_name out other → ⊥
name_apart out other n is not e =
    not (sym (ap first (append_cancel_left (codes ".") certificates_name other (append_cancel_left out _ _ e)) ∙ is))

-- their file is none that a bundle must have
pub certificates_outside : (out : List ℕ) (switches : List SwitchFiles) → InBundle out switches (file_name out certificates_name) → ⊥
certificates_outside out switches (inl e) = name_apart out net_name 110 refl (λ p. omega (arith, p)) e
certificates_outside out switches (inr (s, there, inl e)) = name_apart out (program_name s.number) 115 refl (λ p. omega (arith, p)) e
certificates_outside out switches (inr (s, there, inr e)) = name_apart out (rows_name s.number) 115 refl (λ p. omega (arith, p)) e

pub recertified_by : (before after : Files) (d o x : List ℕ) (net : NetData) → get before d ≡ Some x → Holds before after o x net None → Stands before o x net → Recertified before after d o
recertified_by before after d o x net is h s =
    let same = h.others_same (file_name o certificates_name) (certificates_outside o net.switches) (λ e. refl) in
    record {
      certified = record {
        text = x;
        design = s.tree;
        is = is;
        reads = s.reads;
        certificates = s.certificates;
        stand = same ∙ s.stand;
        certify = s.certify;
        network = h.network.file;
        network_text = h.network.text;
        network_is = h.network.text_is;
        json = h.network.json;
        digest = h.digest;
      };
      stood = s.stand;
    }
