-- A network is that of its bundle's files alone.
use Rattle.std.proofs.Common.{◌≡◌, inl, inr, ℕ, suc, List, [], ◌∷◌, Contains, refl, ◌∙◌, arith}
use Rattle.std.specs.FinMap.{get}
use Rattle.cocoon_io.specs.Files.{Files}
use Rattle.p4_ir.specs.NetTree.{NetData, SwitchFiles}
use Rattle.net_bundle.specs.BundleNames.{file_name, net_name, program_name, rows_name}
use Rattle.net_bundle.specs.NetJson.{KeptDigest}
use Rattle.net_bundle.specs.Network.{InBundle, Network, SwitchesRead, SwitchReads}

-- a folder has what another has, under the names of these switches' files
abbrev AllSame : (files after : Files) (out : List ℕ) → List SwitchFiles → Type 0
AllSame files after out [] = Unit {0}
AllSame files after out (s ∷ ss) =
    (get files (file_name out (program_name s.number)) ≡ get after (file_name out (program_name s.number)))
    × (get files (file_name out (rows_name s.number)) ≡ get after (file_name out (rows_name s.number)))
    × AllSame files after out ss

switch_same : (files after : Files) (out : List ℕ) (kept : List KeptDigest) (s : SwitchFiles)
    → get files (file_name out (program_name s.number)) ≡ get after (file_name out (program_name s.number))
    → get files (file_name out (rows_name s.number)) ≡ get after (file_name out (rows_name s.number))
    → SwitchReads after out kept s → SwitchReads files out kept s
switch_same files after out kept s program rows r = record {
  program_text = r.program_text;
  rows_text = r.rows_text;
  program_is = program ∙ r.program_is;
  rows_are = rows ∙ r.rows_are;
  digests = r.digests;
  program_reads = r.program_reads;
  rows_read = r.rows_read;
  rows_fit = r.rows_fit;
  loads = r.loads;
}

switches_same : (files after : Files) (out : List ℕ) (kept : List KeptDigest) (ns : List ℕ) (ss : List SwitchFiles)
    → AllSame files after out ss → SwitchesRead after out kept ns ss → SwitchesRead files out kept ns ss
switches_same files after out kept [] [] same r = r
switches_same files after out kept [] (s ∷ ss) same r = r
switches_same files after out kept (n ∷ ns) [] same r = r
switches_same files after out kept (n ∷ ns) (s ∷ ss) same (first, rest, number, parts, reads, more) =
    (first, rest, number, parts, switch_same files after out first s same.0 same.1 reads, switches_same files after out rest ns ss same.2 more)

-- the names of these switches' files are in the bundle
abbrev Named : (out : List ℕ) (all ss : List SwitchFiles) → Type 0
Named out all ss = (s : SwitchFiles) → Contains ss s → Contains all s

first_is : (s : SwitchFiles) (ss : List SwitchFiles) → Contains (s ∷ ss) s
first_is s ss = (0, omega arith, refl)

later : (s t : SwitchFiles) (ss : List SwitchFiles) → Contains ss t → Contains (s ∷ ss) t
later s t ss h = (suc h.0, omega (arith, h.1), h.2)

all_same : (files after : Files) (out : List ℕ) (all ss : List SwitchFiles) → Named out all ss
    → ((name : List ℕ) → InBundle out all name → get files name ≡ get after name) → AllSame files after out ss
all_same files after out all [] named same = tt
all_same files after out all (s ∷ ss) named same = (
  same _ (inr (s, named s (first_is s ss), inl refl)),
  same _ (inr (s, named s (first_is s ss), inr refl)),
  all_same files after out all ss (λ t h. named t (later s t ss h)) same,
)

-- the files of a bundle that another folder has, too, give the same network there
pub still_network : (files after : Files) (out : List ℕ) (net : NetData) → ((name : List ℕ) → InBundle out net.switches name → get files name ≡ get after name)
    → Network after out net → Network files out net
still_network files after out net same n = record {
  file = n.file;
  text = n.text;
  text_is = same (file_name out net_name) (inl refl) ∙ n.text_is;
  json = n.json;
  fits = n.fits;
  ports = n.ports;
  links = n.links;
  hosts = n.hosts;
  switches = switches_same files after out n.file.files n.file.switches net.switches (all_same files after out net.switches net.switches (λ s h. h) same) n.switches;
}
