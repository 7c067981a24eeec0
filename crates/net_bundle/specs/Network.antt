-- The network that the files of a bundle give. A JSON file is read as serde_json defines it, and its value is the one
-- that its content has; programs are read as P4 texts, and digests are SHA-256 (FIPS 180-4) in lower case. Files of which a
-- name, a shape, a digest or a loading test does not fit give no network; their sizes do not count. It follows "Bundle
-- files" in docs/FORMATS.md. The tagged form, versions of rows and certificates are absent.
use Rattle.std.specs.Prelude.{◌≡◌, ◌⊎◌, ℕ, ◌==◌, ◌&&◌, ◌||◌, Bool, nat_le, List, [], ◌∷◌, ◌++◌, length, Some, IsTrue, Contains}
use Rattle.std.specs.FinMap.{get}
use Rattle.cocoon_num.specs.Lists.{each}
use Rattle.cocoon_io.specs.Files.{Files}
use Rattle.json_forms.specs.Values.{IsJson}
use Rattle.p4_ir.specs.P4Reads.{P4Reads}
use Rattle.p4_ir.specs.Loading.{rows_file_fits, rows_load}
use Rattle.p4_ir.specs.Wiring.{Wiring, wiring_fits}
use Rattle.p4_ir.specs.NetTree.{SwitchFiles, NetData}
use Rattle.net_bundle.specs.NetJson.{KeptDigest, NetFile, net_data, rows_data}
use Rattle.net_bundle.specs.BundleNames.{digest_of, program_name, rows_name, net_name, file_name}

-- ---- the file of the network

-- a digest has 64 digits, `0` to `9` and `a` to `f`
abbrev pub is_digest : List ℕ → Bool
is_digest text = (length text == 64) && each (λ b. (nat_le 48 b && nat_le b 57) || (nat_le 97 b && nat_le b 102)) text

abbrev pub file_wiring : NetFile → Wiring
file_wiring f = record { ports = f.ports; switches = f.switches; links = f.links; hosts = f.hosts }

-- a digest, and wires that fit
abbrev pub net_file_fits : NetFile → Bool
net_file_fits f = is_digest f.design && wiring_fits (file_wiring f)

-- ---- bundles

-- the files of one switch, of which these digests are kept
pub record SwitchReads (files : Files) (out : List ℕ) (kept : List KeptDigest) (s : SwitchFiles) : Type 0 where
  pub program_text : List ℕ
  pub rows_text : List ℕ
  pub program_is : get files (file_name out (program_name s.number)) ≡ Some program_text
  pub rows_are : get files (file_name out (rows_name s.number)) ≡ Some rows_text
  pub digests : kept ≡ record { name = program_name s.number; digest = digest_of program_text } ∷ record { name = rows_name s.number; digest = digest_of rows_text } ∷ []
  pub program_reads : P4Reads program_text s.program
  pub rows_read : IsJson rows_text (rows_data s.rows)
  pub rows_fit : IsTrue (rows_file_fits s.rows)
  pub loads : IsTrue (rows_load s.program s.rows)

-- the same of all switches, in order, with the digests of each one after another
abbrev pub SwitchesRead : Files → List ℕ → List KeptDigest → List ℕ → List SwitchFiles → Type 0
SwitchesRead files out kept [] [] = kept ≡ []
SwitchesRead files out kept (n ∷ ns) (s ∷ ss) =
    (first rest : List KeptDigest) × (s.number ≡ n) × (kept ≡ first ++ rest) × SwitchReads files out first s × SwitchesRead files out rest ns ss
SwitchesRead files out kept [] (s ∷ ss) = ⊥
SwitchesRead files out kept (n ∷ ns) [] = ⊥

-- the network of the bundle `out` in a folder of this content
pub record Network (files : Files) (out : List ℕ) (net : NetData) : Type 0 where
  pub file : NetFile
  pub text : List ℕ
  pub text_is : get files (file_name out net_name) ≡ Some text
  pub json : IsJson text (net_data file)
  pub fits : IsTrue (net_file_fits file)
  pub ports : net.ports ≡ file.ports
  pub links : net.links ≡ file.links
  pub hosts : net.hosts ≡ file.hosts
  pub switches : SwitchesRead files out file.files file.switches net.switches

-- the name of a file of the bundle `out` with these switches
abbrev pub InBundle : List ℕ → List SwitchFiles → List ℕ → Type 0
InBundle out switches name =
    (name ≡ file_name out net_name)
    ⊎ ((s : SwitchFiles) × Contains switches s × ((name ≡ file_name out (program_name s.number)) ⊎ (name ≡ file_name out (rows_name s.number))))
