-- The files of the worked example are a network, which delivers what the design does.
use Rattle.std.specs.Prelude.{◌≡◌, ℕ, zero, suc, ◌==◌, Bool, true, false, List, [], ◌∷◌, if◌then◌else◌, Some, None, codes, IsUtf8, refl}
use Rattle.std.proofs.Common.{subst}
use Rattle.std.proofs.lemmas.Str.{IsUtf8-from_is_utf8}
use Rattle.std.specs.FinMap.{get, get-from_entries, find}
use Rattle.std.specs.Ordering.{nat_cmp}
use Rattle.std.specs.Cmp.Lexicographic.{slice_cmp}
use Rattle.std.proofs.lemmas.Cmp.{nat_list_cmp_total}
use Rattle.std.specs.Fmt.{digits}
use Rattle.std.specs.Str.{is_utf8, chars}
use lib.Utf8.{encode}
use Rattle.serde_json.proofs.OnLiterals.{serde_json_on_literals}
use Rattle.serde_json.specs.Read.{read}
use Rattle.sha2.specs.Sha256.{sha256, first_words, schedule, rounds, compress, hash_after, digest_bytes}
use Rattle.hex.specs.Hex.{encode_with}
use Rattle.p4_ir.specs.NetRuns.{NetGo}
use Rattle.p4_ir.specs.NetTree.{SwitchFiles}
use Rattle.p4_ir.specs.Switch.{switch_go}
use Rattle.p4_ir.specs.P4Reads.{P4Reads}
use Rattle.p4_ir.specs.NoRows.{no_rows}
use Rattle.command_laws.specs.ExampleP4.{c_p4, c_program}
use Rattle.net_bundle.specs.BundleNames.{digest_of, program_name, rows_name, net_name, file_name}
use Rattle.net_bundle.specs.NetJson.{NetFile, net_data, rows_data}
use Rattle.net_bundle.specs.Network.{Network, SwitchReads}
use Rattle.command_laws.specs.ExampleNet.{c_net_text, c_rows_text, c_entries, c_files, c_hosts, c_links, c_net}

abbrev pub p4_digest : List ℕ
p4_digest = codes "e67d94a264d4b635fcfe55e15a15fccfe1512dd38883f5a94ec911880168d479"

abbrev pub rows_digest : List ℕ
rows_digest = codes "0da9167320e9119ac7da5e151cc6c92c92a3bb0c15d452cfc26eebbb4f038ac1"

abbrev pub c_file : NetFile
c_file = record {
  design = codes "7e058e1bac69fcdac8ff0809f4df524e35ab352603fc49c62ad890cf063da8a1";
  files = record { name = codes "s1.p4"; digest = p4_digest } ∷ record { name = codes "s1.rows.json"; digest = rows_digest } ∷ [];
  hosts = c_hosts;
  links = c_links;
  ports = 4;
  switches = 1 ∷ [];
}

net_read : read c_net_text ≡ Some (net_data c_file)
unfolding serde_json_on_literals
net_read = refl

rows_read : read c_rows_text ≡ Some (rows_data no_rows)
unfolding serde_json_on_literals
rows_read = refl

pub rows_digested : digest_of c_rows_text ≡ rows_digest
unfolding sha256 first_words schedule rounds compress hash_after digest_bytes encode_with
rows_digested = refl

pub p4_digested : digest_of c_p4 ≡ p4_digest
unfolding sha256 first_words schedule rounds compress hash_after digest_bytes encode_with
p4_digested = refl

c_p4_reads : P4Reads c_p4 c_program
c_p4_reads = record { tokens = _; tokens_are = refl; reads = refl; well_kinded = refl }

abbrev c_switch : SwitchFiles
c_switch = record { number = 1; program = c_program; rows = no_rows }

pub c_goes : NetGo c_net 0 (1 ∷ 255 ∷ []) [] 1 1 (1 ∷ 255 ∷ [])
c_goes = (1, 0, refl, (c_switch, 1, 1 ∷ 255 ∷ [], [], [], refl, refl, refl, (refl, refl, refl)))

pub c_goes_otherwise : NetGo c_net 3 (2 ∷ []) [] 1 2 (2 ∷ [])
c_goes_otherwise = (1, 3, refl, (c_switch, 2, 2 ∷ [], [], [], refl, refl, refl, (refl, refl, refl)))

-- no bytes have no header
no_visit : (port : ℕ) (rids : List ℕ) (x : ℕ × List ℕ) → switch_go c_program no_rows 0 port [] rids ≡ Some x → ⊥
no_visit port rids x h = cc h

-- a switch that is found is the one
one_found : (b : Bool) (f : SwitchFiles) → (if b then Some c_switch else None) ≡ Some f → f ≡ c_switch
one_found true f h = cc h
one_found false f h = cc h

pub c_stops : (a : ℕ) (choices : List ℕ) (visits b : ℕ) (out : List ℕ) → NetGo c_net a [] choices visits b out → ⊥
c_stops a choices zero b out (s, p, at, h) = absurd h
c_stops a choices (suc n) b out (s, p, at, (f, port, left, first, more, is, goes, joined, onward)) =
    no_visit p first (port, left) (subst (λ (g : SwitchFiles). switch_go g.program g.rows 0 p [] first ≡ Some (port, left)) (one_found (1 == s) f is) goes)

rows_utf8 : IsUtf8 c_rows_text
unfolding is_utf8 chars encode
rows_utf8 = IsUtf8-from_is_utf8 c_rows_text refl

net_utf8 : IsUtf8 c_net_text
unfolding is_utf8 chars encode
net_utf8 = IsUtf8-from_is_utf8 c_net_text refl

found : (name : List ℕ) → get c_files name ≡ find (slice_cmp nat_cmp) name c_entries
found name = get-from_entries nat_list_cmp_total c_entries name

pub c_switch_reads : SwitchReads c_files (codes "one") c_file.files c_switch
unfolding digits
c_switch_reads = record {
  program_text = c_p4;
  rows_text = c_rows_text;
  program_is = found (file_name (codes "one") (program_name 1));
  rows_are = found (file_name (codes "one") (rows_name 1));
  digests = rw (p4_digested, rows_digested) refl;
  program_reads = c_p4_reads;
  rows_read = (rows_utf8, rows_read);
  rows_fit = refl;
  loads = refl;
}

pub c_network : Network c_files (codes "one") c_net
c_network = record {
  file = c_file;
  text = c_net_text;
  text_is = found (file_name (codes "one") net_name);
  json = (net_utf8, net_read);
  fits = refl;
  ports = refl;
  links = refl;
  hosts = refl;
  switches = (c_file.files, [], refl, refl, c_switch_reads, refl);
}
