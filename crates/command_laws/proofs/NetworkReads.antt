-- Each file has one content, which reads as one thing, so the files of a folder give at most one network under a name.
use Rattle.std.specs.Prelude.{◌≡◌, ℕ, List, [], ◌∷◌, ◌++◌, refl}
use Rattle.std.specs.FinMap.{get}
use Rattle.std.proofs.Common.{sym, ◌∙◌, ap, ap₂, subst}
use Rattle.serde_json.specs.Read.{read}
use Rattle.cocoon_io.specs.Files.{Files}
use Rattle.p4_ir.specs.P4Tree.{Program, RowsFile}
use Rattle.p4_ir.specs.P4Reads.{P4Reads}
use Rattle.p4_ir.specs.NetTree.{Link, HostPort, SwitchFiles, NetData}
use Rattle.net_bundle.specs.NetJson.{KeptDigest, net_data, rows_data}
use Rattle.net_bundle.specs.BundleNames.{program_name, rows_name, net_name, file_name}
use Rattle.net_bundle.specs.Network.{SwitchReads, SwitchesRead, Network}
use Rattle.command_laws.proofs.NetworkFile.{file_same}
use Rattle.command_laws.proofs.NetworkRows.{rows_same}
use Rattle.command_laws.proofs.SameValues.{some_same, found_same}

-- a text reads as at most one program
abbrev pub OneProgram : Type 0
OneProgram = (text : List ℕ) (p q : Program) → P4Reads text p → P4Reads text q → p ≡ q

rest_same : (first prefix rest others kept : List KeptDigest) (a b c d : KeptDigest) → first ≡ a ∷ b ∷ [] → prefix ≡ c ∷ d ∷ [] → kept ≡ first ++ rest → kept ≡ prefix ++ others → rest ≡ others
rest_same first prefix rest others kept a b c d p q f g =
    let e : a ∷ b ∷ rest ≡ c ∷ d ∷ others = sym (ap (λ l. l ++ rest) p) ∙ sym f ∙ g ∙ ap (λ l. l ++ others) q in
    cc

abbrev switch_with : ℕ → Program → RowsFile → SwitchFiles
switch_with number program rows = record { number = number; program = program; rows = rows }

switch_same : OneProgram → (files : Files) (out : List ℕ) (first prefix : List KeptDigest) (s t : SwitchFiles) → s.number ≡ t.number
    → SwitchReads files out first s → SwitchReads files out prefix t → s ≡ t
switch_same one files out first prefix s t n r q =
    let program_text = found_same (λ (k : ℕ). get files (file_name out (program_name k))) s.number t.number r.program_text q.program_text n r.program_is q.program_is in
    let rows_text = found_same (λ (k : ℕ). get files (file_name out (rows_name k))) s.number t.number r.rows_text q.rows_text n r.rows_are q.rows_are in
    let program = one r.program_text s.program t.program r.program_reads (subst (λ x. P4Reads x t.program) (sym program_text) q.program_reads) in
    let values = found_same read r.rows_text q.rows_text (rows_data s.rows) (rows_data t.rows) rows_text r.rows_read.1 q.rows_read.1 in
    ap₂ (λ x y. switch_with x y s.rows) n program ∙ ap (switch_with t.number t.program) (rows_same s.rows t.rows r.rows_fit q.rows_fit values)

switches_same : OneProgram → (files : Files) (out : List ℕ) (kept : List KeptDigest) (ns : List ℕ) (ss us : List SwitchFiles)
    → SwitchesRead files out kept ns ss → SwitchesRead files out kept ns us → ss ≡ us
switches_same one files out kept [] [] [] r q = refl
switches_same one files out kept [] (s ∷ ss) us r q = absurd r
switches_same one files out kept [] [] (u ∷ us) r q = absurd q
switches_same one files out kept (n ∷ ns) [] us r q = absurd r
switches_same one files out kept (n ∷ ns) (s ∷ ss) [] r q = absurd q
switches_same one files out kept (n ∷ ns) (s ∷ ss) (u ∷ us) (first, rest, is, parts, reads, more) (prefix, others, is', parts', reads', more') =
    let o = rest_same first prefix rest others kept _ _ _ _ reads.digests reads'.digests parts parts' in
    ap₂ (λ x y. x ∷ y) (switch_same one files out first prefix s u (is ∙ sym is') reads reads')
    (switches_same one files out rest ns ss us more (subst (λ k. SwitchesRead files out k ns us) (sym o) more'))

abbrev net_with : ℕ → List SwitchFiles → List Link → List HostPort → NetData
net_with ports switches links hosts = record { ports = ports; switches = switches; links = links; hosts = hosts }

net_same : (m n : NetData) → m.ports ≡ n.ports → m.switches ≡ n.switches → m.links ≡ n.links → m.hosts ≡ n.hosts → m ≡ n
net_same m n p s l h =
    ap₂ (λ x y. net_with x y m.links m.hosts) p s ∙ ap₂ (λ x y. net_with n.ports n.switches x y) l h

pub one_network : OneProgram → (files : Files) (out : List ℕ) (m n : NetData) → Network files out m → Network files out n → m ≡ n
one_network one files out m n a b =
    let text = some_same (get files (file_name out net_name)) a.text b.text a.text_is b.text_is in
    let values = found_same read a.text b.text (net_data a.file) (net_data b.file) text a.json.1 b.json.1 in
    let same = file_same a.file b.file values in
    let reads : SwitchesRead files out a.file.files a.file.switches n.switches =
    subst (λ k. SwitchesRead files out k a.file.switches n.switches) (sym same.files)
    (subst (λ k. SwitchesRead files out b.file.files k n.switches) (sym same.switches) b.switches) in
    net_same m n (a.ports ∙ same.ports ∙ sym b.ports)
    (switches_same one files out a.file.files a.file.switches m.switches n.switches a.switches reads)
    (a.links ∙ same.links ∙ sym b.links) (a.hosts ∙ same.hosts ∙ sym b.hosts)
