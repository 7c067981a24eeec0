-- What a `compile` leaves of the reason why its design may be believed.
use Rattle.std.proofs.Common.{◌≡◌, ℕ, Bool, true, false, cond, List, [], ◌∷◌, ◌++◌, Option, Some, None, codes, refl, ap, subst, ◌∙◌, arith}
use Rattle.std.specs.FinMap.{get, insert, get-insert, slice_cmp-IsAntisymmetric, nat_cmp-IsAntisymmetric}
use Rattle.std.specs.Ordering.{nat_cmp, eq_by_cmp}
use Rattle.std.specs.Cmp.Lexicographic.{slice_cmp}
use Rattle.std.proofs.lemmas.Cmp.{nat_list_cmp_total, eq_by_cmp_equiv}
use Rattle.std.proofs.lemmas.Map.Views.{tells_apart}
use Rattle.std.proofs.lemmas.List.{append_cancel_left}
use Rattle.cocoon_io.specs.Files.{Files}
use Rattle.cocoon_io.specs.Calls.{with_file}
use Rattle.net_bundle.specs.Bundle as bundle_of
use Rattle.net_bundle.specs.Bundle.{MadeFile, all_switch_files, certificates_name, net_text, whole_name}
use Rattle.net_bundle.specs.BundleNames.{file_name, net_name}
use Rattle.net_bundle.specs.Writing.{ContentHolds, Holds, with_files}
use Rattle.net_bundle.specs.declared.file.BundleFile.TheVariants as file
use Rattle.shared_net.specs.Shared.{shared_of}
use Rattle.p4_ir.specs.NetTree.{NetData}
use Rattle.command_line.specs.Command.{Command, check, compile, update, step, forward, gen}
use Rattle.command_reports.specs.declared.report.Verdict.{Verdict}
use Rattle.command_reports.specs.declared.report.Verdict.TheVariants as verdict
use Rattle.command_answers.specs.declared.answer.Answer.{Answer}
use Rattle.command_answers.specs.declared.answer.Writing.{Writing as Written}
use Rattle.command_answers.specs.declared.answer.Writing.TheVariants as written
use Rattle.command_answers.specs.Answering.{PlansBy}
use Rattle.command_answers.specs.Commands.{files_of}
use Rattle.command_answers.specs.Compiling.{CompilesTexts}
use Rattle.command_answers.specs.Updating.{Stands}
use Rattle.command_answers.specs.Steps.{Inputs}
use Rattle.cocoon_cli.specs.declared.reading.Read.{Read}
use Rattle.cocoon_cli.proofs.Headlines.{recertified_by}
use Rattle.cocoon_cli.specs.Certified.{Certified, CertifiedOf}
use Rattle.cocoon_cli.specs.Shell.{Plans, PlansDone, StandsFor, AllWritten, HoldsNet, IsGiven, ReadsAll, writing_of}
use Rattle.cocoon_cli.specs.Run.{inputs_of}

-- ---- what stands under the name of the certificates

put_same : (m : Files) (name bytes : List ℕ) → get (insert m name bytes) name ≡ Some bytes
put_same m name bytes = get-insert nat_list_cmp_total m name bytes name ∙ ap (λ b. cond b (Some bytes) (get m name)) ((eq_by_cmp_equiv nat_list_cmp_total).refl name)

put_other : (m : Files) (name bytes other : List ℕ) → (other ≡ name → ⊥) → get (insert m name bytes) other ≡ get m other
put_other m name bytes other apart = get-insert nat_list_cmp_total m name bytes other ∙ by_case (eq_by_cmp (slice_cmp nat_cmp) other name) refl
  where
    by_case : (b : Bool) → eq_by_cmp (slice_cmp nat_cmp) other name ≡ b → cond b (Some bytes) (get m other) ≡ get m other
    by_case true e = absurd (apart (tells_apart (slice_cmp-IsAntisymmetric nat_cmp-IsAntisymmetric) other name e))
    by_case false e = refl

some_same : (x y : Files) → ◌≡◌ {A = Option Files} (Some x) (Some y) → x ≡ y
some_same x y e = cc

-- the last but one of some files, if the last has another name
put_before_last : (out : List ℕ) (fs : List MadeFile) (f last : MadeFile) (was : Option Files) (is : Files) → (whole_name out f.file ≡ whole_name out last.file → ⊥) → Some is ≡ with_files out (fs ++ f ∷ last ∷ []) was
    → get is (whole_name out f.file) ≡ Some f.bytes
put_before_last out [] f last None is apart e = let no : ◌≡◌ {A = Option Files} (Some is) None = e in cc
put_before_last out [] f last (Some was) is apart e =
    let name = whole_name out f.file in
    let with_it = insert was name f.bytes in
    ap (λ (m : Files). get m name) (some_same is (insert with_it (whole_name out last.file) last.bytes) e) ∙ put_other with_it (whole_name out last.file) last.bytes name apart ∙ put_same was name f.bytes
put_before_last out (g ∷ fs) f last was is apart e = put_before_last out fs f last (with_file was (whole_name out g.file) g.bytes) is apart e

abbrev first : List ℕ → ℕ
first [] = 0
first (x ∷ xs) = x

names_apart : (out : List ℕ) → file_name out certificates_name ≡ file_name out net_name → ⊥
names_apart out e = let no : ◌≡◌ {A = ℕ} 99 110 = ap first (append_cancel_left (codes ".") certificates_name net_name (append_cancel_left out _ _ e)) in omega arith

stand : (was : Option Files) (is : Files) (out design : List ℕ) (net : NetData) (certs : List ℕ) → Some is ≡ with_files out (bundle_of.bundle design net (Some certs)) was → get is (file_name out certificates_name) ≡ Some certs
stand was is out design net certs e =
    put_before_last out (all_switch_files net.switches) (record { file = file.Certificates; bytes = certs }) (record { file = file.Network; bytes = net_text design net }) was is (names_apart out) e

-- ---- the clause

certified : (before after : Files) (d e o : List ℕ) (n rounds : ℕ) (read : Read) (net : NetData) (certs : List ℕ) → IsGiven (files_of (compile d e o n rounds)) (inputs_of (files_of (compile d e o n rounds)) before) read
    → CompilesTexts read.design.items read.definitions.items net certs → Some after ≡ with_files o (bundle_of.bundle read.design.items net (Some certs)) (Some before) → Holds before after o read.design.items net (Some certs)
    → Certified before after d o
certified before after d e o n rounds read net certs g made put h = record {
  text = read.design.items;
  design = made.lowers.tree;
  is = g.design.0;
  reads = made.lowers.binds.binds.checked.reads;
  certificates = certs;
  stand = stand (Some before) after o read.design.items net certs put;
  certify = made.certify;
  network = h.network.file;
  network_text = h.network.text;
  network_is = h.network.text_is;
  json = h.network.json;
  digest = h.digest;
}

content_certified : (before after : Option Files) (d e o : List ℕ) (n rounds : ℕ) (read : Read) (net : NetData) (certs : List ℕ) → ReadsAll (files_of (compile d e o n rounds)) before read → CompilesTexts read.design.items read.definitions.items net certs
    → after ≡ with_files o (bundle_of.bundle read.design.items net (Some certs)) before → ContentHolds before after o read.design.items net (Some certs) → CertifiedOf (Some (compile d e o n rounds)) before after
content_certified None after d e o n rounds read net certs g made put h = tt
content_certified (Some before) None d e o n rounds read net certs g made put h = h
content_certified (Some before) (Some after) d e o n rounds read net certs g made put h =
    certified before after d e o n rounds read net certs (subst (λ (i : Inputs). IsGiven (files_of (compile d e o n rounds)) i read) g.inputs_are g.given) made put h

-- of an `update`, over the certificates that stood there
content_recertified : (before after : Option Files) (d e o : List ℕ) (n : ℕ) (read : Read) (net : NetData) → ReadsAll (files_of (update d e o n)) before read → ((files : Files) → before ≡ Some files → Stands files o read.design.items net)
    → ContentHolds before after o read.design.items net None → CertifiedOf (Some (update d e o n)) before after
content_recertified None after d e o n read net g s h = tt
content_recertified (Some before) None d e o n read net g s h = h
content_recertified (Some before) (Some after) d e o n read net g s h =
    let given = subst (λ (i : Inputs). IsGiven (files_of (update d e o n)) i read) g.inputs_are g.given in
    recertified_by before after d o read.design.items net given.design.0 h (s before refl)

-- where it is written, what a command plans certifies its design
certified_done : (c : Command) (before mid after : Option Files) (read : Read) (w : Written) → mid ≡ before → ReadsAll (files_of c) before read → PlansDone c read w → StandsFor c before read w → AllWritten (writing_of (files_of c) read w) mid after → HoldsNet read w mid after
    → CertifiedOf (Some c) before after
certified_done (compile d e o n rounds) before mid after read (written.Bundle name net (Some certs)) same g p s all h =
    let bundle = bundle_of.bundle read.design.items (shared_of net) (Some certs) in
    content_certified before after d e o n rounds read (shared_of net) certs g p.1
    (subst (λ out. after ≡ with_files out bundle before) p.0 (subst (λ content. after ≡ with_files name.now bundle content) same all.stands))
    (subst (λ out. ContentHolds before after out read.design.items (shared_of net) (Some certs)) p.0 (subst (λ content. ContentHolds content after name.now read.design.items (shared_of net) (Some certs)) same h))
certified_done (compile d e o n rounds) before mid after read w same g p s all h = absurd p
certified_done (update d e o n) before mid after read (written.Bundle name net None) same g p s all h =
    content_recertified before after d e o n read (shared_of net) g s
    (subst (λ out. ContentHolds before after out read.design.items (shared_of net) None) p.0 (subst (λ content. ContentHolds content after name.now read.design.items (shared_of net) None) same h))
certified_done (update d e o n) before mid after read w same g p s all h = absurd p
certified_done (check d n rounds) before mid after read w same g p s all h = tt
certified_done (step d e l f) before mid after read w same g p s all h = tt
certified_done (forward o q n) before mid after read w same g p s all h = tt
certified_done (gen hosts packets) before mid after read w same g p s all h = tt

pub certified_of : (c : Command) (before mid after : Option Files) (read : Read) (answer : Answer) → mid ≡ before → ReadsAll (files_of c) before read → Plans c read answer → answer.report.verdict ≡ verdict.Done → StandsFor c before read answer.writing
    → AllWritten (writing_of (files_of c) read answer.writing) mid after → HoldsNet read answer.writing mid after → CertifiedOf (Some c) before after
certified_of c before mid after read answer same g p is s all h =
    certified_done c before mid after read answer.writing same g (subst (λ (v : Verdict). PlansBy (λ w. PlansDone c read w) v answer.writing) is p) s all h
