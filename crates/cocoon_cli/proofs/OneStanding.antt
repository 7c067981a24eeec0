-- The bundle that stands under a name is read in one way: its certificates and its wires, or the first fault of each.
use Rattle.std.proofs.Common.{◌≡◌, ◌≢◌, ◌⊎◌, ◌<◌, ◌≤◌, ℕ, zero, suc, List, [], ◌∷◌, length, map, take, Option, Some, None, Result, Ok, Err, refl, sym, ap, ap₂, subst, ◌∙◌, inl, inr, arith}
use Rattle.std.specs.FinMap.{get}
use Rattle.std.specs.List.{AllZip}
use Rattle.std.specs.Prelude.{slice_get}
use Rattle.serde_json.specs.Data.{Data}
use Rattle.serde_json.specs.Read.{read}
use Rattle.cocoon_io.specs.Files.{Files}
use Rattle.cocoon_io.specs.declared.folder.FolderFault.TheVariants.{TooLong}
use Rattle.cocoon_num.specs.Tree.{Design}
use Rattle.cocoon_num.specs.declared.limit_name.LimitName.{LimitName}
use Rattle.bundle_reader.specs.Readings.{Held}
use Rattle.bundle_reader.specs.declared.fault.ReadFault.{ReadFault}
use Rattle.bundle_reader.specs.declared.fault.ReadFault.TheVariants.{Missing, Folder, NotJson, Shape}
use Rattle.cert_text.specs.CertsForm.{certs_form}
use Rattle.cert_text.specs.Certifying.{Shows}
use Rattle.cert_text.specs.Rechecking.{AreNotAsMany, FirstIs, IsAccepted, IsRefused, reported}
use Rattle.cert_text.proofs.OneCert.{same_certs}
use Rattle.cert_text.proofs.SideBySide.{beside}
use Rattle.cnf_core.specs.Certificates as tree
use Rattle.cnf_core.specs.CertsOf.{cert_of}
use Rattle.cnf_core.specs.declared.certificates.Cert.{Cert}
use Rattle.json_forms.specs.Reading.{Answered}
use Rattle.json_forms.specs.Values.{IsJson}
use Rattle.net_bundle.specs.Bundle.{whole_name}
use Rattle.net_bundle.specs.Writing.{most_of}
use Rattle.net_bundle.specs.declared.file.BundleFile.{BundleFile}
use Rattle.net_bundle.specs.declared.file.BundleFile.TheVariants.{Certificates}
use Rattle.net_wiring.specs.Differences.{DiffersAt, FirstDifference, FirstOfWires, SameWires}
use Rattle.net_wiring.specs.declared.wiring.Wiring.{Wiring}
use Rattle.net_wiring.specs.declared.wiring.Wiring.TheVariants.{Ports, Switches, Hosts, Links, Programs}
use Rattle.obligation_laws.specs.Obligations.{Obligation, all_obligations}
use Rattle.p4_ir.specs.NetFits.{switch_numbers}
use Rattle.p4_ir.specs.NetTree.{NetData}
use Rattle.queries.specs.Checked.{IsBig}
use Rattle.command_reports.specs.declared.refusal.BundleCause.TheVariants as cause
use Rattle.command_reports.specs.declared.refusal.Refusal.{Refusal}
use Rattle.command_reports.specs.declared.refusal.Refusal.TheVariants.{OverLimit, Unread}
use Rattle.command_answers.specs.Standing.{CertificatesRead, IsCertificatesFault, NotAccepted}

same_some : {A : Type 0} (o : Option A) (x y : A) → o ≡ Some x → o ≡ Some y → x ≡ y
same_some {A = A} o x y p q = let e : ◌≡◌ {A = Option A} (Some x) (Some y) = sym p ∙ q in cc

none_or_some : {A : Type 0} (o : Option A) (x : A) → o ≡ None → o ≡ Some x → ⊥
none_or_some {A = A} o x p q = let e : ◌≡◌ {A = Option A} None (Some x) = sym p ∙ q in cc

short_or_long : (n most told : ℕ) → n ≤ most → told ≡ most → told < n → ⊥
short_or_long n most told few is many = omega (arith, few, is, many)

-- ---- values of JSON

one_value : (bytes : List ℕ) (v w : Data) → IsJson bytes v → IsJson bytes w → v ≡ w
one_value bytes v w h k = same_some (read bytes) v w h.1 k.1

one_answer : {A : Type 0} (form : Data → Result A (List ℕ)) (bytes : List ℕ) (x y : Result A (List ℕ)) → Answered form bytes x → Answered form bytes y → x ≡ y
one_answer form bytes x y h k = sym h.answers ∙ ap form (one_value bytes h.value k.value h.is k.is) ∙ k.answers

-- ---- certificates

abbrev CertsAnswer : Type 0
CertsAnswer = Result (List tree.Cert) (List ℕ)

-- what two say of one file
abbrev held_same : (files : Files) (out : List ℕ) (file : BundleFile) (a b : List ℕ) → get files (whole_name out file) ≡ Some a → get files (whole_name out file) ≡ Some b → a ≡ b
held_same files out file a b p q = same_some (get files (whole_name out file)) a b p q

pub one_certificates : (files : Files) (out : List ℕ) (a b : List Cert) → CertificatesRead files out a → CertificatesRead files out b → a ≡ b
one_certificates files out a b h k =
    let same = held_same files out Certificates h.bytes k.bytes h.held.0 k.held.0 in
    let other = subst (λ bytes. Answered certs_form bytes (Ok (map cert_of a))) same h.read in
    let e : ◌≡◌ {A = CertsAnswer} (Ok (map cert_of a)) (Ok (map cert_of b)) = one_answer certs_form k.bytes _ _ other k.read in
    same_certs a b cc

pub read_or_fault : (files : Files) (out : List ℕ) (certs : List Cert) (f : ReadFault) → CertificatesRead files out certs → IsCertificatesFault files out f → ⊥
read_or_fault files out certs (Missing file) h k = none_or_some (get files (whole_name out Certificates)) h.bytes k.1 h.held.0
read_or_fault files out certs (Folder file (TooLong most)) h k =
    let same = held_same files out Certificates h.bytes k.2.0 h.held.0 k.2.1 in
    short_or_long (length k.2.0) (most_of Certificates) most (subst (λ (b : List ℕ). length b ≤ most_of Certificates) same h.held.1) k.1 k.2.2
read_or_fault files out certs (NotJson file) h k =
    let same = held_same files out Certificates h.bytes k.1.0 h.held.0 k.1.1.0 in
    k.1.2 h.read.value (subst (λ b. IsJson b h.read.value) same h.read.is)
read_or_fault files out certs (Shape file pointer) h k =
    let same = held_same files out Certificates h.bytes k.1.0 h.held.0 k.1.1.0 in
    let other = subst (λ bytes. Answered certs_form bytes (Ok (map cert_of certs))) same h.read in
    let no : ◌≡◌ {A = CertsAnswer} (Ok (map cert_of certs)) (Err pointer) = one_answer certs_form k.1.0 _ _ other k.1.2 in
    cc
read_or_fault files out certs f h k = absurd k

-- a file of certificates that is no file of JSON has no value
no_json : (files : Files) (out : List ℕ) (a b : List ℕ) (v : Data) → get files (whole_name out Certificates) ≡ Some a → get files (whole_name out Certificates) ≡ Some b → ((d : Data) → ¬ IsJson a d) → IsJson b v → ⊥
no_json files out a b v p q none is = none v (subst (λ x. IsJson x v) (held_same files out Certificates b a q p) is)

short_long : (files : Files) (out : List ℕ) (a b : List ℕ) (most : ℕ) → Held files out Certificates a → get files (whole_name out Certificates) ≡ Some b → most ≡ most_of Certificates → most < length b → ⊥
short_long files out a b most h q is many =
    short_or_long (length b) (most_of Certificates) most (subst (λ (x : List ℕ). length x ≤ most_of Certificates) (held_same files out Certificates a b h.0 q) h.1) is many

pub one_certificates_fault : (files : Files) (out : List ℕ) (f g : ReadFault) → IsCertificatesFault files out f → IsCertificatesFault files out g → f ≡ g
one_certificates_fault files out (Missing a) (Missing b) h k = ap Missing (h.0 ∙ sym k.0)
one_certificates_fault files out (Missing a) (Folder b (TooLong most)) h k = absurd (none_or_some (get files (whole_name out Certificates)) k.2.0 h.1 k.2.1)
one_certificates_fault files out (Missing a) (NotJson b) h k = absurd (none_or_some (get files (whole_name out Certificates)) k.1.0 h.1 k.1.1.0)
one_certificates_fault files out (Missing a) (Shape b pointer) h k = absurd (none_or_some (get files (whole_name out Certificates)) k.1.0 h.1 k.1.1.0)
one_certificates_fault files out (Missing a) g h k = absurd k
one_certificates_fault files out (Folder a (TooLong most)) (Missing b) h k = absurd (none_or_some (get files (whole_name out Certificates)) h.2.0 k.1 h.2.1)
one_certificates_fault files out (Folder a (TooLong most)) (Folder b (TooLong other)) h k = ap₂ (λ (x : BundleFile) (n : ℕ). Folder x (TooLong n)) (h.0 ∙ sym k.0) (h.1 ∙ sym k.1)
one_certificates_fault files out (Folder a (TooLong most)) (NotJson b) h k = absurd (short_long files out k.1.0 h.2.0 most k.1.1 h.2.1 h.1 h.2.2)
one_certificates_fault files out (Folder a (TooLong most)) (Shape b pointer) h k = absurd (short_long files out k.1.0 h.2.0 most k.1.1 h.2.1 h.1 h.2.2)
one_certificates_fault files out (Folder a (TooLong most)) g h k = absurd k
one_certificates_fault files out (NotJson a) (Missing b) h k = absurd (none_or_some (get files (whole_name out Certificates)) h.1.0 k.1 h.1.1.0)
one_certificates_fault files out (NotJson a) (Folder b (TooLong most)) h k = absurd (short_long files out h.1.0 k.2.0 most h.1.1 k.2.1 k.1 k.2.2)
one_certificates_fault files out (NotJson a) (NotJson b) h k = ap NotJson (h.0 ∙ sym k.0)
one_certificates_fault files out (NotJson a) (Shape b pointer) h k = absurd (no_json files out h.1.0 k.1.0 k.1.2.value h.1.1.0 k.1.1.0 h.1.2 k.1.2.is)
one_certificates_fault files out (NotJson a) g h k = absurd k
one_certificates_fault files out (Shape a pointer) (Missing b) h k = absurd (none_or_some (get files (whole_name out Certificates)) h.1.0 k.1 h.1.1.0)
one_certificates_fault files out (Shape a pointer) (Folder b (TooLong most)) h k = absurd (short_long files out h.1.0 k.2.0 most h.1.1 k.2.1 k.1 k.2.2)
one_certificates_fault files out (Shape a pointer) (NotJson b) h k = absurd (no_json files out k.1.0 h.1.0 h.1.2.value k.1.1.0 h.1.1.0 k.1.2 h.1.2.is)
one_certificates_fault files out (Shape a pointer) (Shape b other) h k =
    let same = held_same files out Certificates h.1.0 k.1.0 h.1.1.0 k.1.1.0 in
    let answered : Answered certs_form k.1.0 (Err pointer) = subst (λ bytes. Answered certs_form bytes (Err pointer)) same h.1.2 in
    let e : ◌≡◌ {A = CertsAnswer} (Err pointer) (Err other) = one_answer certs_form k.1.0 _ _ answered k.1.2 in
    let told : pointer ≡ other = cc in
    ap₂ (λ (x : BundleFile) (p : List ℕ). Shape x p) (h.0 ∙ sym k.0) told
one_certificates_fault files out (Shape a pointer) g h k = absurd k
one_certificates_fault files out f g h k = absurd h

-- ---- the first certificate that is not accepted

-- two lists side by side up to a number
before_it : {A B : Type 0} (R : A → B → Type 0) (xs : List A) (ys : List B) (m n : ℕ) (x : A) (y : B) → m < n → AllZip R (take n xs) (take n ys) → slice_get xs m ≡ Some x → slice_get ys m ≡ Some y → R x y
before_it R [] ys m n x y less h p q = absurd cc
before_it R (a ∷ xs) [] m n x y less h p q = absurd cc
before_it R (a ∷ xs) (b ∷ ys) m zero x y less h p q = absurd (omega (arith, less))
before_it R (a ∷ xs) (b ∷ ys) zero (suc n) x y less h p q = let e : a ≡ x = cc in let f : b ≡ y = cc in subst (R x) f (subst (λ u. R u b) e h.0)
before_it R (a ∷ xs) (b ∷ ys) (suc m) (suc n) x y less h p q = before_it R xs ys m n x y (omega (arith, less)) h.1 p q

which : (m n : ℕ) → (m < n) ⊎ ((m ≡ n) ⊎ (n < m))
which zero zero = inr (inl refl)
which zero (suc n) = inl (omega arith)
which (suc m) zero = inr (inr (omega arith))
which (suc m) (suc n) = elim (which m n) [
  | inl less ↦ inl (omega (arith, less))
  | inr (inl same) ↦ inr (inl (ap suc same))
  | inr (inr more) ↦ inr (inr (omega (arith, more)))
]

-- it is not accepted, in a way of this kind
abbrev Unaccepted : Design → (ℕ → Obligation → Cert → Type 0) → Type 0
Unaccepted d P = (n : ℕ) (o : Obligation) (cert : Cert) → P n o cert → IsAccepted d o cert → ⊥

one_number : (d : Design) (certs : List Cert) (P Q : ℕ → Obligation → Cert → Type 0) → Unaccepted d P → Unaccepted d Q → (f : FirstIs d certs P) → (g : FirstIs d certs Q) → f.number ≡ g.number
one_number d certs P Q p q f g = elim (which f.number g.number) [
  | inl less ↦ absurd (p f.number f.here.obligation f.here.cert f.here.is (before_it (IsAccepted d) (all_obligations d) certs f.number g.number f.here.obligation f.here.cert less g.before f.here.owed f.here.given))
  | inr (inl same) ↦ same
  | inr (inr more) ↦ absurd (q g.number g.here.obligation g.here.cert g.here.is (before_it (IsAccepted d) (all_obligations d) certs g.number f.number g.here.obligation g.here.cert more f.before g.here.owed g.here.given))
]

-- what is said of both at that number
at_one : (d : Design) (certs : List Cert) (P Q : ℕ → Obligation → Cert → Type 0) → Unaccepted d P → Unaccepted d Q → (f : FirstIs d certs P) → (g : FirstIs d certs Q) → P g.number g.here.obligation g.here.cert
at_one d certs P Q p q f g =
    let same = one_number d certs P Q p q f g in
    let owed = same_some (slice_get (all_obligations d) g.number) f.here.obligation g.here.obligation (subst (λ n. slice_get (all_obligations d) n ≡ Some f.here.obligation) same f.here.owed) g.here.owed in
    let given = same_some (slice_get certs g.number) f.here.cert g.here.cert (subst (λ n. slice_get certs n ≡ Some f.here.cert) same f.here.given) g.here.given in
    subst (λ n. P n g.here.obligation g.here.cert) same (subst (P f.number g.here.obligation) given (subst (λ o. P f.number o f.here.cert) owed f.here.is))

abbrev Shown_not : Design → ℕ → ℕ → Obligation → Cert → Type 0
Shown_not d n number o cert = IsRefused d o cert × (n ≡ reported number)

abbrev Large : Design → ℕ → ℕ → Obligation → Cert → Type 0
Large d count number o cert = IsBig d o.level o.formula cert count

refused_is : (d : Design) (n : ℕ) → Unaccepted d (Shown_not d n)
refused_is d n number o cert h a = h.0.shows_not a.shows

large_is : (d : Design) (count : ℕ) → Unaccepted d (Large d count)
large_is d count number o cert h a = let few = a.few h.fit in let many = h.clauses.too_many in let is = h.clauses.count_is in omega (arith, few, many, is)

refused_or_large : (d : Design) (certs : List Cert) (n count : ℕ) → FirstIs d certs (Shown_not d n) → FirstIs d certs (Large d count) → ⊥
refused_or_large d certs n count f g =
    let refused = at_one d certs (Shown_not d n) (Large d count) (refused_is d n) (large_is d count) f g in
    let few = refused.0.few g.here.is.fit in
    let many = g.here.is.clauses.too_many in
    let is = g.here.is.clauses.count_is in
    omega (arith, few, many, is)

pub one_unaccepted : (d : Design) (certs : List Cert) (r q : Refusal) → NotAccepted d certs r → NotAccepted d certs q → r ≡ q
one_unaccepted d certs (Unread a (cause.Refused n)) (Unread b (cause.Refused m)) h k =
    let same = at_one d certs (Shown_not d n) (Shown_not d m) (refused_is d n) (refused_is d m) h.1.1 k.1.1 in
    ap₂ (λ (f : BundleFile) (x : ℕ). Unread f (cause.Refused x)) (h.0 ∙ sym k.0) (same.1 ∙ sym k.1.1.here.is.1)
one_unaccepted d certs (Unread a (cause.Refused n)) (OverLimit l count) h k = absurd (refused_or_large d certs n count h.1.1 k.1.1)
one_unaccepted d certs (Unread a (cause.Refused n)) q h k = absurd k
one_unaccepted d certs (OverLimit l count) (Unread b (cause.Refused m)) h k = absurd (refused_or_large d certs m count k.1.1 h.1.1)
one_unaccepted d certs (OverLimit l count) (OverLimit o other) h k =
    let same = at_one d certs (Large d count) (Large d other) (large_is d count) (large_is d other) h.1.1 k.1.1 in
    ap₂ (λ (x : LimitName) (n : ℕ). OverLimit x n) (h.0 ∙ sym k.0) (same.clauses.count_is ∙ sym k.1.1.here.is.clauses.count_is)
one_unaccepted d certs (OverLimit l count) q h k = absurd k
one_unaccepted d certs r q h k = absurd h

-- certificates that are all accepted
never : (d : Design) (certs : List Cert) (P : ℕ → Obligation → Cert → Type 0) → Unaccepted d P → AllZip (IsAccepted d) (all_obligations d) certs → FirstIs d certs P → ⊥
never d certs P p all f =
    let found = beside (IsAccepted d) (all_obligations d) certs all f.number f.here.obligation f.here.owed in
    let same = same_some (slice_get certs f.number) found.0 f.here.cert found.1 f.here.given in
    p f.number f.here.obligation f.here.cert f.here.is (subst (IsAccepted d f.here.obligation) same found.2)

pub accepted_or_not : (d : Design) (certs : List Cert) (r : Refusal) → AllZip (IsAccepted d) (all_obligations d) certs → NotAccepted d certs r → ⊥
accepted_or_not d certs (Unread file (cause.Refused n)) all h = never d certs (Shown_not d n) (refused_is d n) all h.1.1
accepted_or_not d certs (OverLimit limit count) all h = never d certs (Large d count) (large_is d count) all h.1.1
accepted_or_not d certs r all h = absurd h

-- ---- wires

-- a difference of wires is one of networks
pub of_networks : (old new : NetData) (w : Wiring) → FirstOfWires old new w → FirstDifference old new w
of_networks old new Ports h = h
of_networks old new (Switches at) h = h
of_networks old new (Hosts at) h = h
of_networks old new (Links at) h = h
of_networks old new (Programs at) h = absurd h

apart : {A : Type 0} (xs ys : List A) (n : ℕ) → DiffersAt xs ys n → xs ≡ ys → ⊥
apart xs ys n h e = h.1.1 (ap (λ zs. slice_get zs h.0) e)

pub same_or_differ : (old new : NetData) (w : Wiring) → SameWires old new → FirstOfWires old new w → ⊥
same_or_differ old new Ports s h = h s.0.0.0
same_or_differ old new (Switches at) s h = apart (switch_numbers old.switches) (switch_numbers new.switches) at h.1 s.0.0.1
same_or_differ old new (Hosts at) s h = apart old.hosts new.hosts at h.1 s.0.1
same_or_differ old new (Links at) s h = apart old.links new.links at h.1 s.1
same_or_differ old new (Programs at) s h = h
