-- What is under a name after files were put in, and that it fits.
use Rattle.std.proofs.Common.{◌≡◌, ◌⊎◌, inl, inr, ℕ, ◌≤◌, Bool, true, false, cond, List, [], ◌∷◌, ◌++◌, length, Option, Some, None, codes, refl, sym, ap, subst, ◌∙◌, arith}
use Rattle.std.specs.FinMap.{get, insert, get-insert, slice_cmp-IsAntisymmetric, nat_cmp-IsAntisymmetric}
use Rattle.std.specs.Ordering.{nat_cmp, eq_by_cmp}
use Rattle.std.specs.Cmp.Lexicographic.{slice_cmp}
use Rattle.std.proofs.lemmas.Cmp.{nat_list_cmp_total, eq_by_cmp_equiv}
use Rattle.std.proofs.lemmas.List.{append_cancel_left}
use Rattle.std.proofs.lemmas.Map.Views.{tells_apart}
use Rattle.cocoon_io.specs.Files.{Files}
use Rattle.p4_ir.specs.NetTree.{NetData, SwitchFiles}
use Rattle.net_bundle.specs.Bundle.{MadeFile, all_switch_files, bundle, certificate_files, certificates_name, net_text, whole_name}
use Rattle.net_bundle.specs.BundleNames.{file_name, net_name, program_name, rows_name}
use Rattle.net_bundle.specs.Network as net
use Rattle.net_bundle.specs.Writing.{AllFit, most_of, with_files}
use Rattle.net_bundle.specs.declared.file.BundleFile.{BundleFile}
use Rattle.net_bundle.specs.declared.file.BundleFile.TheVariants.{Program, Rows, Certificates, Network}
use Rattle.bundle_reader.specs.Readings.{AllShort, IsShort, ReadsAs}

-- ---- one name

abbrev same : List ℕ → List ℕ → Bool
same x y = eq_by_cmp (slice_cmp nat_cmp) x y

same_itself : (x y : List ℕ) → x ≡ y → same x y ≡ true
same_itself x y e = subst (λ z. same x z ≡ true) e ((eq_by_cmp_equiv nat_list_cmp_total).refl x)

same_is : (x y : List ℕ) → same x y ≡ true → x ≡ y
same_is x y h = tells_apart (slice_cmp-IsAntisymmetric nat_cmp-IsAntisymmetric) x y h

some_same : {A : Type 0} (x y : A) → ◌≡◌ {A = Option A} (Some x) (Some y) → x ≡ y
some_same x y e = cc

-- one of these files has this name
abbrev pub HasName : (out : List ℕ) → List MadeFile → List ℕ → Type 0
HasName out [] name = ⊥
HasName out (f ∷ fs) name = (whole_name out f.file ≡ name) ⊎ HasName out fs name

-- one of these files has the name, and fits if they do; its bytes are under it
pub record Put (out : List ℕ) (fs : List MadeFile) (is : Files) (name : List ℕ) : Type 0 where
  pub there : HasName out fs name
  pub file : BundleFile
  pub bytes : List ℕ
  pub named : whole_name out file ≡ name
  pub under : get is name ≡ Some bytes
  pub fits : AllFit fs → length bytes ≤ most_of file

later : (out : List ℕ) (f : MadeFile) (fs : List MadeFile) (is : Files) (name : List ℕ) → Put out fs is name → Put out (f ∷ fs) is name
later out f fs is name p = record { there = inr p.there; file = p.file; bytes = p.bytes; named = p.named; under = p.under; fits = λ h. p.fits h.1 }

here : (out : List ℕ) (f : MadeFile) (fs : List MadeFile) (is : Files) (name : List ℕ) → whole_name out f.file ≡ name → get is name ≡ Some f.bytes → Put out (f ∷ fs) is name
here out f fs is name e h = record { there = inl e; file = f.file; bytes = f.bytes; named = e; under = h; fits = λ a. a.0 }

-- a name has what it had, or what one of the files put there
pub after : (out : List ℕ) (fs : List MadeFile) (was is : Files) (name : List ℕ) → Some is ≡ with_files out fs (Some was) → (get is name ≡ get was name) ⊎ Put out fs is name
after out [] was is name e = inl (ap (λ (m : Files). get m name) (some_same is was e))
after out (f ∷ fs) was is name e =
    elim (after out fs (insert was (whole_name out f.file) f.bytes) is name e) [
      | inr p ↦ inr (later out f fs is name p)
      | inl h ↦ by_case (same name (whole_name out f.file)) refl (h ∙ get-insert nat_list_cmp_total was (whole_name out f.file) f.bytes name)
    ]
  where
    by_case : (b : Bool) → same name (whole_name out f.file) ≡ b → get is name ≡ cond b (Some f.bytes) (get was name) → (get is name ≡ get was name) ⊎ Put out (f ∷ fs) is name
    by_case true t g = inr (here out f fs is name (sym (same_is name (whole_name out f.file) t)) g)
    by_case false t g = inl g

pub put : (out : List ℕ) (fs : List MadeFile) (was is : Files) (name : List ℕ) → Some is ≡ with_files out fs (Some was) → HasName out fs name → Put out fs is name
put out [] was is name e h = absurd h
put out (f ∷ fs) was is name e (inr h) = later out f fs is name (put out fs (insert was (whole_name out f.file) f.bytes) is name e h)
put out (f ∷ fs) was is name e (inl n) =
    elim (after out fs (insert was (whole_name out f.file) f.bytes) is name e) [
      | inr p ↦ later out f fs is name p
      | inl h ↦ here out f fs is name n
          (h ∙ get-insert nat_list_cmp_total was (whole_name out f.file) f.bytes name ∙ ap (λ b. cond b (Some f.bytes) (get was name)) (same_itself name (whole_name out f.file) (sym n)))
    ]

-- ---- names of a bundle

abbrev first : List ℕ → ℕ
first [] = 0
first (x ∷ xs) = x

-- names of one bundle are equal only where what follows the bundle's name is
pub after_out : (out x y : List ℕ) → file_name out x ≡ file_name out y → x ≡ y
after_out out x y e = append_cancel_left (codes ".") x y (append_cancel_left out _ _ e)

pub apart : {P : Type 0} (out x y : List ℕ) → ¬ (first x ≡ first y) → file_name out x ≡ file_name out y → P
apart out x y h e = absurd (h (ap first (after_out out x y e)))

-- ---- sizes

-- files other than that of certificates may have one number of bytes
abbrev pub IsPart : BundleFile → Type 0
IsPart Certificates = ⊥
IsPart _ = Unit {0}

most_named : (out : List ℕ) (file other : BundleFile) → IsPart file → whole_name out other ≡ whole_name out file → most_of other ≡ most_of file
most_named out (Program s) (Program t) part e = refl
most_named out (Program s) (Rows t) part e = refl
most_named out (Program s) Network part e = refl
most_named out (Program s) Certificates part e = apart out certificates_name (program_name s) (λ h. let no : ◌≡◌ {A = ℕ} 99 115 = h in omega arith) e
most_named out (Rows s) (Program t) part e = refl
most_named out (Rows s) (Rows t) part e = refl
most_named out (Rows s) Network part e = refl
most_named out (Rows s) Certificates part e = apart out certificates_name (rows_name s) (λ h. let no : ◌≡◌ {A = ℕ} 99 115 = h in omega arith) e
most_named out Network (Program t) part e = refl
most_named out Network (Rows t) part e = refl
most_named out Network Network part e = refl
most_named out Network Certificates part e = apart out certificates_name net_name (λ h. let no : ◌≡◌ {A = ℕ} 99 110 = h in omega arith) e
most_named out Certificates other part e = absurd part

put_short : (out : List ℕ) (fs : List MadeFile) (is : Files) (file : BundleFile) → IsPart file → AllFit fs → Put out fs is (whole_name out file) → IsShort is out file
put_short out fs is file part fit p bytes e =
    let same : p.bytes ≡ bytes = some_same p.bytes bytes (sym p.under ∙ e) in
    subst (λ (m : ℕ). length bytes ≤ m) (most_named out file p.file part p.named) (subst (λ (b : List ℕ). length b ≤ most_of p.file) same (p.fits fit))

switches_short : (out : List ℕ) (fs : List MadeFile) (is : Files) (rest : List MadeFile) (ss : List SwitchFiles) → AllFit fs → ((name : List ℕ) → HasName out (all_switch_files ss ++ rest) name → Put out fs is name)
    → AllShort is out ss
switches_short out fs is rest [] fit h = tt
switches_short out fs is rest (s ∷ ss) fit h = (
  put_short out fs is (Program s.number) tt fit (h _ (inl refl)),
  put_short out fs is (Rows s.number) tt fit (h _ (inr (inl refl))),
  switches_short out fs is rest ss fit (λ name k. h name (inr (inr k))),
)

net_last : (out : List ℕ) (certificates : Option (List ℕ)) (text : List ℕ) → HasName out (certificate_files certificates ++ record { file = Network; bytes = text } ∷ []) (whole_name out Network)
net_last out None text = inl refl
net_last out (Some held) text = inr (inl refl)

net_there : (out : List ℕ) (last : List MadeFile) (ss : List SwitchFiles) (name : List ℕ) → HasName out last name → HasName out (all_switch_files ss ++ last) name
net_there out last [] name h = h
net_there out last (s ∷ ss) name h = inr (inr (net_there out last ss name h))

pub written_back : (was is : Files) (out design : List ℕ) (n : NetData) (certificates : Option (List ℕ)) → Some is ≡ with_files out (bundle design n certificates) (Some was)
    → AllFit (bundle design n certificates) → net.Network is out n → ReadsAs is out n
written_back was is out design n certificates e fit network =
    let fs : List MadeFile = bundle design n certificates in
    let last : List MadeFile = certificate_files certificates ++ record { file = Network; bytes = net_text design n } ∷ [] in (
      network,
      put_short out fs is Network tt fit (put out fs was is _ e (net_there out last n.switches _ (net_last out certificates (net_text design n)))),
      switches_short out fs is last n.switches fit (λ name h. put out fs was is name e h),
    )
