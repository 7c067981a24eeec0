-- What is under a name after files were put in, and the names of the files of a bundle.
use Rattle.std.proofs.Common.{◌≡◌, ℕ, ◌^◌, ◌<◌, Bool, true, false, cond, List, [], ◌∷◌, ◌++◌, Option, Some, ◌⊎◌, inl, inr, codes, decimal, refl, ap, sym, subst, ◌∙◌, arith}
use Rattle.std.specs.FinMap.{get, insert, get-insert, slice_cmp-IsAntisymmetric, nat_cmp-IsAntisymmetric}
use Rattle.std.specs.Ordering.{nat_cmp, eq_by_cmp}
use Rattle.std.specs.Cmp.Lexicographic.{slice_cmp}
use Rattle.std.proofs.lemmas.Cmp.{nat_list_cmp_total, eq_by_cmp_equiv}
use Rattle.std.proofs.lemmas.Map.Views.{tells_apart}
use Rattle.std.proofs.lemmas.List.{append_cancel_left, append_cancel_right}
use Rattle.std.proofs.lemmas.Fmt.{decimal_injective}
use Rattle.cocoon_io.specs.Files.{Files}
use Rattle.net_bundle.specs.BundleNames.{program_name, rows_name, net_name, file_name}
use Rattle.net_bundle.specs.Bundle.{certificates_name, MadeFile, whole_name}
use Rattle.net_bundle.specs.Writing.{with_files}

-- ---- one name

abbrev same : List ℕ → List ℕ → Bool
same x y = eq_by_cmp (slice_cmp nat_cmp) x y

same_itself : (x y : List ℕ) → x ≡ y → same x y ≡ true
same_itself x y e = subst (λ z. same x z ≡ true) e ((eq_by_cmp_equiv nat_list_cmp_total).refl x)

same_is : (x y : List ℕ) → same x y ≡ true → x ≡ y
same_is x y h = tells_apart (slice_cmp-IsAntisymmetric nat_cmp-IsAntisymmetric) x y h

-- the bytes of the last of these files that has the name, or what was there
abbrev last_of : (out : List ℕ) → List MadeFile → List ℕ → Option (List ℕ) → Option (List ℕ)
last_of out [] name before = before
last_of out (f ∷ fs) name before = last_of out fs name (cond (same name (whole_name out f.file)) (Some f.bytes) before)

some_same : {A : Type 0} (x y : A) → ◌≡◌ {A = Option A} (Some x) (Some y) → x ≡ y
some_same x y e = cc

-- what is under a name after files were put in
get_last : (out : List ℕ) (fs : List MadeFile) (was is : Files) (name : List ℕ) → Some is ≡ with_files out fs (Some was) → get is name ≡ last_of out fs name (get was name)
get_last out [] was is name e = ap (λ (m : Files). get m name) (some_same is was e)
get_last out (f ∷ fs) was is name e = get_last out fs (insert was (whole_name out f.file) f.bytes) is name e ∙ ap (last_of out fs name) (get-insert nat_list_cmp_total was (whole_name out f.file) f.bytes name)

-- a file of this name is among them
abbrev pub HasFile : (out : List ℕ) → List MadeFile → List ℕ → Type 0
HasFile out [] name = ⊥
HasFile out (f ∷ fs) name = (whole_name out f.file ≡ name) ⊎ HasFile out fs name

-- the files of this name have these bytes
abbrev pub Agree : (out : List ℕ) → List MadeFile → List ℕ → List ℕ → Type 0
Agree out [] name bytes = Unit {0}
Agree out (f ∷ fs) name bytes = (whole_name out f.file ≡ name → f.bytes ≡ bytes) × Agree out fs name bytes

-- its bytes stay
stays : (out : List ℕ) (fs : List MadeFile) (name bytes : List ℕ) → Agree out fs name bytes → last_of out fs name (Some bytes) ≡ Some bytes
stays out [] name bytes a = refl
stays out (f ∷ fs) name bytes a = ap (last_of out fs name) (by_case (same name (whole_name out f.file)) refl) ∙ stays out fs name bytes a.1
  where
    by_case : (b : Bool) → same name (whole_name out f.file) ≡ b → cond b (Some f.bytes) (Some bytes) ≡ Some bytes
    by_case true e = ap Some (a.0 (sym (same_is name (whole_name out f.file) e)))
    by_case false e = refl

written : (out : List ℕ) (fs : List MadeFile) (name bytes : List ℕ) (before : Option (List ℕ)) → HasFile out fs name → Agree out fs name bytes → last_of out fs name before ≡ Some bytes
written out [] name bytes before h a = absurd h
written out (f ∷ fs) name bytes before (inl e) a =
    ap (λ b. last_of out fs name (cond b (Some f.bytes) before)) (same_itself name (whole_name out f.file) (sym e))
    ∙ ap (λ bs. last_of out fs name (Some bs)) (a.0 e) ∙ stays out fs name bytes a.1
written out (f ∷ fs) name bytes before (inr h) a = written out fs name bytes _ h a.1

unwritten : (out : List ℕ) (fs : List MadeFile) (name : List ℕ) (before : Option (List ℕ)) → (HasFile out fs name → ⊥) → last_of out fs name before ≡ before
unwritten out [] name before h = refl
unwritten out (f ∷ fs) name before h = ap (last_of out fs name) (by_case (same name (whole_name out f.file)) refl) ∙ unwritten out fs name before (λ k. h (inr k))
  where
    by_case : (b : Bool) → same name (whole_name out f.file) ≡ b → cond b (Some f.bytes) before ≡ before
    by_case true e = absurd (h (inl (sym (same_is name (whole_name out f.file) e))))
    by_case false e = refl

-- a file that was put in, of which no other of its name has other bytes
pub get_written : (out : List ℕ) (fs : List MadeFile) (was is : Files) (name bytes : List ℕ) → Some is ≡ with_files out fs (Some was) → HasFile out fs name → Agree out fs name bytes → get is name ≡ Some bytes
get_written out fs was is name bytes e h a = get_last out fs was is name e ∙ written out fs name bytes (get was name) h a

-- a name that was not put in
pub get_unwritten : (out : List ℕ) (fs : List MadeFile) (was is : Files) (name : List ℕ) → Some is ≡ with_files out fs (Some was) → (HasFile out fs name → ⊥) → get is name ≡ get was name
get_unwritten out fs was is name e h = get_last out fs was is name e ∙ unwritten out fs name (get was name) h

-- ---- the names of a bundle

abbrev last : List ℕ → ℕ → ℕ
last [] d = d
last (x ∷ xs) d = last xs x

last_append : (xs ys : List ℕ) (d : ℕ) → last (xs ++ ys) d ≡ last ys (last xs d)
last_append [] ys d = refl
last_append (x ∷ xs) ys d = last_append xs ys x

-- names of one bundle are equal only where what follows the bundle's name is
pub after_out : (out x y : List ℕ) → file_name out x ≡ file_name out y → x ≡ y
after_out out x y e = append_cancel_left (codes ".") x y (append_cancel_left out _ _ e)

-- a program ends in `4`, and rows in `n`
program_ends : (s : ℕ) → last (program_name s) 0 ≡ 52
program_ends s = last_append (decimal s) (codes ".p4") 115

rows_ends : (s : ℕ) → last (rows_name s) 0 ≡ 110
rows_ends s = last_append (decimal s) (codes ".rows.json") 115

pub program_or_rows : (s r : ℕ) → program_name s ≡ rows_name r → ⊥
program_or_rows s r e = let no : ◌≡◌ {A = ℕ} 52 110 = sym (program_ends s) ∙ ap (λ n. last n 0) e ∙ rows_ends r in omega arith

-- numbers whose texts are equal are
pub same_program : (s r : ℕ) → s < 2 ^ 16 → r < 2 ^ 16 → program_name s ≡ program_name r → s ≡ r
same_program s r h g e = decimal_injective s r (omega arith) (omega arith) (append_cancel_right (decimal s) (decimal r) (codes ".p4") (append_cancel_left (codes "s") _ _ e))

pub same_rows : (s r : ℕ) → s < 2 ^ 16 → r < 2 ^ 16 → rows_name s ≡ rows_name r → s ≡ r
same_rows s r h g e = decimal_injective s r (omega arith) (omega arith) (append_cancel_right (decimal s) (decimal r) (codes ".rows.json") (append_cancel_left (codes "s") _ _ e))

-- names that begin with `s`, with `c` and with `n`
abbrev first : List ℕ → ℕ
first [] = 0
first (x ∷ xs) = x

pub certificates_or_program : (s : ℕ) → certificates_name ≡ program_name s → ⊥
certificates_or_program s e = let no : ◌≡◌ {A = ℕ} 99 115 = ap first e in omega arith

pub certificates_or_rows : (s : ℕ) → certificates_name ≡ rows_name s → ⊥
certificates_or_rows s e = let no : ◌≡◌ {A = ℕ} 99 115 = ap first e in omega arith

pub certificates_or_net : certificates_name ≡ net_name → ⊥
certificates_or_net e = let no : ◌≡◌ {A = ℕ} 99 110 = ap first e in omega arith

pub program_or_net : (s : ℕ) → program_name s ≡ net_name → ⊥
program_or_net s e = let no : ◌≡◌ {A = ℕ} 115 110 = ap first e in omega arith

pub rows_or_net : (s : ℕ) → rows_name s ≡ net_name → ⊥
rows_or_net s e = let no : ◌≡◌ {A = ℕ} 115 110 = ap first e in omega arith
