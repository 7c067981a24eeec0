-- Files that are written one after another.
use Rattle.std.proofs.Common.{◌≡◌, ℕ, zero, suc, ◌+◌, ◌≤◌, ◌<◌, List, [], ◌∷◌, Option, Some, length, map, take, slice_get, slice_index_or, refl, sym, ap, ◌∙◌, subst, inl, inr, arith, ◌⊎◌}
use Rattle.cocoon_io.specs.Files.{Files}
use Rattle.cocoon_io.specs.Calls.{with_file, Rose}
use Rattle.cocoon_io.specs.declared.folder.FolderFault.{FolderFault}
use Rattle.cocoon_io.specs.declared.folder.FolderFault.TheVariants as folder_fault
use Rattle.net_bundle.specs.declared.fault.BundleFault.{BundleFault}
use Rattle.net_bundle.specs.declared.fault.BundleFault.TheVariants.{Folder, Limit, NoMemory}
use Rattle.net_bundle.specs.declared.file.BundleFile.{BundleFile}
use Rattle.net_bundle.specs.declared.make.MadeFile.{MadeFile}
use Rattle.net_bundle.specs.Bundle as spec
use Rattle.net_bundle.specs.NetFileOf.{made_of}
use Rattle.net_bundle.specs.Writing.{with_files, SomeWritten, StopsAt, most_of, AllFit, FirstOver, NotWritten, WriteFaultRose}

-- ---- before an index

-- the file at an index
pub got : (fs : List MadeFile) (i : ℕ) (f : MadeFile) → i < length fs → f ≡ slice_index_or fs i f → slice_get (map made_of fs) i ≡ Some (made_of f)
got [] i f h e = let no : ⊥ = omega arith in absurd no
got (g ∷ fs) zero f h e = ap (λ x. Some (made_of x)) (sym e)
got (g ∷ fs) (suc i) f h e = got fs i f (omega arith) e

pub fits_one : (fs : List spec.MadeFile) (i : ℕ) (f : spec.MadeFile) → slice_get fs i ≡ Some f → AllFit fs → AllFit (f ∷ [])
fits_one (g ∷ fs) zero f e a = let same : g ≡ f = cc in (subst (λ (x : spec.MadeFile). length x.bytes ≤ most_of x.file) same a.0, tt)
fits_one (g ∷ fs) (suc i) f e a = fits_one fs i f e a.1
fits_one [] i f e a = cc

one_more : (out : List ℕ) (fs : List spec.MadeFile) (i : ℕ) (f : spec.MadeFile) (content : Option Files) → slice_get fs i ≡ Some f
    → with_files out (take (i + 1) fs) content ≡ with_files out (f ∷ []) (with_files out (take i fs) content)
one_more out (g ∷ fs) zero f content e = cc
one_more out (g ∷ fs) (suc i) f content e = let n : suc i + 1 ≡ suc (i + 1) = omega arith in rw n (one_more out fs i f (with_file content (spec.whole_name out g.file) g.bytes) e)
one_more out [] i f content e = cc

-- one more of the files was put in
pub put_here : (out : List ℕ) (fs : List spec.MadeFile) (i : ℕ) (f : spec.MadeFile) (was before after : Option Files) → slice_get fs i ≡ Some f
    → before ≡ with_files out (take i fs) was → after ≡ with_files out (f ∷ []) before → after ≡ with_files out (take (i + 1) fs) was
put_here out fs i f was before after e p q = q ∙ ap (with_files out (f ∷ [])) p ∙ sym (one_more out fs i f was e)

-- ---- why a file was not written

-- the write of one file
pub one_stops : (out : List ℕ) (f : spec.MadeFile) (was is : Option Files) (fault : FolderFault) (r : BundleFault) → AllFit (f ∷ [])
    → (is ≡ was) ⊎ (is ≡ with_files out (f ∷ []) was) → (fault ≡ folder_fault.Failed) ⊎ (fault ≡ folder_fault.NoMemory)
    → (fault ≡ folder_fault.Failed → r ≡ Folder f.file folder_fault.Failed) → (fault ≡ folder_fault.NoMemory → r ≡ NoMemory) → NotWritten out (f ∷ []) was is r
one_stops out f was is fault r a left (inl e) p q =
    subst (NotWritten out (f ∷ []) was is) (sym (p e)) (a, refl, record { index = 0; at = f; at_index = refl; of_file = refl; left = left })
one_stops out f was is fault r a (inl left) (inr e) p q = subst (NotWritten out (f ∷ []) was is) (sym (q e)) (inl left)
one_stops out f was is fault r a (inr left) (inr e) p q = subst (NotWritten out (f ∷ []) was is) (sym (q e)) (inr (a, (1, left)))

pub one_counted : (last : Option ℕ) (old new : ℕ) (file : BundleFile) (fault : FolderFault) (r : BundleFault)
    → (fault ≡ folder_fault.Failed → Rose last old new) → (fault ≡ folder_fault.NoMemory → new ≡ old) → (fault ≡ folder_fault.Failed) ⊎ (fault ≡ folder_fault.NoMemory)
    → (fault ≡ folder_fault.Failed → r ≡ Folder file folder_fault.Failed) → (fault ≡ folder_fault.NoMemory → r ≡ NoMemory) → WriteFaultRose last old new r
one_counted last old new file fault r rose same (inl e) p q = subst (WriteFaultRose last old new) (sym (p e)) (rose e)
one_counted last old new file fault r rose same (inr e) p q = subst (WriteFaultRose last old new) (sym (q e)) (same e)

-- the same of that file among others, of which those before it were put in
some_more : (out : List ℕ) (fs : List spec.MadeFile) (i : ℕ) (f : spec.MadeFile) (was before is : Option Files) → slice_get fs i ≡ Some f
    → before ≡ with_files out (take i fs) was → SomeWritten out (f ∷ []) before is → SomeWritten out fs was is
some_more out fs i f was before is e p (zero, q) = (i, q ∙ p)
some_more out fs i f was before is e p (suc zero, q) = (i + 1, put_here out fs i f was before is e p q)
some_more out fs i f was before is e p (suc (suc k), q) = (i + 1, put_here out fs i f was before is e p q)

at_first : (f : spec.MadeFile) (i : ℕ) (g : spec.MadeFile) → slice_get (f ∷ []) i ≡ Some g → (i ≡ 0) × (g ≡ f)
at_first f zero g e = (refl, cc)
at_first f (suc zero) g e = cc
at_first f (suc (suc i)) g e = cc

stop_more : (out : List ℕ) (fs : List spec.MadeFile) (i : ℕ) (f : spec.MadeFile) (file : BundleFile) (was before is : Option Files) → slice_get fs i ≡ Some f
    → before ≡ with_files out (take i fs) was → StopsAt out (f ∷ []) file before is → StopsAt out fs file was is
stop_more out fs i f file was before is e p s =
    let here = at_first f s.index s.at s.at_index in
    record {
      index = i;
      at = f;
      at_index = e;
      of_file = ap (λ (g : spec.MadeFile). g.file) (sym here.1) ∙ s.of_file;
      left = elim s.left [
        | inl q ↦ inl (q ∙ ap (λ n. with_files out (take n (f ∷ [])) before) here.0 ∙ p)
        | inr q ↦ inr (put_here out fs i f was before is e p (q ∙ ap (λ n. with_files out (take (n + 1) (f ∷ [])) before) here.0))
      ];
    }

never_over : (f : spec.MadeFile) (file : BundleFile) → AllFit (f ∷ []) → FirstOver (f ∷ []) file → ⊥
never_over f file a (inl h) = let l = a.0 in let k = h.1 in omega (arith, l, k)
never_over f file a (inr h) = h.1

pub stops : (out : List ℕ) (fs : List spec.MadeFile) (i : ℕ) (f : spec.MadeFile) (was before is : Option Files) (r : BundleFault) → slice_get fs i ≡ Some f → AllFit fs
    → before ≡ with_files out (take i fs) was → NotWritten out (f ∷ []) before is r → NotWritten out fs was is r
stops out fs i f was before is (Limit file) e a p h = absurd (never_over f file (fits_one fs i f e a) h.0)
stops out fs i f was before is (Folder file fault) e a p h = (a, h.1, stop_more out fs i f file was before is e p h.2)
stops out fs i f was before is NoMemory e a p (inl q) = inr (a, some_more out fs i f was before is e p (0, q))
stops out fs i f was before is NoMemory e a p (inr (x, s)) = inr (a, some_more out fs i f was before is e p s)

-- what a write left, under the file's own name
pub one_left : (out : List ℕ) (f : spec.MadeFile) (name bytes : List ℕ) (was is : Option Files) → name ≡ spec.whole_name out f.file → bytes ≡ f.bytes
    → (is ≡ was) ⊎ (is ≡ with_file was name bytes) → (is ≡ was) ⊎ (is ≡ with_files out (f ∷ []) was)
one_left out f name bytes was is n b (inl e) = inl e
one_left out f name bytes was is n b (inr e) = inr (e ∙ ap (λ x. with_file was x bytes) n ∙ ap (with_file was (spec.whole_name out f.file)) b)
