-- Files that are written in two parts, and switch by switch.
use Rattle.std.proofs.Common.{◌≡◌, ℕ, zero, suc, ◌+◌, ◌<◌, List, [], ◌∷◌, ◌++◌, Option, Some, Result, Ok, Err, IfErr, length, take, drop, slice_get, refl, sym, ap, ◌∙◌, subst, inl, inr, arith}
use Rattle.std.specs.Result.{IsErrAnd}
use Rattle.cocoon_io.specs.Files.{Files}
use Rattle.cocoon_io.specs.Calls.{with_file}
use Rattle.p4_ir.specs.NetTree.{SwitchFiles}
use Rattle.net_bundle.specs.declared.fault.BundleFault.{BundleFault}
use Rattle.net_bundle.specs.declared.fault.BundleFault.TheVariants.{Folder, Limit, NoMemory}
use Rattle.net_bundle.specs.declared.file.BundleFile.{BundleFile}
use Rattle.net_bundle.specs.Bundle.{MadeFile, all_switch_files, switch_files, whole_name}
use Rattle.net_bundle.specs.Writing.{with_files, StopsAt, AllFit, FirstOver, NotMade, NotWritten}

-- ---- two parts

with_both : (out : List ℕ) (fs gs : List MadeFile) (content : Option Files) → with_files out (fs ++ gs) content ≡ with_files out gs (with_files out fs content)
with_both out [] gs content = refl
with_both out (f ∷ fs) gs content = with_both out fs gs (with_file content (whole_name out f.file) f.bytes)

pub written_both : (out : List ℕ) (fs gs : List MadeFile) (was mid is : Option Files) → mid ≡ with_files out fs was → is ≡ with_files out gs mid → is ≡ with_files out (fs ++ gs) was
written_both out fs gs was mid is p q = q ∙ ap (with_files out gs) p ∙ sym (with_both out fs gs was)

pub fit_before : (fs gs : List MadeFile) → AllFit (fs ++ gs) → AllFit fs
fit_before [] gs a = tt
fit_before (f ∷ fs) gs a = (a.0, fit_before fs gs a.1)

pub fit_after : (fs gs : List MadeFile) → AllFit (fs ++ gs) → AllFit gs
fit_after [] gs a = a
fit_after (f ∷ fs) gs a = fit_after fs gs a.1

none_over : (fs : List MadeFile) (file : BundleFile) → AllFit fs → FirstOver fs file → ⊥
none_over [] file a h = h
none_over (f ∷ fs) file a (inl h) = let l = a.0 in let k = h.1 in omega (arith, l, k)
none_over (f ∷ fs) file a (inr h) = none_over fs file a.1 h.1

take_front : (fs gs : List MadeFile) (k : ℕ) → (m : ℕ) × (take m (fs ++ gs) ≡ take k fs)
take_front [] gs zero = (0, refl)
take_front [] gs (suc k) = (0, refl)
take_front (f ∷ fs) gs zero = (0, refl)
take_front (f ∷ fs) gs (suc k) = let t = take_front fs gs k in (suc t.0, ap (λ xs. f ∷ xs) t.1)

take_back : (fs gs : List MadeFile) (k : ℕ) → (m : ℕ) × (take m (fs ++ gs) ≡ fs ++ take k gs)
take_back [] gs k = (k, refl)
take_back (f ∷ fs) gs k = let t = take_back fs gs k in (suc t.0, ap (λ xs. f ∷ xs) t.1)

-- the file at an index of one part, and those before it
record Stands (xs : List MadeFile) (f : MadeFile) (before through : List MadeFile) : Type 0 where
  index : ℕ
  at : slice_get xs index ≡ Some f
  before_is : take index xs ≡ before
  through_is : take (index + 1) xs ≡ through

stands_after : (g : MadeFile) (xs : List MadeFile) (f : MadeFile) (before through : List MadeFile) → Stands xs f before through → Stands (g ∷ xs) f (g ∷ before) (g ∷ through)
stands_after g xs f before through s =
    let next : suc s.index + 1 ≡ suc (s.index + 1) = omega arith in
    record {
      index = suc s.index;
      at = s.at;
      before_is = ap (λ ys. g ∷ ys) s.before_is;
      through_is = ap (λ n. take n (g ∷ xs)) next ∙ ap (λ ys. g ∷ ys) s.through_is;
    }

stands_front : (fs gs : List MadeFile) (i : ℕ) (f : MadeFile) → slice_get fs i ≡ Some f → Stands (fs ++ gs) f (take i fs) (take (i + 1) fs)
stands_front [] gs i f e = cc
stands_front (g ∷ fs) gs zero f e = record { index = 0; at = e; before_is = refl; through_is = refl }
stands_front (g ∷ fs) gs (suc i) f e =
    let next : suc i + 1 ≡ suc (i + 1) = omega arith in
    subst (λ n. Stands (g ∷ (fs ++ gs)) f (g ∷ take i fs) (take n (g ∷ fs))) (sym next) (stands_after g (fs ++ gs) f (take i fs) (take (i + 1) fs) (stands_front fs gs i f e))

stands_back : (fs gs : List MadeFile) (i : ℕ) (f : MadeFile) → slice_get gs i ≡ Some f → Stands (fs ++ gs) f (fs ++ take i gs) (fs ++ take (i + 1) gs)
stands_back [] gs i f e = record { index = i; at = e; before_is = refl; through_is = refl }
stands_back (g ∷ fs) gs i f e = stands_after g (fs ++ gs) f (fs ++ take i gs) (fs ++ take (i + 1) gs) (stands_back fs gs i f e)

stop_front : (out : List ℕ) (fs gs : List MadeFile) (file : BundleFile) (was is : Option Files) → StopsAt out fs file was is → StopsAt out (fs ++ gs) file was is
stop_front out fs gs file was is s =
    let t = stands_front fs gs s.index s.at s.at_index in
    record {
      index = t.index;
      at = s.at;
      at_index = t.at;
      of_file = s.of_file;
      left = elim s.left [
        | inl p ↦ inl (p ∙ ap (λ xs. with_files out xs was) (sym t.before_is))
        | inr p ↦ inr (p ∙ ap (λ xs. with_files out xs was) (sym t.through_is))
      ];
    }

stop_back : (out : List ℕ) (fs gs : List MadeFile) (file : BundleFile) (was mid is : Option Files) → mid ≡ with_files out fs was → StopsAt out gs file mid is → StopsAt out (fs ++ gs) file was is
stop_back out fs gs file was mid is m s =
    let t = stands_back fs gs s.index s.at s.at_index in
    record {
      index = t.index;
      at = s.at;
      at_index = t.at;
      of_file = s.of_file;
      left = elim s.left [
        | inl p ↦ inl (written_both out fs (take s.index gs) was mid is m p ∙ ap (λ xs. with_files out xs was) (sym t.before_is))
        | inr p ↦ inr (written_both out fs (take (s.index + 1) gs) was mid is m p ∙ ap (λ xs. with_files out xs was) (sym t.through_is))
      ];
    }

-- the writes stopped in the first part
pub stops_first : (out : List ℕ) (fs gs : List MadeFile) (was is : Option Files) (r : BundleFault) → AllFit (fs ++ gs) → NotWritten out fs was is r → NotWritten out (fs ++ gs) was is r
stops_first out fs gs was is (Limit file) a h = absurd (none_over fs file (fit_before fs gs a) h.0)
stops_first out fs gs was is (Folder file fault) a h = (a, h.1, stop_front out fs gs file was is h.2)
stops_first out fs gs was is NoMemory a (inl e) = inl e
stops_first out fs gs was is NoMemory a (inr (x, (k, e))) = let t = take_front fs gs k in inr (a, (t.0, e ∙ ap (λ xs. with_files out xs was) (sym t.1)))

-- and in the second, when the first was written
pub stops_second : (out : List ℕ) (fs gs : List MadeFile) (was mid is : Option Files) (r : BundleFault) → AllFit (fs ++ gs) → mid ≡ with_files out fs was → NotWritten out gs mid is r
    → NotWritten out (fs ++ gs) was is r
stops_second out fs gs was mid is (Limit file) a m h = absurd (none_over gs file (fit_after fs gs a) h.0)
stops_second out fs gs was mid is (Folder file fault) a m h = (a, h.1, stop_back out fs gs file was mid is m h.2)
stops_second out fs gs was mid is NoMemory a m (inl e) =
    let t = take_back fs gs 0 in
    inr (a, (t.0, e ∙ m ∙ sym (ap (λ xs. with_files out xs was) t.1 ∙ with_both out fs (take 0 gs) was)))
stops_second out fs gs was mid is NoMemory a m (inr (x, (k, e))) =
    let t = take_back fs gs k in
    inr (a, (t.0, written_both out fs (take k gs) was mid is m e ∙ ap (λ xs. with_files out xs was) (sym t.1)))

-- ---- switch by switch

pub there : (ss : List SwitchFiles) (i : ℕ) → i < length ss → (s : SwitchFiles) × (slice_get ss i ≡ Some s)
there [] i h = let no : ⊥ = omega arith in absurd no
there (s ∷ ss) zero h = (s, refl)
there (s ∷ ss) (suc i) h = there ss i (omega (arith, h))

pub drop_there : (ss : List SwitchFiles) (i : ℕ) (s : SwitchFiles) → slice_get ss i ≡ Some s → drop i ss ≡ s ∷ drop (i + 1) ss
drop_there [] i s e = cc
drop_there (t ∷ ss) zero s e = let same : t ≡ s = cc in ap (λ x. x ∷ ss) same
drop_there (t ∷ ss) (suc i) s e = let next : suc i + 1 ≡ suc (i + 1) = omega arith in rw next (drop_there ss i s e)

-- those of the switches before it, its own, and those after it
files_split : (ss : List SwitchFiles) (i : ℕ) (s : SwitchFiles) → slice_get ss i ≡ Some s
    → all_switch_files ss ≡ all_switch_files (take i ss) ++ (switch_files s ++ all_switch_files (drop (i + 1) ss))
files_split [] i s e = cc
files_split (t ∷ ss) zero s e = let same : t ≡ s = cc in ap (λ x. switch_files x ++ all_switch_files ss) same
files_split (t ∷ ss) (suc i) s e =
    let next : suc i + 1 ≡ suc (i + 1) = omega arith in
    rw next (ap (λ xs. switch_files t ++ xs) (files_split ss i s e))

files_through : (ss : List SwitchFiles) (i : ℕ) (s : SwitchFiles) → slice_get ss i ≡ Some s → all_switch_files (take (i + 1) ss) ≡ all_switch_files (take i ss) ++ switch_files s
files_through [] i s e = cc
files_through (t ∷ ss) zero s e = let same : t ≡ s = cc in ap switch_files same
files_through (t ∷ ss) (suc i) s e =
    let next : suc i + 1 ≡ suc (i + 1) = omega arith in
    rw next (ap (λ xs. switch_files t ++ xs) (files_through ss i s e))

-- one switch more was written
pub switch_written : (out : List ℕ) (ss : List SwitchFiles) (i : ℕ) (s : SwitchFiles) (was mid is : Option Files) → slice_get ss i ≡ Some s
    → mid ≡ with_files out (all_switch_files (take i ss)) was → is ≡ with_files out (switch_files s) mid → is ≡ with_files out (all_switch_files (take (i + 1) ss)) was
switch_written out ss i s was mid is e p q =
    written_both out (all_switch_files (take i ss)) (switch_files s) was mid is p q ∙ ap (λ xs. with_files out xs was) (sym (files_through ss i s e))

-- the writes stopped at a switch
pub switch_stops : (out : List ℕ) (ss : List SwitchFiles) (i : ℕ) (s : SwitchFiles) (was mid is : Option Files) (r : BundleFault) → slice_get ss i ≡ Some s → AllFit (all_switch_files ss)
    → mid ≡ with_files out (all_switch_files (take i ss)) was → NotWritten out (switch_files s) mid is r → NotWritten out (all_switch_files ss) was is r
switch_stops out ss i s was mid is r e a p h =
    let split = files_split ss i s e in
    let before = all_switch_files (take i ss) in
    let after = all_switch_files (drop (i + 1) ss) in
    let fit = subst AllFit split a in
    subst (λ fs. NotWritten out fs was is r) (sym split)
    (stops_second out before (switch_files s ++ after) was mid is r fit p (stops_first out (switch_files s) after mid is r (fit_after before (switch_files s ++ after) fit) h))

pub switch_fit : (ss : List SwitchFiles) (i : ℕ) (s : SwitchFiles) → slice_get ss i ≡ Some s → AllFit (all_switch_files ss) → AllFit (switch_files s)
switch_fit ss i s e a = fit_before (switch_files s) (all_switch_files (drop (i + 1) ss)) (fit_after (all_switch_files (take i ss)) _ (subst AllFit (files_split ss i s e) a))

-- ---- what is told

-- nothing was written where files were not made
pub none_written : (out : List ℕ) (fs : List MadeFile) (was : Option Files) (r : BundleFault) → NotMade fs r → NotWritten out fs was was r
none_written out fs was (Limit file) h = (h, refl)
none_written out fs was (Folder file fault) h = absurd h
none_written out fs was NoMemory h = inl refl

pub told : {A : Type 0} (P : BundleFault → Type 0) (r : Result A BundleFault) (fault : BundleFault) → IsErrAnd r (λ e. e ≡ fault) → P fault → IfErr r P
told P (Ok x) fault is h = tt
told P (Err e) fault is h = subst P (sym is) h
