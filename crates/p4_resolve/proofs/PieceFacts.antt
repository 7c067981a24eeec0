-- Pieces that are judged one after the other.
use Rattle.std.proofs.Common.{◌≡◌, ℕ, ◌+◌, ◌^◌, Bool, true, false, List, [], ◌∷◌, ◌++◌, length, map, Result, Err, IfErr, if◌then◌else◌, refl, sym, ap, ap₂, subst, ◌∙◌, append_assoc}
use Rattle.std.proofs.Math.Nat.{mod-add-mod, mod-mod}
use Rattle.p4_texts.specs.KindFaults.{Piece, faults_from}
use Rattle.p4_resolve.specs.FirstKind.{first_of}
use Rattle.p4_resolve.specs.Judged.{Rest, Passes, Stops, StopsBy, Breaks, index, indices}
use Rattle.p4_resolve.specs.declared.fault.KindFault.{KindFault}
use Rattle.p4_resolve.specs.declared.fault.KindFault.TheVariants.{Kind, NoMemory}

-- ---- indices

pub index_kept : (n : ℕ) → index (index n) ≡ index n
index_kept n = mod-mod n (2 ^ 32)

pub then_after : (m n : ℕ) → index (index m + n) ≡ index (m + n)
then_after m n = mod-add-mod m (2 ^ 32) n

same_after : (m n l : ℕ) → index m ≡ index n → index (m + l) ≡ index (n + l)
same_after m n l e = sym (then_after m l) ∙ ap (λ i. index (i + l)) e ∙ then_after n l

one_index : (b : Bool) (m n : ℕ) (is js : List ℕ) → index m ≡ index n → map index is ≡ map index js → map index (if b then is else m ∷ is) ≡ map index (if b then js else n ∷ js)
one_index true m n is js e h = h
one_index false m n is js e h = ap₂ (λ i ks. i ∷ ks) e h

same_indices : (m n : ℕ) (ps : List Piece) → index m ≡ index n → indices m ps ≡ indices n ps
same_indices m n [] e = refl
same_indices m n (x ∷ xs) e =
    one_index x.keeps m n (faults_from (m + length x.tokens) xs) (faults_from (n + length x.tokens) xs) e
    (same_indices (m + length x.tokens) (n + length x.tokens) xs (same_after m n (length x.tokens) e))

-- ---- pieces

pub started : (at : ℕ) (ps : List Piece) → Rest at ps at ps
started at ps = record { faults = λ qs. refl }

-- the first of those left keeps its rule
pub passed : (begin : ℕ) (ps : List Piece) (at end : ℕ) (x : Piece) (rs : List Piece) → Rest begin ps at (x ∷ rs) → x.keeps ≡ true → end ≡ index (at + length x.tokens) → Rest begin ps end rs
passed begin ps at end x rs r k e = record {
  faults = λ qs.
      same_indices end (at + length x.tokens) (rs ++ qs) (ap index e ∙ index_kept (at + length x.tokens))
      ∙ sym (ap (λ b. map index (if b then faults_from (at + length x.tokens) (rs ++ qs) else at ∷ faults_from (at + length x.tokens) (rs ++ qs))) k)
      ∙ r.faults qs;
}

-- it breaks its rule
pub stopped : (begin : ℕ) (ps : List Piece) (at : ℕ) (x : Piece) (rs : List Piece) → Rest begin ps at (x ∷ rs) → x.keeps ≡ false → Stops begin ps (index at)
stopped begin ps at x rs r k = record {
  first = λ qs.
      ap first_of (sym (r.faults qs))
      ∙ ap (λ b. first_of (map index (if b then faults_from (at + length x.tokens) (rs ++ qs) else at ∷ faults_from (at + length x.tokens) (rs ++ qs)))) k;
}

pub stopped_by : (begin : ℕ) (ps : List Piece) (at : ℕ) (x : Piece) (rs : List Piece) (fault : KindFault) → Rest begin ps at (x ∷ rs) → Breaks at x.keeps fault → StopsBy begin ps fault
stopped_by begin ps at x rs (Kind i) r h = rw h.0 (stopped begin ps at x rs r h.1)
stopped_by begin ps at x rs NoMemory r h = tt

-- the first ones of those left pass
pub all_passed : (begin : ℕ) (ps : List Piece) (at end : ℕ) (xs rs : List Piece) → Rest begin ps at (xs ++ rs) → Passes at xs end → Rest begin ps end rs
all_passed begin ps at end xs rs r p = record {
  faults = λ qs. p.faults (rs ++ qs) ∙ ap (indices at) (sym (append_assoc xs rs qs)) ∙ r.faults qs;
}

-- one of them breaks its rule
pub one_stopped : (begin : ℕ) (ps : List Piece) (at : ℕ) (xs rs : List Piece) (fault : KindFault) → Rest begin ps at (xs ++ rs) → StopsBy at xs fault → StopsBy begin ps fault
one_stopped begin ps at xs rs (Kind i) r s = record {
  first = λ qs. ap first_of (sym (r.faults qs)) ∙ ap (λ zs. first_of (indices at zs)) (append_assoc xs rs qs) ∙ s.first (rs ++ qs);
}
one_stopped begin ps at xs rs NoMemory r s = tt

-- the error of a call, handed on
pub handed_on : {A : Type 0} (r : Result A KindFault) (fault : KindFault) (P : KindFault → Type 0) → r ≡ Err fault → P fault → IfErr r P
handed_on r fault P e h = subst (λ r. IfErr r P) (sym e) h
