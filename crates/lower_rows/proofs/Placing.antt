-- The groups of all functions, place by place.
use Rattle.std.proofs.Common.{◌≡◌, ℕ, zero, suc, ◌+◌, ◌<◌, List, [], ◌∷◌, ◌++◌, drop, length, get_or, slice_get, Option, Some, None, if◌then◌else◌, refl, sym, ap, ap₂, ◌∙◌, arith}
use Rattle.cocoon_num.specs.Lists.{is_one_of}
use Rattle.cocoon_num.specs.Tree.{FunctionDecl}
use Rattle.cocoon_num.specs.declared.fun_table.FunTable.{FunTable}
use Rattle.lowering_correct.specs.Groups.{ForkGroup, groups_at, groups_of}

pub there-at : {A : Type 0} (xs : List A) (i : ℕ) (x : A) → i < length xs → x ≡ get_or xs i x → slice_get xs i ≡ Some x
there-at [] i x l e = absurd (omega arith)
there-at (y ∷ xs) zero x l e = ap Some (sym e)
there-at (y ∷ xs) (suc i) x l e = there-at xs i x (omega arith) e

abbrev no-decls : List FunctionDecl
no-decls = []

drop-nil : (i : ℕ) → drop i no-decls ≡ no-decls
drop-nil zero = refl
drop-nil (suc i) = refl

pub groups-end : (forked : List (List ℕ)) (fs : List FunctionDecl) → groups_of forked fs [] ≡ []
groups-end forked [] = refl
groups-end forked (f ∷ fs) = refl

abbrev one-place : List (List ℕ) → Option FunctionDecl → Option FunTable → List ForkGroup
one-place forked f t = elim f [ None ↦ [] | Some f ↦ if is_one_of forked f.name.text then groups_at f t else [] ]

no-functions : (forked : List (List ℕ)) (places : List (Option FunTable)) (i k : ℕ) (t : Option FunTable)
    → groups_of forked (drop i no-decls) (drop i places) ≡ one-place forked (slice_get no-decls i) t ++ groups_of forked (drop k no-decls) (drop k places)
no-functions forked places i k t = ap (λ fs. groups_of forked fs (drop i places)) (drop-nil i) ∙ sym (ap₂ (λ (o : Option FunctionDecl) fs. one-place forked o t ++ groups_of forked fs (drop k places)) (none i) (drop-nil k))
  where
    none : (i : ℕ) → slice_get no-decls i ≡ None
    none zero = refl
    none (suc i) = refl

by-suc : (forked : List (List ℕ)) (fs : List FunctionDecl) (places : List (Option FunTable)) (i : ℕ) (t : Option FunTable) → slice_get places i ≡ Some t
    → groups_of forked (drop i fs) (drop i places) ≡ one-place forked (slice_get fs i) t ++ groups_of forked (drop (suc i) fs) (drop (suc i) places)
by-suc forked [] places i t h = no-functions forked places i (suc i) t
by-suc forked (f ∷ fs) [] i t h = absurd cc
by-suc forked (f ∷ fs) (p ∷ places) zero t h =
    let same : p ≡ t = cc in
    ap (λ (q : Option FunTable). (if is_one_of forked f.name.text then groups_at f q else []) ++ groups_of forked fs places) same
by-suc forked (f ∷ fs) (p ∷ places) (suc i) t h = by-suc forked fs places i t h

add-one : (i : ℕ) → suc i ≡ i + 1
add-one i = omega arith

pub groups-step : (forked : List (List ℕ)) (fs : List FunctionDecl) (places : List (Option FunTable)) (i : ℕ) (t : Option FunTable) → slice_get places i ≡ Some t
    → groups_of forked (drop i fs) (drop i places) ≡ one-place forked (slice_get fs i) t ++ groups_of forked (drop (i + 1) fs) (drop (i + 1) places)
groups-step forked fs places i t h =
    by-suc forked fs places i t h ∙ ap (λ k. one-place forked (slice_get fs i) t ++ groups_of forked (drop k fs) (drop k places)) (add-one i)
