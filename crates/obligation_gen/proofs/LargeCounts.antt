-- The first count that is too large.
use Rattle.std.proofs.Common.{Result, Ok, Err, ◌≡◌, inl, inr, ℕ, zero, suc, ◌+◌, ◌-◌, ◌<◌, ◌≤◌, List, [], ◌∷◌, ◌++◌, drop, map, length, get_or, Bool, true, false, Option, Some, None, if◌then◌else◌, refl, sym, ap, subst, ◌∙◌, arith}
use Rattle.std.specs.Prelude.{flat_map, nat_lt, slice_get}
use Rattle.std.specs.Result.{IfErr, IsErrAnd, OnOk}
use Rattle.std.proofs.Math.Seq.{drop-cons}
use Rattle.std.proofs.lemmas.Bool.{cases_Bool, lt-ltb, ltb-true, false≢true}
use Rattle.std.proofs.lemmas.List.Concat.{flat_map-append}
use Rattle.cocoon_num.specs.Tree.{Name, Refine, Design}
use Rattle.cocoon_types.specs.Limits.{first_above, reported}
use Rattle.obligation_gen.specs.CountedTrees.{TellsCount, most_leaves}
use Rattle.obligation_gen.specs.declared.tree.InlineFault.{InlineFault}
use Rattle.obligation_gen.specs.declared.tree.InlineFault.TheVariants.{Paths, NoMemory}
use Rattle.obligation_gen.specs.Counted.{AreFew, TellsFirst, block_counts, blocks_counts, counts_behind, tree_counts}

-- an error that is passed on
pub passed : {A E : Type 0} (r : Result A E) (e : E) (P : E → Type 0) → IsErrAnd r (λ y. y ≡ e) → P e → IfErr r P
passed (Ok x) e P is h = tt
passed (Err y) e P is h = subst P (sym is) h

-- what holds whatever the result is
pub always : {A E : Type 0} (r : Result A E) (P : Type 0) → P → OnOk r P
always (Ok x) P h = h
always (Err y) P h = tt

pub below : (n : ℕ) (ns : List ℕ) → n ≤ most_leaves → first_above most_leaves (n ∷ ns) ≡ first_above most_leaves ns
below n ns l = elim (cases_Bool (nat_lt most_leaves n)) [
  | inl t ↦ let m = ltb-true most_leaves n t in absurd (omega (arith, l, m))
  | inr f ↦ ap (λ b. if b then Some n else first_above most_leaves ns) f
]

pub over : (n : ℕ) (ns : List ℕ) → most_leaves < n → first_above most_leaves (n ∷ ns) ≡ Some n
over n ns l = ap (λ b. if b then Some n else first_above most_leaves ns) (lt-ltb most_leaves n l)

-- a fault of the first count is the first one
pub first_told : (n : ℕ) (ns : List ℕ) (f : InlineFault) → TellsCount n f → TellsFirst (n ∷ ns) f
first_told n ns (Paths m) h = (n, over n ns h.1, h.0)
first_told n ns NoMemory h = tt

pub told_same : (xs ys : List ℕ) (f : InlineFault) → first_above most_leaves xs ≡ first_above most_leaves ys → TellsFirst xs f → TellsFirst ys f
told_same xs ys (Paths m) e h = (h.0, sym e ∙ h.1, h.2)
told_same xs ys NoMemory e h = tt

-- what comes first decides
few_left : (xs ys : List ℕ) → AreFew xs → first_above most_leaves (xs ++ ys) ≡ first_above most_leaves ys
few_left [] ys h = refl
few_left (n ∷ xs) ys h = by (nat_lt most_leaves n) h (few_left xs ys)
  where
    by : (b : Bool) → (if b then Some n else first_above most_leaves xs) ≡ None → (AreFew xs → first_above most_leaves (xs ++ ys) ≡ first_above most_leaves ys)
        → (if b then Some n else first_above most_leaves (xs ++ ys)) ≡ first_above most_leaves ys
    by true e more = absurd (cc)
    by false e more = more e

some_left : (xs ys : List ℕ) (n : ℕ) → first_above most_leaves xs ≡ Some n → first_above most_leaves (xs ++ ys) ≡ Some n
some_left [] ys n h = absurd (cc)
some_left (m ∷ xs) ys n h = by (nat_lt most_leaves m) h (some_left xs ys n)
  where
    by : (b : Bool) → (if b then Some m else first_above most_leaves xs) ≡ Some n → (first_above most_leaves xs ≡ Some n → first_above most_leaves (xs ++ ys) ≡ Some n)
        → (if b then Some m else first_above most_leaves (xs ++ ys)) ≡ Some n
    by true e more = e
    by false e more = more e

pub told_left : (xs ys : List ℕ) (f : InlineFault) → TellsFirst xs f → TellsFirst (xs ++ ys) f
told_left xs ys (Paths m) h = (h.0, some_left xs ys h.0 h.1, h.2)
told_left xs ys NoMemory h = tt

-- ---- one after another

-- what is first among the counts of some things is first among those that are left
abbrev pub Left : {A : Type 0} → (A → List ℕ) → List A → ℕ → Type 0
Left f xs k = first_above most_leaves (flat_map f xs) ≡ first_above most_leaves (flat_map f (drop k xs))

next_is : {A : Type 0} (xs : List A) (k : ℕ) (x : A) → k < length xs → x ≡ get_or xs k x → drop k xs ≡ x ∷ drop (k + 1) xs
next_is xs k x l e =
    let next : suc k ≡ k + 1 = omega arith in
    drop-cons xs k x l ∙ (λ j. sym e j ∷ drop (next j) xs)

pub one_left : {A : Type 0} (f : A → List ℕ) (xs : List A) (k : ℕ) (x : A) → k < length xs → x ≡ get_or xs k x → Left f xs k → AreFew (f x) → Left f xs (k + 1)
one_left f xs k x l e h few =
    h ∙ ap (λ ys. first_above most_leaves (flat_map f ys)) (next_is xs k x l e) ∙ few_left (f x) (flat_map f (drop (k + 1) xs)) few

pub one_told : {A : Type 0} (f : A → List ℕ) (xs : List A) (k : ℕ) (x : A) → k < length xs → x ≡ get_or xs k x → Left f xs k → (fault : InlineFault) → TellsFirst (f x) fault → TellsFirst (flat_map f xs) fault
one_told f xs k x l e h fault told =
    told_same (flat_map f (drop k xs)) (flat_map f xs) fault (sym h)
    (subst (λ ys. TellsFirst (flat_map f ys) fault) (sym (next_is xs k x l e)) (told_left (f x) (flat_map f (drop (k + 1) xs)) fault told))

-- ---- levels

-- what is first among the counts of all levels is first among those of later ones
abbrev pub LeftBehind : Design → (k : ℕ) → Type 0
LeftBehind d k = first_above most_leaves (blocks_counts 0 d d.refines) ≡ first_above most_leaves (blocks_counts k d (drop k d.refines))

behind_is : (d : Design) (k : ℕ) → k < length d.refines → blocks_counts k d (drop k d.refines) ≡ counts_behind k d ++ blocks_counts (suc k) d (drop (suc k) d.refines)
behind_is d k l = by d.refines k l
  where
    by : (bs : List Refine) (n : ℕ) → n < length bs
        → blocks_counts k d (drop n bs) ≡ (elim (slice_get bs n) [ None ↦ [] | Some b ↦ block_counts k d b ]) ++ blocks_counts (suc k) d (drop (suc n) bs)
    by [] n m = absurd (omega (arith, m))
    by (b ∷ bs) zero m = refl
    by (b ∷ bs) (suc n) m = by bs n (omega (arith, m))

pub one_behind : (d : Design) (k : ℕ) → k < length d.refines → LeftBehind d k → AreFew (counts_behind k d) → LeftBehind d (suc k)
one_behind d k l h few = h ∙ ap (first_above most_leaves) (behind_is d k l) ∙ few_left (counts_behind k d) (blocks_counts (suc k) d (drop (suc k) d.refines)) few

pub told_behind : (d : Design) (k : ℕ) → k < length d.refines → LeftBehind d k → (fault : InlineFault) → TellsFirst (counts_behind k d) fault → TellsFirst (blocks_counts 0 d d.refines) fault
told_behind d k l h fault told =
    told_same (blocks_counts k d (drop k d.refines)) (blocks_counts 0 d d.refines) fault (sym h)
    (subst (λ ns. TellsFirst ns fault) (sym (behind_is d k l)) (told_left (counts_behind k d) (blocks_counts (suc k) d (drop (suc k) d.refines)) fault told))

-- ---- the block of a level

mapped : {A B C : Type 0} (g : B → List C) (h : A → B) (xs : List A) → flat_map g (map h xs) ≡ flat_map (λ x. g (h x)) xs
mapped g h [] = refl
mapped g h (x ∷ xs) = ap (λ ys. g (h x) ++ ys) (mapped g h xs)

pub counts_are : {A : Type 0} (d : Design) (above : ℕ) (block : Refine) (name : A → Name) (xs : List A) → slice_get d.refines above ≡ Some block → block.roles ≡ map name xs
    → counts_behind above d ≡ flat_map (λ x. tree_counts above d block (name x).text) xs
counts_are d above block name xs at e =
    ap (λ (o : Option Refine). elim o as (λ x. List ℕ) [ None ↦ [] | Some b ↦ block_counts above d b ]) at
    ∙ ap (flat_map (λ (r : Name). tree_counts above d block r.text)) e ∙ mapped (λ (r : Name). tree_counts above d block r.text) name xs

-- the level after a level
pub next_level : (level : ℕ) → 1 ≤ level → suc (level - 1) ≡ level + 1 - 1
next_level level l = omega (arith, l)
