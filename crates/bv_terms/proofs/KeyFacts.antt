-- Nodes are told apart by their keys, and a table of nodes with one node more.
use Rattle.std.proofs.Common.{◌≡◌, ℕ, ◌+◌, ◌*◌, ◌/◌, ◌%◌, ◌<◌, ◌≤◌, ◌^◌, inl, inr, cond, List, [], ◌∷◌, ◌++◌, length, Some, None, slice_get, refl, sym, ap, ◌∙◌, arith}
use Rattle.smallvec.specs.SmallVec.{SmallVec}
use Rattle.std.proofs.Math.Bridge.{le_prop}
use mathlib.Core.HLevel.{is_prop→PathP}
use Rattle.std.specs.BTreeMap.{UpdatesBy, is_at}
use Rattle.std.specs.Cmp.{eq_by_cmp_equiv}
use Rattle.std.specs.Cmp.Lexicographic.{nat_list_cmp_total}
use Rattle.std.proofs.Common.{Bool, Option, false, subst, true}
use Rattle.std.specs.Map.{lookup, AreApart, IsKeyTest, KeepsOthers}
use Rattle.std.specs.Ordering.{eq_by_cmp, is_eq, nat_cmp}
use Rattle.std.specs.Cmp.Lexicographic.{slice_cmp}
use Rattle.std.proofs.lemmas.Bool.{cases_Bool}
use Rattle.std.proofs.lemmas.Option.{slice_get_within}
use Rattle.std.proofs.lemmas.Nat.{div-add-mod'}
use Rattle.cocoon_num.specs.Names.{same_name}
use Rattle.cocoon_num.specs.declared.bits.Bits.{Bits}
use Rattle.numbering.proofs.NameFacts.{same-compare, same-refl, same-true}
use Rattle.bv_terms.specs.declared.node.Node.{Node}
use Rattle.bv_terms.specs.declared.node.Node.TheVariants.{Constant, Input, Apply, Not, Binary, Slice, Pick}
use Rattle.bv_terms.specs.declared.node.TermOp.{TermOp}
use Rattle.bv_terms.specs.declared.node.TermOp.TheVariants.{Add, Sub, And, Or, Xor, Concat, Equal, Less}
use Rattle.bv_terms.specs.TermTrees.{op_number}
use Rattle.bv_terms.specs.Keys.{half, node_key, Numbers, number_of, key_cmp, HasNumbers}
use Rattle.bv_terms.proofs.Seams.{snoc-cases, snoc-old, snoc-last}

-- ---- equal keys

pub bits-same : (a b : Bits) → a.width ≡ b.width → a.value ≡ b.value → a ≡ b
bits-same a b w v = λ i. record {
  width = w i;
  value = v i;
  wide = is_prop→PathP (λ j. 1 ≤ w j) (λ j. le_prop) a.wide b.wide i;
  narrow = is_prop→PathP (λ j. w j ≤ 128) (λ j. le_prop) a.narrow b.narrow i;
  fits = is_prop→PathP (λ j. v j < 2 ^ w j) (λ j. le_prop) a.fits b.fits i;
}

pub same-op : (o p : TermOp) → op_number o ≡ op_number p → o ≡ p
same-op Add Add e = refl
same-op Sub Sub e = refl
same-op And And e = refl
same-op Or Or e = refl
same-op Xor Xor e = refl
same-op Concat Concat e = refl
same-op Equal Equal e = refl
same-op Less Less e = refl
same-op o p e = absurd (omega arith)

abbrev head : List ℕ → ℕ
head [] = 0
head (x ∷ xs) = x

halves-same : (m n : ℕ) → m % half ≡ n % half → m / half ≡ n / half → m ≡ n
halves-same m n r q =
    sym (div-add-mod' m half) ∙ ap (λ d. d * half + m % half) q ∙ ap (λ e. n / half * half + e) r ∙ div-add-mod' n half

pub key-node : (m n : Node) → node_key m ≡ node_key n → m ≡ n
key-node (Constant a) (Constant b) h =
    let w : a.width ≡ b.width = cc in
    let r : a.value % half ≡ b.value % half = cc in
    let q : a.value / half ≡ b.value / half = cc in
    ap Constant (bits-same a b w (halves-same a.value b.value r q))
key-node (Input i v) (Input j w) h = cc
key-node (Apply f ts v) (Apply g us w) h = cc
key-node (Not a) (Not b) h = cc
key-node (Binary o a b) (Binary p x y) h =
    let e : op_number o ≡ op_number p = cc in
    let s = same-op o p e in
    cc
key-node (Slice a i j) (Slice b k l) h = cc
key-node (Pick c a b) (Pick z x y) h = cc
key-node m n h = absurd (let e = ap head h in omega arith)

-- ---- a table with one node more

-- a key that is not there
pub absent : (ns : List Node) (numbers : Numbers) (n : Node) (k : ℕ) → HasNumbers ns numbers → number_of numbers (node_key n) ≡ None → slice_get ns k ≡ Some n → ⊥
absent ns numbers n k h none e = let q : None ≡ Some k = sym none ∙ h.each_ k n e in cc

-- the node under a key that is there
pub present : (ns : List Node) (numbers : Numbers) (n : Node) (k : ℕ) → HasNumbers ns numbers → number_of numbers (node_key n) ≡ Some k → slice_get ns k ≡ Some n
present ns numbers n k h some =
    let f = h.only (node_key n) k some in
    f.1 ∙ ap Some (key-node f.0 n f.2)

pub numbers-same : (ns : List Node) (old new : Numbers) → new.entries ≡ old.entries → HasNumbers ns old → HasNumbers ns new
numbers-same ns old new e h = record {
  each_ = λ k n g. same (node_key n) ∙ h.each_ k n g;
  only = λ x k g. h.only x k (sym (same x) ∙ g);
}
  where
    same : (x : List ℕ) → number_of new x ≡ number_of old x
    same x = ap (λ es. lookup (is_at (λ (k : SmallVec ℕ). slice_cmp nat_cmp x k.items)) es) e

-- ---- a table after an insertion

other_numbers : (test : SmallVec ℕ → Bool) (old new : List (SmallVec ℕ × ℕ)) → KeepsOthers (eq_by_cmp key_cmp) test old new
    → (other : SmallVec ℕ → Bool) → IsKeyTest (eq_by_cmp key_cmp) other → AreApart test other → lookup other new ≡ lookup other old
unfolding KeepsOthers
other_numbers test old new h = h

apart : (x y k : List ℕ) → same_name x y ≡ false → is_eq (slice_cmp nat_cmp y k) ≡ true → is_eq (slice_cmp nat_cmp x k) ≡ false
apart x y k n h = same-compare x k ∙ subst (λ l. same_name x l ≡ false) (same-true y k (sym (same-compare y k) ∙ h)) n

value-updated : (m n : Numbers) (k : SmallVec ℕ) (w : Option ℕ) → UpdatesBy key_cmp (key_cmp k) m n w
    → (x : List ℕ) → number_of n x ≡ cond (same_name x k.items) w (number_of m x)
value-updated m n k w h x = by (same_name x k.items) refl
  where
    by : (b : Bool) → same_name x k.items ≡ b → number_of n x ≡ cond (same_name x k.items) w (number_of m x)
    by true e = ap (number_of n) (same-true x k.items e) ∙ h.1 ∙ sym (ap (λ c. cond c w (number_of m x)) e)
    by false e = other_numbers (is_at (key_cmp k)) m.entries n.entries h.3 (is_at (λ q. slice_cmp nat_cmp x q.items)) (λ p q. (eq_by_cmp_equiv nat_list_cmp_total).congr x p.items q.items) (λ q. apart x k.items q.items e)
        ∙ sym (ap (λ c. cond c w (number_of m x)) e)

pub numbers-more : (ns : List Node) (n : Node) (old new : Numbers) (key : SmallVec ℕ) (id : ℕ) → HasNumbers ns old → number_of old (node_key n) ≡ None
    → key.items ≡ node_key n → id ≡ length ns → UpdatesBy key_cmp (key_cmp key) old new (Some id) → HasNumbers (ns ++ n ∷ []) new
numbers-more ns n old new key id h none same at up = record {
  each_ = λ k m e. elim (snoc-cases ns n k m e) [
    | inl p ↦ other (node_key m) (λ q. absent ns old n k h none (p.1 ∙ ap Some (key-node m n (q ∙ same)))) ∙ h.each_ k m p.1
    | inr p ↦ itself (node_key m) (ap node_key (sym p.1) ∙ sym same) ∙ ap Some (at ∙ sym p.0)
  ];
  only = λ x k e. elim (cases_Bool (same_name x key.items)) [
    | inl t ↦
        let x-is = same-true x key.items t in
        let k-is : id ≡ k = (let q : Some id ≡ Some k = sym (itself x x-is) ∙ e in cc) in
        (n, snoc-last ns n k (sym k-is ∙ at), sym same ∙ sym x-is)
    | inr f ↦
        let was : number_of old x ≡ Some k = sym (value-updated old new key (Some id) up x ∙ ap (λ b. cond b (Some id) (number_of old x)) f) ∙ e in
        let g = h.only x k was in
        (g.0, snoc-old ns n k (slice_get_within ns k g.0 g.1) ∙ g.1, g.2)
  ];
}
  where
    itself : (x : List ℕ) → x ≡ key.items → number_of new x ≡ Some id
    itself x e = value-updated old new key (Some id) up x ∙ ap (λ b. cond b (Some id) (number_of old x)) (ap (λ y. same_name y key.items) e ∙ same-refl key.items)

    other : (x : List ℕ) → (x ≡ key.items → ⊥) → number_of new x ≡ number_of old x
    other x d = elim (cases_Bool (same_name x key.items)) [
      | inl t ↦ absurd (d (same-true x key.items t))
      | inr f ↦ value-updated old new key (Some id) up x ∙ ap (λ b. cond b (Some id) (number_of old x)) f
    ]

pub numbers-none : (numbers : Numbers) → numbers.entries ≡ [] → HasNumbers [] numbers
numbers-none numbers e = record {
  each_ = λ k n g. absurd cc;
  only = λ x k g. absurd (let q : None ≡ Some k = sym (ap (λ es. lookup (is_at (λ (k : SmallVec ℕ). slice_cmp nat_cmp x k.items)) es) e) ∙ g in cc);
}

-- an input is known by its key
pub input-key : (n : Node) (i w : ℕ) → node_key n ≡ node_key (Input i w) → n ≡ Input i w
input-key n i w h = key-node n (Input i w) h
