-- Arenas with one more node.
use Rattle.std.proofs.Common.{◌≡◌, ℕ, ◌<◌, ◌≤◌, ◌+◌, ◌^◌, inl, inr, List, [], ◌∷◌, ◌++◌, length, take, refl, ap, sym, ◌∙◌, subst, arith, suc, zero, length-append, add-zero, Option, Some, None, slice_get}
use Rattle.smallvec.specs.SmallVec.{SmallVec}
use Rattle.std.specs.BTreeMap.{UpdatesBy}
use Rattle.std.specs.List.{All, fold}
use Rattle.std.specs.Result.{IfOk, OnOk, OnErr}
use Rattle.std.proofs.Common.{Result, Ok, Err}
use Rattle.std.proofs.lemmas.List.Sums.{fold-append}
use Rattle.std.proofs.lemmas.List.Elements.{All-weaker}
use Rattle.std.proofs.lemmas.List.{get_or_append_left, take-append-le, append-nil}
use Rattle.std.proofs.lemmas.Bool.{cases_lt}
use Rattle.std.proofs.Math.Seq.{get_or-append_seam, take-append_seam}
use Rattle.std.proofs.lemmas.Option.{slice_get_within}
use Rattle.bv_terms.specs.declared.node.Node.{Node}
use Rattle.bv_terms.specs.declared.node.Node.TheVariants.{Constant, Input, Apply, Not, Binary, Slice, Pick}
use Rattle.bv_terms.specs.TermTrees.{Term, constant, width, IsTerm, IsWidth}
use Rattle.bv_terms.specs.Arenas.{parts, made_of, nth, with_node, node_width, term_at, width_at, count_input, inputs_in, IsArena, IsPut, IsFound, KeepsTerms, IsKept, IsInputTerm, CanFollow, GrowsBy, HasOneMore}
use Rattle.bv_terms.specs.Keys.{Numbers, number_of, node_key, key_cmp, HasNumbers}
use Rattle.bv_terms.proofs.KeyFacts.{absent, present, numbers-same, numbers-more}
use Rattle.bv_terms.proofs.Seams.{snoc-cases, snoc-old, snoc-last}
use Rattle.bv_terms.proofs.NodeFacts.{made-same, made-is-term, node-width}

-- ---- the terms of a list of nodes

length-with : (ts : List Term) (ns : List Node) → length (fold with_node ts ns) ≡ length ts + length ns
length-with ts [] = sym (add-zero (length ts))
length-with ts (n ∷ ns) = omega (arith, length-with (with_node ts n) ns, length-append ts (made_of (nth ts) n ∷ []))

kept-with : (ts : List Term) (ns : List Node) (k : ℕ) → k < length ts → nth (fold with_node ts ns) k ≡ nth ts k
kept-with ts [] k h = refl
kept-with ts (n ∷ ns) k h =
    kept-with (with_node ts n) ns k (omega (arith, length-append ts (made_of (nth ts) n ∷ [])))
    ∙ get_or_append_left ts (made_of (nth ts) n ∷ []) (constant 0 0) k h

pub term-kept : (ns more : List Node) (k : ℕ) → k < length ns → term_at (ns ++ more) k ≡ term_at ns k
unfolding term_at
term-kept ns more k h =
    ap (λ ts. nth ts k) (fold-append with_node [] ns more)
    ∙ kept-with (fold with_node [] ns) more k (omega (arith, length-with [] ns))

last-made : (ts : List Term) (n : Node) (k : ℕ) → k ≡ length ts → nth (with_node ts n) k ≡ made_of (nth ts) n
last-made ts n k h = subst (λ j. nth (with_node ts n) j ≡ made_of (nth ts) n) (sym h) (get_or-append_seam ts (made_of (nth ts) n) [] (constant 0 0))

pub term-last : (ns : List Node) (n : Node) (k : ℕ) → k ≡ length ns → term_at (ns ++ n ∷ []) k ≡ made_of (term_at ns) n
unfolding term_at
term-last ns n k h =
    ap (λ ts. nth ts k) (fold-append with_node [] ns (n ∷ []))
    ∙ last-made (fold with_node [] ns) n k (omega (arith, length-with [] ns))

-- ---- one more node

pub kept-terms : (ns : List Node) (n : Node) → KeepsTerms ns (ns ++ n ∷ [])
kept-terms ns n = record { grown = (n ∷ [], refl); terms = term-kept ns (n ∷ []) }

pub kept-none : (ns : List Node) → KeepsTerms ns ns
kept-none ns = record { grown = ([], sym (append-nil ns)); terms = λ k h. refl }

pub put-last : (ns : List Node) (n : Node) → IsPut ns (ns ++ n ∷ []) n (length ns)
put-last ns n = record {
  there = omega (arith, length-append ns (n ∷ []));
  node_ = snoc-last ns n (length ns) refl;
  term = term-last ns n (length ns) refl;
}

-- the node does not stand there
abbrev pub IsAbsent : List Node → Node → Type 0
IsAbsent ns n = (k : ℕ) → slice_get ns k ≡ Some n → ⊥

abbrev pub IsNumbered : List Node → Node → Type 0
IsNumbered ns n = (i w : ℕ) → n ≡ Input i w → i ≡ inputs_in ns

follows-terms : (ns : List Node) (n : Node) → IsArena ns → CanFollow ns n → IsTerm (made_of (term_at ns) n)
follows-terms ns n a h = made-is-term (term_at ns) n (All-weaker (λ p. p < length ns) (λ p. IsTerm (term_at ns p)) (λ p l. a.terms p l) (parts n) h.there) h.fit

made-kept : (ns : List Node) (n m : Node) → All (λ p. p < length ns) (parts m) → made_of (term_at (ns ++ n ∷ [])) m ≡ made_of (term_at ns) m
made-kept ns n m h =
    made-same (term_at (ns ++ n ∷ [])) (term_at ns) m
    (All-weaker (λ p. p < length ns) (λ p. term_at (ns ++ n ∷ []) p ≡ term_at ns p) (term-kept ns (n ∷ [])) (parts m) h)

pub arena-more : (ns : List Node) (n : Node) → IsArena ns → CanFollow ns n → IsNumbered ns n → IsAbsent ns n → length (ns ++ n ∷ []) ≤ 2 ^ 25 → IsArena (ns ++ n ∷ [])
arena-more ns n a h i new small = record {
  below = λ k m e. elim (snoc-cases ns n k m e) [
    | inl p ↦ a.below k m p.1
    | inr p ↦ subst (λ (m : Node). All (λ q. q < k) (parts m)) p.1 (subst (λ j. All (λ q. q < j) (parts n)) (sym p.0) h.there)
  ];
  made = λ k m e. elim (snoc-cases ns n k m e) [
    | inl p ↦ term-kept ns (n ∷ []) k p.0 ∙ a.made k m p.1
        ∙ sym (made-kept ns n m (All-weaker (λ q. q < k) (λ q. q < length ns) (λ q l. let l' = l in let b = p.0 in omega arith) (parts m) (a.below k m p.1)))
    | inr p ↦ term-last ns n k p.0 ∙ sym (made-kept ns n n h.there) ∙ ap (made_of (term_at (ns ++ n ∷ []))) p.1
  ];
  terms = λ k l. elim (cases_lt k (length ns)) [
    | inl b ↦ subst IsTerm (sym (term-kept ns (n ∷ []) k b)) (a.terms k b)
    | inr b ↦ subst IsTerm (sym (term-last ns n k (let b' = b in omega (arith, length-append ns (n ∷ []))))) (follows-terms ns n a h)
  ];
  inputs = λ k j w e. elim (snoc-cases ns n k (Input j w) e) [
    | inl p ↦ a.inputs k j w p.1 ∙ ap inputs_in (sym (let l : k ≤ length ns = (let b = p.0 in omega arith) in take-append-le k ns (n ∷ []) l))
    | inr p ↦ i j w p.1 ∙ ap inputs_in (sym (let q : k ≡ length ns = p.0 in subst (λ x. take x (ns ++ n ∷ []) ≡ ns) (sym q) (take-append_seam ns (n ∷ []))))
  ];
  once = λ j k m e f. elim (snoc-cases ns n j m e) [
    | inl p ↦ elim (snoc-cases ns n k m f) [ inl q ↦ a.once j k m p.1 q.1 | inr q ↦ absurd (new j (p.1 ∙ ap Some (sym q.1))) ]
    | inr p ↦ elim (snoc-cases ns n k m f) [ inl q ↦ absurd (new k (q.1 ∙ ap Some (sym p.1))) | inr q ↦ p.0 ∙ sym q.0 ]
  ];
  small = small;
}

-- ---- what is kept beside the nodes

count-one : (c : ℕ) (n : Node) → count_input c n ≤ c + 1
count-one c (Constant b) = omega arith
count-one c (Input i v) = omega arith
count-one c (Apply g args v) = omega arith
count-one c (Not a) = omega arith
count-one c (Binary op a b) = omega arith
count-one c (Slice a high low) = omega arith
count-one c (Pick d a b) = omega arith

no-input : (n : Node) (i w : ℕ) → count_input 0 n ≡ 0 → n ≡ Input i w → ⊥
no-input n i w h e = let h' : count_input 0 (Input i w) ≡ 0 = subst (λ m. count_input 0 m ≡ 0) e h in omega arith

uncounted : (c : ℕ) (n : Node) → count_input 0 n ≡ 0 → count_input c n ≡ c
uncounted c (Input i w) h = absurd (omega arith)
uncounted c (Constant b) h = refl
uncounted c (Apply f args w) h = refl
uncounted c (Not a) h = refl
uncounted c (Binary op a b) h = refl
uncounted c (Slice a high low) h = refl
uncounted c (Pick d a b) h = refl

one-more : (ns : List Node) (n : Node) → inputs_in (ns ++ n ∷ []) ≡ count_input (inputs_in ns) n
one-more ns n = fold-append count_input 0 ns (n ∷ [])

widths-more : (ns : List Node) (n : Node) (ws : List ℕ) (w : ℕ) → length ws ≡ length ns
    → ((k : ℕ) → k < length ns → slice_get ws k ≡ Some (width_at ns k)) → w ≡ width (made_of (term_at ns) n)
    → (k : ℕ) → k < length (ns ++ n ∷ []) → slice_get (ws ++ w ∷ []) k ≡ Some (width_at (ns ++ n ∷ []) k)
widths-more ns n ws w e h we k l = elim (cases_lt k (length ns)) [
  | inl b ↦ snoc-old ws w k (let b' = b in omega arith) ∙ h k b ∙ ap (λ t. Some (width t)) (sym (term-kept ns (n ∷ []) k b))
  | inr b ↦ let q : k ≡ length ns = (let b' = b in omega (arith, length-append ns (n ∷ []))) in
      snoc-last ws w k (q ∙ sym e) ∙ ap Some (we ∙ ap width (sym (term-last ns n k q)))
]

input-kept : (ns : List Node) (n : Node) (i k : ℕ) → IsInputTerm ns i k → IsInputTerm (ns ++ n ∷ []) i k
input-kept ns n i k h = (h.0, snoc-old ns n k (slice_get_within ns k (Input i h.0) h.1) ∙ h.1)

pub kept-more : (ns : List Node) (n : Node) (ws is : List ℕ) (w : ℕ) (numbers numbers' : Numbers) → IsKept ns ws is numbers → CanFollow ns n → count_input 0 n ≡ 0
    → w ≡ width (made_of (term_at ns) n) → IsAbsent ns n → HasNumbers (ns ++ n ∷ []) numbers' → length (ns ++ n ∷ []) ≤ 2 ^ 25
    → IsKept (ns ++ n ∷ []) (ws ++ w ∷ []) is numbers'
kept-more ns n ws is w numbers numbers' a h none we new its small = record {
  arena = arena-more ns n a.arena h (λ i v e. absurd (no-input n i v none e)) new small;
  numbers_ = its;
  width_count = omega (arith, a.width_count, length-append ns (n ∷ []), length-append ws (w ∷ []));
  widths = widths-more ns n ws w a.width_count a.widths we;
  input_count = a.input_count ∙ sym (one-more ns n ∙ uncounted (inputs_in ns) n none);
  inputs = λ i k e. input-kept ns n i k (a.inputs i k e);
}

pub kept-input : (ns : List Node) (ws is : List ℕ) (w i k : ℕ) (numbers numbers' : Numbers) → IsKept ns ws is numbers → IsWidth w → i ≡ length is → k ≡ length ns
    → IsAbsent ns (Input i w) → HasNumbers (ns ++ Input i w ∷ []) numbers' → length (ns ++ Input i w ∷ []) ≤ 2 ^ 25
    → IsKept (ns ++ Input i w ∷ []) (ws ++ w ∷ []) (is ++ k ∷ []) numbers'
kept-input ns ws is w i k numbers numbers' a wide ie ke new its small = record {
  arena = arena-more ns (Input i w) a.arena (record { there = λ j d l. absurd (omega arith); fit = wide })
      (λ j v e. let e' : i ≡ j = cc in sym e' ∙ ie ∙ a.input_count) new small;
  numbers_ = its;
  width_count = omega (arith, a.width_count, length-append ns (Input i w ∷ []), length-append ws (w ∷ []));
  widths = widths-more ns (Input i w) ws w a.width_count a.widths refl;
  input_count = omega (arith, a.input_count, one-more ns (Input i w), length-append is (k ∷ []));
  inputs = λ j m e. elim (snoc-cases is k j m e) [
    | inl p ↦ input-kept ns (Input i w) j m (a.inputs j m p.1)
    | inr p ↦ (
      w,
      subst (λ x. slice_get (ns ++ Input i w ∷ []) x ≡ Some (Input j w)) p.1
          (snoc-last ns (Input i w) k ke ∙ ap (λ x. Some (Input x w)) (ie ∙ sym p.0)),
    )
  ];
}

-- ---- a new input is no old one

count-grows : (c : ℕ) (n : Node) → c ≤ count_input c n
count-grows c (Constant b) = omega arith
count-grows c (Input i v) = omega arith
count-grows c (Apply g args v) = omega arith
count-grows c (Not a) = omega arith
count-grows c (Binary op a b) = omega arith
count-grows c (Slice a high low) = omega arith
count-grows c (Pick d a b) = omega arith

counts-grow : (c : ℕ) (ns : List Node) → c ≤ fold count_input c ns
counts-grow c [] = omega arith
counts-grow c (n ∷ ns) = let l = count-grows c n in let m = counts-grow (count_input c n) ns in omega arith

fewer : (c : ℕ) (ns : List Node) (k i w : ℕ) → slice_get ns k ≡ Some (Input i w) → fold count_input c (take k ns) < fold count_input c ns
fewer c [] k i w e = absurd cc
fewer c (n ∷ ns) zero i w e =
    let n-is : n ≡ Input i w = cc in
    subst (λ m. c < fold count_input (count_input c m) ns) (sym n-is) (let l = counts-grow (suc c) ns in omega arith)
fewer c (n ∷ ns) (suc k) i w e = fewer (count_input c n) ns k i w e

pub input-below : (ns : List Node) (k i w : ℕ) → IsArena ns → slice_get ns k ≡ Some (Input i w) → i < inputs_in ns
input-below ns k i w a e = subst (λ j. j < inputs_in ns) (sym (a.inputs k i w e)) (fewer 0 ns k i w e)

rises : (c : ℕ) (ns : List Node) (j k i w : ℕ) → j < k → slice_get ns j ≡ Some (Input i w) → fold count_input c (take j ns) < fold count_input c (take k ns)
rises c [] j k i w l e = absurd cc
rises c (n ∷ ns) j zero i w l e = absurd (omega arith)
rises c (n ∷ ns) zero (suc k) i w l e =
    let n-is : n ≡ Input i w = cc in
    subst (λ m. c < fold count_input (count_input c m) (take k ns)) (sym n-is) (let g = counts-grow (suc c) (take k ns) in omega arith)
rises c (n ∷ ns) (suc j) (suc k) i w l e = rises (count_input c n) ns j k i w (omega arith) e

-- of two inputs the one with the smaller number was put in first
pub inputs-rise : (ns : List Node) → IsArena ns → (j k i i' w w' : ℕ) → j < k → slice_get ns j ≡ Some (Input i w) → slice_get ns k ≡ Some (Input i' w') → i < i'
inputs-rise ns a j k i i' w w' l e f = let r = rises 0 ns j k i w l e in let x = a.inputs j i w e in let y = a.inputs k i' w' f in omega arith

input-absent : (ns : List Node) (i w : ℕ) → IsArena ns → i ≡ inputs_in ns → IsAbsent ns (Input i w)
input-absent ns i w a e k h = let l = input-below ns k i w a h in omega arith

input-unnumbered : (ns : List Node) (i w : ℕ) (numbers : Numbers) → HasNumbers ns numbers → IsAbsent ns (Input i w) → (o : Option ℕ)
    → number_of numbers (node_key (Input i w)) ≡ o → number_of numbers (node_key (Input i w)) ≡ None
input-unnumbered ns i w numbers h new None e = e
input-unnumbered ns i w numbers h new (Some k) e = absurd (new k (present ns numbers (Input i w) k h e))

-- ---- what a push gives

abbrev pub StaysAll : (ns ns' : List Node) (ws ws' : List ℕ) (numbers numbers' : Numbers) → Type 0
StaysAll ns ns' ws ws' numbers numbers' = (ns' ≡ ns) × (ws' ≡ ws) × (numbers'.entries ≡ numbers.entries)

pub pushed-put : {E : Type 0} (r : Result ℕ E) (old ns ns' : List Node) (n : Node) → ns ≡ old → IfOk r (λ id. id ≡ length ns) → OnOk r (ns' ≡ ns ++ n ∷ [])
    → IfOk r (λ id. IsPut old ns' n id)
pushed-put (Err e) old ns ns' n v at is = tt
pushed-put (Ok id) old ns ns' n v at is =
    subst (λ os. IsPut os ns' n id) v (subst (λ ms. IsPut ns ms n id) (sym is) (subst (IsPut ns (ns ++ n ∷ []) n) (sym at) (put-last ns n)))

pub pushed-found : {E : Type 0} (r : Result ℕ E) (old ns ns' : List Node) (n : Node) → ns ≡ old → IsAbsent ns n → IfOk r (λ id. IsFound old ns' n id)
pushed-found (Err e) old ns ns' n v new = tt
pushed-found (Ok id) old ns ns' n v new = λ k h. absurd (new k (ap (λ ms. slice_get ms k) v ∙ h))

pub pushed-kept : {E : Type 0} (r : Result ℕ E) (old ns ns' : List Node) (n : Node) → ns ≡ old → OnOk r (ns' ≡ ns ++ n ∷ []) → OnErr r (ns' ≡ ns)
    → KeepsTerms old ns'
pushed-kept (Err e) old ns ns' n v is refused = subst (λ os. KeepsTerms os ns') v (subst (KeepsTerms ns) (sym refused) (kept-none ns))
pushed-kept (Ok id) old ns ns' n v is refused = subst (λ os. KeepsTerms os ns') v (subst (KeepsTerms ns) (sym is) (kept-terms ns n))

pub pushed-grows : {E : Type 0} (r : Result ℕ E) (old ns ns' : List Node) (n : Node) → ns ≡ old → count_input 0 n ≡ 0
    → OnOk r (ns' ≡ ns ++ n ∷ []) → OnErr r (ns' ≡ ns) → GrowsBy 1 old ns'
pushed-grows (Err e) old ns ns' n v z is refused = record {
  inputs = ap inputs_in (refused ∙ v);
  terms = omega (arith, ap length refused, ap length v);
}
pushed-grows (Ok id) old ns ns' n v z is refused = record {
  inputs = ap inputs_in is ∙ one-more ns n ∙ uncounted (inputs_in ns) n z ∙ ap inputs_in v;
  terms = omega (arith, ap length is, ap length v, length-append ns (n ∷ []));
}

pub stays-nodes : {E : Type 0} (r : Result ℕ E) (ns ns' : List Node) (ws ws' : List ℕ) (numbers numbers' : Numbers) → OnErr r (StaysAll ns ns' ws ws' numbers numbers') → OnErr r (ns' ≡ ns)
stays-nodes (Err e) ns ns' ws ws' numbers numbers' h = h.0
stays-nodes (Ok id) ns ns' ws ws' numbers numbers' h = tt

pub pushed-refused : {E : Type 0} (r : Result ℕ E) (old ns ns' : List Node) → ns ≡ old → OnErr r (ns' ≡ ns) → OnErr r (ns' ≡ old)
pushed-refused (Err e) old ns ns' v refused = refused ∙ v
pushed-refused (Ok id) old ns ns' v refused = tt

kept-same : (ns : List Node) (ws is : List ℕ) (numbers numbers' : Numbers) → numbers'.entries ≡ numbers.entries → IsKept ns ws is numbers → IsKept ns ws is numbers'
kept-same ns ws is numbers numbers' e k = record {
  arena = k.arena;
  numbers_ = numbers-same ns numbers numbers' e k.numbers_;
  width_count = k.width_count;
  widths = k.widths;
  input_count = k.input_count;
  inputs = k.inputs;
}

pub stays-kept : (ns ns' : List Node) (ws ws' is : List ℕ) (numbers numbers' : Numbers) → StaysAll ns ns' ws ws' numbers numbers' → IsKept ns ws is numbers → IsKept ns' ws' is numbers'
stays-kept ns ns' ws ws' is numbers numbers' h k =
    subst (λ ms. IsKept ms ws' is numbers') (sym h.0) (subst (λ vs. IsKept ns vs is numbers') (sym h.1) (kept-same ns ws is numbers numbers' h.2 k))

pub pushed-whole : {E : Type 0} (r : Result ℕ E) (old ns ns' : List Node) (n : Node) (ws ws' is : List ℕ) (w : ℕ) (numbers numbers' : Numbers) (key : SmallVec ℕ)
    → ns ≡ old → IsKept ns ws is numbers → CanFollow old n → w ≡ node_width (width_at old) n → count_input 0 n ≡ 0
    → number_of numbers (node_key n) ≡ None → key.items ≡ node_key n → IfOk r (λ id. id ≡ length ns)
    → OnOk r (ns' ≡ ns ++ n ∷ []) → OnOk r (ws' ≡ ws ++ w ∷ []) → IfOk r (λ id. UpdatesBy key_cmp (key_cmp key) numbers numbers' (Some id)) → OnOk r (length ns' ≤ 2 ^ 25)
    → OnErr r (StaysAll ns ns' ws ws' numbers numbers') → IsKept ns' ws' is numbers'
pushed-whole (Err e) old ns ns' n ws ws' is w numbers numbers' key v k f we z none same at nis wis up small refused =
    stays-kept ns ns' ws ws' is numbers numbers' refused k
pushed-whole (Ok id) old ns ns' n ws ws' is w numbers numbers' key v k f we z none same at nis wis up small refused =
    let f' : CanFollow ns n = subst (λ os. CanFollow os n) (sym v) f in
    let we' : w ≡ width (made_of (term_at ns) n) = we ∙ ap (λ os. node_width (width_at os) n) (sym v) ∙ sym (node-width (term_at ns) n) in
    let small' : length (ns ++ n ∷ []) ≤ 2 ^ 25 = subst (λ ms. length ms ≤ 2 ^ 25) nis small in
    let its = numbers-more ns n numbers numbers' key id k.numbers_ none same at up in
    subst (λ ms. IsKept ms ws' is numbers') (sym nis) (subst (λ vs. IsKept (ns ++ n ∷ []) vs is numbers') (sym wis)
    (kept-more ns n ws is w numbers numbers' k f' z we' (λ j g. absent ns numbers n j k.numbers_ none g) its small'))

-- ---- a new input

pub input-whole : (ns ns' : List Node) (ws ws' is is' : List ℕ) (w i k : ℕ) (numbers numbers' : Numbers) (key : SmallVec ℕ) → IsKept ns ws is numbers → IsWidth w → i ≡ length is → k ≡ length ns
    → key.items ≡ node_key (Input i w) → UpdatesBy key_cmp (key_cmp key) numbers numbers' (Some k)
    → ns' ≡ ns ++ Input i w ∷ [] → ws' ≡ ws ++ w ∷ [] → is' ≡ is ++ k ∷ [] → length ns' ≤ 2 ^ 25 → IsKept ns' ws' is' numbers'
input-whole ns ns' ws ws' is is' w i k numbers numbers' key kept wide ie ke same up nis wis iis small =
    let small' : length (ns ++ Input i w ∷ []) ≤ 2 ^ 25 = subst (λ ms. length ms ≤ 2 ^ 25) nis small in
    let new = input-absent ns i w kept.arena (ie ∙ kept.input_count) in
    let none = input-unnumbered ns i w numbers kept.numbers_ new (number_of numbers (node_key (Input i w))) refl in
    let its = numbers-more ns (Input i w) numbers numbers' key k kept.numbers_ none same ke up in
    subst (λ ms. IsKept ms ws' is' numbers') (sym nis) (subst (λ vs. IsKept (ns ++ Input i w ∷ []) vs is' numbers') (sym wis)
    (subst (λ js. IsKept (ns ++ Input i w ∷ []) (ws ++ w ∷ []) js numbers') (sym iis) (kept-input ns ws is w i k numbers numbers' kept wide ie ke new its small')))

pub input-put : (old ns ns' : List Node) (ws is : List ℕ) (w i k : ℕ) (numbers : Numbers) → ns ≡ old → IsKept ns ws is numbers → i ≡ length is → k ≡ length ns → ns' ≡ ns ++ Input i w ∷ []
    → IsPut old ns' (Input (inputs_in old) w) k
input-put old ns ns' ws is w i k numbers v kept ie ke nis =
    let i-is : i ≡ inputs_in old = ie ∙ kept.input_count ∙ ap inputs_in v in
    subst (λ j. IsPut old ns' (Input j w) k) i-is
    (subst (λ os. IsPut os ns' (Input i w) k) v (subst (λ ms. IsPut ns ms (Input i w) k) (sym nis)
    (subst (IsPut ns (ns ++ Input i w ∷ []) (Input i w)) (sym ke) (put-last ns (Input i w)))))

pub input-more : (old ns ns' : List Node) (i w k : ℕ) → ns ≡ old → k ≡ length ns → ns' ≡ ns ++ Input i w ∷ [] → HasOneMore old ns' k
input-more old ns ns' i w k v ke nis = record {
  inputs = (let e = ap inputs_in nis in let f = one-more ns (Input i w) in let g = ap inputs_in v in omega arith);
  terms = omega (arith, ap length nis, ap length v, length-append ns (Input i w ∷ []));
  new_ = omega (arith, ap length v);
}

pub input-keeps : (old ns ns' : List Node) (n : Node) → ns ≡ old → ns' ≡ ns ++ n ∷ [] → KeepsTerms old ns'
input-keeps old ns ns' n v nis = subst (λ os. KeepsTerms os ns') v (subst (KeepsTerms ns) (sym nis) (kept-terms ns n))

-- ---- a node that is there

pub there-put : (ns old : List Node) (numbers : Numbers) (n : Node) (id : ℕ) → ns ≡ old → IsArena ns → HasNumbers ns numbers → number_of numbers (node_key n) ≡ Some id → IsPut old ns n id
there-put ns old numbers n id v a h some =
    let at : slice_get ns id ≡ Some n = present ns numbers n id h some in
    subst (λ os. IsPut os ns n id) v (record { there = slice_get_within ns id n at; node_ = at; term = a.made id n at })

pub there-found : (ns old : List Node) (numbers : Numbers) (n : Node) (id : ℕ) → ns ≡ old → HasNumbers ns numbers → number_of numbers (node_key n) ≡ Some id → IsFound old ns n id
there-found ns old numbers n id v h some =
    λ k e. (let q : Some id ≡ Some k = sym some ∙ h.each_ k n (ap (λ ms. slice_get ms k) v ∙ e) in cc, v)

pub there-kept : (ns old : List Node) → ns ≡ old → KeepsTerms old ns
there-kept ns old v = subst (λ os. KeepsTerms os ns) v (kept-none ns)

pub there-grows : (ns old : List Node) → ns ≡ old → GrowsBy 1 old ns
there-grows ns old v = record { inputs = ap inputs_in v; terms = omega (arith, ap length v) }

counts-few : (c : ℕ) (ns : List Node) → fold count_input c ns ≤ c + length ns
counts-few c [] = omega arith
counts-few c (n ∷ ns) = let l = counts-few (count_input c n) ns in let m = count-one c n in omega arith

pub inputs-few : (ns : List Node) → inputs_in ns ≤ length ns
inputs-few ns = let l = counts-few 0 ns in omega arith
