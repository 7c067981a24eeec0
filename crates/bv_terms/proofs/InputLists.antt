-- The inputs among the terms that a term is made of.
use Rattle.std.proofs.Common.{◌≡◌, ℕ, ◌<◌, ◌==◌, ◌⊎◌, inl, inr, true, false, List, [], ◌∷◌, ◌++◌, length, Option, Some, None, slice_get, get_or, refl, ap, sym, ◌∙◌, subst, arith, zero, suc, append_assoc, take, drop}
use Rattle.std.proofs.lemmas.List.{append-nil}
use Rattle.std.proofs.lemmas.List.Elements.{recursion_from_All}
use Rattle.std.proofs.lemmas.Option.{slice_get_within, slice_get-get_or}
use Rattle.std.proofs.lemmas.Bool.{cases_Bool, cond-true, cond-false, eqb-true, eq-eqb, ne_eqb, false≢true}
use Rattle.bv_terms.specs.declared.node.Node.{Node}
use Rattle.bv_terms.specs.declared.node.Node.TheVariants.{Constant, Input, Apply, Not, Binary, Slice, Pick}
use Rattle.bv_terms.specs.TermTrees.{Term, input}
use Rattle.bv_terms.specs.Arenas.{parts, made_of, term_at, IsArena}
use Rattle.bv_terms.specs.Inputs.{AreApart}
use Rattle.bv_terms.specs.Needed.{AreFalling, AreNeeded, IsAmong, IsMadeOf}
use Rattle.bv_terms.specs.Walks.{is_among, walk}
use Rattle.bv_terms.proofs.ArenaFacts.{inputs-rise}
use Rattle.bv_terms.proofs.Members.{both}
use Rattle.bv_terms.proofs.NeededFacts.{inherits}
use Rattle.bv_terms.proofs.Seams.{snoc-cases, snoc-last, snoc-old}
use Rattle.bv_terms.proofs.Subterms.{Each, each-itself, each-made, each-parts, in-walk, walk-has}
use Rattle.bv_terms.specs.Copies.{AreInputs, AreRising, index_in, new_name}
use Rattle.bv_terms.specs.Copying.{input_of, inputs_among}

-- ---- one term

input-cases : (nodes : List Node) (k : ℕ) (o : Option Node) → slice_get nodes k ≡ o
    → (input_of o ≡ []) ⊎ ((i : ℕ) × (w : ℕ) × (input_of o ≡ i ∷ []) × (slice_get nodes k ≡ Some (Input i w)))
input-cases nodes k None e = inl refl
input-cases nodes k (Some (Input i w)) e = inr (i, w, refl, e)
input-cases nodes k (Some (Constant b)) e = inl refl
input-cases nodes k (Some (Apply f args w)) e = inl refl
input-cases nodes k (Some (Not a)) e = inl refl
input-cases nodes k (Some (Binary op a b)) e = inl refl
input-cases nodes k (Some (Slice a high low)) e = inl refl
input-cases nodes k (Some (Pick c a b)) e = inl refl

-- ---- members

among-tail : (k : ℕ) (ks : List ℕ) (j : ℕ) → IsAmong ks j → IsAmong (k ∷ ks) j
among-tail k ks j h = (suc h.0, h.1)

among-snoc : (xs : List ℕ) (y x : ℕ) → IsAmong xs x → IsAmong (xs ++ y ∷ []) x
among-snoc xs y x h = (h.0, snoc-old xs y h.0 (slice_get_within xs h.0 x h.1) ∙ h.1)

-- an input in the list is that of one of the terms
pub record IsInputOf (nodes : List Node) (ids : List ℕ) (i : ℕ) : Type 0 where
  pub number : ℕ
  pub width : ℕ
  pub among : IsAmong ids number
  pub node : slice_get nodes number ≡ Some (Input i width)

pub its-term : (nodes : List Node) (ids : List ℕ) (i : ℕ) → IsAmong (inputs_among nodes ids) i → IsInputOf nodes ids i
its-term nodes [] i h = absurd (let q = h.1 in cc)
its-term nodes (k ∷ ks) i h = elim (input-cases nodes k (slice_get nodes k) refl) [
  | inl none ↦
      let r = its-term nodes ks i (subst (λ xs. IsAmong xs i) (ap (λ xs. inputs_among nodes ks ++ xs) none ∙ append-nil (inputs_among nodes ks)) h) in
      record { number = r.number; width = r.width; among = among-tail k ks r.number r.among; node = r.node }
  | inr one ↦
      let g = subst (λ xs. IsAmong xs i) (ap (λ xs. inputs_among nodes ks ++ xs) one.2) h in
      elim (snoc-cases (inputs_among nodes ks) one.0 g.0 i g.1) [
        | inl old ↦
            let r = its-term nodes ks i (g.0, old.1) in
            record { number = r.number; width = r.width; among = among-tail k ks r.number r.among; node = r.node }
        | inr last ↦ record { number = k; width = one.1; among = (zero, refl); node = subst (λ x. slice_get nodes k ≡ Some (Input x one.1)) last.1 one.3 }
      ]
]

listed-old : (nodes : List Node) (k : ℕ) (ks : List ℕ) (i : ℕ) → IsAmong (inputs_among nodes ks) i → IsAmong (inputs_among nodes (k ∷ ks)) i
listed-old nodes k ks i h = elim (input-cases nodes k (slice_get nodes k) refl) [
  | inl none ↦ subst (λ xs. IsAmong xs i) (sym (ap (λ xs. inputs_among nodes ks ++ xs) none ∙ append-nil (inputs_among nodes ks))) h
  | inr one ↦ subst (λ xs. IsAmong xs i) (sym (ap (λ xs. inputs_among nodes ks ++ xs) one.2)) (among-snoc (inputs_among nodes ks) one.0 i h)
]

pub listed : (nodes : List Node) (ids : List ℕ) (n k i w : ℕ) → slice_get ids n ≡ Some k → slice_get nodes k ≡ Some (Input i w) → IsAmong (inputs_among nodes ids) i
listed nodes [] n k i w e f = absurd cc
listed nodes (j ∷ js) zero k i w e f =
    let j-is : j ≡ k = cc in
    let here : input_of (slice_get nodes j) ≡ i ∷ [] = ap input_of (ap (slice_get nodes) j-is ∙ f) in
    subst (λ xs. IsAmong xs i) (sym (ap (λ xs. inputs_among nodes js ++ xs) here))
    (length (inputs_among nodes js), snoc-last (inputs_among nodes js) i (length (inputs_among nodes js)) refl)
listed nodes (j ∷ js) (suc n) k i w e f = listed-old nodes j js i (listed nodes js n k i w e f)

-- ---- they rise

falling-tail : (k : ℕ) (ks : List ℕ) → AreFalling (k ∷ ks) → AreFalling ks
falling-tail k ks f i j a b l e g = f (suc i) (suc j) a b (omega arith) e g

rising-snoc : (xs : List ℕ) (y : ℕ) → AreRising xs → ((x : ℕ) → IsAmong xs x → x < y) → AreRising (xs ++ y ∷ [])
rising-snoc xs y r below i j a b l e g = elim (snoc-cases xs y j b g) [
  | inl q ↦ r i j a b l (sym (snoc-old xs y i (let m = q.0 in omega arith)) ∙ e) q.1
  | inr q ↦ subst (λ z. a < z) q.1 (below a (i, sym (snoc-old xs y i (let m = q.0 in omega arith)) ∙ e))
]

-- all inputs of the smaller terms are smaller
pub smaller : (nodes : List Node) (k : ℕ) (ks : List ℕ) (i w : ℕ) → IsArena nodes → AreFalling (k ∷ ks) → slice_get nodes k ≡ Some (Input i w)
    → (x : ℕ) → IsAmong (inputs_among nodes ks) x → x < i
smaller nodes k ks i w a f e x h =
    let r = its-term nodes ks x h in
    inputs-rise nodes a r.number k x i r.width w (f zero (suc r.among.0) k r.number (omega arith) refl r.among.1) r.node e

pub rising : (nodes : List Node) (ids : List ℕ) → IsArena nodes → AreFalling ids → AreRising (inputs_among nodes ids)
rising nodes [] a f = λ i j x y l e g. absurd cc
rising nodes (k ∷ ks) a f = elim (input-cases nodes k (slice_get nodes k) refl) [
  | inl none ↦ subst AreRising (sym (ap (λ xs. inputs_among nodes ks ++ xs) none ∙ append-nil (inputs_among nodes ks))) (rising nodes ks a (falling-tail k ks f))
  | inr one ↦
      subst AreRising (sym (ap (λ xs. inputs_among nodes ks ++ xs) one.2))
      (rising-snoc (inputs_among nodes ks) one.0 (rising nodes ks a (falling-tail k ks f)) (smaller nodes k ks one.0 one.1 a f one.3))
]

pub falling-drop : (n : ℕ) (ids : List ℕ) → AreFalling ids → AreFalling (drop n ids)
falling-drop zero ids f = f
falling-drop (suc n) [] f = f
falling-drop (suc n) (k ∷ ks) f = falling-drop n ks (falling-tail k ks f)

pub split : (nodes : List Node) (n : ℕ) (ids : List ℕ) → inputs_among nodes ids ≡ inputs_among nodes (drop n ids) ++ inputs_among nodes (take n ids)
split nodes zero ids = sym (append-nil (inputs_among nodes ids))
split nodes (suc n) [] = refl
split nodes (suc n) (k ∷ ks) =
    ap (λ xs. xs ++ input_of (slice_get nodes k)) (split nodes n ks)
    ∙ append_assoc (inputs_among nodes (drop n ks)) (inputs_among nodes (take n ks)) (input_of (slice_get nodes k))

-- ---- they are those of the term

-- an input that a term is stands in the list
abbrev IsNoted : List Node → List ℕ → Term → Type 0
IsNoted nodes ids t = (i w : ℕ) → t ≡ input i w → IsAmong (inputs_among nodes ids) i

made-input : (f : ℕ → Term) (n : Node) (i w : ℕ) → made_of f n ≡ input i w → n ≡ Input i w
made-input f (Input j v) i w e = cc
made-input f (Constant b) i w e = absurd cc
made-input f (Apply g args v) i w e = absurd cc
made-input f (Not a) i w e = absurd cc
made-input f (Binary op a b) i w e = absurd cc
made-input f (Slice a high low) i w e = absurd cc
made-input f (Pick c a b) i w e = absurd cc

noted : (n : ℕ) (nodes : List Node) (id : ℕ) (ids : List ℕ) → AreNeeded nodes id ids → id < length nodes → (k : ℕ) → k < n → IsAmong ids k
    → Each (IsNoted nodes ids) (term_at nodes k)
noted zero nodes id ids h l k less a = absurd (omega arith)
noted (suc n) nodes id ids h l k less a =
    let here : k < length nodes = (let m = h.within k a in omega arith) in
    let node = get_or nodes k (Input 0 0) in
    let e : slice_get nodes k ≡ Some node = slice_get-get_or nodes k (Input 0 0) here in
    let made = h.arena.made k node e in
    subst (Each (IsNoted nodes ids)) (sym made)
    (each-made (IsNoted nodes ids) (term_at nodes) node
    (both (λ q. q < k) (IsAmong ids) (λ q. Each (IsNoted nodes ids) (term_at nodes q))
    (λ q s b. noted n nodes id ids h l q (omega arith) b) (parts node) (recursion_from_All (λ q. q < k) (parts node) (h.arena.below k node e)) (h.parts_ k node a e))
    (λ i w is. listed nodes ids a.0 k i w a.1 (e ∙ ap Some (made-input (term_at nodes) node i w is))))

mentioned : (nodes : List Node) (id : ℕ) → IsArena nodes → (k : ℕ) → IsMadeOf nodes id k → Each (λ u. is_among (walk (term_at nodes id) []) u ≡ true) (term_at nodes k)
mentioned nodes id a =
    inherits nodes id (λ k. Each (λ u. is_among (walk (term_at nodes id) []) u ≡ true) (term_at nodes k))
    (λ k node e h. each-parts (λ u. is_among (walk (term_at nodes id) []) u ≡ true) (term_at nodes) node
    (subst (Each (λ u. is_among (walk (term_at nodes id) []) u ≡ true)) (a.made k node e) h))
    (walk-has (term_at nodes id) [])

pub are-inputs : (nodes : List Node) (id : ℕ) (ids : List ℕ) → AreNeeded nodes id ids → id < length nodes → AreInputs (term_at nodes id) (inputs_among nodes ids)
are-inputs nodes id ids h l = record {
  rising = rising nodes ids h.arena h.falling;
  each_ = λ i w m. in-walk (IsNoted nodes ids) (term_at nodes id) (input i w) (noted (suc id) nodes id ids h l id (omega arith) h.itself) m i w refl;
  only = λ i m.
      let r = its-term nodes ids i m in
      let made : term_at nodes r.number ≡ input i r.width = h.arena.made r.number (Input i r.width) r.node in (
        r.width,
        subst (λ t. is_among (walk (term_at nodes id) []) t ≡ true) made
            (each-itself (λ u. is_among (walk (term_at nodes id) []) u ≡ true) (term_at nodes r.number) (mentioned nodes id h.arena r.number (h.only r.number r.among))),
      );
}

-- ---- their names

pub index-new : (xs ys : List ℕ) (i : ℕ) → (IsAmong xs i → ⊥) → index_in (xs ++ i ∷ ys) i ≡ length xs
index-new [] ys i n = cond-true (i == i) 0 (suc (index_in ys i)) (eq-eqb i i refl)
index-new (x ∷ xs) ys i n =
    cond-false (x == i) 0 (suc (index_in (xs ++ i ∷ ys) i)) (ne_eqb x i (λ e. n (zero, ap Some e))) ∙ ap suc (index-new xs ys i (λ a. n (suc a.0, a.1)))

index-there : (xs : List ℕ) (i : ℕ) → IsAmong xs i → slice_get xs (index_in xs i) ≡ Some i
index-there [] i a = absurd (let q = a.1 in cc)
index-there (x ∷ xs) i a = elim (cases_Bool (x == i)) [
  | inl t ↦ ap (slice_get (x ∷ xs)) (cond-true (x == i) 0 (suc (index_in xs i)) t) ∙ ap Some (eqb-true x i t)
  | inr f ↦ ap (slice_get (x ∷ xs)) (cond-false (x == i) 0 (suc (index_in xs i)) f) ∙ index-there xs i (later f a.0 a.1)
]
  where
    later : (x == i) ≡ false → (n : ℕ) → slice_get (x ∷ xs) n ≡ Some i → IsAmong xs i
    later f zero e = absurd (let q : x ≡ i = cc in false≢true (sym f ∙ eq-eqb x i q))
    later f (suc n) e = (n, e)

pub names-apart : (t : Term) (first : ℕ) (inputs : List ℕ) → AreInputs t inputs → AreApart (new_name first inputs) t
names-apart t first inputs h i j v w m n e =
    let k : index_in inputs i ≡ index_in inputs j = omega arith in
    let q : Some i ≡ Some j = sym (index-there inputs i (h.each_ i v m)) ∙ ap (slice_get inputs) k ∙ index-there inputs j (h.each_ j w n) in
    cc
