-- The loops of a substitution.
use Rattle.std.proofs.Common.{◌≡◌, ℕ, ◌+◌, ◌-◌, ◌<◌, ◌≤◌, List, [], ◌∷◌, ◌++◌, length, length-append, map, Some, None, slice_get, slice_index, get_or, refl, ap, sym, ◌∙◌, subst, arith, zero, suc, inl, inr, ◌⊎◌, ◌==◌}
use Rattle.std.specs.List.{AllByRecursion}
use Rattle.std.specs.Option.{unwrap_or}
use Rattle.std.proofs.lemmas.List.Elements.{recursion_from_All}
use Rattle.std.proofs.lemmas.Option.{slice_get_within, slice_get-get_or}
use Rattle.std.proofs.lemmas.Bool.{cases_eq, cases_Bool, cond-false, eqb-true}
use Rattle.bv_terms.specs.declared.node.Node.{Node}
use Rattle.bv_terms.specs.declared.node.Node.TheVariants.{Constant, Input, Apply, Not, Binary, Slice, Pick}
use Rattle.bv_terms.specs.TermTrees.{Term, input, apply, not_, slice}
use Rattle.bv_terms.specs.Arenas.{parts, args_of, made_of, term_at, IsArena, KeepsTerms, GrowsBy}
use Rattle.bv_terms.specs.Needed.{AreNeeded, IsAmong}
use Rattle.bv_terms.specs.Replacements.{Replacing, replaced, replaced_args, beside}
use Rattle.bv_terms.specs.TermMaps.{value_at, IsSet}
use Rattle.bv_terms.specs.Rebuilt.{InputTerms, Names, name_in, IsRebuilt, CanRebuild, IsReplaced, StandsFrom, AreReplacedFrom}
use Rattle.bv_terms.proofs.Members.{both, each, read-index}
use Rattle.bv_terms.proofs.Seams.{snoc-cases}
use Rattle.bv_terms.proofs.NeededFacts.{needed-later, needed-few}
use Rattle.bv_terms.proofs.ReplaceFacts.{Rebuilding, Given, can-rebuild, next-replaced, replaced-more, keeps-none, grown-length, grows-both, node-kept, no-name, name-old, name-new}

abbrev Rep : List Node → List ℕ → List ℕ → Replacing
Rep orig from to = beside from (map (term_at orig) to)

-- ---- all that one term is made of

-- the terms from a place on
abbrev pub From : List ℕ → ℕ → ℕ → Type 0
From ids at k = (i : ℕ) × (at ≤ i) × (slice_get ids i ≡ Some k)

pub record Substituting (orig now : List Node) (from to : List ℕ) (id : ℕ) (ids : List ℕ) (at : ℕ) (names : Names) : Type 0 where
  pub needed : AreNeeded orig id ids
  pub there : id < length orig
  pub within : at ≤ length ids
  pub rebuilding : Rebuilding orig now (beside from (map (term_at orig) to)) (From ids at) (name_in names)
  pub grown : GrowsBy (length ids - at) orig now

pub substitute-first : (orig : List Node) (from to : List ℕ) (id : ℕ) (ids : List ℕ) (at : ℕ) (names : Names) → AreNeeded orig id ids → id < length orig → at ≡ length ids
    → Substituting orig orig from to id ids at names
substitute-first orig from to id ids at names n l e = record {
  needed = n;
  there = l;
  within = omega arith;
  rebuilding = record {
    arena = n.arena;
    keeps = keeps-none orig;
    done = λ k d. absurd (let q = slice_get_within ids d.0 k d.2 in let m = d.1 in omega arith);
  };
  grown = record { inputs = refl; terms = omega arith };
}

module _ (orig now : List Node) (from to : List ℕ) (id : ℕ) (ids : List ℕ) (at : ℕ) (names : Names) (h : Substituting orig now from to id ids at names) (p : 0 < at) where
  abbrev pub its : ℕ
  its = slice_index ids (at - 1)

  its-at : slice_get ids (at - 1) ≡ Some its
  its-at = (let w = h.within in slice_get-get_or ids (at - 1) 0 (omega arith))

  its-there : its < length orig
  its-there = (let l = h.needed.within its (at - 1, its-at) in let t = h.there in omega arith)

  pub its-now : its < length now
  its-now = (let l = its-there in let g = grown-length orig now h.rebuilding.keeps in omega arith)

  was : (node : Node) → slice_get now its ≡ Some node → slice_get orig its ≡ Some node
  was node e = sym (node-kept orig now its h.rebuilding.keeps its-there) ∙ e

  parts-done : (node : Node) → slice_get orig its ≡ Some node → AllByRecursion (λ q. IsReplaced orig now (beside from (map (term_at orig) to)) q (name_in names q)) (parts node)
  parts-done node e =
      both (λ q. q < its) (IsAmong ids) (λ q. IsReplaced orig now (beside from (map (term_at orig) to)) q (name_in names q))
      (λ q l a. let r = needed-later orig id ids h.needed (at - 1) its q its-at l a in h.rebuilding.done q (r.0, (let m = r.1 in omega arith), r.2))
      (parts node) (recursion_from_All (λ q. q < its) (parts node) (h.rebuilding.arena.below its node e)) (h.needed.parts_ its node (at - 1, its-at) e)

  pub substitute-can : (node : Node) → slice_get now its ≡ Some node → CanRebuild now (name_in names) node
  substitute-can node e =
      can-rebuild orig now (beside from (map (term_at orig) to)) (name_in names) its node h.rebuilding.arena h.rebuilding.keeps (was node e) (parts-done node (was node e))

  pub substitute-step : (new : List Node) (table : InputTerms) (more : Names) (next : ℕ) → Given orig table from to → KeepsTerms now new → GrowsBy 1 now new
      → ((node : Node) → slice_get now its ≡ Some node → IsRebuilt now new table (name_in names) its node next) → IsSet names more its next
      → Substituting orig new from to id ids (at - 1) more
  substitute-step new table more next g kept few is up =
      let r = beside from (map (term_at orig) to) in
      let node = get_or orig its (Input 0 0) in
      let e : slice_get orig its ≡ Some node = slice_get-get_or orig its (Input 0 0) its-there in
      let e' : slice_get now its ≡ Some node = node-kept orig now its h.rebuilding.keeps its-there ∙ e in
      record {
        needed = h.needed;
        there = h.there;
        within = (let w = h.within in omega arith);
        rebuilding = replaced-more orig now new r (From ids at) (From ids (at - 1)) names more its next h.rebuilding kept up
            (next-replaced orig now new table from to (name_in names) its node next h.rebuilding.arena h.rebuilding.keeps g e (parts-done node e) (is node e'))
            (λ q n d. elim (cases_eq n.0 (at - 1)) [
              | inl s ↦ absurd (d (let x : Some its ≡ Some q = sym its-at ∙ ap (slice_get ids) (sym s) ∙ n.2 in cc))
              | inr o ↦ (n.0, (let o' = o in let l = n.1 in omega arith), n.2)
            ]);
        grown = grows-both orig now new (length ids - at) 1 (length ids - (at - 1)) h.grown few (let w = h.within in omega arith);
      }

  -- the same at what is read there
  its-is : (k : ℕ) → k ≡ get_or ids (at - 1) k → k ≡ its
  its-is k e = read-index ids (at - 1) k (let w = h.within in omega arith) e

  pub at-now : (k : ℕ) → k ≡ get_or ids (at - 1) k → k < length now
  at-now k e = subst (λ j. j < length now) (sym (its-is k e)) its-now

  pub at-can : (k : ℕ) → k ≡ get_or ids (at - 1) k → (node : Node) → slice_get now k ≡ Some node → CanRebuild now (name_in names) node
  at-can k e node n = substitute-can node (subst (λ j. slice_get now j ≡ Some node) (its-is k e) n)

  pub at-step : (new : List Node) (table : InputTerms) (more : Names) (next k j : ℕ) → Given orig table from to → KeepsTerms now new → GrowsBy 1 now new → k ≡ get_or ids (at - 1) k → j ≡ get_or ids (at - 1) j
      → ((node : Node) → slice_get now k ≡ Some node → IsRebuilt now new table (name_in names) k node next) → IsSet names more j next
      → Substituting orig new from to id ids (at - 1) more
  at-step new table more next k j g kept few e f is up =
      substitute-step new table more next g kept few
      (subst (λ i. (node : Node) → slice_get now i ≡ Some node → IsRebuilt now new table (name_in names) i node next) (its-is k e) is)
      (subst (λ i. IsSet names more i next) (its-is j f) up)

  pub at-few : (new : List Node) → GrowsBy 1 now new → GrowsBy (id + 1) orig new
  at-few new few = grows-both orig now new (length ids - at) 1 (id + 1) h.grown few (let n = needed-few orig id ids h.needed in let w = h.within in omega arith)

pub substitute-last : (orig now : List Node) (from to : List ℕ) (id : ℕ) (ids : List ℕ) (at : ℕ) (names : Names) → Substituting orig now from to id ids at names → at ≡ 0
    → IsReplaced orig now (beside from (map (term_at orig) to)) id (name_in names id)
substitute-last orig now from to id ids at names h z = let i = h.needed.itself in h.rebuilding.done id (i.0, omega arith, i.1)

pub substitute-few : (orig now : List Node) (from to : List ℕ) (id : ℕ) (ids : List ℕ) (at : ℕ) (names : Names) → Substituting orig now from to id ids at names → GrowsBy (id + 1) orig now
substitute-few orig now from to id ids at names h =
    let g = h.grown in
    let n = needed-few orig id ids h.needed in
    record { inputs = g.inputs; terms = (let t = g.terms in omega arith) }

-- ---- all terms from a number on

args-untouched : (r : Replacing) (f : ℕ → Term) (xs : List ℕ) → AllByRecursion (λ p. replaced r (f p) ≡ f p) xs → replaced_args r (args_of f xs) ≡ args_of f xs
args-untouched r f [] h = refl
args-untouched r f (a ∷ xs) h = let e = h.0 in let e' = args-untouched r f xs h.1 in cc

made-untouched : (r : Replacing) (f : ℕ → Term) (node : Node) → ((i w : ℕ) → node ≡ Input i w → r i ≡ None) → AllByRecursion (λ p. replaced r (f p) ≡ f p) (parts node)
    → replaced r (made_of f node) ≡ made_of f node
made-untouched r f (Constant b) n h = refl
made-untouched r f (Input i w) n h = ap (λ o. unwrap_or o (input i w)) (n i w refl)
made-untouched r f (Apply g args w) n h = ap (λ xs. apply g xs w) (args-untouched r f args h)
made-untouched r f (Not a) n h = ap not_ h.0
made-untouched r f (Binary op a b) n h = let e = h.0 in let e' = h.1.0 in cc
made-untouched r f (Slice a high low) n h = ap (λ t. slice t high low) h.0
made-untouched r f (Pick c a b) n h = let e = h.0 in let e' = h.1.0 in let e'' = h.1.1.0 in cc

beside-none : {A : Type 0} (P : ℕ → Type 0) (is : List ℕ) (xs : List A) (i : ℕ) → AllByRecursion P is → (P i → ⊥) → beside is xs i ≡ None
beside-none P [] xs i a n = refl
beside-none P (j ∷ js) [] i a n = refl
beside-none P (j ∷ js) (x ∷ xs) i a n = elim (cases_Bool (j == i)) [
  | inl e ↦ absurd (n (subst P (eqb-true j i e) a.0))
  | inr e ↦ cond-false (j == i) (Some x) (beside js xs i) e ∙ beside-none P js xs i a.1 n
]

untouched : (n : ℕ) (orig : List Node) (first : ℕ) (from to : List ℕ) → IsArena orig → AllByRecursion (StandsFrom orig first) from → (k : ℕ) → k < n → k < first → k < length orig
    → replaced (beside from (map (term_at orig) to)) (term_at orig k) ≡ term_at orig k
untouched zero orig first from to a s k l lf lo = absurd (omega arith)
untouched (suc n) orig first from to a s k l lf lo =
    let r = beside from (map (term_at orig) to) in
    let node = get_or orig k (Input 0 0) in
    let e : slice_get orig k ≡ Some node = slice_get-get_or orig k (Input 0 0) lo in
    let made = a.made k node e in
    ap (replaced r) made
    ∙ made-untouched r (term_at orig) node
    (λ i w is. beside-none (StandsFrom orig first) from (map (term_at orig) to) i s (λ st. let q = st k w (e ∙ ap Some is) in omega arith))
    (each (λ p lp. untouched n orig first from to a s p (omega arith) (omega arith) (omega arith)) (parts node) (recursion_from_All (λ p. p < k) (parts node) (a.below k node e)))
    ∙ sym made

-- the terms up to a number
abbrev pub Before : List Node → ℕ → ℕ → Type 0
Before orig own k = (k < own) × (k < length orig)

pub record Ranging (orig now : List Node) (from to : List ℕ) (first own : ℕ) (names : Names) (all : List ℕ) : Type 0 where
  pub begun : first ≤ own
  pub ended : (own ≡ first) ⊎ (own ≤ length orig)
  pub rebuilding : Rebuilding orig now (beside from (map (term_at orig) to)) (Before orig own) (name_in names)
  pub count : length all ≡ own - first
  pub each_ : (i id : ℕ) → slice_get all i ≡ Some id → id ≡ name_in names (first + i)
  pub grown : GrowsBy (own - first) orig now

pub range-first : (orig : List Node) (from to : List ℕ) (first : ℕ) (names : Names) (all : List ℕ) → IsArena orig → AllByRecursion (StandsFrom orig first) from → ((k : ℕ) → value_at names k ≡ None) → all ≡ []
    → Ranging orig orig from to first first names all
range-first orig from to first names all a s z e = record {
  begun = omega arith;
  ended = inl refl;
  rebuilding = record {
    arena = a;
    keeps = keeps-none orig;
    done = λ k d.
        let t = untouched (suc k) orig first from to a s k (omega arith) d.0 d.1 in
        subst (IsReplaced orig orig (beside from (map (term_at orig) to)) k) (sym (no-name names k (z k))) (record { there = d.1; width = refl; term = sym t });
  };
  count = ap length e ∙ (let q : 0 ≡ first - first = omega arith in q);
  each_ = λ i id g. absurd (let q : slice_get (let xs : List ℕ = [] in xs) i ≡ Some id = ap (λ xs. slice_get xs i) (sym e) ∙ g in cc);
  grown = record { inputs = refl; terms = omega arith };
}

module _ (orig now : List Node) (from to : List ℕ) (first own : ℕ) (names : Names) (all : List ℕ) (h : Ranging orig now from to first own names all) (l : own < length orig) where
  range-was : (node : Node) → slice_get now own ≡ Some node → slice_get orig own ≡ Some node
  range-was node e = sym (node-kept orig now own h.rebuilding.keeps l) ∙ e

  range-parts : (node : Node) → slice_get orig own ≡ Some node → AllByRecursion (λ q. IsReplaced orig now (beside from (map (term_at orig) to)) q (name_in names q)) (parts node)
  range-parts node e =
      each (λ q s. h.rebuilding.done q (s, (let m = s in omega arith))) (parts node) (recursion_from_All (λ q. q < own) (parts node) (h.rebuilding.arena.below own node e))

  pub range-now : own < length now
  range-now = (let g = grown-length orig now h.rebuilding.keeps in omega arith)

  pub range-can : (node : Node) → slice_get now own ≡ Some node → CanRebuild now (name_in names) node
  range-can node e =
      can-rebuild orig now (beside from (map (term_at orig) to)) (name_in names) own node h.rebuilding.arena h.rebuilding.keeps (range-was node e) (range-parts node (range-was node e))

  pub range-step : (new : List Node) (table : InputTerms) (more : Names) (next : ℕ) (longer : List ℕ) → Given orig table from to → KeepsTerms now new → GrowsBy 1 now new
      → ((node : Node) → slice_get now own ≡ Some node → IsRebuilt now new table (name_in names) own node next) → IsSet names more own next
      → longer ≡ all ++ next ∷ [] → Ranging orig new from to first (own + 1) more longer
  range-step new table more next longer g kept few is up le =
      let r = beside from (map (term_at orig) to) in
      let node = get_or orig own (Input 0 0) in
      let e : slice_get orig own ≡ Some node = slice_get-get_or orig own (Input 0 0) l in
      let e' : slice_get now own ≡ Some node = node-kept orig now own h.rebuilding.keeps l ∙ e in
      let b = h.begun in
      let c = h.count in
      record {
        begun = omega arith;
        ended = inr (omega arith);
        rebuilding = replaced-more orig now new r (Before orig own) (Before orig (own + 1)) names more own next h.rebuilding kept up
            (next-replaced orig now new table from to (name_in names) own node next h.rebuilding.arena h.rebuilding.keeps g e (range-parts node e) (is node e'))
            (λ q n d. ((let m = n.0 in let d' = d in omega arith), n.1));
        count = ap length le ∙ length-append all (next ∷ []) ∙ (let q : length all + 1 ≡ own + 1 - first = omega arith in q);
        each_ = λ i id x. elim (snoc-cases all next i id (ap (λ xs. slice_get xs i) (sym le) ∙ x)) [
          | inl y ↦ h.each_ i id y.1 ∙ sym (name-old names more own next (first + i) up (λ q. let m = y.0 in omega arith))
          | inr y ↦ sym y.1 ∙ sym (name-new names more own next up) ∙ ap (name_in more) (let m = y.0 in let q : own ≡ first + i = omega arith in q)
        ];
        grown = grows-both orig now new (own - first) 1 (own + 1 - first) h.grown few (omega arith);
      }

pub range-last : (orig now : List Node) (from to : List ℕ) (first own : ℕ) (names : Names) (all : List ℕ) → Ranging orig now from to first own names all
    → length orig ≤ own → AreReplacedFrom orig now (beside from (map (term_at orig) to)) first all
range-last orig now from to first own names all h l = record {
  count = h.count ∙ elim h.ended [
    | inl e ↦ let q : own - first ≡ length orig - first = omega arith in q
    | inr e ↦ let q : own - first ≡ length orig - first = omega arith in q
  ];
  each_ = λ i id e.
      let inside = slice_get_within all i id e in
      let c = h.count in
      let there : first + i < length orig = elim h.ended [ inl s ↦ absurd (omega arith) | inr s ↦ omega arith ] in
      subst (IsReplaced orig now (beside from (map (term_at orig) to)) (first + i)) (sym (h.each_ i id e)) (h.rebuilding.done (first + i) (omega arith, there));
}

pub range-few : (orig now : List Node) (from to : List ℕ) (first own : ℕ) (names : Names) (all : List ℕ) → Ranging orig now from to first own names all
    → length orig ≤ own → GrowsBy (length orig - first) orig now
range-few orig now from to first own names all h l =
    let g = h.grown in
    record { inputs = g.inputs; terms = (let t = g.terms in elim h.ended [ inl e ↦ omega arith | inr e ↦ omega arith ]) }
