-- The flat goal: what was made of the applications is what the definition says.
use Rattle.std.proofs.Common.{◌≡◌, ℕ, ◌<◌, ◌==◌, true, List, [], ◌∷◌, ◌++◌, length, map, Some, slice_get, get_or, refl, ap, sym, ◌∙◌, subst, arith, inl, inr, zero, suc}
use Rattle.std.specs.Prelude.{filter}
use Rattle.std.specs.List.{AllByRecursion, AllZip}
use Rattle.std.proofs.lemmas.List.Elements.{All-from_recursion, recursion_from_All}
use Rattle.std.proofs.lemmas.Option.{slice_get-get_or}
use Rattle.std.proofs.lemmas.Bool.{cases_Bool, cond-true, cond-false, eqb-true, or_cases, or_left, or_right}
use Rattle.bv_terms.specs.declared.node.Node.{Node}
use Rattle.bv_terms.specs.declared.node.Node.TheVariants.{Constant, Input, Apply, Not, Binary, Slice, Pick}
use Rattle.bv_terms.specs.Arenas.{parts, args_of, made_of, term_at, width_at, inputs_in, IsArena}
use Rattle.bv_terms.specs.Inputs.{Applies}
use Rattle.bv_terms.specs.TermTrees.{Term, input, apply, width, arg_widths}
use Rattle.bv_terms.specs.Walks.{applications, is_among, is_application, same_term, walk}
use Rattle.bv_terms.proofs.ArenaFacts.{input-below}
use Rattle.bv_terms.proofs.Members.{each}
use Rattle.bv_terms.proofs.SameTerms.{same-itself}
use Rattle.bv_terms.proofs.Subterms.{Each, each-made, in-walk}
use Rattle.flat_laws.specs.Flat as flat
use Rattle.flat_laws.specs.Flat.{args_in, flattened, reduced, reduced_args}
use Rattle.flat_laws.specs.Meant.{AppliesAlike, CanFlatten}
use Rattle.flat_laws.proofs.Reduced.{reduced-width, reduced-widths}
use Rattle.flat_goals.specs.Agreeing.{AreAlike, CanAgree, IsThere, agreement_of, agreements_with, all_agreements, same_function}
use Rattle.flat_goals.specs.Applied.{AreApplied, IsApplied}
use Rattle.flat_goals.specs.Reducing.{AreTaken, IsTaken}
use Rattle.flat_goals.specs.declared.applied.Application.{Application}
use Rattle.flat_goals.proofs.Agreements.{and_all}
use Rattle.flat_goals.proofs.Reductions.{zip-push}

-- ---- the inputs of a goal are those of its arena

abbrev IsOld : ℕ → Term → Type 0
IsOld first t = (i w : ℕ) → t ≡ input i w → i < first

made-input : (f : ℕ → Term) (n : Node) (i w : ℕ) → made_of f n ≡ input i w → n ≡ Input i w
made-input f (Input j v) i w e = cc
made-input f (Constant b) i w e = absurd cc
made-input f (Apply g args v) i w e = absurd cc
made-input f (Not a) i w e = absurd cc
made-input f (Binary op a b) i w e = absurd cc
made-input f (Slice a high low) i w e = absurd cc
made-input f (Pick c a b) i w e = absurd cc

inputs-below : (n : ℕ) (nodes : List Node) → IsArena nodes → (k : ℕ) → k < n → k < length nodes → Each (IsOld (inputs_in nodes)) (term_at nodes k)
inputs-below zero nodes a k less l = absurd (omega arith)
inputs-below (suc n) nodes a k less l =
    let node = get_or nodes k (Input 0 0) in
    let e : slice_get nodes k ≡ Some node = slice_get-get_or nodes k (Input 0 0) l in
    subst (Each (IsOld (inputs_in nodes))) (sym (a.made k node e))
    (each-made (IsOld (inputs_in nodes)) (term_at nodes) node
    (each (λ p (m : p < k). inputs-below n nodes a p (omega arith) (omega arith)) (parts node) (recursion_from_All (λ p. p < k) (parts node) (a.below k node e)))
    (λ i w is. input-below nodes k i w a (e ∙ ap Some (made-input (term_at nodes) node i w is))))

pub can_flatten : (nodes : List Node) (goal : ℕ) → IsArena nodes → goal < length nodes → width_at nodes goal ≡ 1 → AppliesAlike (term_at nodes goal)
    → CanFlatten (term_at nodes goal) (inputs_in nodes)
can_flatten nodes goal a l w alike = record {
  term = a.terms goal l;
  truth = w;
  alike = alike;
  below = λ i v m. in-walk (IsOld (inputs_in nodes)) (term_at nodes goal) (input i v) (inputs-below (suc goal) nodes a goal (omega arith) l) m i v refl;
}

-- ---- applications that were taken

among-whole : (ts : List Term) (t : Term) → is_among (filter is_application ts) t ≡ true → is_among ts t ≡ true
among-whole [] t h = h
among-whole (u ∷ us) t h = elim (cases_Bool (is_application u)) [
  | inl e ↦
      elim (or_cases (same_term u t) (is_among (filter is_application us) t)
      (sym (ap (λ (ts : List Term). is_among ts t) (cond-true (is_application u) (u ∷ filter is_application us) (filter is_application us) e)) ∙ h)) [
        | inl s ↦ or_left (same_term u t) (is_among us t) s
        | inr r ↦ or_right (same_term u t) (is_among us t) (among-whole us t r)
      ]
  | inr e ↦
      or_right (same_term u t) (is_among us t) (among-whole us t
      (sym (ap (λ (ts : List Term). is_among ts t) (cond-false (is_application u) (u ∷ filter is_application us) (filter is_application us) e)) ∙ h))
]

arg-widths : (f : ℕ → Term) (xs : List ℕ) → arg_widths (args_of f xs) ≡ map (λ a. width (f a)) xs
arg-widths f [] = refl
arg-widths f (a ∷ xs) = ap (λ ws. width (f a) ∷ ws) (arg-widths f xs)

module _ (now : List Node) (goal : Term) (first : ℕ) where
  abbrev Taken : Term → Application → Type 0
  Taken = IsTaken now goal first

  -- the application of which one was taken
  source-of : (ts : List Term) (xs : List Application) → AllZip Taken ts xs → (i : ℕ) (x : Application) → slice_get xs i ≡ Some x
      → (t : Term) × (is_among ts t ≡ true) × Taken t x
  source-of [] [] h i x e = absurd cc
  source-of [] (y ∷ ys) h i x e = absurd h
  source-of (t ∷ ts) [] h i x e = absurd h
  source-of (t ∷ ts) (y ∷ ys) h zero x e =
      let s : y ≡ x = cc in
      (t, or_left (same_term t t) (is_among ts t) (same-itself t), subst (Taken t) s h.0)
  source-of (t ∷ ts) (y ∷ ys) h (suc i) x e =
      let q = source-of ts ys h.1 i x e in
      (q.0, or_right (same_term t q.0) (is_among ts q.0) q.1, q.2)

  its-widths : (t : Term) (x : Application) → Taken t x → map (width_at now) x.applied.args ≡ arg_widths (args_in t)
  its-widths t x h =
      sym (arg-widths (term_at now) x.applied.args) ∙ ap arg_widths h.applied.args ∙ reduced-widths (applications goal) first (args_in t)

  its-width : (t : Term) (x : Application) → Taken t x → width_at now x.term ≡ width t
  its-width t x h = ap width h.term ∙ reduced-width (applications goal) first t

  -- two of one function
  alike-of : AppliesAlike goal → (t u : Term) (a b : Application) → Taken t a → Taken u b → is_among (walk goal []) t ≡ true → is_among (walk goal []) u ≡ true → same_function a b ≡ true
      → AreAlike (width_at now) a b
  alike-of alike (apply f ts v) (apply g us w) a b h k m n s =
      let e : f ≡ g = sym (eqb-true a.applied.function f h.applied.function) ∙ eqb-true a.applied.function b.applied.function s ∙ eqb-true b.applied.function g k.applied.function in
      let like = alike f v w ts us m (subst (λ x. Applies goal x us w) (sym e) n) in
      record {
        args = its-widths (apply f ts v) a h ∙ like.0 ∙ sym (its-widths (apply g us w) b k);
        results = its-width (apply f ts v) a h ∙ like.1 ∙ sym (its-width (apply g us w) b k);
      }
  alike-of alike t u a b h k m n s = let x = h.applied.function in let y = k.applied.function in absurd cc

  pub can-agree : AppliesAlike goal → (xs : List Application) → AreTaken now goal first xs → CanAgree now xs
  can-agree alike xs h = record {
    there = All-from_recursion (IsThere now) xs (all-there (applications goal) xs h);
    alike = λ i j a b e d s.
        let p = source-of (applications goal) xs h i a e in
        let q = source-of (applications goal) xs h j b d in
        alike-of alike p.0 q.0 a b p.2 q.2 (among-whole (walk goal []) p.0 p.1) (among-whole (walk goal []) q.0 q.1) s;
  }
    where
      all-there : (ts : List Term) (xs : List Application) → AllZip Taken ts xs → AllByRecursion (IsThere now) xs
      all-there [] [] h = tt
      all-there [] (x ∷ xs) h = absurd h
      all-there (t ∷ ts) [] h = absurd h
      all-there (t ∷ ts) (x ∷ xs) h = (record { args = h.0.applied.there; term = h.0.there }, all-there ts xs h.1)

  -- ---- what is said of pairs

  abbrev A : List Term
  A = applications goal

  same-agreement : (t u : Term) (a b : Application) → Taken t a → Taken u b → agreement_of (term_at now) a b ≡ flat.agreement A first t u
  same-agreement t u a b h k =
      let xs = h.applied.args in
      let ys = k.applied.args in
      let x = h.term in
      let y = k.term in
      cc

  same-test : (t u : Term) (a b : Application) → Taken t a → Taken u b → same_function a b ≡ flat.same_function t u
  same-test (apply f ts v) (apply g us w) a b h k =
      ap (λ x. x == b.applied.function) (eqb-true a.applied.function f h.applied.function) ∙ ap (λ x. f == x) (eqb-true b.applied.function g k.applied.function)
  same-test t u a b h k = let x = h.applied.function in let y = k.applied.function in absurd cc

  same-with : (ts : List Term) (xs : List Application) (u : Term) (b : Application) → AllZip Taken ts xs → Taken u b
      → agreements_with (term_at now) (filter (λ a. same_function a b) xs) b ≡ flat.agreements_with A first ts u
  same-with [] [] u b h k = refl
  same-with [] (x ∷ xs) u b h k = absurd h
  same-with (t ∷ ts) [] u b h k = absurd h
  same-with (t ∷ ts) (x ∷ xs) u b h k =
      let test = same-test t u x b h.0 k in
      let kept = filter (λ a. same_function a b) xs in
      let others = filter (λ s. flat.same_function s u) ts in
      let rest = same-with ts xs u b h.1 k in
      elim (cases_Bool (same_function x b)) [
        | inl e ↦
            ap (λ zs. agreements_with (term_at now) zs b) (cond-true (same_function x b) (x ∷ kept) kept e)
            ∙ ap (λ z. z ∷ agreements_with (term_at now) kept b) (same-agreement t u x b h.0 k) ∙ ap (λ zs. flat.agreement A first t u ∷ zs) rest
            ∙ sym (ap (map (λ s. flat.agreement A first s u)) (cond-true (flat.same_function t u) (t ∷ others) others (sym test ∙ e)))
        | inr e ↦
            ap (λ zs. agreements_with (term_at now) zs b) (cond-false (same_function x b) (x ∷ kept) kept e) ∙ rest
            ∙ sym (ap (map (λ s. flat.agreement A first s u)) (cond-false (flat.same_function t u) (t ∷ others) others (sym test ∙ e)))
      ]

  same-all : (ts us : List Term) (xs ys : List Application) → AllZip Taken ts xs → AllZip Taken us ys → all_agreements (term_at now) xs ys ≡ flat.agreements A first ts us
  same-all ts [] xs [] h k = refl
  same-all ts [] xs (y ∷ ys) h k = absurd k
  same-all ts (u ∷ us) xs [] h k = absurd k
  same-all ts (u ∷ us) xs (y ∷ ys) h k =
      ap (λ zs. zs ++ all_agreements (term_at now) (xs ++ y ∷ []) ys) (same-with ts xs u y h k.0)
      ∙ ap (λ zs. flat.agreements_with A first ts u ++ zs) (same-all (ts ++ u ∷ []) us (xs ++ y ∷ []) ys (zip-push Taken ts xs u y h k.0) k.1)

  -- the whole goal
  pub is-flat : (xs : List Application) (t : Term) → AreTaken now goal first xs → t ≡ reduced A first goal → and_all t (all_agreements (term_at now) [] xs) ≡ flattened goal first
  is-flat xs t h e =
      ap (λ x. and_all x (all_agreements (term_at now) [] xs)) e ∙ ap (and_all (reduced A first goal)) (same-all [] A [] xs tt h)

  pub are-applied : (xs : List Application) → AreTaken now goal first xs → AreApplied now goal first (map (λ x. x.applied) xs)
  are-applied xs h = each-applied A xs h
    where
      each-applied : (ts : List Term) (xs : List Application) → AllZip Taken ts xs → AllZip (IsApplied now goal first) ts (map (λ x. x.applied) xs)
      each-applied [] [] h = tt
      each-applied [] (x ∷ xs) h = absurd h
      each-applied (t ∷ ts) [] h = absurd h
      each-applied (t ∷ ts) (x ∷ xs) h = (h.0.applied, each-applied ts xs h.1)
