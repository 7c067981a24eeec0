-- The loops over pairs of applications of one function.
use Rattle.std.proofs.Common.{◌≡◌, ℕ, ◌+◌, ◌<◌, ◌==◌, Bool, true, List, [], ◌∷◌, ◌++◌, fold, drop, length, map, take, Some, slice_get, slice_index, get_or, refl, ap, sym, ◌∙◌, subst, arith, inl, inr, zero, suc}
use Rattle.std.specs.Prelude.{filter}
use Rattle.std.specs.List.{All, AllByRecursion}
use Rattle.std.proofs.Math.Seq.{drop-cons, drop-length}
use Rattle.std.proofs.lemmas.List.{append-nil, map-append, map_more, take_more}
use Rattle.std.proofs.lemmas.List.Elements.{All-from_recursion, filter-append, recursion_from_All}
use Rattle.std.proofs.lemmas.Option.{slice_get-get_or}
use Rattle.std.proofs.lemmas.Bool.{cases_Bool, cond-true, cond-false}
use Rattle.bv_terms.specs.declared.node.Node.{Node}
use Rattle.bv_terms.specs.declared.node.TermOp.TheVariants.{And, Equal}
use Rattle.bv_terms.specs.TermTrees.{Term, Args, constant, binary, arg, no_args, width}
use Rattle.bv_terms.specs.Arenas.{args_of, term_at, width_at}
use Rattle.bv_terms.proofs.Members.{each}
use Rattle.bv_terms.specs.Chains.{chain}
use Rattle.bv_terms.specs.Growth.{IsMade, OnlyGrows}
use Rattle.bv_terms.proofs.Growing.{all-there, args-kept, grows-both, grows-none, still-there, widths-kept}
use Rattle.flat_laws.specs.Flat.{equal_args}
use Rattle.flat_goals.specs.Agreeing.{AreAlike, CanAgree, IsPair, IsThere, agreement_of, agreements_with, all_agreements, at_place, no_application, same_function}
use Rattle.flat_goals.specs.Groups.{IsAdded, places_of}
use Rattle.flat_goals.specs.declared.applied.Application.{Application}
use Rattle.flat_goals.specs.declared.groups.Groups.{Groups}

-- ---- widths

fold-width : (t : Term) (ts : List Term) → width (fold (binary And) t ts) ≡ width t
fold-width t [] = refl
fold-width t (u ∷ us) = fold-width (binary And t u) us

pub equal-width : (ts us : Args) → width (chain And (constant 1 1) (equal_args ts us)) ≡ 1
equal-width no_args us = refl
equal-width (arg t ts) no_args = refl
equal-width (arg t ts) (arg u us) = fold-width (binary Equal t u) (equal_args ts us)

pub agreement-width : (term : ℕ → Term) (a b : Application) → width (agreement_of term a b) ≡ 1
agreement-width term a b = equal-width (args_of term a.applied.args) (args_of term b.applied.args)

-- ---- in a larger arena

module _ (old now : List Node) (g : OnlyGrows old now) where
  inside : (a : Application) → IsThere old a → AllByRecursion (λ k. k < length old) a.applied.args
  inside a h = recursion_from_All (λ k. k < length old) a.applied.args h.args

  there-now : (a : Application) → IsThere old a → IsThere now a
  there-now a h = record {
    args = All-from_recursion (λ k. k < length now) a.applied.args (all-there old now a.applied.args g (inside a h));
    term = still-there old now a.term g h.term;
  }

  alike-now : (a b : Application) → IsThere old a → IsThere old b → AreAlike (width_at old) a b → AreAlike (width_at now) a b
  alike-now a b h k e = record {
    args = widths-kept old now a.applied.args g (inside a h) ∙ e.args ∙ sym (widths-kept old now b.applied.args g (inside b k));
    results = ap width (g.kept.terms a.term h.term) ∙ e.results ∙ sym (ap width (g.kept.terms b.term k.term));
  }

  agreement-now : (a b : Application) → IsThere old a → IsThere old b → agreement_of (term_at now) a b ≡ agreement_of (term_at old) a b
  agreement-now a b h k =
      let xs = args-kept old now a.applied.args g (inside a h) in
      let ys = args-kept old now b.applied.args g (inside b k) in
      let x = g.kept.terms a.term h.term in
      let y = g.kept.terms b.term k.term in
      cc

all-at : {A : Type 0} (P : A → Type 0) (xs : List A) (i : ℕ) (x : A) → AllByRecursion P xs → slice_get xs i ≡ Some x → P x
all-at P [] i x h e = absurd cc
all-at P (y ∷ ys) zero x h e = let s : y ≡ x = cc in subst P s h.0
all-at P (y ∷ ys) (suc i) x h e = all-at P ys i x h.1 e

-- ---- the applications at places

module _ (old : List Node) (taken : List Application) (can : CanAgree old taken) where
  pub there-at : (i : ℕ) (a : Application) → slice_get taken i ≡ Some a → IsThere old a
  there-at i a e = all-at (IsThere old) taken i a (recursion_from_All (IsThere old) taken can.there) e

  pub can-now : (now : List Node) → OnlyGrows old now → CanAgree now taken
  can-now now g = record {
    there = All-from_recursion (IsThere now) taken (each-now taken (recursion_from_All (IsThere old) taken can.there));
    alike = λ i j a b e d s. alike-now old now g a b (there-at i a e) (there-at j b d) (can.alike i j a b e d s);
  }
    where
      each-now : (xs : List Application) → AllByRecursion (IsThere old) xs → AllByRecursion (IsThere now) xs
      each-now [] h = tt
      each-now (x ∷ xs) h = (there-now old now g x h.0, each-now xs h.1)

-- what is read at a place
read-at : (taken : List Application) (p : ℕ) (a : Application) → p < length taken → a ≡ get_or taken p a → slice_get taken p ≡ Some a
read-at taken p a l e = slice_get-get_or taken p a l ∙ ap Some (sym e)

is-at : (taken : List Application) (p : ℕ) (a : Application) → p < length taken → slice_get taken p ≡ Some a → at_place taken p ≡ a
is-at taken p a l e =
    let q : Some (at_place taken p) ≡ Some a
    = sym (slice_get-get_or taken p no_application l) ∙ e in
    cc

read-is : (taken : List Application) (p : ℕ) (a : Application) → p < length taken → a ≡ get_or taken p a → at_place taken p ≡ a
read-is taken p a l e = is-at taken p a l (read-at taken p a l e)

-- ---- one application and earlier ones

abbrev pub and_all : Term → List Term → Term
and_all = fold (binary And)

and-both : (t : Term) (xs ys : List Term) → and_all t (xs ++ ys) ≡ and_all (and_all t xs) ys
and-both t [] ys = refl
and-both t (x ∷ xs) ys = and-both (binary And t x) xs ys

pub record Joining (old now : List Node) (goal : ℕ) (taken : List Application) (earlier : List ℕ) (later at all : ℕ) : Type 0 where
  pub grown : OnlyGrows old now
  pub there : all < length now
  pub narrow : width_at now all ≡ 1
  pub is : term_at now all ≡ and_all (term_at old goal) (agreements_with (term_at old) (map (at_place taken) (take at earlier)) (at_place taken later))

pub join-first : (old : List Node) (goal : ℕ) (taken : List Application) (earlier : List ℕ) (later at : ℕ) → goal < length old → width_at old goal ≡ 1 → at ≡ 0
    → Joining old old goal taken earlier later at goal
join-first old goal taken earlier later at l w z = record {
  grown = grows-none old;
  there = l;
  narrow = w;
  is = ap (λ n. and_all (term_at old goal) (agreements_with (term_at old) (map (at_place taken) (take n earlier)) (at_place taken later))) (sym z);
}

module _ (old : List Node) (taken : List Application) (can : CanAgree old taken) (later : ℕ) (l : later < length taken) (earlier : List ℕ) (pairs : AllByRecursion (λ p. IsPair taken p later) earlier) where
  place-there : (p : ℕ) → p < length taken → IsThere old (at_place taken p)
  place-there p m = there-at old taken can p (at_place taken p) (slice_get-get_or taken p no_application m)

  module _ (now : List Node) (goal at all : ℕ) (h : Joining old now goal taken earlier later at all) (m : at < length earlier) where
    abbrev its : ℕ
    its = slice_index earlier at

    its-pair : IsPair taken its later
    its-pair = all-at (λ p. IsPair taken p later) earlier at its pairs (slice_get-get_or earlier at 0 m)

    its-alike : AreAlike (width_at now) (at_place taken its) (at_place taken later)
    its-alike =
        alike-now old now h.grown (at_place taken its) (at_place taken later) (place-there its its-pair.0) (place-there later l)
        (can.alike its later (at_place taken its) (at_place taken later) (slice_get-get_or taken its no_application its-pair.0) (slice_get-get_or taken later no_application l) its-pair.1)

    join-step : (mid new : List Node) (next both : ℕ) → OnlyGrows now mid → OnlyGrows mid new
        → IsMade mid (agreement_of (term_at now) (at_place taken its) (at_place taken later)) next → IsMade new (binary And (term_at mid all) (term_at mid next)) both
        → Joining old new goal taken earlier later (at + 1) both
    join-step mid new next both g k made joined =
        let b = at_place taken later in
        let one : Application → Term = λ a. agreement_of (term_at old) a b in
        let so_far = agreements_with (term_at old) (map (at_place taken) (take at earlier)) b in
        let list : agreements_with (term_at old) (map (at_place taken) (take (at + 1) earlier)) b ≡ so_far ++ agreement_of (term_at old) (at_place taken its) b ∷ []
        = ap (map one) (map_more (at_place taken) earlier at 0 m) ∙ map-append one (map (at_place taken) (take at earlier)) (at_place taken its ∷ []) in
        let term : term_at new both ≡ binary And (term_at now all) (agreement_of (term_at old) (at_place taken its) b)
        = joined.term ∙ ap (λ t. binary And t (term_at mid next)) (g.kept.terms all h.there)
        ∙ ap (binary And (term_at now all)) (made.term ∙ agreement-now old now h.grown (at_place taken its) b (place-there its its-pair.0) (place-there later l)) in
        record {
          grown = grows-both old now new h.grown (grows-both now mid new g k);
          there = joined.there;
          narrow = ap width term ∙ h.narrow;
          is =
              term ∙ ap (λ t. binary And t (agreement_of (term_at old) (at_place taken its) b)) h.is
              ∙ sym (and-both (term_at old goal) so_far (agreement_of (term_at old) (at_place taken its) b ∷ []))
              ∙ ap (and_all (term_at old goal)) (sym list);
        }

    -- the same of what is read there
    pub read-alike : (a b : Application) → a ≡ get_or taken its a → b ≡ get_or taken later b → AreAlike (width_at now) a b
    read-alike a b e d =
        subst (λ x. AreAlike (width_at now) x b) (read-is taken its a its-pair.0 e) (subst (AreAlike (width_at now) (at_place taken its)) (read-is taken later b l d) its-alike)

    pub read-step : (mid new : List Node) (next both : ℕ) (a b : Application) → a ≡ get_or taken its a → b ≡ get_or taken later b → OnlyGrows now mid → OnlyGrows mid new
        → IsMade mid (agreement_of (term_at now) a b) next → IsMade new (binary And (term_at mid all) (term_at mid next)) both
        → Joining old new goal taken earlier later (at + 1) both
    read-step mid new next both a b e d g k made =
        join-step mid new next both g k
        (subst (λ x. IsMade mid (agreement_of (term_at now) x (at_place taken later)) next) (sym (read-is taken its a its-pair.0 e))
        (subst (λ x. IsMade mid (agreement_of (term_at now) a x) next) (sym (read-is taken later b l d)) made))

-- ---- each application and the earlier ones of its function

abbrev pub is_of_function : ℕ → Application → Bool
is_of_function f a = a.applied.function == f

all-filter : {A : Type 0} (q : A → Bool) (xs : List A) → AllByRecursion (λ a. q a ≡ true) (filter q xs)
all-filter q [] = tt
all-filter q (x ∷ xs) = elim (cases_Bool (q x)) [
  | inl e ↦ subst (AllByRecursion (λ a. q a ≡ true)) (sym (cond-true (q x) (x ∷ filter q xs) (filter q xs) e)) (e, all-filter q xs)
  | inr e ↦ subst (AllByRecursion (λ a. q a ≡ true)) (sym (cond-false (q x) (x ∷ filter q xs) (filter q xs) e)) (all-filter q xs)
]

unmapped : {A : Type 0} (P : A → Type 0) (g : ℕ → A) (ps : List ℕ) → AllByRecursion P (map g ps) → AllByRecursion (λ p. P (g p)) ps
unmapped P g [] h = tt
unmapped P g (p ∷ ps) h = (h.0, unmapped P g ps h.1)

with-both : (P Q : ℕ → Type 0) (ps : List ℕ) → AllByRecursion P ps → AllByRecursion Q ps → AllByRecursion (λ p. P p × Q p) ps
with-both P Q [] h k = tt
with-both P Q (p ∷ ps) h k = ((h.0, k.0), with-both P Q ps h.1 k.1)

below-more : (n : ℕ) (ps : List ℕ) → AllByRecursion (λ p. p < n) ps → AllByRecursion (λ p. p < n + 1) ps
below-more n ps h = each (λ p (l : p < n). let e : p < n + 1 = omega arith in e) ps h

below-push : (n : ℕ) (ps : List ℕ) → AllByRecursion (λ p. p < n) ps → AllByRecursion (λ p. p < n + 1) (ps ++ n ∷ [])
below-push n [] h = (omega arith, tt)
below-push n (p ∷ ps) h = ((let l = h.0 in omega arith), below-push n ps h.1)

pub record JoiningAll (old now : List Node) (goal : ℕ) (taken : List Application) (groups : Groups) (at all : ℕ) : Type 0 where
  pub grown : OnlyGrows old now
  pub there : all < length now
  pub narrow : width_at now all ≡ 1
  pub below : (f : ℕ) → AllByRecursion (λ p. p < at) (places_of groups f)
  pub grouped : (f : ℕ) → map (at_place taken) (places_of groups f) ≡ filter (is_of_function f) (take at taken)
  pub rest : and_all (term_at now all) (all_agreements (term_at old) (take at taken) (drop at taken)) ≡ and_all (term_at old goal) (all_agreements (term_at old) [] taken)

pub all-first : (old : List Node) (goal : ℕ) (taken : List Application) (groups : Groups) → goal < length old → width_at old goal ≡ 1 → ((f : ℕ) → places_of groups f ≡ [])
    → JoiningAll old old goal taken groups 0 goal
all-first old goal taken groups l w none = record {
  grown = grows-none old;
  there = l;
  narrow = w;
  below = λ f. subst (AllByRecursion (λ p. p < 0)) (sym (none f)) tt;
  grouped = λ f. ap (map (at_place taken)) (none f);
  rest = refl;
}

module _ (old : List Node) (taken : List Application) (can : CanAgree old taken) (now : List Node) (goal : ℕ) (groups : Groups) (at all : ℕ) (h : JoiningAll old now goal taken groups at all) (l : at < length taken) where
  abbrev b : Application
  b = at_place taken at

  abbrev f : ℕ
  f = b.applied.function

  abbrev places : List ℕ
  places = places_of groups f

  inside-all : AllByRecursion (λ p. p < length taken) places
  inside-all = each (λ p (m : p < at). let e : p < length taken = omega arith in e) places (h.below f)

  pub pairs-at : AllByRecursion (λ p. IsPair taken p at) places
  pairs-at =
      with-both (λ p. p < length taken) (λ p. same_function (at_place taken p) b ≡ true) places inside-all
      (unmapped (λ a. is_of_function f a ≡ true) (at_place taken) places
      (subst (AllByRecursion (λ a. is_of_function f a ≡ true)) (sym (h.grouped f)) (all-filter (is_of_function f) (take at taken))))

  place-in : (p : ℕ) → p < length taken → IsThere old (at_place taken p)
  place-in p m = there-at old taken can p (at_place taken p) (slice_get-get_or taken p no_application m)

  agreements-now : (ps : List ℕ) → AllByRecursion (λ p. p < length taken) ps
      → agreements_with (term_at now) (map (at_place taken) ps) b ≡ agreements_with (term_at old) (map (at_place taken) ps) b
  agreements-now [] k = refl
  agreements-now (p ∷ ps) k =
      let x = agreement-now old now h.grown (at_place taken p) b (place-in p k.0) (place-in at l) in
      let xs = agreements-now ps k.1 in
      cc

  next-taken : take (at + 1) taken ≡ take at taken ++ b ∷ []
  next-taken = take_more taken at no_application l

  next-rest : drop at taken ≡ b ∷ drop (at + 1) taken
  next-rest =
      let more : suc at ≡ at + 1 = omega arith in
      drop-cons taken at no_application l ∙ ap (λ n. b ∷ drop n taken) more

  next-below : (new : Groups) → IsAdded groups new f at → (g : ℕ) → AllByRecursion (λ p. p < at + 1) (places_of new g)
  next-below new added g = elim (cases_Bool (f == g)) [
    | inl e ↦
        subst (AllByRecursion (λ p. p < at + 1)) (sym (added g ∙ cond-true (f == g) (places_of groups g ++ at ∷ []) (places_of groups g) e))
        (below-push at (places_of groups g) (h.below g))
    | inr e ↦
        subst (AllByRecursion (λ p. p < at + 1)) (sym (added g ∙ cond-false (f == g) (places_of groups g ++ at ∷ []) (places_of groups g) e))
        (below-more at (places_of groups g) (h.below g))
  ]

  next-grouped : (new : Groups) → IsAdded groups new f at → (g : ℕ) → map (at_place taken) (places_of new g) ≡ filter (is_of_function g) (take (at + 1) taken)
  next-grouped new added g =
      let whole : filter (is_of_function g) (take (at + 1) taken) ≡ filter (is_of_function g) (take at taken) ++ filter (is_of_function g) (b ∷ [])
      = ap (filter (is_of_function g)) next-taken ∙ filter-append (is_of_function g) (take at taken) (b ∷ []) in
      elim (cases_Bool (f == g)) [
        | inl e ↦
            ap (map (at_place taken)) (added g ∙ cond-true (f == g) (places_of groups g ++ at ∷ []) (places_of groups g) e)
            ∙ map-append (at_place taken) (places_of groups g) (at ∷ []) ∙ ap (λ xs. xs ++ b ∷ []) (h.grouped g)
            ∙ ap (λ xs. filter (is_of_function g) (take at taken) ++ xs) (sym (cond-true (f == g) (b ∷ []) [] e)) ∙ sym whole
        | inr e ↦
            ap (map (at_place taken)) (added g ∙ cond-false (f == g) (places_of groups g ++ at ∷ []) (places_of groups g) e)
            ∙ h.grouped g ∙ sym (append-nil (filter (is_of_function g) (take at taken)))
            ∙ ap (λ xs. filter (is_of_function g) (take at taken) ++ xs) (sym (cond-false (f == g) (b ∷ []) [] e)) ∙ sym whole
      ]

  pub all-step : (new : List Node) (more : Groups) (next : ℕ) → OnlyGrows now new
      → IsMade new (and_all (term_at now all) (agreements_with (term_at now) (map (at_place taken) places) b)) next → IsAdded groups more f at
      → JoiningAll old new goal taken more (at + 1) next
  all-step new more next g made added =
      let own = agreements_with (term_at old) (filter (is_of_function f) (take at taken)) b in
      let term : term_at new next ≡ and_all (term_at now all) own
      = made.term ∙ ap (and_all (term_at now all)) (agreements-now places inside-all ∙ ap (λ xs. agreements_with (term_at old) xs b) (h.grouped f)) in
      let others = all_agreements (term_at old) (take at taken ++ b ∷ []) (drop (at + 1) taken) in
      record {
        grown = grows-both old now new h.grown g;
        there = made.there;
        narrow = ap width term ∙ fold-width (term_at now all) own ∙ h.narrow;
        below = next-below more added;
        grouped = next-grouped more added;
        rest =
            ap (λ t. and_all t (all_agreements (term_at old) (take (at + 1) taken) (drop (at + 1) taken))) term
            ∙ ap (λ xs. and_all (and_all (term_at now all) own) (all_agreements (term_at old) xs (drop (at + 1) taken))) next-taken
            ∙ sym (and-both (term_at now all) own others)
            ∙ ap (λ xs. and_all (term_at now all) (all_agreements (term_at old) (take at taken) xs)) (sym next-rest)
            ∙ h.rest;
      }

  -- the same of what is read there
  module _ (a : Application) (e : a ≡ get_or taken at a) (ps : List ℕ) (d : ps ≡ places_of groups (get_or taken at a).applied.function) where
    is-read : at_place taken at ≡ get_or taken at a
    is-read = read-is taken at a l e ∙ e

    are-read : ps ≡ places
    are-read = d ∙ ap (λ x. places_of groups x.applied.function) (sym is-read)

    pub read-pairs : All (λ p. IsPair taken p at) ps
    read-pairs = subst (All (λ p. IsPair taken p at)) (sym are-read) (All-from_recursion (λ p. IsPair taken p at) places pairs-at)

    pub read-all-step : (new : List Node) (more : Groups) (next : ℕ) → OnlyGrows now new
        → IsMade new (and_all (term_at now all) (agreements_with (term_at now) (map (at_place taken) ps) (at_place taken at))) next
        → IsAdded groups more (get_or taken at a).applied.function at → JoiningAll old new goal taken more (at + 1) next
    read-all-step new more next g made added =
        all-step new more next g
        (subst (λ xs. IsMade new (and_all (term_at now all) (agreements_with (term_at now) (map (at_place taken) xs) (at_place taken at))) next) are-read made)
        (subst (λ x. IsAdded groups more x.applied.function at) (sym is-read) added)

pub all-last : (old now : List Node) (goal : ℕ) (taken : List Application) (groups : Groups) (at all : ℕ) → JoiningAll old now goal taken groups at all → at ≡ length taken
    → IsMade now (and_all (term_at old goal) (all_agreements (term_at old) [] taken)) all
all-last old now goal taken groups at all h e =
    let nothing : drop at taken ≡ [] = ap (λ n. drop n taken) e ∙ drop-length taken in
    record {
      there = h.there;
      term = ap (λ xs. and_all (term_at now all) (all_agreements (term_at old) (take at taken) xs)) (sym nothing) ∙ h.rest;
    }
