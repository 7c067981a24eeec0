-- Instances, one after the other.
use Rattle.std.proofs.Common.{◌≡◌, ℕ, zero, suc, ◌+◌, ◌<◌, ◌≤◌, List, [], ◌∷◌, ◌++◌, Vec, drop, flat_map, get_or, length, map, take, Some, refl, ap, sym, ◌∙◌, subst, arith}
use Rattle.std.specs.Prelude.{slice_get}
use Rattle.std.specs.List.{AllByRecursion, AllZip}
use Rattle.std.specs.declared.alloc.Global.{Global}
use Rattle.std.proofs.lemmas.Grind.{flat_map-append}
use Rattle.std.proofs.lemmas.List.{append-nil, append_assoc, length-map, map-append, take-append-drop}
use Rattle.cocoon_num.specs.Tree.{AssumeDecl, Param, Design}
use Rattle.cocoon_resolve.specs.Readers.{assumptions_to}
use Rattle.cocoon_types.specs.Design.{widths_of}
use Rattle.bv_terms.specs.Arenas.{term_at}
use Rattle.bv_terms.specs.TermTrees.{Term}
use Rattle.bv_terms.specs.Walks.{applications}
use Rattle.bv_terms.specs.declared.node.Node.{Node}
use Rattle.obligation_laws.specs.Shown.{HasWidth}
use Rattle.expr_terms.specs.Scopes.{Takes}
use Rattle.expr_terms.specs.Variables.{AreThere, Keeps, MakesAll, terms_at}
use Rattle.expr_terms.proofs.Making.{longer, there_on, terms_on, there_more}
use Rattle.fun_instances.specs.AssumptionTerms.{assumption_term}
use Rattle.fun_instances.specs.Taking.{OfAssumption}
use Rattle.query_laws.specs.Over.{IsOver}
use Rattle.query_laws.specs.Tuples.{instance_term, most_instances, pattern_terms, taken_of, tuples_of}
use Rattle.pattern_instances.specs.Found.{tuple_ids}
use Rattle.pattern_instances.specs.Goals.{IsGoal}
use Rattle.pattern_instances.specs.declared.instances.Goal.{Goal}
use Rattle.pattern_instances.proofs.Firsts.{first-of-both, full, next, room, short, taken-map}

-- what an assumption says at these tuples, behind some terms
abbrev pub said_after : Design → AssumeDecl → List Node → List Term → List (List ℕ) → List Term
said_after d a nodes before tuples = take most_instances (before ++ map (assumption_term d a) (map (terms_at nodes) tuples))

-- what some assumptions say for a goal
abbrev pub said : Design → Term → List AssumeDecl → List Term
said d goal assumptions = flat_map (λ (a : AssumeDecl). map (assumption_term d a) (tuples_of d a goal)) assumptions

-- the terms so far
pub record IsMade (old new : List Node) (ids : List ℕ) (ts : List Term) : Type 0 where
  pub made : MakesAll new ids ts
  pub kept : Keeps old new

-- those of one assumption
pub record Adds (d : Design) (assumption : ℕ) (old new : List Node) (ids : List ℕ) (ts : AssumeDecl → List Term) : Type 0 where
  pub made : OfAssumption d assumption (λ a. MakesAll new ids (ts a))
  pub kept : Keeps old new

-- ---- of one assumption

no-more : (n : ℕ) (ts : List Term) → length ts ≤ n → ts ≡ take n (ts ++ [])
no-more n ts l = sym (ap (take n) (append-nil ts) ∙ short n ts l)

pub first-made : (old : List Node) (ids : List ℕ) → AreThere old ids → length ids ≤ most_instances → MakesAll old ids (take most_instances (terms_at old ids ++ []))
first-made old ids there l = record {
  there = there;
  terms = no-more most_instances (terms_at old ids) (let e = length-map ids (term_at old) in omega (arith, e, l));
}

pub takes-at : (P : List ℕ → Type 0) (vs : List (Vec ℕ Global)) → AllByRecursion P (tuple_ids vs) → (i : ℕ) (v : Vec ℕ Global) → i < length vs → v ≡ get_or vs i v → P v.items
takes-at P [] h i v l e = absurd (omega (arith, l))
takes-at P (w ∷ vs) h zero v l e = subst (λ (x : Vec ℕ Global). P x.items) (sym e) h.0
takes-at P (w ∷ vs) h (suc i) v l e = takes-at P vs h.1 i v (omega (arith, l)) e

pub takes-on : (old new : List Node) (ps : List Param) (ids : List ℕ) → Keeps old new → Takes old ps ids → Takes new ps ids
takes-on old new ps ids k h = record {
  there = there_on old new ids k h.there;
  widths = subst (AllZip HasWidth (widths_of ps)) (sym (terms_on old new ids k h.there)) h.widths;
}

module _ (d : Design) (a : AssumeDecl) (old : List Node) (before : List Term) where
  abbrev says : List (List ℕ) → List Term
  says tuples = map (assumption_term d a) (map (terms_at old) tuples)

  next-said : (vs : List (Vec ℕ Global)) (i : ℕ) (v : Vec ℕ Global) → i < length vs → v ≡ get_or vs i v
      → (before ++ says (take i (tuple_ids vs))) ++ assumption_term d a (terms_at old v.items) ∷ [] ≡ before ++ says (take (i + 1) (tuple_ids vs))
  next-said vs i v l is =
      let items = λ (x : Vec ℕ Global). x.items in
      let more : take (i + 1) (tuple_ids vs) ≡ take i (tuple_ids vs) ++ v.items ∷ [] = next (tuple_ids vs) i v.items (at vs i v l is) in
      append_assoc before (says (take i (tuple_ids vs))) (assumption_term d a (terms_at old v.items) ∷ [])
      ∙ ap (λ ts. before ++ ts)
      (sym (map-append (assumption_term d a) (map (terms_at old) (take i (tuple_ids vs))) (terms_at old v.items ∷ []))
      ∙ ap (map (assumption_term d a)) (sym (map-append (terms_at old) (take i (tuple_ids vs)) (v.items ∷ [])) ∙ ap (map (terms_at old)) (sym more)))
    where
      at : (vs : List (Vec ℕ Global)) (i : ℕ) (v : Vec ℕ Global) → i < length vs → v ≡ get_or vs i v → slice_get (tuple_ids vs) i ≡ Some v.items
      at [] i v l e = absurd (omega (arith, l))
      at (w ∷ vs) zero v l e = ap (λ (x : Vec ℕ Global). Some x.items) (sym e)
      at (w ∷ vs) (suc i) v l e = at vs i v (omega (arith, l)) e

  -- one instance more
  pub more-made : (mid new : List Node) (ids : List ℕ) (id : ℕ) (vs : List (Vec ℕ Global)) (i : ℕ) (v : Vec ℕ Global) → i < length vs → v ≡ get_or vs i v
      → Keeps mid new → MakesAll mid ids (said_after d a old before (take i (tuple_ids vs))) → length ids < most_instances
      → id < length new → term_at new id ≡ assumption_term d a (terms_at old v.items)
      → MakesAll new (ids ++ id ∷ []) (said_after d a old before (take (i + 1) (tuple_ids vs)))
  more-made mid new ids id vs i v l is k so_far small there term =
      let so = before ++ says (take i (tuple_ids vs)) in
      let count : length (take most_instances so) ≡ length ids = ap length (sym so_far.terms) ∙ length-map ids (term_at mid) in
      record {
        there = there_more new ids id (there_on mid new ids k so_far.there) there;
        terms = map-append (term_at new) ids (id ∷ [])
            ∙ (λ j. (terms_on mid new ids k so_far.there ∙ so_far.terms) j ++ term j ∷ [])
            ∙ room most_instances so (assumption_term d a (terms_at old v.items)) (omega (arith, count, small))
            ∙ ap (take most_instances) (next-said vs i v l is);
      }

  -- all, or as many as are allowed
  pub all-made : (new : List Node) (ids : List ℕ) (vs : List (Vec ℕ Global)) (i : ℕ) → length vs ≤ i → MakesAll new ids (said_after d a old before (take i (tuple_ids vs)))
      → MakesAll new ids (said_after d a old before (tuple_ids vs))
  all-made new ids vs i l h =
      subst (λ ts. MakesAll new ids (said_after d a old before ts)) (short i (tuple_ids vs) (let e = length-map vs (λ (x : Vec ℕ Global). x.items) in omega (arith, e, l))) h

  pub enough-made : (new : List Node) (ids : List ℕ) (vs : List (Vec ℕ Global)) (i : ℕ) → most_instances ≤ length ids → MakesAll new ids (said_after d a old before (take i (tuple_ids vs)))
      → MakesAll new ids (said_after d a old before (tuple_ids vs))
  enough-made new ids vs i l h =
      let first = take i (tuple_ids vs) in
      let rest = drop i (tuple_ids vs) in
      let so = before ++ says first in
      let count : length (take most_instances so) ≡ length ids = ap length (sym h.terms) ∙ length-map ids (term_at new) in
      let both : says (tuple_ids vs) ≡ says first ++ says rest =
      ap says (sym (take-append-drop i (tuple_ids vs))) ∙ ap (map (assumption_term d a)) (map-append (terms_at old) first rest)
      ∙ map-append (assumption_term d a) (map (terms_at old) first) (map (terms_at old) rest) in
      record {
        there = h.there;
        terms = h.terms ∙ full most_instances so (says rest) (omega (arith, count, l))
            ∙ ap (take most_instances) (append_assoc before (says first) (says rest) ∙ ap (λ ts. before ++ ts) (sym both));
      }

-- ---- of all

pub goal-kept : (d : Design) (old new : List Node) (g : Goal) → Keeps old new → IsGoal d old g → IsGoal d new g
goal-kept d old new g k h =
    let same : term_at new g.term ≡ term_at old g.term = k.kept.terms g.term h.there in
    record {
      there = longer old new k g.term h.there;
      inputs = h.inputs;
      over = subst (IsOver d h.inputs) (sym same) h.over;
      applications_ = record {
        there = there_on old new g.applications.items k h.applications_.there;
        terms = terms_on old new g.applications.items k h.applications_.there ∙ h.applications_.terms ∙ ap applications (sym same);
      };
    }

length-first : (n : ℕ) (ts : List Term) → length (take n ts) ≤ n
length-first zero ts = omega arith
length-first (suc n) [] = omega arith
length-first (suc n) (t ∷ ts) = let e = length-first n ts in omega (arith, e)

pub few-made : (nodes : List Node) (ids : List ℕ) (ts : List Term) → MakesAll nodes ids (take most_instances ts) → length ids ≤ most_instances
few-made nodes ids ts h = let e : length ids ≡ length (take most_instances ts) = sym (length-map ids (term_at nodes)) ∙ ap length h.terms in let l = length-first most_instances ts in omega (arith, e, l)

-- those of one assumption more
pub next-made : (d : Design) (goal : Term) (listed : List AssumeDecl) (i : ℕ) (a : AssumeDecl) → slice_get listed i ≡ Some a → (so_far : List Term) (tuples : List (List Term))
    → so_far ≡ take most_instances (said d goal (take i listed)) → tuples ≡ take most_instances (tuples_of d a goal)
    → take most_instances (so_far ++ map (assumption_term d a) tuples) ≡ take most_instances (said d goal (take (i + 1) listed))
next-made d goal listed i a is so_far tuples e h =
    let f = λ (x : AssumeDecl). map (assumption_term d x) (tuples_of d x goal) in
    let x = said d goal (take i listed) in
    (λ j. take most_instances (e j ++ map (assumption_term d a) (h j)))
    ∙ ap (λ ts. take most_instances (take most_instances x ++ ts)) (taken-map (assumption_term d a) most_instances (tuples_of d a goal))
    ∙ first-of-both most_instances x (f a)
    ∙ ap (take most_instances) (ap (λ ts. x ++ ts) (sym (append-nil (f a))) ∙ sym (flat_map-append f (take i listed) (a ∷ [])) ∙ ap (flat_map f) (sym (next listed i a is)))

one-taken : (d : Design) (a : AssumeDecl) (tuples : List (List Term)) → map (instance_term d) (map (λ ts. record { assumption = a; terms = ts }) tuples) ≡ map (assumption_term d a) tuples
one-taken d a [] = refl
one-taken d a (ts ∷ tuples) = ap (λ us. assumption_term d a ts ∷ us) (one-taken d a tuples)

all-taken : (d : Design) (goal : Term) (listed : List AssumeDecl) → map (instance_term d) (flat_map (taken_of d goal) listed) ≡ said d goal listed
all-taken d goal [] = refl
all-taken d goal (a ∷ listed) =
    map-append (instance_term d) (taken_of d goal a) (flat_map (taken_of d goal) listed) ∙ (λ j. one-taken d a (tuples_of d a goal) j ++ all-taken d goal listed j)

pub all-said : (d : Design) (level : ℕ) (goal : Term) → take most_instances (said d goal (assumptions_to level d)) ≡ pattern_terms d level goal
all-said d level goal =
    ap (take most_instances) (sym (all-taken d goal (assumptions_to level d))) ∙ sym (taken-map (instance_term d) most_instances (flat_map (taken_of d goal) (assumptions_to level d)))
