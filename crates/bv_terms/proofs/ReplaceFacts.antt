-- Terms that are rebuilt over others.
use Rattle.std.proofs.Common.{◌≡◌, ℕ, ◌-◌, ◌+◌, ◌<◌, ◌≤◌, List, [], ◌∷◌, ◌++◌, length, map, Option, Some, None, slice_get, slice_index, refl, ap, sym, ◌∙◌, subst, arith, zero, suc, length-append, append_assoc, ◌==◌, inl, inr, ◌≢◌, drop, if◌then◌else◌, cond}
use Rattle.std.specs.Ordering.{nat_cmp}
use Rattle.std.specs.Map.{lookup}
use Rattle.std.specs.BTreeMap.{get, is_at, UpdatesBy}
use Rattle.std.specs.List.{AllByRecursion, AllZip}
use Rattle.std.specs.Option.{option_map, unwrap_or}
use Rattle.std.proofs.lemmas.List.Elements.{recursion_from_All, All-from_recursion}
use Rattle.std.proofs.lemmas.List.{append-nil}
use Rattle.std.proofs.Math.Seq.{drop-cons, drop-length}
use Rattle.std.proofs.lemmas.Bool.{cases_eq, cases_Bool, cond-true, cond-false, eqb-true}
use Rattle.std.proofs.lemmas.Option.{slice_get_within}
use Rattle.bv_terms.specs.declared.node.Node.{Node}
use Rattle.bv_terms.specs.declared.node.Node.TheVariants.{Constant, Input, Apply, Not, Binary, Slice, Pick}
use Rattle.bv_terms.specs.TermTrees.{Term, input, apply, not_, slice, width, joined_width, OperandsFit, IsTerm}
use Rattle.bv_terms.specs.Arenas.{parts, args_of, made_of, term_at, width_at, node_width, WidthsFit, IsArena, IsPut, KeepsTerms, CanFollow, count_input, GrowsBy}
use Rattle.bv_terms.specs.Replacements.{Replacing, replaced, replaced_args, beside, HasWidthOf}
use Rattle.bv_terms.specs.TermMaps.{value_at, IsSet}
use Rattle.bv_terms.specs.Rebuilt.{InputTerms, Names, name_in, with_parts, in_place_of, IsRebuilt, CanRebuild, IsTable, IsReplaced}
use Rattle.bv_terms.proofs.EvalFacts.{fit-of}
use Rattle.bv_terms.proofs.Members.{at-number, each}
use Rattle.bv_terms.proofs.NodeFacts.{node-width}

-- ---- nodes with other parts

there-args : (n : ℕ) (name : ℕ → ℕ) (xs : List ℕ) → AllByRecursion (λ p. name p < n) xs → AllByRecursion (λ q. q < n) (map name xs)
there-args n name [] h = tt
there-args n name (a ∷ xs) h = (h.0, there-args n name xs h.1)

pub there-with : (n : ℕ) (name : ℕ → ℕ) (node : Node) → AllByRecursion (λ p. name p < n) (parts node) → AllByRecursion (λ q. q < n) (parts (with_parts name node))
there-with n name (Constant b) h = tt
there-with n name (Input i w) h = tt
there-with n name (Apply f args w) h = there-args n name args h
there-with n name (Not a) h = h
there-with n name (Binary op a b) h = h
there-with n name (Slice a high low) h = h
there-with n name (Pick c a b) h = h

narrow-args : (u w : ℕ → ℕ) (name : ℕ → ℕ) (xs : List ℕ) → AllByRecursion (λ p. u (name p) ≡ w p) xs → AllByRecursion (λ a. w a ≤ 64) xs → AllByRecursion (λ a. u a ≤ 64) (map name xs)
narrow-args u w name [] e h = tt
narrow-args u w name (a ∷ xs) e h = (subst (λ k. k ≤ 64) (sym e.0) h.0, narrow-args u w name xs e.1 h.1)

pub fit-with : (u w : ℕ → ℕ) (name : ℕ → ℕ) (node : Node) → AllByRecursion (λ p. u (name p) ≡ w p) (parts node) → WidthsFit w node → WidthsFit u (with_parts name node)
fit-with u w name (Constant b) e h = tt
fit-with u w name (Input i v) e h = h
fit-with u w name (Apply f args v) e h =
    (All-from_recursion (λ a. u a ≤ 64) (map name args) (narrow-args u w name args e (recursion_from_All (λ a. w a ≤ 64) args h.0)), h.1)
fit-with u w name (Not a) e h = tt
fit-with u w name (Binary op a b) e h = subst (λ k. OperandsFit op k (u (name b))) (sym e.0) (subst (OperandsFit op (w a)) (sym e.1.0) h)
fit-with u w name (Slice a high low) e h = (h.0, subst (λ k. high < k) (sym e.0) h.1)
fit-with u w name (Pick c a b) e h = (e.0 ∙ h.0, e.1.0 ∙ h.1 ∙ sym e.1.1.0)

pub width-with : (u w : ℕ → ℕ) (name : ℕ → ℕ) (node : Node) → AllByRecursion (λ p. u (name p) ≡ w p) (parts node) → node_width u (with_parts name node) ≡ node_width w node
width-with u w name (Constant b) e = refl
width-with u w name (Input i v) e = refl
width-with u w name (Apply f args v) e = refl
width-with u w name (Not a) e = e.0
width-with u w name (Binary op a b) e = ap (λ k. joined_width op k (u (name b))) e.0 ∙ ap (joined_width op (w a)) e.1.0
width-with u w name (Slice a high low) e = refl
width-with u w name (Pick c a b) e = e.1.0

width-same : (u w : ℕ → ℕ) (node : Node) → AllByRecursion (λ p. u p ≡ w p) (parts node) → node_width u node ≡ node_width w node
width-same u w (Constant b) e = refl
width-same u w (Input i v) e = refl
width-same u w (Apply f args v) e = refl
width-same u w (Not a) e = e.0
width-same u w (Binary op a b) e = ap (λ k. joined_width op k (u b)) e.0 ∙ ap (joined_width op (w a)) e.1.0
width-same u w (Slice a high low) e = refl
width-same u w (Pick c a b) e = e.1.0

made-args : (f g : ℕ → Term) (r : Replacing) (name : ℕ → ℕ) (xs : List ℕ) → AllByRecursion (λ p. g (name p) ≡ replaced r (f p)) xs
    → args_of g (map name xs) ≡ replaced_args r (args_of f xs)
made-args f g r name [] e = refl
made-args f g r name (a ∷ xs) e = let d = made-args f g r name xs e.1 in let d' = e.0 in cc

NoInput : Node → Type 0
NoInput node = count_input 0 node ≡ 0

made-with : (f g : ℕ → Term) (r : Replacing) (name : ℕ → ℕ) (node : Node) → count_input 0 node ≡ 0 → AllByRecursion (λ p. g (name p) ≡ replaced r (f p)) (parts node)
    → made_of g (with_parts name node) ≡ replaced r (made_of f node)
made-with f g r name (Constant b) z e = refl
made-with f g r name (Input i v) z e = absurd (omega arith)
made-with f g r name (Apply h args v) z e = ap (λ xs. apply h xs v) (made-args f g r name args e)
made-with f g r name (Not a) z e = ap not_ e.0
made-with f g r name (Binary op a b) z e = let d = e.0 in let d' = e.1.0 in cc
made-with f g r name (Slice a high low) z e = ap (λ t. slice t high low) e.0
made-with f g r name (Pick c a b) z e = let d = e.0 in let d' = e.1.0 in let d'' = e.1.1.0 in cc

-- ---- what stands beside an input

pub beside-map : {A B : Type 0} (f : A → B) (is : List ℕ) (xs : List A) (i : ℕ) → beside is (map f xs) i ≡ option_map f (beside is xs i)
beside-map f [] xs i = refl
beside-map f (j ∷ js) [] i = refl
beside-map f (j ∷ js) (x ∷ xs) i =
    elim (cases_Bool (j == i)) [
      | inl e ↦ rw e refl
      | inr e ↦ rw e (beside-map f js xs i)
    ]

pub beside-in : {A : Type 0} (P : A → Type 0) (is : List ℕ) (xs : List A) (i : ℕ) (x : A) → AllByRecursion P xs → beside is xs i ≡ Some x → P x
beside-in P [] xs i x a h = absurd cc
beside-in P (j ∷ js) [] i x a h = absurd cc
beside-in P (j ∷ js) (y ∷ ys) i x a h =
    elim (cases_Bool (j == i)) [
      | inl e ↦ subst P (let d : Some y ≡ Some x = (sym (cond-true (j == i) (Some y) (beside js ys i) e) ∙ h) in cc) a.0
      | inr e ↦ beside-in P js ys i x a.1 (sym (cond-false (j == i) (Some y) (beside js ys i) e) ∙ h)
    ]

pub beside-zip : {A : Type 0} (R : ℕ → A → Type 0) (is : List ℕ) (xs : List A) (i : ℕ) (x : A) → AllZip R is xs → beside is xs i ≡ Some x → R i x
beside-zip R [] xs i x a h = absurd cc
beside-zip R (j ∷ js) [] i x a h = absurd cc
beside-zip R (j ∷ js) (y ∷ ys) i x a h =
    elim (cases_Bool (j == i)) [
      | inl e ↦ subst (λ k. R k x) (eqb-true j i e) (subst (R j) (let d : Some y ≡ Some x = (sym (cond-true (j == i) (Some y) (beside js ys i) e) ∙ h) in cc) a.0)
      | inr e ↦ beside-zip R js ys i x a.1 (sym (cond-false (j == i) (Some y) (beside js ys i) e) ∙ h)
    ]

-- ---- arenas that grow

pub keeps-none : (ns : List Node) → KeepsTerms ns ns
keeps-none ns = record { grown = ([], sym (append-nil ns)); terms = λ k h. refl }

pub grown-length : (old new : List Node) → KeepsTerms old new → length old ≤ length new
grown-length old new k = omega (arith, ap length k.grown.1, length-append old k.grown.0)

pub keeps-both : (first second third : List Node) → KeepsTerms first second → KeepsTerms second third → KeepsTerms first third
keeps-both first second third k l = record {
  grown = (k.grown.0 ++ l.grown.0, l.grown.1 ∙ ap (λ ns. ns ++ l.grown.0) k.grown.1 ∙ append_assoc first k.grown.0 l.grown.0);
  terms = λ j h. l.terms j (let g = grown-length first second k in omega arith) ∙ k.terms j h;
}

pub grows-none : (ns : List Node) (most : ℕ) → GrowsBy most ns ns
grows-none ns most = record { inputs = refl; terms = omega arith }

pub grows-both : (first second third : List Node) (k l most : ℕ) → GrowsBy k first second → GrowsBy l second third → k + l ≤ most → GrowsBy most first third
grows-both first second third k l most g h few = record {
  inputs = h.inputs ∙ g.inputs;
  terms = (let a = g.terms in let b = h.terms in omega arith);
}

get-kept : {A : Type 0} (xs ys : List A) (k : ℕ) → k < length xs → slice_get (xs ++ ys) k ≡ slice_get xs k
get-kept [] ys k h = absurd (omega arith)
get-kept (x ∷ xs) ys zero h = refl
get-kept (x ∷ xs) ys (suc k) h = get-kept xs ys k (omega arith)

pub node-kept : (old new : List Node) (k : ℕ) → KeepsTerms old new → k < length old → slice_get new k ≡ slice_get old k
node-kept old new k h l = ap (λ ns. slice_get ns k) h.grown.1 ∙ get-kept old h.grown.0 k l

replaced-kept : (orig now new : List Node) (r : Replacing) (k id : ℕ) → IsReplaced orig now r k id → KeepsTerms now new → IsReplaced orig new r k id
replaced-kept orig now new r k id h kept = record {
  there = (let l = h.there in let g = grown-length now new kept in omega arith);
  width = ap width (kept.terms id h.there) ∙ h.width;
  term = kept.terms id h.there ∙ h.term;
}

-- ---- the next node

-- the arena has grown since, and each of these terms has become another one
pub record Rebuilding (orig now : List Node) (r : Replacing) (Done : ℕ → Type 0) (name : ℕ → ℕ) : Type 0 where
  pub arena : IsArena orig
  pub keeps : KeepsTerms orig now
  pub done : (k : ℕ) → Done k → IsReplaced orig now r k (name k)

-- a part that has become another one
abbrev Became : (orig now : List Node) → Replacing → (ℕ → ℕ) → ℕ → Type 0
Became orig now r name p = IsReplaced orig now r p (name p)

parts-below : (nodes : List Node) (k : ℕ) (node : Node) → IsArena nodes → slice_get nodes k ≡ Some node → AllByRecursion (λ p. p < k) (parts node)
parts-below nodes k node a e = recursion_from_All (λ p. p < k) (parts node) (a.below k node e)

same-widths : (orig now : List Node) (k : ℕ) (node : Node) → IsArena orig → KeepsTerms orig now → slice_get orig k ≡ Some node
    → AllByRecursion (λ p. width_at now p ≡ width_at orig p) (parts node)
same-widths orig now k node a keeps e =
    let here : k < length orig = slice_get_within orig k node e in
    each (λ p l. ap width (keeps.terms p (omega arith))) (parts node) (parts-below orig k node a e)

others : (orig now : List Node) (r : Replacing) (name : ℕ → ℕ) (k : ℕ) (node : Node) → IsArena orig → KeepsTerms orig now → slice_get orig k ≡ Some node
    → AllByRecursion (Became orig now r name) (parts node)
    → CanFollow now (with_parts name node) × (node_width (width_at now) node ≡ node_width (width_at now) (with_parts name node))
others orig now r name k node a keeps e done =
    let here : k < length orig = slice_get_within orig k node e in
    let there : AllByRecursion (λ p. name p < length now) (parts node) = each (λ p (q : IsReplaced orig now r p (name p)). q.there) (parts node) done in
    let widths : AllByRecursion (λ p. width_at now (name p) ≡ width_at orig p) (parts node)
    = each (λ p (q : IsReplaced orig now r p (name p)). q.width) (parts node) done in
    let same = same-widths orig now k node a keeps e in
    let fits = fit-of (term_at orig) node (subst IsTerm (a.made k node e) (a.terms k here)) in (
      record {
        there = All-from_recursion (λ q. q < length now) (parts (with_parts name node)) (there-with (length now) name node there);
        fit = fit-with (width_at now) (width_at orig) name node widths fits;
      },
      width-same (width_at now) (width_at orig) node same ∙ sym (width-with (width_at now) (width_at orig) name node widths),
    )

pub can-rebuild : (orig now : List Node) (r : Replacing) (name : ℕ → ℕ) (k : ℕ) (node : Node) → IsArena orig → KeepsTerms orig now → slice_get orig k ≡ Some node
    → AllByRecursion (Became orig now r name) (parts node) → CanRebuild now name node
can-rebuild orig now r name k (Input i w) a keeps e done = tt
can-rebuild orig now r name k (Constant b) a keeps e done = others orig now r name k (Constant b) a keeps e done
can-rebuild orig now r name k (Apply f args w) a keeps e done = others orig now r name k (Apply f args w) a keeps e done
can-rebuild orig now r name k (Not x) a keeps e done = others orig now r name k (Not x) a keeps e done
can-rebuild orig now r name k (Binary op x y) a keeps e done = others orig now r name k (Binary op x y) a keeps e done
can-rebuild orig now r name k (Slice x high low) a keeps e done = others orig now r name k (Slice x high low) a keeps e done
can-rebuild orig now r name k (Pick c x y) a keeps e done = others orig now r name k (Pick c x y) a keeps e done

other-replaced : (orig now new : List Node) (r : Replacing) (name : ℕ → ℕ) (k : ℕ) (node : Node) (next : ℕ) → IsArena orig → slice_get orig k ≡ Some node → count_input 0 node ≡ 0
    → AllByRecursion (Became orig now r name) (parts node) → IsPut now new (with_parts name node) next → IsReplaced orig new r k next
other-replaced orig now new r name k node next a e z done put =
    let widths : AllByRecursion (λ p. width_at now (name p) ≡ width_at orig p) (parts node)
    = each (λ p (q : IsReplaced orig now r p (name p)). q.width) (parts node) done in
    let terms : AllByRecursion (λ p. term_at now (name p) ≡ replaced r (term_at orig p)) (parts node)
    = each (λ p (q : IsReplaced orig now r p (name p)). q.term) (parts node) done in
    let made : term_at orig k ≡ made_of (term_at orig) node = a.made k node e in
    record {
      there = put.there;
      width = ap width put.term ∙ node-width (term_at now) (with_parts name node) ∙ width-with (width_at now) (width_at orig) name node widths
          ∙ sym (node-width (term_at orig) node) ∙ ap width (sym made);
      term = put.term ∙ made-with (term_at orig) (term_at now) r name node z terms ∙ ap (replaced r) (sym made);
    }

input-replaced : (orig now new : List Node) (table : InputTerms) (from to : List ℕ) (k i w next : ℕ) → IsArena orig → KeepsTerms orig now → IsTable from to table
    → AllByRecursion (λ t. t < length orig) to → AllZip (HasWidthOf orig) from to
    → slice_get orig k ≡ Some (Input i w) → new ≡ now → next ≡ in_place_of table i k → (o : Option ℕ) → beside from to i ≡ o
    → IsReplaced orig new (beside from (map (term_at orig) to)) k next
input-replaced orig now new table from to k i w next a keeps t inside widths e same n None o-is =
    let r = beside from (map (term_at orig) to) in
    let here : k < length orig = slice_get_within orig k (Input i w) e in
    let own : next ≡ k = n ∙ ap (λ x. unwrap_or x k) (t i ∙ o-is) in
    let kept : term_at new next ≡ term_at orig k = ap (λ ns. term_at ns next) same ∙ ap (term_at now) own ∙ keeps.terms k here in
    let none : r i ≡ None = beside-map (term_at orig) from to i ∙ ap (option_map (term_at orig)) o-is in
    let made : term_at orig k ≡ input i w = a.made k (Input i w) e in
    record {
      there = (let g = grown-length orig now keeps in omega (arith, ap length same));
      width = ap width kept;
      term = kept ∙ made ∙ ap (λ o. unwrap_or o (input i w)) (sym none) ∙ ap (replaced r) (sym made);
    }
input-replaced orig now new table from to k i w next a keeps t inside widths e same n (Some x) o-is =
    let r = beside from (map (term_at orig) to) in
    let next-is : next ≡ x = n ∙ ap (λ y. unwrap_or y k) (t i ∙ o-is) in
    let there : x < length orig = beside-in (λ t. t < length orig) from to i x inside o-is in
    let kept : term_at new next ≡ term_at orig x = ap (λ ns. term_at ns next) same ∙ ap (term_at now) next-is ∙ keeps.terms x there in
    let some : r i ≡ Some (term_at orig x) = beside-map (term_at orig) from to i ∙ ap (option_map (term_at orig)) o-is in
    let made : term_at orig k ≡ input i w = a.made k (Input i w) e in
    let same-width : w ≡ width_at orig x = beside-zip (HasWidthOf orig) from to i x widths o-is k w e in
    record {
      there = (let g = grown-length orig now keeps in omega (arith, ap length same));
      width = ap width kept ∙ sym same-width ∙ ap width (sym made);
      term = kept ∙ ap (λ o. unwrap_or o (input i w)) (sym some) ∙ ap (replaced r) (sym made);
    }

-- what is the same in every step
pub record Given (orig : List Node) (table : InputTerms) (from to : List ℕ) : Type 0 where
  pub table_ : IsTable from to table
  pub inside : AllByRecursion (λ t. t < length orig) to
  pub widths : AllZip (HasWidthOf orig) from to

pub next-replaced : (orig now new : List Node) (table : InputTerms) (from to : List ℕ) (name : ℕ → ℕ) (k : ℕ) (node : Node) (next : ℕ) → IsArena orig → KeepsTerms orig now → Given orig table from to
    → slice_get orig k ≡ Some node → AllByRecursion (Became orig now (beside from (map (term_at orig) to)) name) (parts node) → IsRebuilt now new table name k node next
    → IsReplaced orig new (beside from (map (term_at orig) to)) k next
next-replaced orig now new table from to name k (Input i w) next a keeps g e done b = input-replaced orig now new table from to k i w next a keeps g.table_ g.inside g.widths e b.0 b.1 (beside from to i) refl
next-replaced orig now new table from to name k (Constant v) next a keeps g e done b = other-replaced orig now new (beside from (map (term_at orig) to)) name k (Constant v) next a e refl done b
next-replaced orig now new table from to name k (Apply f args w) next a keeps g e done b = other-replaced orig now new (beside from (map (term_at orig) to)) name k (Apply f args w) next a e refl done b
next-replaced orig now new table from to name k (Not x) next a keeps g e done b = other-replaced orig now new (beside from (map (term_at orig) to)) name k (Not x) next a e refl done b
next-replaced orig now new table from to name k (Binary op x y) next a keeps g e done b = other-replaced orig now new (beside from (map (term_at orig) to)) name k (Binary op x y) next a e refl done b
next-replaced orig now new table from to name k (Slice x high low) next a keeps g e done b = other-replaced orig now new (beside from (map (term_at orig) to)) name k (Slice x high low) next a e refl done b
next-replaced orig now new table from to name k (Pick c x y) next a keeps g e done b = other-replaced orig now new (beside from (map (term_at orig) to)) name k (Pick c x y) next a e refl done b

-- ---- one name more

pub name-new : (ids new : Names) (k id : ℕ) → IsSet ids new k id → name_in new k ≡ id
name-new ids new k id up = ap (λ o. unwrap_or o k) up.itself

pub name-old : (ids new : Names) (k id p : ℕ) → IsSet ids new k id → k ≢ p → name_in new p ≡ name_in ids p
name-old ids new k id p up n =
    ap (λ o. unwrap_or o p) (up.others p n)

-- the term under k has become another one too
pub replaced-more : (orig now new : List Node) (r : Replacing) (Old New : ℕ → Type 0) (ids more : Names) (k id : ℕ) → Rebuilding orig now r Old (name_in ids) → KeepsTerms now new
    → IsSet ids more k id → IsReplaced orig new r k id → ((p : ℕ) → New p → (k ≢ p) → Old p) → Rebuilding orig new r New (name_in more)
replaced-more orig now new r Old New ids more k id h kept up is cases = record {
  arena = h.arena;
  keeps = keeps-both orig now new h.keeps kept;
  done = λ p n. elim (cases_eq k p) [
    | inl e ↦ subst (λ x. IsReplaced orig new r x (name_in more x)) e (subst (IsReplaced orig new r k) (sym (name-new ids more k id up)) is)
    | inr d ↦ subst (IsReplaced orig new r p) (sym (name-old ids more k id p up d)) (replaced-kept orig now new r p (name_in ids p) (h.done p (cases p n d)) kept)
  ];
}

-- ---- the table

pub table-step : (from to : List ℕ) (old new : InputTerms) (at : ℕ) → length from ≡ length to → 0 < at → at ≤ length from
    → IsTable (drop at from) (drop at to) old → UpdatesBy nat_cmp (nat_cmp (slice_index from (at - 1))) old new (Some (slice_index to (at - 1)))
    → IsTable (drop (at - 1) from) (drop (at - 1) to) new
table-step from to old new at e p l h up i =
    let j = slice_index from (at - 1) in
    let x = slice_index to (at - 1) in
    let s : suc (at - 1) ≡ at = omega arith in
    let from-is : drop (at - 1) from ≡ j ∷ drop at from = drop-cons from (at - 1) 0 (omega arith) ∙ ap (λ n. j ∷ drop n from) s in
    let to-is : drop (at - 1) to ≡ x ∷ drop at to = drop-cons to (at - 1) 0 (omega arith) ∙ ap (λ n. x ∷ drop n to) s in
    let rest = beside (drop at from) (drop at to) i in
    let whole : beside (drop (at - 1) from) (drop (at - 1) to) i ≡ (if j == i then Some x else rest)
    = ap (λ js. beside js (drop (at - 1) to) i) from-is ∙ ap (λ xs. beside (j ∷ drop at from) xs i) to-is in
    up.0 i ∙ ap (λ b. cond b (Some x) (get nat_cmp old i)) (at-number j i) ∙ ap (λ o. cond (j == i) (Some x) o) (h i) ∙ sym whole

pub table-start : (from to : List ℕ) (table : InputTerms) (at : ℕ) → at ≡ length from → table.entries ≡ [] → IsTable (drop at from) (drop at to) table
table-start from to table at e z i =
    ap (λ es. lookup (is_at (nat_cmp i)) es) z ∙ sym (ap (λ n. beside (drop n from) (drop at to) i) e ∙ ap (λ js. beside js (drop at to) i) (drop-length from))

pub no-name : (names : Names) (p : ℕ) → value_at names p ≡ None → name_in names p ≡ p
no-name names p z = ap (λ o. unwrap_or o p) z

-- ---- what can be put in

pub record Puts (nodes : List Node) (node : Node) (w : ℕ) : Type 0 where
  pub follows : CanFollow nodes node
  pub width : w ≡ node_width (width_at nodes) node
  pub no_input : count_input 0 node ≡ 0

others-of : (nodes : List Node) (name : ℕ → ℕ) (node : Node) → CanRebuild nodes name node → ((i w : ℕ) → node ≡ Input i w → ⊥)
    → CanFollow nodes (with_parts name node) × (node_width (width_at nodes) node ≡ node_width (width_at nodes) (with_parts name node)) × (count_input 0 (with_parts name node) ≡ 0)
others-of nodes name (Input i w) h o = absurd (o i w refl)
others-of nodes name (Constant b) h o = (h.0, h.1, refl)
others-of nodes name (Apply f args w) h o = (h.0, h.1, refl)
others-of nodes name (Not a) h o = (h.0, h.1, refl)
others-of nodes name (Binary op a b) h o = (h.0, h.1, refl)
others-of nodes name (Slice a high low) h o = (h.0, h.1, refl)
others-of nodes name (Pick c a b) h o = (h.0, h.1, refl)

pub rebuild-puts : (nodes : List Node) (name : ℕ → ℕ) (own : ℕ) (node other : Node) (w : ℕ) → IsArena nodes → slice_get nodes own ≡ Some node
    → CanRebuild nodes name node → ((i v : ℕ) → node ≡ Input i v → ⊥) → other ≡ with_parts name node → w ≡ width_at nodes own → Puts nodes other w
rebuild-puts nodes name own node other w a e h o is we =
    let p = others-of nodes name node h o in
    subst (λ n. Puts nodes n w) (sym is) (record {
      follows = p.0;
      width = we ∙ ap width (a.made own node e) ∙ node-width (term_at nodes) node ∙ p.1;
      no_input = p.2;
    })
