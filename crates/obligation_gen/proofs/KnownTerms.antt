-- Old terms that have become others, while an arena grows.
use Rattle.std.proofs.Common.{◌≡◌, ◌≢◌, ℕ, zero, suc, ◌<◌, ◌==◌, List, [], ◌∷◌, ◌++◌, map, length, Option, Some, None, option_map, slice_get, refl, sym, ap, subst, ◌∙◌, arith, inl, inr}
use Rattle.std.specs.Prelude.{option_and_then, unwrap_or}
use Rattle.std.specs.Option.{IsSome}
use Rattle.std.specs.List.{AllByRecursion, AllZip}
use Rattle.std.proofs.lemmas.List.Elements.{recursion_from_All}
use Rattle.std.proofs.lemmas.Bool.{cases_Bool, cases_eq, cond-true, cond-false, false≢true}
use Rattle.std.proofs.lemmas.Option.{slice_get_within}
use Rattle.bv_terms.specs.declared.node.Node.{Node}
use Rattle.bv_terms.specs.declared.node.Node.TheVariants.{Constant, Input, Apply, Not, Binary, Slice, Pick}
use Rattle.bv_terms.specs.Arenas.{IsArena, IsPut, KeepsTerms, args_of, made_of, parts, term_at, width_at}
use Rattle.bv_terms.specs.Rebuilt.{IsReplaced, Names, name_in, with_parts}
use Rattle.bv_terms.specs.Replacements as formulas
use Rattle.bv_terms.specs.Replacements.{HasWidthOf, beside, replaced, replaced_args}
use Rattle.bv_terms.specs.TermMaps.{IsSet, value_at}
use Rattle.bv_terms.specs.TermTrees.{Term, apply, input, not_, slice, width}
use Rattle.bv_terms.proofs.Members.{each}
use Rattle.bv_terms.proofs.NodeFacts.{node-width}
use Rattle.bv_terms.proofs.ReplaceFacts.{beside-in, beside-map, beside-zip, width-with}
use Rattle.expr_terms.specs.Variables.{AreThere, Keeps, Makes}
use Rattle.expr_terms.proofs.Making.{keeps_on, keeps_self}
use Rattle.symbolic_runs.proofs.Growing.{longer, terms_on, there_on}
use Rattle.obligation_gen.specs.Becoming.{AreKnown, Knows, Remembers}
use Rattle.obligation_gen.specs.Replacing.{StandFor, replacing_in}
use Rattle.obligation_gen.specs.Sent.{position_of, sent_at}
use Rattle.obligation_gen.specs.declared.known.Known.{Known}
use Rattle.obligation_gen.specs.declared.last.Last.{Last}
use Rattle.obligation_gen.specs.declared.replacing.Replacing.{Replacing}
use Rattle.obligation_gen.proofs.Chains.{replacing_on}
use Rattle.obligation_gen.proofs.InputTerms.{widths_of_both}

-- ---- what is sent in the place of an input

next_place : (t : ℕ) (ts : List ℕ) (o : Option ℕ) → option_and_then (slice_get (t ∷ ts)) (option_map suc o) ≡ option_and_then (slice_get ts) o
next_place t ts None = refl
next_place t ts (Some k) = refl

no_place : (o : Option ℕ) → option_and_then (slice_get (let none : List ℕ = [] in none)) o ≡ None
no_place None = refl
no_place (Some k) = refl

besides_of : (xs ts : List ℕ) (i : ℕ) → beside xs ts i ≡ sent_at i xs ts
besides_of [] ts i = refl
besides_of (x ∷ xs) [] i = sym (no_place (position_of i (x ∷ xs)))
besides_of (x ∷ xs) (t ∷ ts) i = elim (cases_Bool (x == i)) [
  | inl e ↦
      cond-true (x == i) (Some t) (beside xs ts i) e
      ∙ sym (ap (option_and_then (slice_get (t ∷ ts))) (cond-true (x == i) (Some 0) (option_map suc (position_of i xs)) e))
  | inr e ↦
      cond-false (x == i) (Some t) (beside xs ts i) e ∙ besides_of xs ts i
      ∙ sym (next_place t ts (position_of i xs))
      ∙ sym (ap (option_and_then (slice_get (t ∷ ts))) (cond-false (x == i) (Some 0) (option_map suc (position_of i xs)) e))
]

sent_beside : (f : ℕ → Term) (xs ts : List ℕ) (i : ℕ) → beside xs (map f ts) i ≡ option_map f (sent_at i xs ts)
sent_beside f xs ts i = beside-map f xs ts i ∙ ap (option_map f) (besides_of xs ts i)

-- ---- an arena that grows

replaced_on : (a b : List Node) (R : formulas.Replacing) (k id : ℕ) → KeepsTerms a b → k < length a → IsReplaced a a R k id → IsReplaced b b R k id
replaced_on a b R k id h l s = record {
  there = longer a b h id s.there;
  width = ap width (h.terms id s.there) ∙ s.width ∙ sym (ap width (h.terms k l));
  term = h.terms id s.there ∙ s.term ∙ sym (ap (replaced R) (h.terms k l));
}

pub knows_on : (a b : List Node) (R : formulas.Replacing) (known : Known) → KeepsTerms a b → Knows a R known → Knows b R known
knows_on a b R known h all = λ k id e. let p = all k id e in (longer a b h k p.0, replaced_on a b R k id h p.0 p.1)

-- the same where what stands for inputs is read in the arena that has grown
pub knows_now : (a b : List Node) (r : Replacing) (known : Known) → KeepsTerms a b → StandFor a r → Knows b (replacing_in a r) known → Knows b (replacing_in b r) known
knows_now a b r known h s = subst (λ (R : formulas.Replacing). Knows b R known) (sym (replacing_on a b r h s))

pub remembers_on : (a b : List Node) (last : Last) → KeepsTerms a b → Remembers a last → Remembers b last
remembers_on a b last h m = record {
  there = there_on a b last.by.terms.items h m.there;
  knows = subst (λ (R : formulas.Replacing). Knows b R last.known) (sym (ap (beside last.by.inputs.items) (terms_on a b last.by.terms.items h m.there)))
      (knows_on a b (replacing_in a last.by) last.known h m.knows);
}

-- after more terms have become others
pub remembers_after : (a b : List Node) (last : Last) (known : Known) → KeepsTerms a b → Remembers a last → Knows b (replacing_in a last.by) known → Remembers b (record { by = last.by; known = known })
remembers_after a b last known h m k = record {
  there = there_on a b last.by.terms.items h m.there;
  knows = subst (λ (R : formulas.Replacing). Knows b R known) (sym (ap (beside last.by.inputs.items) (terms_on a b last.by.terms.items h m.there))) k;
}

-- ---- nodes over other parts

args_made : (f g : ℕ → Term) (R : formulas.Replacing) (name : ℕ → ℕ) (xs : List ℕ) → AllByRecursion (λ p. g (name p) ≡ replaced R (f p)) xs → args_of g (map name xs) ≡ replaced_args R (args_of f xs)
args_made f g R name [] e = refl
args_made f g R name (a ∷ xs) e = let d = args_made f g R name xs e.1 in let d' = e.0 in cc

other_made : (f g : ℕ → Term) (R : formulas.Replacing) (name : ℕ → ℕ) (node : Node) → ((i w : ℕ) → node ≡ Input i w → ⊥) → AllByRecursion (λ p. g (name p) ≡ replaced R (f p)) (parts node)
    → made_of g (with_parts name node) ≡ replaced R (made_of f node)
other_made f g R name (Constant b) o e = refl
other_made f g R name (Input i v) o e = absurd (o i v refl)
other_made f g R name (Apply h args v) o e = ap (λ xs. apply h xs v) (args_made f g R name args e)
other_made f g R name (Not a) o e = ap not_ e.0
other_made f g R name (Binary op a b) o e = let d = e.0 in let d' = e.1.0 in cc
other_made f g R name (Slice a high low) o e = ap (λ t. slice t high low) e.0
other_made f g R name (Pick c a b) o e = let d = e.0 in let d' = e.1.0 in let d'' = e.1.1.0 in cc

-- a node was put in over the terms that its parts became
pub put_replaced : (a b : List Node) (R : formulas.Replacing) (name : ℕ → ℕ) (k : ℕ) (node : Node) (next : ℕ) → IsArena a → KeepsTerms a b → slice_get a k ≡ Some node → ((i w : ℕ) → node ≡ Input i w → ⊥)
    → AllByRecursion (λ p. IsReplaced a a R p (name p)) (parts node) → IsPut a b (with_parts name node) next → IsReplaced b b R k next
put_replaced a b R name k node next arena h e o done put =
    let widths : AllByRecursion (λ p. width_at a (name p) ≡ width_at a p) (parts node) = each (λ p (q : IsReplaced a a R p (name p)). q.width) (parts node) done in
    let terms : AllByRecursion (λ p. term_at a (name p) ≡ replaced R (term_at a p)) (parts node) = each (λ p (q : IsReplaced a a R p (name p)). q.term) (parts node) done in
    let made : term_at b k ≡ made_of (term_at a) node = h.terms k (slice_get_within a k node e) ∙ arena.made k node e in
    record {
      there = put.there;
      width = ap width put.term ∙ node-width (term_at a) (with_parts name node) ∙ width-with (width_at a) (width_at a) name node widths ∙ sym (node-width (term_at a) node) ∙ ap width (sym made);
      term = put.term ∙ other_made (term_at a) (term_at a) R name node o terms ∙ ap (replaced R) (sym made);
    }

-- ---- values

from_places : (P : ℕ → Type 0) (ps : List ℕ) → ((k p : ℕ) → slice_get ps k ≡ Some p → P p) → AllByRecursion P ps
from_places P [] h = tt
from_places P (p ∷ ps) h = (h zero p refl, from_places P ps (λ k q e. h (suc k) q e))

some_value : {A : Type 0} (o : Option A) → IsSome o → (x : A) × (o ≡ Some x)
some_value None h = absurd (false≢true h)
some_value (Some x) h = (x, refl)

-- the parts of a node have become what their names are
pub parts_known : (nodes : List Node) (R : formulas.Replacing) (known : Known) (node : Node) → Knows nodes R known → AreKnown known node
    → AllByRecursion (λ p. IsReplaced nodes nodes R p (name_in known.ids p)) (parts node)
parts_known nodes R known node all h = from_places (λ p. IsReplaced nodes nodes R p (name_in known.ids p)) (parts node) (λ k p e.
    let v = some_value (value_at known.ids p) (h k p e) in
    subst (IsReplaced nodes nodes R p) (sym (ap (λ o. unwrap_or o p) v.1)) (all p v.0 v.1).1)

-- one term more is known
known_more : (nodes : List Node) (R : formulas.Replacing) (old new : Known) (k id : ℕ) → Knows nodes R old → k < length nodes → IsReplaced nodes nodes R k id → IsSet old.ids new.ids k id → Knows nodes R new
known_more nodes R old new k id all l is up = λ q x e. elim (cases_eq k q) [
  | inl s ↦
      let same : id ≡ x = (let p : Some id ≡ Some x = sym up.itself ∙ ap (value_at new.ids) s ∙ e in cc) in
      subst (λ (p : ℕ × ℕ). (p.0 < length nodes) × IsReplaced nodes nodes R p.0 p.1) (λ j. (s j, same j)) (l, is)
  | inr d ↦ all q x (sym (up.others q d) ∙ e)
]

-- ---- inputs

pub input_becomes : (a : List Node) → IsArena a → (r : Replacing) → StandFor a r → (k i w next : ℕ) → slice_get a k ≡ Some (Input i w) → next ≡ unwrap_or (sent_at i r.inputs.items r.terms.items) k
    → IsReplaced a a (replacing_in a r) k next
input_becomes a arena r s k i w next e is = by (sent_at i r.inputs.items r.terms.items) refl
  where
    made : term_at a k ≡ input i w
    made = arena.made k (Input i w) e

    by : (o : Option ℕ) → sent_at i r.inputs.items r.terms.items ≡ o → IsReplaced a a (replacing_in a r) k next
    by None q =
        let own : next ≡ k = is ∙ ap (λ o. unwrap_or o k) q in
        let none : replacing_in a r i ≡ None = sent_beside (term_at a) r.inputs.items r.terms.items i ∙ ap (option_map (term_at a)) q in
        record {
          there = subst (λ x. x < length a) (sym own) (slice_get_within a k (Input i w) e);
          width = ap (width_at a) own;
          term = ap (term_at a) own ∙ made ∙ ap (λ o. unwrap_or o (input i w)) (sym none) ∙ ap (replaced (replacing_in a r)) (sym made);
        }
    by (Some x) q =
        let same : next ≡ x = is ∙ ap (λ o. unwrap_or o k) q in
        let some : replacing_in a r i ≡ Some (term_at a x) = sent_beside (term_at a) r.inputs.items r.terms.items i ∙ ap (option_map (term_at a)) q in
        let besides : beside r.inputs.items r.terms.items i ≡ Some x = besides_of r.inputs.items r.terms.items i ∙ q in
        let there : x < length a = beside-in (λ t. t < length a) r.inputs.items r.terms.items i x (recursion_from_All (λ t. t < length a) r.terms.items s.there) besides in
        let both : AllZip (HasWidthOf a) r.inputs.items r.terms.items =
        subst (λ ns. AllZip (HasWidthOf a) ns r.terms.items) (sym s.are.numbers_) (widths_of_both a arena s.inputs r.terms.items s.are.there s.wide) in
        let wide : w ≡ width_at a x = beside-zip (HasWidthOf a) r.inputs.items r.terms.items i x both besides k w e in
        record {
          there = subst (λ y. y < length a) (sym same) there;
          width = ap (width_at a) same ∙ sym wide ∙ ap width (sym made);
          term = ap (term_at a) same ∙ ap (λ o. unwrap_or o (input i w)) (sym some) ∙ ap (replaced (replacing_in a r)) (sym made);
        }

-- ---- parts

at_place : (P : ℕ → Type 0) (ps : List ℕ) (i p : ℕ) → AllByRecursion P ps → slice_get ps i ≡ Some p → P p
at_place P [] i p h e = absurd cc
at_place P (q ∷ qs) zero p h e = let same : q ≡ p = cc in subst P same h.0
at_place P (q ∷ qs) (suc i) p h e = at_place P qs i p h.1 e

pub part_below : (nodes : List Node) (k i p : ℕ) (node : Node) → IsArena nodes → slice_get nodes k ≡ Some node → slice_get (parts node) i ≡ Some p → p < k
part_below nodes k i p node arena e at = at_place (λ q. q < k) (parts node) i p (recursion_from_All (λ q. q < k) (parts node) (arena.below k node e)) at

-- ---- the terms that wait

snoc_all : (P : ℕ → Type 0) (xs : List ℕ) (y : ℕ) → AllByRecursion P xs → P y → AllByRecursion P (xs ++ y ∷ [])
snoc_all P [] y h p = (p, tt)
snoc_all P (x ∷ xs) y h p = (h.0, snoc_all P xs y h.1 p)

snoc_parts : (P : ℕ → Type 0) (xs : List ℕ) (y : ℕ) → AllByRecursion P (xs ++ y ∷ []) → AllByRecursion P xs × P y
snoc_parts P [] y h = (tt, h.0)
snoc_parts P (x ∷ xs) y h = let r = snoc_parts P xs y h.1 in ((h.0, r.0), r.1)

pub record Walking (start now : List Node) (by : Replacing) (known : Known) (waiting : List ℕ) : Type 0 where
  pub kept : Keeps start now
  pub below : AllByRecursion (λ k. k < length start) waiting
  pub knows : Knows now (replacing_in start by) known

pub walk_first : (start : List Node) (by : Replacing) (known : Known) (old : ℕ) (empty waiting : List ℕ) → Knows start (replacing_in start by) known → old < length start → empty ≡ [] → waiting ≡ empty ++ old ∷ []
    → Walking start start by known waiting
walk_first start by known old empty waiting all l e f = record {
  kept = keeps_self start;
  below = subst (AllByRecursion (λ k. k < length start)) (sym (f ∙ ap (λ xs. xs ++ old ∷ []) e)) (l, tt);
  knows = all;
}

module _ (start now : List Node) (by : Replacing) (known : Known) (waiting rest : List ℕ) (own : ℕ) (h : Walking start now by known waiting) (e : waiting ≡ rest ++ own ∷ []) where
  both : AllByRecursion (λ k. k < length start) rest × (own < length start)
  both = snoc_parts (λ k. k < length start) rest own (subst (AllByRecursion (λ k. k < length start)) e h.below)

  pub walk_own : own < length now
  walk_own = longer start now h.kept.kept own both.1

  pub walk_down : (part : ℕ) (more less : List ℕ) → part < own → less ≡ rest ++ own ∷ [] → more ≡ less ++ part ∷ [] → Walking start now by known more
  walk_down part more less l f g = record {
    kept = h.kept;
    below = subst (AllByRecursion (λ k. k < length start)) (sym (g ∙ ap (λ xs. xs ++ part ∷ []) f))
        (snoc_all (λ k. k < length start) (rest ++ own ∷ []) part (snoc_all (λ k. k < length start) rest own both.0 both.1) (let m = both.1 in omega (arith, l, m)));
    knows = h.knows;
  }

  pub walk_up : (new : List Node) (id : ℕ) (more : Known) → StandFor start by → Keeps now new → IsReplaced new new (replacing_in now by) own id → IsSet known.ids more.ids own id → Walking start new by more rest
  walk_up new id more s k is up = record {
    kept = keeps_on start now new h.kept k;
    below = both.0;
    knows = known_more new (replacing_in start by) known more own id (knows_on now new (replacing_in start by) known k.kept h.knows) (longer now new k.kept own walk_own)
        (subst (λ (q : formulas.Replacing). IsReplaced new new q own id) (replacing_on start now by h.kept.kept s) is) up;
  }

  pub walk_last : (new : List Node) (id old : ℕ) → StandFor start by → Keeps now new → IsReplaced new new (replacing_in now by) own id → own ≡ old → Makes new id (replaced (replacing_in start by) (term_at start old))
  walk_last new id old s k is same = record {
    there = is.there;
    term = is.term
        ∙ (λ j. replaced (replacing_on start now by h.kept.kept s j) (((keeps_on start now new h.kept k).kept.terms own both.1) j))
        ∙ ap (λ x. replaced (replacing_in start by) (term_at start x)) same;
  }
