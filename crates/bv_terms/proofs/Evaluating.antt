-- The loop of an evaluation.
use Rattle.std.proofs.Common.{◌≡◌, ℕ, ◌-◌, ◌<◌, ◌≤◌, List, length, Some, slice_get, slice_index, get_or, ap, sym, ◌∙◌, arith, inl, inr}
use Rattle.std.specs.List.{AllByRecursion}
use Rattle.std.proofs.lemmas.List.Elements.{recursion_from_All}
use Rattle.std.proofs.lemmas.Option.{slice_get-get_or}
use Rattle.std.proofs.lemmas.Bool.{cases_eq}
use Rattle.cocoon_num.specs.BitsOf.{value_of}
use Rattle.cocoon_num.specs.declared.bits.Bits.{Bits}
use Rattle.bv_terms.specs.declared.node.Node.{Node}
use Rattle.bv_terms.specs.declared.eval.Env.{Env}
use Rattle.bv_terms.specs.TermValues.{term_value}
use Rattle.bv_terms.specs.Arenas.{parts, term_at}
use Rattle.bv_terms.specs.Environments.{Covers, functions_of, inputs_of}
use Rattle.bv_terms.specs.Needed.{AreNeeded, IsAmong}
use Rattle.bv_terms.specs.TermMaps.{IsSet}
use Rattle.bv_terms.specs.Evaluated.{Known, node_value}
use Rattle.bv_terms.proofs.Members.{both, read-index}
use Rattle.bv_terms.proofs.EvalFacts.{HasValue, Ready, is-ready, has-more}
use Rattle.bv_terms.proofs.NeededFacts.{covered, needed-later}

-- the terms from a place on have their values
pub record Evaluating (nodes : List Node) (env : Env) (id : ℕ) (ids : List ℕ) (at : ℕ) (values : Known) : Type 0 where
  pub needed : AreNeeded nodes id ids
  pub covers : Covers env (term_at nodes id)
  pub within : at ≤ length ids
  pub have : (i k : ℕ) → at ≤ i → slice_get ids i ≡ Some k → HasValue nodes env values k

next-at : (ids : List ℕ) (at : ℕ) → 0 < at → at ≤ length ids → slice_get ids (at - 1) ≡ Some (slice_index ids (at - 1))
next-at ids at p w = slice_get-get_or ids (at - 1) 0 (omega arith)

pub next-ready : (nodes : List Node) (env : Env) (id : ℕ) (ids : List ℕ) (at : ℕ) (values : Known) (node : Node) → Evaluating nodes env id ids at values → 0 < at
    → slice_get nodes (slice_index ids (at - 1)) ≡ Some node → Ready nodes env values (slice_index ids (at - 1)) node
next-ready nodes env id ids at values node h p e =
    let k = slice_index ids (at - 1) in
    let here : slice_get ids (at - 1) ≡ Some k = next-at ids at p h.within in
    let below : AllByRecursion (λ q. q < k) (parts node) = recursion_from_All (λ q. q < k) (parts node) (h.needed.arena.below k node e) in
    is-ready nodes env values k node h.needed.arena e (covered nodes id env h.needed.arena h.covers k (h.needed.only k (at - 1, here)))
    (both (λ q. q < k) (IsAmong ids) (HasValue nodes env values)
    (λ q l a. let r = needed-later nodes id ids h.needed (at - 1) k q here l a in h.have r.0 q (let m = r.1 in omega arith) r.2)
    (parts node) below (h.needed.parts_ k node (at - 1, here) e))

pub next-evaluated : (nodes : List Node) (env : Env) (id : ℕ) (ids : List ℕ) (at : ℕ) (values new : Known) (node : Node) (v : Bits) → Evaluating nodes env id ids at values → 0 < at
    → slice_get nodes (slice_index ids (at - 1)) ≡ Some node → value_of v ≡ node_value env values node
    → IsSet values new (slice_index ids (at - 1)) v → Evaluating nodes env id ids (at - 1) new
next-evaluated nodes env id ids at values new node v h p e is up =
    let k = slice_index ids (at - 1) in
    let here : slice_get ids (at - 1) ≡ Some k = next-at ids at p h.within in
    let its : value_of v ≡ term_value (functions_of env) (inputs_of env) (term_at nodes k) = is ∙ (next-ready nodes env id ids at values node h p e).value in
    record {
      needed = h.needed;
      covers = h.covers;
      within = (let w = h.within in omega arith);
      have = λ i q l a. has-more nodes env values new k q v up its (λ n. elim (cases_eq i (at - 1)) [
        | inl s ↦ absurd (n (let x : Some k ≡ Some q = sym here ∙ ap (slice_get ids) (sym s) ∙ a in cc))
        | inr d ↦ h.have i q (let d' = d in omega arith) a
      ]);
    }

pub whole-evaluated : (nodes : List Node) (env : Env) (id : ℕ) (ids : List ℕ) (at : ℕ) (values : Known) → Evaluating nodes env id ids at values → at ≡ 0 → HasValue nodes env values id
whole-evaluated nodes env id ids at values h z = let i = h.needed.itself in h.have i.0 id (omega arith) i.1

-- ---- the same at what is read there

pub at-is : (nodes : List Node) (env : Env) (id : ℕ) (ids : List ℕ) (at : ℕ) (values : Known) (k : ℕ) → Evaluating nodes env id ids at values → 0 < at
    → k ≡ get_or ids (at - 1) k → k ≡ slice_index ids (at - 1)
at-is nodes env id ids at values k h p e = read-index ids (at - 1) k (let w = h.within in omega arith) e

pub at-there : (nodes : List Node) (env : Env) (id : ℕ) (ids : List ℕ) (at : ℕ) (values : Known) (k : ℕ) → Evaluating nodes env id ids at values → 0 < at → id < length nodes
    → k ≡ get_or ids (at - 1) k → k < length nodes
at-there nodes env id ids at values k h p l e =
    let here = ap Some (at-is nodes env id ids at values k h p e) in
    let m = h.needed.within k (at - 1, next-at ids at p h.within ∙ sym here) in
    omega arith
