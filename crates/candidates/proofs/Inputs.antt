-- The inputs of an arena: what an environment has for its terms.
use Rattle.std.proofs.Common.{◌≡◌, ℕ, zero, suc, ◌<◌, ◌^◌, ℤ, Bool, List, [], ◌∷◌, length, map, Option, Some, sym, ap, subst, arith}
use Rattle.std.specs.Prelude.{option_map, slice_get, unwrap_or}
use Rattle.std.specs.List.{AllByRecursion}
use Rattle.std.proofs.lemmas.List.Elements.{recursion_from_All}
use Rattle.cocoon_num.specs.BitsOf.{value_of}
use Rattle.cocoon_num.specs.Values.{FitsWidth, number}
use Rattle.cocoon_num.specs.declared.bits.Bits.{Bits}
use Rattle.bit_blast.specs.Blasting.{InputRow, MapsInputs}
use Rattle.bit_blast.specs.Goals.{IsUnapplied}
use Rattle.bit_blast.specs.Readings.{ReadsAs, input_bits, number_read}
use Rattle.bv_terms.specs.Arenas.{IsArena, parts, term_at}
use Rattle.bv_terms.specs.Environments.{Covers, inputs_of}
use Rattle.bv_terms.specs.Inputs.{Mentions}
use Rattle.bv_terms.specs.TermTrees.{Term, constant, input, apply, not_, binary, slice, pick}
use Rattle.bv_terms.specs.declared.eval.Env.{Env}
use Rattle.bv_terms.specs.declared.node.Node.{Node}
use Rattle.bv_terms.specs.declared.node.Node.TheVariants.{Constant, Input, Apply, Not, Binary, Slice, Pick}
use Rattle.bv_terms.specs.Arenas as arenas
use Rattle.bv_terms.proofs.Subterms.{Each, each-made, in-walk}
use Rattle.candidates.specs.Assigned.{assigned, row_value}
use Rattle.candidates.specs.Flat.{Has}
use Rattle.candidates.proofs.Lists.{at-there, mapped-there}

module _ (nodes : List Node) (arena : IsArena nodes) where
  -- an input is a node
  abbrev pub IsNode : Term → Type 0
  IsNode (input i w) = (k : ℕ) × (slice_get nodes k ≡ Some (Input i w))
  IsNode (constant w n) = Unit {0}
  IsNode (apply f args w) = Unit {0}
  IsNode (not_ a) = Unit {0}
  IsNode (binary op a b) = Unit {0}
  IsNode (slice a high low) = Unit {0}
  IsNode (pick c a b) = Unit {0}

  here : (k : ℕ) (node : Node) → slice_get nodes k ≡ Some node → IsNode (arenas.made_of (term_at nodes) node)
  here k (Input i w) e = (k, e)
  here k (Constant b) e = tt
  here k (Apply f args w) e = tt
  here k (Not a) e = tt
  here k (Binary op a b) e = tt
  here k (Slice a high low) e = tt
  here k (Pick c a b) e = tt

  each-below : (n k : ℕ) → k < suc n → k < length nodes → ((p : ℕ) → p < n → p < length nodes → Each IsNode (term_at nodes p)) → (ps : List ℕ) → AllByRecursion (λ p. p < k) ps → AllByRecursion (λ p. Each IsNode (term_at nodes p)) ps
  each-below n k h l f [] b = tt
  each-below n k h l f (p ∷ ps) b = let q = b.0 in (f p (omega (arith, h, q)) (omega (arith, l, q)), each-below n k h l f ps b.1)

  nodes-up-to : (n k : ℕ) → k < n → k < length nodes → Each IsNode (term_at nodes k)
  nodes-up-to zero k h l = absurd (omega (arith, h))
  nodes-up-to (suc n) k h l =
      let at = at-there nodes k l in
      subst (Each IsNode) (sym (arena.made k at.0 at.1))
      (each-made IsNode (term_at nodes) at.0 (each-below n k h l (nodes-up-to n) (parts at.0) (recursion_from_All (λ p. p < k) (parts at.0) (arena.below k at.0 at.1))) (here k at.0 at.1))

  pub all-nodes : (k : ℕ) → k < length nodes → Each IsNode (term_at nodes k)
  all-nodes k l = nodes-up-to (suc k) k (omega arith) l

  pub has-nodes : (t : Term) → Has nodes t → Each IsNode t
  has-nodes t h = subst (Each IsNode) h.is (all-nodes h.number h.there)

  module _ (flat : Term) (rows : List InputRow) (mapped : MapsInputs nodes flat rows) (v : ℤ → Bool) (env : Env) (bits : map value_of env.inputs ≡ map (row_value v) rows) where
    -- the value of an input
    pub record HasBits (i w : ℕ) : Type 0 where
      pub value : Bits
      pub there : slice_get env.inputs i ≡ Some value
      pub wide : value.width ≡ w
      pub read : value.value ≡ number_read v (input_bits flat i w)

    width-is : (b : Bits) (w n : ℕ) → value_of b ≡ number w n → b.width ≡ w
    width-is b w n e = cc

    value-is : (b : Bits) (w n : ℕ) → value_of b ≡ number w n → b.value ≡ n
    value-is b w n e = cc

    pub input-there : (i k w : ℕ) → slice_get nodes k ≡ Some (Input i w) → HasBits i w
    input-there i k w e =
        let n = number_read v (input_bits flat i w) in
        let at = mapped-there v env.inputs rows bits i (record { width = w; bits = input_bits flat i w }) (mapped.each_ i k w e) in
        record { value = at.0; there = at.1; wide = width-is at.0 w n at.2; read = value-is at.0 w n at.2 }

    pub input-is : (i w : ℕ) (h : HasBits i w) → inputs_of env i ≡ h.value.value
    input-is i w h = ap (λ o. unwrap_or (option_map (λ (b : Bits). b.value) o) 0) h.there

    pub input-fits : (i w : ℕ) → HasBits i w → FitsWidth w (inputs_of env i)
    input-fits i w h = subst (λ n. FitsWidth w n) (sym (input-is i w h)) (subst (λ u. h.value.value < 2 ^ u) h.wide h.value.fits)

    pub covered : (t : Term) → IsUnapplied t → Each IsNode t → Covers env t
    covered (constant w n) u h = tt
    covered (input i w) u h = let b = input-there i h.0 w h.1 in (b.value, b.there, b.wide)
    covered (apply f args w) u h = absurd u
    covered (not_ a) u h = covered a u h.0
    covered (binary op a b) u h = (covered a u.0 h.0, covered b u.1 h.1)
    covered (slice a high low) u h = covered a u h.0
    covered (pick c a b) u h = (covered c u.0 h.0, covered a u.1 h.1, covered b u.2 h.2)

    pub mentioned : (t : Term) → Each IsNode t → (i w : ℕ) → Mentions t i w → HasBits i w
    mentioned t h i w m = let n = in-walk IsNode t (input i w) h m in input-there i n.0 w n.1

  -- the numbers that an assignment gives the inputs of the term whose clauses they stand in
  pub reads : (flat : Term) (rows : List InputRow) → MapsInputs nodes flat rows → (v : ℤ → Bool) → Each IsNode flat → ReadsAs flat v (assigned v rows)
  reads flat rows mapped v h i w m =
      let n = in-walk IsNode flat (input i w) h m in
      ap (λ (o : Option InputRow). unwrap_or (option_map (λ (row : InputRow). number_read v row.bits) o) 0) (mapped.each_ i n.0 w n.1)
