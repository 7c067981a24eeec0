-- A run that fails is a failure of the obligation's level.
use Rattle.std.proofs.Common.{◌≡◌, ℕ, suc, ◌-◌, ◌≤◌, ◌&&◌, not, Bool, true, false, List, [], Some, is_some, refl, sym, ap, subst, ◌∙◌, arith}
use Rattle.std.proofs.lemmas.List.{append-nil}
use Rattle.cocoon_num.specs.Packets.{Packet}
use Rattle.cocoon_num.specs.Tree.{Design, Refine, Role}
use Rattle.cocoon_types.specs.Design.{role_at}
use Rattle.cocoon_types.specs.RuleParts.{has_name}
use Rattle.cocoon_types.specs.Runs.{Loc}
use Rattle.cocoon_types.specs.Tables.{Defs}
use Rattle.cocoon_types.specs.Taken.{Used}
use Rattle.obligation_laws.specs.FailingRuns.{Fails as FailsHere}
use Rattle.obligation_laws.specs.Shown.{functions_by}
use Rattle.failures.specs.Failures.{Failure, IsOver, IsRefuted}
use Rattle.obligation_laws.specs.Failing.{IsKept}
use Rattle.obligation_laws.specs.Obligations.{Kind, contained, bounded, kind_of}
use Rattle.refinement.specs.Owed.{Given}
use Rattle.refinement.specs.Segments.{IsNew, IsRefined, Segment, is_new, is_old}
use Rattle.refinement.specs.Ways.{Arrival, hops_by}
use Rattle.obligation_laws.specs.LeafForms.{EndsBy}
use Rattle.obligation_laws.specs.LeafRuns.{first_loc, first_packet}
use Rattle.obligation_laws.specs.Leaves.{End, sent_to, inside, Leaf, Tree, end_role}
use Rattle.obligation_laws.specs.Meant.{arrives, given}
use Rattle.bv_terms.specs.TermValues.{Inputs}
use Rattle.failure_reading.specs.Witnesses.{Fails}

-- the rest of this file speaks of one leaf, for given definitions and inputs

-- what a run computes is a segment
abbrev pub Related : (above : ℕ) → Design → Refine → Defs → Type 0
Related above d block defs =
    (others : ℕ) (from : Loc) (packet : Packet) (choices : List ℕ) (led : Arrival)
    → IsRefined block from
    → hops_by above d defs (suc others) from packet choices ≡ Some led
    → Used choices led.rest (λ used. (bodies : ℕ) × (bodies ≤ suc others)
    × Segment above d block defs from packet used bodies led.to led.sent
    × (IsNew above d led.to → bodies ≡ suc others))

-- a role that is declared and not new is old
old_if : (a b : Bool) → (a && not b) ≡ false → a ≡ true → b ≡ true
old_if true true n h = refl
old_if true false n h = absurd (cc)
old_if false b n h = absurd (cc)

module _ (above : ℕ) (d : Design) (block : Refine) (defs : Defs) (ins : Inputs) (role : List ℕ) (tree : Tree) (leaf : Leaf) (failing : FailsHere d defs ins above block role tree leaf)
    (refined : has_name role block.roles ≡ true) (some : 1 ≤ block.within) (related : Related above d block defs)
    (ends : EndsBy (is_new above d) leaf.end) (r : Role) (declared : role_at (suc above) d (end_role leaf.end) ≡ Some r) (here : Given (suc above) d defs (first_packet ins d.headers tree)) where
  abbrev led : Arrival
  led = arrives (functions_by d defs) ins d.headers leaf []

  abbrev from : Loc
  from = first_loc ins role tree

  abbrev packet : Packet
  packet = first_packet ins d.headers tree

  -- the failure of the run
  abbrev pub failure : Failure
  failure = record {
    defs = defs;
    at = first_loc ins role tree;
    packet = first_packet ins d.headers tree;
    choices = given ins leaf.choices;
    to = (arrives (functions_by d defs) ins d.headers leaf []).to;
    sent = (arrives (functions_by d defs) ins d.headers leaf []).sent;
  }

  -- its segment
  record Segmented : Type 0 where
    bodies : ℕ
    within : bodies ≤ block.within
    segment : Segment above d block defs from packet (given ins leaf.choices) bodies led.to led.sent
    stops : IsNew above d led.to → bodies ≡ block.within

  segmented : Segmented
  segmented =
      let others = block.within - 1 in
      let e : block.within ≡ suc others = omega (arith, some) in
      let s = related others from packet (given ins leaf.choices) led refined (ap (λ n. hops_by above d defs n from packet (given ins leaf.choices)) (sym e) ∙ failing.runs) in
      let used : s.0 ≡ given ins leaf.choices = sym (append-nil s.0) ∙ sym s.1 in
      record {
        bodies = s.2.0;
        within = subst (λ n. s.2.0 ≤ n) (sym e) s.2.1;
        segment = subst (λ cs. Segment above d block defs from packet cs s.2.0 led.to led.sent) used s.2.2;
        stops = λ new. s.2.3 new ∙ sym e;
      }

  abbrev Kept : Kind → Type 0
  Kept k = IsKept above d defs k from packet led

  refuted : (x : List ℕ) → end_role leaf.end ≡ x → is_new above d x ≡ false → (Kept contained → ⊥) → IsRefuted above d block failure
  refuted x e n unsent =
      let s = segmented in
      let not_new = ap (is_new above d) e ∙ n in
      record {
        given = here;
        bodies = s.bodies;
        within = s.within;
        segment = s.segment;
        old = old_if (is_some (role_at (suc above) d (end_role leaf.end))) (is_old above d (end_role leaf.end)) not_new (ap is_some declared);
        unsent = unsent;
      }

  over : (x : List ℕ) → end_role leaf.end ≡ x → is_new above d x ≡ true → IsOver above d block failure
  over x e n =
      let s = segmented in
      let new : IsNew above d led.to = ap (is_new above d) e ∙ n in
      record {
        given = here;
        segment = subst (λ m. Segment above d block defs from packet (given ins leaf.choices) m led.to led.sent) (s.stops new) s.segment;
        new = new;
      }

  pub fails : (k : Kind) → k ≡ kind_of leaf.end → Fails k above d block failure
  fails k e = by k leaf.end refl ends failing.fails e
    where
      by : (k : Kind) (end : End) → leaf.end ≡ end → EndsBy (is_new above d) end → (Kept (kind_of end) → ⊥) → k ≡ kind_of end → Fails k above d block failure
      by contained (sent_to x vs fs) is n unsent same = refuted x (ap end_role is) n unsent
      by contained (inside x vs fs) is n unsent same = absurd (cc)
      by bounded (sent_to x vs fs) is n unsent same = absurd (cc)
      by bounded (inside x vs fs) is n unsent same = over x (ap end_role is) n
