-- The segments of the design t: by the trunk five bodies lead to the host. Where a host's port is taken for a trunk, five
-- bodies end before a new role, and the assumption that shuts this out fails.
use Rattle.std.proofs.Common.{◌≡◌, ℕ, suc, [], ◌∷◌, Bool, true, false, Option, Some, refl, ap, arith}
use Rattle.std.specs.Prelude.{codes}
use Rattle.cocoon_num.specs.Packets.{Packet}
use Rattle.cocoon_num.specs.Tree.{true_or_false}
use Rattle.cocoon_num.specs.Values.{Value, truth}
use Rattle.cocoon_types.specs.Runs.{Loc}
use Rattle.cocoon_types.specs.Taken.{RunsAreTaken}
use Rattle.refinement.specs.Assumptions.{Meets}
use Rattle.refinement.specs.Segments.{Segment, Through}
use Rattle.refinement.specs.Ways.{hops_by}
use Rattle.obligation_examples.specs.DesignT.{t_block, t_defs, t_design, t_loop_defs}
use Rattle.obligation_examples.specs.Places.{at_role}
use Rattle.obligation_examples.proofs.Computed.{begins, passes, stops}

abbrev packet : Packet
packet = (167772161 ∷ 167772162 ∷ []) ∷ []

abbrev out : Loc
out = at_role (codes "HostOut") (167772161 ∷ [])

abbrev into : ℕ → ℕ → Loc
into s p = at_role (codes "SwIn") (s ∷ p ∷ [])

abbrev leaving : ℕ → ℕ → Loc
leaving s p = at_role (codes "SwOut") (s ∷ p ∷ [])

abbrev host : Loc
host = at_role (codes "HostIn") (167772162 ∷ [])

module _ (taken : RunsAreTaken) where
  -- the bodies of new roles from the first switch's port 0 on, the last first
  fifth : Through 0 t_design t_defs (leaving 2 0) packet [] 1 host packet
  fifth = passes taken 0 t_design t_defs (leaving 2 0) host packet 0 host packet refl refl (stops 0 t_design t_defs host packet)

  fourth : (n : ℕ) (to : Loc) → Through 0 t_design t_defs (leaving 2 0) packet [] n to packet → Through 0 t_design t_defs (into 2 3) packet [] (suc n) to packet
  fourth n to t = passes taken 0 t_design t_defs (into 2 3) (leaving 2 0) packet n to packet refl refl t

  third : (n : ℕ) (to : Loc) → Through 0 t_design t_defs (into 2 3) packet [] n to packet → Through 0 t_design t_defs (leaving 1 3) packet [] (suc n) to packet
  third n to t = passes taken 0 t_design t_defs (leaving 1 3) (into 2 3) packet n to packet refl refl t

  second : (n : ℕ) (to : Loc) → Through 0 t_design t_defs (leaving 1 3) packet [] n to packet → Through 0 t_design t_defs (into 1 0) packet [] (suc n) to packet
  second n to t = passes taken 0 t_design t_defs (into 1 0) (leaving 1 3) packet n to packet refl refl t

  first : (n : ℕ) (to : Loc) → Through 0 t_design t_defs (into 1 0) packet [] n to packet → Segment 0 t_design t_block t_defs out packet [] (suc n) to packet
  first n to t = begins taken 0 t_design t_block t_defs out (into 1 0) packet n to packet refl refl t

  pub one : Segment 0 t_design t_block t_defs out packet [] 1 (into 1 0) packet
  one = first 0 (into 1 0) (stops 0 t_design t_defs (into 1 0) packet)

  pub two : Segment 0 t_design t_block t_defs out packet [] 2 (leaving 1 3) packet
  two = first 1 (leaving 1 3) (second 0 (leaving 1 3) (stops 0 t_design t_defs (leaving 1 3) packet))

  pub three : Segment 0 t_design t_block t_defs out packet [] 3 (into 2 3) packet
  three = first 2 (into 2 3) (second 1 (into 2 3) (third 0 (into 2 3) (stops 0 t_design t_defs (into 2 3) packet)))

  pub four : Segment 0 t_design t_block t_defs out packet [] 4 (leaving 2 0) packet
  four = first 3 (leaving 2 0) (second 2 (leaving 2 0) (third 1 (leaving 2 0) (fourth 0 (leaving 2 0) (stops 0 t_design t_defs (leaving 2 0) packet))))

  pub five : Segment 0 t_design t_block t_defs out packet [] 5 host packet
  five = first 4 host (second 3 host (third 2 host (fourth 1 host fifth)))

  -- the port of the host is a trunk
  pub loop : Segment 0 t_design t_block t_loop_defs out packet [] 5 (into 1 3) packet
  loop =
      begins taken 0 t_design t_block t_loop_defs out (into 1 0) packet 4 (into 1 3) packet refl refl
      (passes taken 0 t_design t_loop_defs (into 1 0) (leaving 1 3) packet 3 (into 1 3) packet refl refl
      (passes taken 0 t_design t_loop_defs (leaving 1 3) (into 2 3) packet 2 (into 1 3) packet refl refl
      (passes taken 0 t_design t_loop_defs (into 2 3) (leaving 2 0) packet 1 (into 1 3) packet refl refl
      (passes taken 0 t_design t_loop_defs (leaving 2 0) (into 1 3) packet 0 (into 1 3) packet refl refl
      (stops 0 t_design t_loop_defs (into 1 3) packet)))))

-- a truth value
abbrev is_true : Option Value → Bool
is_true (Some (truth true)) = true
is_true _ = false

-- the second assumption is false at the second host
pub not_met : Meets 1 t_design t_loop_defs → ⊥
not_met m =
    let a = m 1 (record { at = 0; params = []; body = true_or_false 0 true }) (omega arith) (167772162 ∷ []) _ refl in
    let f : ◌≡◌ {A = Bool} false true = ap is_true a in
    absurd (cc)

-- the branches on the way
pub way : hops_by 0 t_design t_defs 5 out packet [] ≡ Some (record { to = host; sent = packet; rest = []; way = false ∷ false ∷ true ∷ true ∷ true ∷ false ∷ [] })
way = refl
