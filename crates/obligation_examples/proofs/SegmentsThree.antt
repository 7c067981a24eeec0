-- The segments of the design of three levels: at level 1 one body leads to the host, and at level 2 three do.
use Rattle.std.proofs.Common.{◌≡◌, [], ◌∷◌, Bool, true, false, Option, Some, refl, ap, arith}
use Rattle.std.specs.Prelude.{codes}
use Rattle.std.proofs.lemmas.List.Elements.{All-nil}
use Rattle.cocoon_num.specs.Packets.{Packet}
use Rattle.cocoon_num.specs.Tree.{true_or_false}
use Rattle.cocoon_num.specs.Values.{Value, truth}
use Rattle.cocoon_types.specs.Runs.{Loc, Go, world}
use Rattle.cocoon_types.specs.Taken.{RunsAreTaken}
use Rattle.refinement.specs.Assumptions.{IsMet, Meets}
use Rattle.refinement.specs.Segments.{Segment}
use Rattle.obligation_examples.specs.DesignThree.{three_block_1, three_block_2, three_defs, three_design, three_loose_defs}
use Rattle.obligation_examples.specs.Places.{at_role}
use Rattle.obligation_examples.proofs.Computed.{begins, computed, passes, stops}

abbrev packet : Packet
packet = (2 ∷ []) ∷ []

abbrev out : Loc
out = at_role (codes "Out") (1 ∷ [])

abbrev into : Loc
into = at_role (codes "SwIn") (1 ∷ 0 ∷ [])

abbrev leaving : Loc
leaving = at_role (codes "SwOut") (1 ∷ 2 ∷ [])

abbrev host : Loc
host = at_role (codes "In") (2 ∷ [])

module _ (taken : RunsAreTaken) where
  pub one : Segment 0 three_design three_block_1 three_defs out packet [] 1 host packet
  one = begins taken 0 three_design three_block_1 three_defs out host packet 0 host packet refl refl (stops 0 three_design three_defs host packet)

  pub top : Go (world 0 three_design three_defs) out packet (2 ∷ []) host packet
  top = computed taken (world 0 three_design three_defs) out packet (2 ∷ []) host packet refl

  pub three : Segment 1 three_design three_block_2 three_defs out packet [] 3 host packet
  three =
      begins taken 1 three_design three_block_2 three_defs out into packet 2 host packet refl refl
      (passes taken 1 three_design three_defs into leaving packet 1 host packet refl refl
      (passes taken 1 three_design three_defs leaving host packet 0 host packet refl refl (stops 1 three_design three_defs host packet)))

  pub middle : Go (world 1 three_design three_defs) out packet [] host packet
  middle = computed taken (world 1 three_design three_defs) out packet [] host packet refl

-- a truth value
abbrev is_true : Option Value → Bool
is_true (Some (truth true)) = true
is_true _ = false

-- 3 may be sent to and is no host
pub not_met : Meets 1 three_design three_loose_defs → ⊥
not_met m =
    let a = m 0 (record { at = 0; params = []; body = true_or_false 0 true }) (omega arith) (3 ∷ []) _ refl in
    let f : ◌≡◌ {A = Bool} false true = ap is_true a in
    absurd (cc)

-- level 0 has no assumption
pub none : Meets 0 three_design three_loose_defs
none = All-nil (IsMet three_design three_loose_defs)
