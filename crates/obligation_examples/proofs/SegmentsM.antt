-- The segments of the design m: one body leads to the switch, two through it, and three to the host.
use Rattle.std.proofs.Common.{[], ◌∷◌, refl}
use Rattle.std.specs.Prelude.{codes}
use Rattle.cocoon_num.specs.Packets.{Packet}
use Rattle.cocoon_types.specs.Runs.{Loc, Go, world}
use Rattle.cocoon_types.specs.Taken.{RunsAreTaken}
use Rattle.refinement.specs.Segments.{Segment, Through}
use Rattle.obligation_examples.specs.DesignM.{m_block, m_defs, m_design}
use Rattle.obligation_examples.specs.Places.{at_role}
use Rattle.obligation_examples.proofs.Computed.{begins, computed, passes, stops}

-- from the first host to the second
abbrev packet : Packet
packet = (167772161 ∷ 167772162 ∷ []) ∷ []

abbrev out : Loc
out = at_role (codes "HostOut") (167772161 ∷ [])

abbrev into : Loc
into = at_role (codes "SwIn") (1 ∷ 0 ∷ [])

abbrev leaving : Loc
leaving = at_role (codes "SwOut") (1 ∷ 1 ∷ [])

abbrev host : Loc
host = at_role (codes "HostIn") (167772162 ∷ [])

module _ (taken : RunsAreTaken) where
  last : Through 0 m_design m_defs leaving packet [] 1 host packet
  last = passes taken 0 m_design m_defs leaving host packet 0 host packet refl refl (stops 0 m_design m_defs host packet)

  middle : Through 0 m_design m_defs into packet [] 1 leaving packet
  middle = passes taken 0 m_design m_defs into leaving packet 0 leaving packet refl refl (stops 0 m_design m_defs leaving packet)

  both : Through 0 m_design m_defs into packet [] 2 host packet
  both = passes taken 0 m_design m_defs into leaving packet 1 host packet refl refl last

  pub one : Segment 0 m_design m_block m_defs out packet [] 1 into packet
  one = begins taken 0 m_design m_block m_defs out into packet 0 into packet refl refl (stops 0 m_design m_defs into packet)

  pub two : Segment 0 m_design m_block m_defs out packet [] 2 leaving packet
  two = begins taken 0 m_design m_block m_defs out into packet 1 leaving packet refl refl middle

  pub three : Segment 0 m_design m_block m_defs out packet [] 3 host packet
  three = begins taken 0 m_design m_block m_defs out into packet 2 host packet refl refl both

  pub above : Go (world 0 m_design m_defs) out packet [] host packet
  above = computed taken (world 0 m_design m_defs) out packet [] host packet refl
