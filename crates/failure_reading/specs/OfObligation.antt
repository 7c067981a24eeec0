-- Cited by the clauses of what reads failures: failures of obligations.
use Rattle.std.specs.Prelude.{◌≡◌, ℕ, ◌<◌, ◌^◌, List, [], ◌∷◌, All, map}
use Rattle.bv_terms.specs.TermValues.{Inputs}
use Rattle.bv_terms.specs.declared.node.Node.{Node}
use Rattle.cocoon_num.specs.PacketForms.{FieldsFit}
use Rattle.cocoon_num.specs.Tree.{Design, Refine}
use Rattle.cocoon_resolve.specs.Readers.{field_widths}
use Rattle.failures.specs.Failures.{IsOver, IsRefuted, OfLevel}
use Rattle.failures.specs.Failures as laws
use Rattle.failures.specs.Found.{failure_of}
use Rattle.failures.specs.declared.failure.Begin.{Begin}
use Rattle.failures.specs.declared.failure.Failure.{Failure}
use Rattle.obligation_gen.specs.declared.tree.Leaf.{Leaf}
use Rattle.obligation_gen.specs.Owed.{IsOwed}
use Rattle.obligation_gen.specs.Shown.{kind_in}
use Rattle.obligation_gen.specs.declared.obligation.Obligation.{Obligation}
use Rattle.obligation_laws.specs.Obligations.{Kind, contained, bounded}

-- the design owes it, with its formula in some arena
abbrev pub IsOwedSomewhere : Design → Obligation → Type 0
IsOwedSomewhere d o = (nodes : List Node) × IsOwed d nodes o

-- ---- where its run begins

-- the inputs that are chosen on the way of the only leaf
abbrev pub choices_of : List Leaf → List ℕ
choices_of [] = []
choices_of (leaf ∷ leaves) = leaf.choices

-- at its role, with these values of parameters, fields and choices
abbrev pub begin_of : Inputs → Obligation → Begin
begin_of values o = record {
  at = record { role = o.role; values = map values o.tree.args };
  packet = record { fields = map values o.tree.fields };
  choices = map values (choices_of o.tree.leaves);
}

-- no number needs more than 64 bits
pub record AreShort (b : Begin) : Type 0 where
  pub values : All (λ n. n < 2 ^ 64) b.at.values
  pub fields : All (λ n. n < 2 ^ 64) b.packet.fields
  pub choices : All (λ n. n < 2 ^ 64) b.choices

-- and the fields are those of a packet of the design
pub record IsBegin (d : Design) (b : Begin) : Type 0 where
  pub short : AreShort b
  pub fields : FieldsFit (field_widths d) b.packet.fields

-- ---- how it fails

-- how a block fails of which this is owed: a run leads where the body above sends nothing, or it goes on for too long
abbrev pub Fails : Kind → (above : ℕ) → Design → Refine → laws.Failure → Type 0
Fails contained = IsRefuted
Fails bounded = IsOver

-- the block of the obligation's level fails, by a run of its role
pub record FailsIn (d : Design) (o : Obligation) (f : Failure) : Type 0 where
  pub role : f.at.role ≡ o.role
  pub fails : OfLevel (Fails (kind_in o.kind)) o.level d (failure_of d f)
