-- Cited by private clauses: terms of an arena in an order in which parts come first, and their gates.
use Rattle.std.specs.Prelude.{◌≡◌, ℕ, ◌<◌, true, false, List, [], ◌∷◌, ◌++◌, All, length, map}
use Rattle.bv_terms.specs.declared.node.Node.{Node}
use Rattle.bv_terms.specs.TermTrees.{Term, not_, binary, slice, pick, IsTerm}
use Rattle.bv_terms.specs.Arenas.{IsArena, term_at}
use Rattle.bv_terms.specs.Walks.{AreNumbersOf, is_among, walk}
use Rattle.bit_blast.specs.declared.made.Gates.{Gates}
use Rattle.bit_blast.specs.declared.table.Table.{Table}
use Rattle.bit_blast.specs.Clauses.{bits_in, blasted}
use Rattle.bit_blast.specs.Emitted.{listed}
use Rattle.bit_blast.specs.Gates.{true_bit}
use Rattle.bit_blast.specs.Goals.{IsGoal, IsUnapplied}
use Rattle.bit_blast.specs.Tables.{bits_at}

abbrev pub terms_of : List Node → List ℕ → List Term
terms_of nodes order = map (term_at nodes) order

-- what holds of the parts of a term without functions
abbrev pub OfParts : (Term → Type 0) → Term → Type 0
OfParts P (not_ a) = P a
OfParts P (binary op a b) = P a × P b
OfParts P (slice a high low) = P a
OfParts P (pick c a b) = P c × P a × P b
OfParts P t = Unit {0}

-- a term that was not seen before, and its parts were
pub record Fresh (seen : List Term) (t : Term) : Type 0 where
  pub term : IsTerm t
  pub unapplied : IsUnapplied t
  pub new : is_among seen t ≡ false
  pub parts : OfParts (λ u. is_among seen u ≡ true) t

abbrev pub Ordered : List Term → List Term → Type 0
Ordered seen [] = Unit {0}
Ordered seen (t ∷ ts) = Fresh seen t × Ordered (seen ++ t ∷ []) ts

pub record IsOrder (nodes : List Node) (order : List ℕ) : Type 0 where
  pub there : All (λ id. id < length nodes) order
  pub ordered : Ordered [] (terms_of nodes order)

-- a goal's terms, in the order of the walk
pub record IsWalked (nodes : List Node) (goal : ℕ) (order : List ℕ) : Type 0 where
  pub arena : IsArena nodes
  pub there : goal < length nodes
  pub goal_ : IsGoal (term_at nodes goal)
  pub order_ : AreNumbersOf nodes (walk (term_at nodes goal) []) order

-- the gates and the bits of these terms
pub record IsEmitted (nodes : List Node) (ts : List Term) (gates : Gates) (table : Table) : Type 0 where
  pub bits_are : (k : ℕ) → k < length nodes → bits_at table k ≡ bits_in (blasted ts).table (term_at nodes k)
  pub clauses_are : listed gates ≡ (true_bit ∷ []) ∷ (blasted ts).clauses
  pub next_is : gates.next ≡ (blasted ts).next
