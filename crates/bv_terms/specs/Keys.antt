-- Cited by private clauses: what tells one node from another, and a table of nodes by it.
use Rattle.std.specs.Prelude.{◌≡◌, ℕ, ◌^◌, ◌/◌, ◌%◌, List, [], ◌∷◌, Option, Some, slice_get}
use Rattle.smallvec.specs.SmallVec.{SmallVec}
use Rattle.std.specs.declared.cmp.Ordering.{Ordering}
use Rattle.std.specs.Ordering.{nat_cmp}
use Rattle.std.specs.Cmp.Lexicographic.{slice_cmp}
use Rattle.std.specs.BTreeMap.{BTreeMap, get_by}
use Rattle.bv_terms.specs.declared.node.Node.{Node}
use Rattle.bv_terms.specs.declared.node.Node.TheVariants.{Constant, Input, Apply, Not, Binary, Slice, Pick}
use Rattle.bv_terms.specs.TermTrees.{op_number}

-- a number of up to 128 bits is given by its lower and its upper 64
abbrev pub half : ℕ
half = 2 ^ 64

abbrev pub node_key : Node → List ℕ
node_key (Constant b) = 0 ∷ b.width ∷ b.value % half ∷ b.value / half ∷ []
node_key (Input i w) = 1 ∷ i ∷ w ∷ []
node_key (Apply f args w) = 2 ∷ f ∷ w ∷ args
node_key (Not a) = 3 ∷ a ∷ []
node_key (Binary op a b) = 4 ∷ op_number op ∷ a ∷ b ∷ []
node_key (Slice a high low) = 5 ∷ a ∷ high ∷ low ∷ []
node_key (Pick c a b) = 6 ∷ c ∷ a ∷ b ∷ []

abbrev pub Numbers : Type 0
Numbers = BTreeMap (SmallVec ℕ) ℕ

-- the number under a key
abbrev pub number_of : Numbers → List ℕ → Option ℕ
number_of numbers x = get_by (λ (k : SmallVec ℕ). slice_cmp nat_cmp x k.items) numbers

abbrev pub key_cmp : SmallVec ℕ → SmallVec ℕ → Ordering
key_cmp j k = slice_cmp nat_cmp j.items k.items

-- each node has its number under its key, and nothing else is there
pub record HasNumbers (nodes : List Node) (numbers : Numbers) : Type 0 where
  pub each_ : (k : ℕ) (node : Node) → slice_get nodes k ≡ Some node → number_of numbers (node_key node) ≡ Some k
  pub only : (x : List ℕ) (k : ℕ) → number_of numbers x ≡ Some k
      → (node : Node) × (slice_get nodes k ≡ Some node) × (node_key node ≡ x)
