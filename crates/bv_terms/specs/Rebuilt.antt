-- Cited by the clauses of `Terms::substitute_from` and by private clauses: nodes with other parts, and what a node becomes.
use Rattle.std.specs.Prelude.{◌≡◌, ℕ, ◌+◌, ◌-◌, ◌<◌, ◌≤◌, List, length, map, Some, unwrap_or, slice_get}
use Rattle.std.specs.Ordering.{nat_cmp}
use Rattle.std.specs.BTreeMap.{BTreeMap, get}
use Rattle.bv_terms.specs.declared.node.Node.{Node}
use Rattle.bv_terms.specs.declared.term_map.TermMap.{TermMap}
use Rattle.bv_terms.specs.declared.node.Node.TheVariants.{Constant, Input, Apply, Not, Binary, Slice, Pick}
use Rattle.bv_terms.specs.Arenas.{term_at, width_at, node_width, CanFollow, IsPut}
use Rattle.bv_terms.specs.Replacements.{Replacing, replaced, beside}
use Rattle.bv_terms.specs.TermMaps.{value_at}

-- numbers of other terms, for some terms
abbrev pub Names : Type 0
Names = TermMap ℕ

-- terms under the numbers of inputs
abbrev pub InputTerms : Type 0
InputTerms = BTreeMap ℕ ℕ

-- the number that stands for another one: itself, if there is none
abbrev pub name_in : Names → ℕ → ℕ
name_in ids p = unwrap_or (value_at ids p) p

-- the node with other parts, each in the place of an old one
abbrev pub with_parts : (ℕ → ℕ) → Node → Node
with_parts name (Constant b) = Constant b
with_parts name (Input i w) = Input i w
with_parts name (Apply f args w) = Apply f (map name args) w
with_parts name (Not a) = Not (name a)
with_parts name (Binary op a b) = Binary op (name a) (name b)
with_parts name (Slice a high low) = Slice (name a) high low
with_parts name (Pick c a b) = Pick (name c) (name a) (name b)

-- the term that a table has for an input, else the input's own
abbrev pub in_place_of : InputTerms → ℕ → ℕ → ℕ
in_place_of table i own = unwrap_or (get nat_cmp table i) own

-- what the term under a number becomes
abbrev pub IsRebuilt : (old new : List Node) → InputTerms → (ℕ → ℕ) → (own : ℕ) → Node → ℕ → Type 0
IsRebuilt old new table name own (Input i w) id = (new ≡ old) × (id ≡ in_place_of table i own)
IsRebuilt old new table name own node id = IsPut old new (with_parts name node) id

-- and when it can
abbrev pub CanRebuild : List Node → (ℕ → ℕ) → Node → Type 0
CanRebuild nodes name (Input i w) = Unit {0}
CanRebuild nodes name node =
    CanFollow nodes (with_parts name node)
    × (node_width (width_at nodes) node ≡ node_width (width_at nodes) (with_parts name node))

-- for each input the term beside it
abbrev pub IsTable : List ℕ → List ℕ → InputTerms → Type 0
IsTable from to table = (i : ℕ) → get nat_cmp table i ≡ beside from to i

-- the term with others in place of its inputs, of the same width
pub record IsReplaced (old new : List Node) (r : Replacing) (k id : ℕ) : Type 0 where
  pub there : id < length new
  pub width : width_at new id ≡ width_at old k
  pub term : term_at new id ≡ replaced r (term_at old k)

-- the input's term has this number or a later one
abbrev pub StandsFrom : List Node → (first : ℕ) → ℕ → Type 0
StandsFrom nodes first i = (k w : ℕ) → slice_get nodes k ≡ Some (Input i w) → first ≤ k

-- what each term from a number on has become, in order
pub record AreReplacedFrom (old new : List Node) (r : Replacing) (first : ℕ) (ids : List ℕ) : Type 0 where
  pub count : length ids ≡ length old - first
  pub each_ : (i id : ℕ) → slice_get ids i ≡ Some id → IsReplaced old new r (first + i) id
