-- What an arena holds: nodes in order, each a term whose parts are earlier ones. Cited by the clauses of `Terms`.
use Rattle.std.specs.Prelude.{◌≡◌, ℕ, ◌+◌, ◌-◌, ◌<◌, ◌≤◌, ◌^◌, List, [], ◌∷◌, ◌++◌, All, length, take, fold, Some, slice_get, slice_index_or, suc}
use Rattle.bv_terms.specs.declared.node.Node.{Node}
use Rattle.bv_terms.specs.declared.node.Node.TheVariants.{Constant, Input, Apply, Not, Binary, Slice, Pick}
use Rattle.bv_terms.specs.Keys.{HasNumbers, Numbers}
use Rattle.bv_terms.specs.TermTrees.{Term, Args, constant, input, apply, not_, binary, slice, pick, no_args, arg, width, joined_width, IsWidth, OperandsFit, IsTerm}

-- ---- nodes

-- the parts of a node, from left to right
abbrev pub parts : Node → List ℕ
parts (Constant b) = []
parts (Input i w) = []
parts (Apply f args w) = args
parts (Not a) = a ∷ []
parts (Binary op a b) = a ∷ b ∷ []
parts (Slice a high low) = a ∷ []
parts (Pick c a b) = c ∷ a ∷ b ∷ []

abbrev pub args_of : (ℕ → Term) → List ℕ → Args
args_of term [] = no_args
args_of term (a ∷ xs) = arg (term a) (args_of term xs)

-- the term of a node, given the terms of its parts
abbrev pub made_of : (ℕ → Term) → Node → Term
made_of term (Constant b) = constant b.width b.value
made_of term (Input i w) = input i w
made_of term (Apply f args w) = apply f (args_of term args) w
made_of term (Not a) = not_ (term a)
made_of term (Binary op a b) = binary op (term a) (term b)
made_of term (Slice a high low) = slice (term a) high low
made_of term (Pick c a b) = pick (term c) (term a) (term b)

-- ---- lists of nodes

-- the term at an index of a list; past its end some tree that is no term
abbrev pub nth : List Term → ℕ → Term
nth terms k = slice_index_or terms k (constant 0 0)

-- a list with the term of one more node, whose parts stand in it
abbrev pub with_node : List Term → Node → List Term
with_node terms node = terms ++ made_of (nth terms) node ∷ []

-- the term under each number
unfoldable pub term_at : List Node → ℕ → Term
term_at nodes k = nth (fold with_node [] nodes) k

abbrev pub width_at : List Node → ℕ → ℕ
width_at nodes k = width (term_at nodes k)

-- how many inputs there are
abbrev pub count_input : ℕ → Node → ℕ
count_input n (Input i w) = suc n
count_input n node = n

abbrev pub inputs_in : List Node → ℕ
inputs_in nodes = fold count_input 0 nodes

-- ---- arenas

pub record IsArena (nodes : List Node) : Type 0 where
  -- parts have smaller numbers
  pub below : (k : ℕ) (node : Node) → slice_get nodes k ≡ Some node → All (λ p. p < k) (parts node)
  -- and a term is made of them
  pub made : (k : ℕ) (node : Node) → slice_get nodes k ≡ Some node → term_at nodes k ≡ made_of (term_at nodes) node
  pub terms : (k : ℕ) → k < length nodes → IsTerm (term_at nodes k)
  -- inputs are numbered in order
  pub inputs : (k i w : ℕ) → slice_get nodes k ≡ Some (Input i w) → i ≡ inputs_in (take k nodes)
  -- a node stands once
  pub once : (j k : ℕ) (node : Node) → slice_get nodes j ≡ Some node → slice_get nodes k ≡ Some node → j ≡ k
  pub small : length nodes ≤ 2 ^ 25

-- the node has this number, and its term is made of those of its parts
pub record IsPut (old new : List Node) (node : Node) (id : ℕ) : Type 0 where
  pub there : id < length new
  pub node_ : slice_get new id ≡ Some node
  pub term : term_at new id ≡ made_of (term_at old) node

-- a node that was there has its number, and nothing is put in
abbrev pub IsFound : (old new : List Node) → Node → ℕ → Type 0
IsFound old new node id = (k : ℕ) → slice_get old k ≡ Some node → (id ≡ k) × (new ≡ old)

-- each old term stays under its number
pub record KeepsTerms (old new : List Node) : Type 0 where
  pub grown : (more : List Node) × (new ≡ old ++ more)
  pub terms : (k : ℕ) → k < length old → term_at new k ≡ term_at old k

-- there is no new input, and there are at most so many more terms
pub record GrowsBy (most : ℕ) (old new : List Node) : Type 0 where
  pub inputs : inputs_in new ≡ inputs_in old
  pub terms : length new ≤ length old + most

-- there is one more input and one more term, which has this number
pub record HasOneMore (old new : List Node) (id : ℕ) : Type 0 where
  pub inputs : inputs_in new ≡ inputs_in old + 1
  pub terms : length new ≡ length old + 1
  pub new_ : length old ≤ id

-- the input is the term under this number
abbrev pub IsInputTerm : List Node → ℕ → ℕ → Type 0
IsInputTerm nodes i k = (w : ℕ) × (slice_get nodes k ≡ Some (Input i w))

-- ---- what `Terms` keeps beside the nodes; its model cites it, and private clauses

pub record IsKept (nodes : List Node) (ws ids : List ℕ) (numbers : Numbers) : Type 0 where
  pub arena : IsArena nodes
  pub numbers_ : HasNumbers nodes numbers
  pub width_count : length ws ≡ length nodes
  pub widths : (k : ℕ) → k < length nodes → slice_get ws k ≡ Some (width_at nodes k)
  pub input_count : length ids ≡ inputs_in nodes
  pub inputs : (i k : ℕ) → slice_get ids i ≡ Some k → IsInputTerm nodes i k

-- the widths of its parts are those that the node takes
abbrev pub WidthsFit : (ℕ → ℕ) → Node → Type 0
WidthsFit w (Constant b) = Unit {0}
WidthsFit w (Input i v) = IsWidth v
WidthsFit w (Apply f args v) = All (λ a. w a ≤ 64) args × IsWidth v
WidthsFit w (Not a) = Unit {0}
WidthsFit w (Binary op a b) = OperandsFit op (w a) (w b)
WidthsFit w (Slice a high low) = (low ≤ high) × (high < w a)
WidthsFit w (Pick c a b) = (w c ≡ 1) × (w a ≡ w b)

-- the width of the node's term
abbrev pub node_width : (ℕ → ℕ) → Node → ℕ
node_width w (Constant b) = b.width
node_width w (Input i v) = v
node_width w (Apply f args v) = v
node_width w (Not a) = w a
node_width w (Binary op a b) = joined_width op (w a) (w b)
node_width w (Slice a high low) = high - low + 1
node_width w (Pick c a b) = w a

-- the node can be put in
pub record CanFollow (nodes : List Node) (node : Node) : Type 0 where
  pub there : All (λ p. p < length nodes) (parts node)
  pub fit : WidthsFit (width_at nodes) node
