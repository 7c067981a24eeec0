-- What holds of a term where it holds of each node that the term is made of.
use Rattle.std.proofs.Common.{◌≡◌, ℕ, ◌<◌, ◌≤◌, List, [], ◌∷◌, length, map, Option, Some, None, slice_get, get_or, refl, ap, sym, subst, arith, zero, suc}
use Rattle.std.specs.List.{All, AllByRecursion}
use Rattle.std.proofs.lemmas.List.Elements.{recursion_from_All}
use Rattle.std.proofs.lemmas.Option.{slice_get-get_or}
use Rattle.cocoon_num.specs.declared.fun_table.FunTable.{FunTable}
use Rattle.bv_terms.specs.declared.eval.Env.{Env}
use Rattle.bv_terms.specs.declared.node.Node.{Node}
use Rattle.bv_terms.specs.declared.node.Node.TheVariants.{Constant, Input, Apply, Not, Binary, Slice, Pick}
use Rattle.bv_terms.specs.TermTrees.{Term, width, arg_widths}
use Rattle.bv_terms.specs.Arenas.{args_of, made_of, parts, term_at, width_at}
use Rattle.bv_terms.specs.Environments.{Covers, CoversArgs, HasTable}
use Rattle.bv_terms.specs.Needed.{AreNeeded, IsAmong}
use Rattle.bv_terms.proofs.Members.{both}
use Rattle.bv_terms.specs.Fitting.{CanStand, TablesFit, TablesFitArgs}
use Rattle.bv_terms.specs.Nodes.{FitsNode}
use Rattle.bv_terms.specs.WithRows.{Tables, table_of}
use Rattle.obligation_tests.specs.Plain.{CoversNode, HasFitting}

-- the node under a number has a property
abbrev pub IsAt : (Node → Type 0) → List Node → ℕ → Type 0
IsAt N nodes k = (node : Node) → slice_get nodes k ≡ Some node → N node

-- a property of terms that is one of nodes
abbrev Passes : (nodes : List Node) → (Node → Type 0) → (Term → Type 0) → Type 0
Passes nodes N P = (node : Node) → N node → AllByRecursion (λ p. P (term_at nodes p)) (parts node) → P (made_of (term_at nodes) node)

all-among : (P : ℕ → Type 0) (ids : List ℕ) (k i : ℕ) → AllByRecursion P ids → slice_get ids i ≡ Some k → P k
all-among P [] k i h e = absurd cc
all-among P (x ∷ xs) k zero h e = subst P (let q : Some x ≡ Some k = e in cc) h.0
all-among P (x ∷ xs) k (suc i) h e = all-among P xs k i h.1 e

made-below : (n : ℕ) (nodes : List Node) (N : Node → Type 0) (P : Term → Type 0) → Passes nodes N P → (id : ℕ) (ids : List ℕ) → AreNeeded nodes id ids → id < length nodes
    → AllByRecursion (IsAt N nodes) ids → (k : ℕ) → k < n → IsAmong ids k → P (term_at nodes k)
made-below zero nodes N P f id ids h l all k less a = absurd (omega arith)
made-below (suc n) nodes N P f id ids h l all k less a =
    let here : k < length nodes = (let m = h.within k a in omega arith) in
    let node = get_or nodes k (Input 0 0) in
    let e : slice_get nodes k ≡ Some node = slice_get-get_or nodes k (Input 0 0) here in
    subst P (sym (h.arena.made k node e))
    (f node (all-among (IsAt N nodes) ids k a.0 all a.1 node e)
    (both (λ q. q < k) (IsAmong ids) (λ q. P (term_at nodes q)) (λ q s b. made-below n nodes N P f id ids h l all q (omega arith) b) (parts node)
    (recursion_from_All (λ q. q < k) (parts node) (h.arena.below k node e)) (h.parts_ k node a e)))

made-so : (nodes : List Node) (N : Node → Type 0) (P : Term → Type 0) → Passes nodes N P → (id : ℕ) (ids : List ℕ) → AreNeeded nodes id ids → id < length nodes
    → All (IsAt N nodes) ids → P (term_at nodes id)
made-so nodes N P f id ids h l all = made-below (suc id) nodes N P f id ids h l (recursion_from_All (IsAt N nodes) ids all) id (omega arith) h.itself

-- each of the numbers is one of the arena
pub within : (nodes : List Node) (id : ℕ) (ids : List ℕ) (i : ℕ) → AreNeeded nodes id ids → id < length nodes → i < length ids → get_or ids i 0 < length nodes
within nodes id ids i h l m =
    let most : get_or ids i 0 ≤ id = h.within (get_or ids i 0) (i, slice_get-get_or ids i 0 m) in
    omega (arith, most, l)

arg-widths : (f : ℕ → Term) (xs : List ℕ) → arg_widths (args_of f xs) ≡ map (λ a. width (f a)) xs
arg-widths f [] = refl
arg-widths f (a ∷ xs) = ap (λ ws. width (f a) ∷ ws) (arg-widths f xs)

-- ---- tables that fit

args-fit : (tables : Tables) (f : ℕ → Term) (xs : List ℕ) → AllByRecursion (λ p. TablesFit tables (f p)) xs → TablesFitArgs tables (args_of f xs)
args-fit tables f [] h = tt
args-fit tables f (a ∷ xs) h = (h.0, args-fit tables f xs h.1)

fits-made : (tables : Tables) (nodes : List Node) (node : Node) → FitsNode tables (width_at nodes) node → AllByRecursion (λ p. TablesFit tables (term_at nodes p)) (parts node)
    → TablesFit tables (made_of (term_at nodes) node)
fits-made tables nodes (Constant b) n h = tt
fits-made tables nodes (Input i w) n h = tt
fits-made tables nodes (Apply f args w) n h =
    (args-fit tables (term_at nodes) args h, subst (λ ws. CanStand (table_of tables f) ws w) (sym (arg-widths (term_at nodes) args)) n)
fits-made tables nodes (Not a) n h = h.0
fits-made tables nodes (Binary op a b) n h = (h.0, h.1.0)
fits-made tables nodes (Slice a high low) n h = h.0
fits-made tables nodes (Pick c a b) n h = (h.0, h.1.0, h.1.1.0)

pub fits-all : (tables : Tables) (nodes : List Node) (id : ℕ) (ids : List ℕ) → AreNeeded nodes id ids → id < length nodes → All (IsAt (FitsNode tables (width_at nodes)) nodes) ids
    → TablesFit tables (term_at nodes id)
fits-all tables nodes id ids h l all = made-so nodes (FitsNode tables (width_at nodes)) (TablesFit tables) (fits-made tables nodes) id ids h l all

-- ---- environments that cover

args-covered : (env : Env) (f : ℕ → Term) (xs : List ℕ) → AllByRecursion (λ p. Covers env (f p)) xs → CoversArgs env (args_of f xs)
args-covered env f [] h = tt
args-covered env f (a ∷ xs) h = (h.0, args-covered env f xs h.1)

has-table : (env : Env) (f w : ℕ) (ws : List ℕ) (o : Option FunTable) → table_of env.tables f ≡ o → HasFitting o ws w → HasTable env f ws w
has-table env f w ws None e h = absurd h
has-table env f w ws (Some t) e h = (t, e, h.0)

covers-made : (env : Env) (nodes : List Node) (node : Node) → CoversNode env (width_at nodes) node → AllByRecursion (λ p. Covers env (term_at nodes p)) (parts node)
    → Covers env (made_of (term_at nodes) node)
covers-made env nodes (Constant b) n h = tt
covers-made env nodes (Input i w) n h = n
covers-made env nodes (Apply f args w) n h = (
  args-covered env (term_at nodes) args h,
  subst (λ ws. HasTable env f ws w) (sym (arg-widths (term_at nodes) args)) (has-table env f w (map (width_at nodes) args) (table_of env.tables f) refl n),
)
covers-made env nodes (Not a) n h = h.0
covers-made env nodes (Binary op a b) n h = (h.0, h.1.0)
covers-made env nodes (Slice a high low) n h = h.0
covers-made env nodes (Pick c a b) n h = (h.0, h.1.0, h.1.1.0)

pub covers-all : (env : Env) (nodes : List Node) (id : ℕ) (ids : List ℕ) → AreNeeded nodes id ids → id < length nodes → All (IsAt (CoversNode env (width_at nodes)) nodes) ids
    → Covers env (term_at nodes id)
covers-all env nodes id ids h l all = made-so nodes (CoversNode env (width_at nodes)) (Covers env) (covers-made env nodes) id ids h l all
