-- The number of the next input only grows.
use Rattle.std.proofs.Common.{inl, inr, ℕ, zero, suc, ◌≤◌, Bool, true, false, List, [], ◌∷◌, Option, Some, None, if◌then◌else◌, sym, subst, arith}
use Rattle.cocoon_num.specs.Tree.{Role, Stmt, let_, set_field, if_, filter, havoc_var, havoc_field, assume, fork, send, Block, no_stmts, stmt}
use Rattle.sound_types.proofs.Members.{In, in_left, in_right}
use Rattle.obligation_laws.specs.States.{Place, State, TermWorld, where_true}
use Rattle.obligation_laws.specs.Leaves.{at_new, entered, follow_body, hops, onward}
use Rattle.obligation_laws.specs.Following.{Followed, chosen_as, each, follow, follow_all, in_branch, next_input, one, term_at, those_sent, unless_sent}

abbrev pub Grows : (State → ℕ → Followed) → Type 0
Grows f = (s : State) (n : ℕ) → n ≤ (f s n).1

pub each_grows : (f : State → ℕ → Followed) → Grows f → (ss : List State) (n : ℕ) → n ≤ (each f ss n).1
each_grows f g [] n = omega arith
each_grows f g (s ∷ ss) n = let l = g s n in let k = each_grows f g ss (f s n).1 in omega (arith, l, k)

unless_grows : (f : State → ℕ → Followed) → Grows f → Grows (unless_sent f)
unless_grows f g s n = by s.sent
  where
    by : (o : Option Place) → n ≤ (elim o as (λ x. Followed) [ None ↦ f s n | Some at ↦ one s n ]).1
    by None = g s n
    by (Some at) = omega arith

mutual
  pub stmt_grows : (w : TermWorld) (x : Stmt) → Grows (follow w x)
  stmt_grows w (let_ at x width e) s n = omega arith
  stmt_grows w (set_field at h f e) s n = omega arith
  stmt_grows w (if_ at e first second) s n =
      let a = follow_all w first (one (in_branch true (term_at w s e) s) n) in
      let l = block_grows w first (in_branch true (term_at w s e) s ∷ []) n in
      let k = block_grows w second (in_branch false (term_at w s e) s ∷ []) a.1 in
      omega (arith, l, k)
  stmt_grows w (filter at e) s n = omega arith
  stmt_grows w (havoc_var at x width) s n = omega arith
  stmt_grows w (havoc_field at h f) s n = omega arith
  stmt_grows w (assume at e) s n = omega arith
  stmt_grows w (fork at x width e body) s n =
      let chosen = chosen_as x.text (next_input n width) s in
      let l = block_grows w body (where_true (term_at w chosen e) chosen ∷ []) (suc n) in
      omega (arith, l)
  stmt_grows w (send at r es) s n = omega arith

  pub block_grows : (w : TermWorld) (b : Block) (ss : List State) (n : ℕ) → n ≤ (follow_all w b (ss, n)).1
  block_grows w no_stmts ss n = omega arith
  block_grows w (stmt x rest) ss n =
      let mids = each (unless_sent (follow w x)) ss n in
      let l = each_grows (unless_sent (follow w x)) (unless_grows (follow w x) (stmt_grows w x)) ss n in
      let k = block_grows w rest mids.0 mids.1 in
      omega (arith, l, k)

pub followed_grows : (w : TermWorld) (x : Stmt) → Grows (unless_sent (follow w x))
followed_grows w x = unless_grows (follow w x) (stmt_grows w x)

-- ---- where the states of a list are followed

pub record Place_of (f : State → ℕ → Followed) (s : State) (ss : List State) (n : ℕ) : Type 0 where
  pub from : ℕ
  pub first : n ≤ from
  pub last : (f s from).1 ≤ (each f ss n).1
  pub within : (t : State) → In t (f s from).0 → In t (each f ss n).0

pub place_in : (f : State → ℕ → Followed) → Grows f → (s : State) (ss : List State) → In s ss → (n : ℕ) → Place_of f s ss n
place_in f g s [] i n = absurd i
place_in f g s (z ∷ ss) i n = elim i [
  | inl same ↦ subst (λ y. Place_of f y (z ∷ ss) n) (sym same) (record { from = n; first = omega arith; last = each_grows f g ss (f z n).1; within = λ t j. in_left t (f z n).0 (each f ss (f z n).1).0 j })
  | inr k ↦
      let p = place_in f g s ss k (f z n).1 in
      record { from = p.from; first = (let l = g z n in let q = p.first in omega (arith, l, q)); last = p.last; within = λ t j. in_right t (f z n).0 (each f ss (f z n).1).0 (p.within t j) }
]

-- ---- bodies

pub body_grows : (w : TermWorld) (at : Place) → Grows (follow_body w at)
body_grows w at s n = by_role (w.role at.role)
  where
    by_body : (r : Role) (o : Option Block) → n ≤ (elim o as (λ x. Followed) [ None ↦ ([], n) | Some b ↦ those_sent (follow_all w b (one (entered r at s) n)) ]).1
    by_body r None = omega arith
    by_body r (Some b) = block_grows w b (entered r at s ∷ []) n

    by_role : (o : Option Role) → n ≤ (elim o as (λ x. Followed) [ None ↦ ([], n) | Some r ↦ elim r.body [ None ↦ ([], n) | Some b ↦ those_sent (follow_all w b (one (entered r at s) n)) ] ]).1
    by_role None = omega arith
    by_role (Some r) = by_body r r.body

onward_grows : (new : List ℕ → Bool) (f : State → ℕ → Followed) → Grows f → Grows (onward new f)
onward_grows new f g s n = by (at_new new s)
  where
    by : (b : Bool) → n ≤ (if b then f s n else one s n).1
    by true = g s n
    by false = omega arith

pub hops_grow : (w : TermWorld) (new : List ℕ → Bool) (k : ℕ) → Grows (hops w new k)
hops_grow w new zero s n = omega arith
hops_grow w new (suc k) s n = by s.sent (each_grows (onward new (hops w new k)) (onward_grows new (hops w new k) (hops_grow w new k)))
  where
    by : (o : Option Place) → ((ss : List State) (n : ℕ) → n ≤ (each (onward new (hops w new k)) ss n).1)
        → n ≤ (elim o as (λ x. Followed) [ None ↦ ([], n) | Some at ↦ each (onward new (hops w new k)) (follow_body w at s n).0 (follow_body w at s n).1 ]).1
    by None more = omega arith
    by (Some at) more = let l = body_grows w at s n in let k = more (follow_body w at s n).0 (follow_body w at s n).1 in omega (arith, l, k)

pub hop_grows : (w : TermWorld) (new : List ℕ → Bool) (k : ℕ) → Grows (onward new (hops w new k))
hop_grows w new k = onward_grows new (hops w new k) (hops_grow w new k)
