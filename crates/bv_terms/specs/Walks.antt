-- Equal terms, and the order in which a walk leaves terms. It follows the section "Clauses" of
-- docs/CLAUSES.md. Cited by the clauses of the crates that walk over terms, and by the law on equal
-- terms.
use Rattle.std.specs.Prelude.{◌≡◌, ℕ, ◌<◌, ◌==◌, ◌&&◌, Bool, true, false, List, [], ◌∷◌, ◌++◌, All, map, length, filter, if◌then◌else◌}
use Rattle.std.specs.List.{list_any}
use Rattle.bv_terms.specs.declared.node.Node.{Node}
use Rattle.bv_terms.specs.TermTrees.{Term, Args, constant, input, apply, not_, binary, slice, pick, no_args, arg, op_number}
use Rattle.bv_terms.specs.Arenas.{term_at}

-- ---- equal terms: equal by structure, inputs by their numbers

abbrev mutual
  pub same_term : Term → Term → Bool
  same_term (constant v m) (constant w n) = v == w && m == n
  same_term (input i v) (input j w) = i == j && v == w
  same_term (apply f ts v) (apply g us w) = f == g && same_args ts us && v == w
  same_term (not_ a) (not_ b) = same_term a b
  same_term (binary op a b) (binary op' a' b') =
      op_number op == op_number op' && same_term a a' && same_term b b'
  same_term (slice a high low) (slice b high' low') = same_term a b && high == high' && low == low'
  same_term (pick c a b) (pick c' a' b') = same_term c c' && same_term a a' && same_term b b'
  same_term t u = false

  pub same_args : Args → Args → Bool
  same_args no_args no_args = true
  same_args (arg t ts) (arg u us) = same_term t u && same_args ts us
  same_args ts us = false

abbrev pub is_among : List Term → Term → Bool
is_among ts t = list_any (λ u. same_term u t) ts

-- ---- the walk

-- a term is numbered when it is left for the first time
abbrev pub leave : Term → List Term → List Term
leave t seen = if is_among seen t then seen else seen ++ t ∷ []

abbrev mutual
  -- the distinct terms in the order in which they are left, after those that were seen: a term's
  -- arguments first, from left to right
  pub walk : Term → List Term → List Term
  walk (constant w n) seen = leave (constant w n) seen
  walk (input i w) seen = leave (input i w) seen
  walk (apply f args w) seen = leave (apply f args w) (walk_args args seen)
  walk (not_ a) seen = leave (not_ a) (walk a seen)
  walk (binary op a b) seen = leave (binary op a b) (walk b (walk a seen))
  walk (slice a high low) seen = leave (slice a high low) (walk a seen)
  walk (pick c a b) seen = leave (pick c a b) (walk b (walk a (walk c seen)))

  pub walk_args : Args → List Term → List Term
  walk_args no_args seen = seen
  walk_args (arg t ts) seen = walk_args ts (walk t seen)

abbrev pub is_application : Term → Bool
is_application (apply f args w) = true
is_application t = false

-- the distinct applications that a term is made of, in the walk's order
abbrev pub applications : Term → List Term
applications t = filter is_application (walk t [])

-- the numbers of these terms in an arena, in which a term has one number
pub record AreNumbersOf (nodes : List Node) (ts : List Term) (ids : List ℕ) : Type 0 where
  pub there : All (λ k. k < length nodes) ids
  pub terms : map (term_at nodes) ids ≡ ts
