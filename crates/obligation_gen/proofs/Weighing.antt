-- The leaves behind the ways of a body that send are those behind the ends of its ways.
use Rattle.std.proofs.Common.{◌≡◌, ℕ, ◌+◌, List, [], ◌∷◌, ◌++◌, map, Some, None, refl, sym, ap, ◌∙◌, arith}
use Rattle.std.specs.Prelude.{filter_map, flat_map}
use Rattle.cocoon_num.specs.Tree.{Stmt, let_, set_field, if_, filter, havoc_var, havoc_field, assume, fork, send, Block, no_stmts, stmt}
use Rattle.cocoon_types.specs.Limits.{Ways, either, followed_by, one_going, reported}
use Rattle.obligation_laws.specs.Counts.{WayEnd, ends, ends_in, sum_of, those_ended, unless_ended}
use Rattle.obligation_gen.specs.Weighed.{sent_only, weighed, weighed_in}
use Rattle.obligation_gen.proofs.Saturation.{sum_left, sum_right}

module _ (f : List ℕ → ℕ) where
  -- the ends of ways, weighed
  abbrev of_end : WayEnd → Ways
  of_end None = one_going
  of_end (Some r) = record { ended = f r; going = 0 }

  abbrev of_ends : List WayEnd → Ways
  of_ends [] = record { ended = 0; going = 0 }
  of_ends (e ∷ es) = either (of_end e) (of_ends es)

  same : (a b c d : ℕ) → a ≡ b → c ≡ d → ◌≡◌ {A = Ways} (record { ended = a; going = c }) (record { ended = b; going = d })
  same a b c d h k = λ i. record { ended = h i; going = k i }

  joined : (xs ys : List WayEnd) → of_ends (xs ++ ys) ≡ either (of_ends xs) (of_ends ys)
  joined [] ys = same _ _ _ _ (grind arith) (grind arith)
  joined (x ∷ xs) ys = ap (either (of_end x)) (joined xs ys) ∙ same _ _ _ _ (grind arith) (grind arith)

  followed : (more : List WayEnd) (xs : List WayEnd) → of_ends (flat_map (unless_ended more) xs) ≡ followed_by (of_ends xs) (of_ends more)
  followed more [] = same _ _ _ _ (grind arith) (grind arith)
  followed more (None ∷ xs) = joined more (flat_map (unless_ended more) xs) ∙ ap (either (of_ends more)) (followed more xs) ∙ same _ _ _ _ (grind arith) (grind arith)
  followed more (Some r ∷ xs) = ap (either (of_end (Some r))) (followed more xs) ∙ same _ _ _ _ (grind arith) (grind arith)

  only_sent : (xs : List WayEnd) → of_ends (those_ended xs) ≡ sent_only (of_ends xs)
  only_sent xs = followed [] xs ∙ same _ _ _ _ (grind arith) (grind arith)

  one : (a : Ways) → either a (record { ended = 0; going = 0 }) ≡ a
  one a = same _ _ _ _ (grind arith) (grind arith)

  mutual
    stmt_ends : (x : Stmt) → of_ends (ends x) ≡ weighed f x
    stmt_ends (let_ at x w e) = one one_going
    stmt_ends (set_field at h g e) = one one_going
    stmt_ends (if_ at e a b) = joined (ends_in a) (ends_in b) ∙ (λ i. either (block_ends a i) (block_ends b i))
    stmt_ends (filter at e) = one one_going
    stmt_ends (havoc_var at x w) = one one_going
    stmt_ends (havoc_field at h g) = one one_going
    stmt_ends (assume at e) = one one_going
    stmt_ends (fork at x w e b) = only_sent (ends_in b) ∙ ap sent_only (block_ends b)
    stmt_ends (send at r es) = one (of_end (Some r.text))

    block_ends : (b : Block) → of_ends (ends_in b) ≡ weighed_in f b
    block_ends no_stmts = one one_going
    block_ends (stmt x rest) = followed (ends_in rest) (ends x) ∙ (λ i. followed_by (stmt_ends x i) (block_ends rest i))

  roles_weigh : (es : List WayEnd) → (of_ends es).ended ≡ sum_of (map f (filter_map (λ e. e) es))
  roles_weigh [] = refl
  roles_weigh (None ∷ es) = (grind arith) ∙ roles_weigh es
  roles_weigh (Some r ∷ es) = ap (λ n. f r + n) (roles_weigh es)

  pub body_weighs : (b : Block) → (weighed_in f b).ended ≡ sum_of (map f (filter_map (λ e. e) (ends_in b)))
  body_weighs b = sym (ap (λ (w : Ways). w.ended) (block_ends b)) ∙ roles_weigh (ends_in b)

-- it is enough to stop at the end
pub sum_reported : (f g : List ℕ → ℕ) → ((r : List ℕ) → f r ≡ reported (g r)) → (rs : List (List ℕ)) → reported (sum_of (map f rs)) ≡ reported (sum_of (map g rs))
sum_reported f g h [] = refl
sum_reported f g h (r ∷ rs) =
    ap (λ n. reported (n + sum_of (map f rs))) (h r) ∙ sum_left (g r) (sum_of (map f rs)) ∙ sym (sum_right (g r) (sum_of (map f rs)))
    ∙ ap (λ n. reported (g r + n)) (sum_reported f g h rs) ∙ sum_right (g r) (sum_of (map g rs))
