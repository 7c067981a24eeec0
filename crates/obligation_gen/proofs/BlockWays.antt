-- The ways through a block, statement by statement from its beginning, with numbers that stop at the last of 64 bits.
use Rattle.std.specs.Prelude.{◌≡◌, ℕ, ◌+◌, ◌*◌, ◌<◌, List, [], ◌∷◌, ◌++◌, length, map, take, get_or}
use Rattle.std.proofs.Common.{sym, ◌∙◌, ap, arith}
use Rattle.cocoon_num.specs.Tree.{Stmt}
use Rattle.cocoon_syntax.specs.TreeOf.{block_of, stmt_of}
use Rattle.cocoon_syntax.specs.declared.stmt.Stmt.{Stmt as CodeStmt}
use Rattle.cocoon_types.specs.Limits.{Ways, either, followed_by, reported}
use Rattle.obligation_gen.specs.declared.ways.Ways.{Ways as Counted}
use Rattle.obligation_gen.specs.Weighed.{reported_ways, ways_of, weighed, weighed_in}
use Rattle.obligation_gen.proofs.Saturation.{sum_left, sum_right, product_left, product_right}
use Rattle.cocoon_resolve.proofs.Steps.{taken_more}

abbrev pair_of : ℕ → ℕ → Ways
pair_of e g = record { ended = e; going = g }

abbrev counted_of : ℕ → ℕ → Counted
counted_of e g = record { ended = e; going = g }

same_pair : (a b c d : ℕ) → a ≡ b → c ≡ d → pair_of a c ≡ pair_of b d
same_pair a b c d h k = ap (λ e. pair_of e c) h ∙ ap (λ g. pair_of b g) k

same_counted : (a b c d : ℕ) → a ≡ b → c ≡ d → counted_of a c ≡ counted_of b d
same_counted a b c d h k = ap (λ e. counted_of e c) h ∙ ap (λ g. counted_of b g) k

-- what follows what follows
regrouped : (a b c : Ways) → followed_by a (followed_by b c) ≡ followed_by (followed_by a b) c
regrouped a b c = same_pair _ _ _ _ (grind arith) (grind arith)

-- one more statement
one_more : (f : List ℕ → ℕ) (xs : List Stmt) (s : Stmt) → weighed_in f (block_of (xs ++ (s ∷ []))) ≡ followed_by (weighed_in f (block_of xs)) (weighed f s)
one_more f [] s = same_pair _ _ _ _ (grind arith) (grind arith)
one_more f (x ∷ xs) s = ap (followed_by (weighed f x)) (one_more f xs s) ∙ regrouped (weighed f x) (weighed_in f (block_of xs)) (weighed f s)

pub then_reported : (a b : Ways) → reported_ways (followed_by (ways_of (reported_ways a)) (ways_of (reported_ways b))) ≡ reported_ways (followed_by a b)
then_reported a b = same_counted _ _ _ _
    (sum_left a.ended (reported a.going * reported b.ended)
    ∙ sym (sum_right a.ended (reported a.going * reported b.ended))
    ∙ ap (λ x. reported (a.ended + x)) (product_left a.going (reported b.ended) ∙ product_right a.going b.ended)
    ∙ sum_right a.ended (a.going * b.ended))
    (product_left a.going (reported b.going) ∙ product_right a.going b.going)

pub either_reported : (a b : Ways) → reported_ways (either (ways_of (reported_ways a)) (ways_of (reported_ways b))) ≡ reported_ways (either a b)
either_reported a b = same_counted _ _ _ _
    (sum_left a.ended (reported b.ended) ∙ sum_right a.ended b.ended)
    (sum_left a.going (reported b.going) ∙ sum_right a.going b.going)

pub more_reported : (f : List ℕ → ℕ) (xs : List Stmt) (s : Stmt) → reported_ways (followed_by (ways_of (reported_ways (weighed_in f (block_of xs)))) (ways_of (reported_ways (weighed f s)))) ≡ reported_ways (weighed_in f (block_of (xs ++ (s ∷ []))))
more_reported f xs s = then_reported (weighed_in f (block_of xs)) (weighed f s) ∙ ap reported_ways (sym (one_more f xs s))

pub block_more : (f : List ℕ → ℕ) (xs : List CodeStmt) (i : ℕ) (s : CodeStmt) (a b r : Counted) → i < length xs → s ≡ get_or xs i s
    → a ≡ reported_ways (weighed_in f (block_of (map stmt_of (take i xs)))) → b ≡ reported_ways (weighed f (stmt_of s)) → r ≡ reported_ways (followed_by (ways_of a) (ways_of b))
    → r ≡ reported_ways (weighed_in f (block_of (map stmt_of (take (i + 1) xs))))
block_more f xs i s a b r lt e p q t =
    t ∙ ap (λ x. reported_ways (followed_by (ways_of x) (ways_of b))) p ∙ ap (λ x. reported_ways (followed_by (ways_of (reported_ways (weighed_in f (block_of (map stmt_of (take i xs)))))) (ways_of x))) q
    ∙ more_reported f (map stmt_of (take i xs)) (stmt_of s) ∙ ap (λ ys. reported_ways (weighed_in f (block_of ys))) (sym (taken_more stmt_of xs i s lt e))
