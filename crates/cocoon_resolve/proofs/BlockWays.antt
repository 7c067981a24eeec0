-- The ways through a block, statement by statement from its beginning, with numbers that stop at the last of 64 bits.
use Rattle.std.specs.Prelude.{◌≡◌, ℕ, ◌+◌, ◌*◌, ◌<◌, List, [], ◌∷◌, ◌++◌, length, map, take, get_or, refl}
use Rattle.std.proofs.Common.{sym, ◌∙◌, ap, arith}
use Rattle.cocoon_num.specs.Tree.{Stmt}
use Rattle.cocoon_syntax.specs.TreeOf.{block_of, stmt_of}
use Rattle.cocoon_syntax.specs.declared.stmt.Stmt.{Stmt as CodeStmt}
use Rattle.cocoon_types.specs.Limits.{Ways, ways, ways_in, either, followed_by, all_end, reported}
use Rattle.cocoon_resolve.specs.declared.ways.Ways.{Ways as Counted}
use Rattle.cocoon_resolve.specs.Saturated.{reported_ways, ways_of}
use Rattle.cocoon_resolve.proofs.Saturation.{sum_left, sum_right, product_left, product_right}
use Rattle.cocoon_resolve.proofs.Steps.{taken_more}

abbrev pair_of : ℕ → ℕ → Ways
pair_of e g = record { ended = e; going = g }

abbrev counted_of : ℕ → ℕ → Counted
counted_of e g = record { ended = e; going = g }

same_pair : (a b c d : ℕ) → a ≡ b → c ≡ d → pair_of a c ≡ pair_of b d
same_pair a b c d h k = ap (λ e. pair_of e c) h ∙ ap (λ g. pair_of b g) k

same_counted : (a b c d : ℕ) → a ≡ b → c ≡ d → counted_of a c ≡ counted_of b d
same_counted a b c d h k = ap (λ e. counted_of e c) h ∙ ap (λ g. counted_of b g) k

-- what follows what follows
regrouped : (a b c : Ways) → followed_by a (followed_by b c) ≡ followed_by (followed_by a b) c
regrouped a b c = same_pair _ _ _ _ (grind arith) (grind arith)

-- one more statement
one_more : (xs : List Stmt) (s : Stmt) → ways_in (block_of (xs ++ (s ∷ []))) ≡ followed_by (ways_in (block_of xs)) (ways s)
one_more [] s = same_pair _ _ _ _ (grind arith) (grind arith)
one_more (x ∷ xs) s = ap (followed_by (ways x)) (one_more xs s) ∙ regrouped (ways x) (ways_in (block_of xs)) (ways s)

pub then_reported : (a b : Ways) → reported_ways (followed_by (ways_of (reported_ways a)) (ways_of (reported_ways b))) ≡ reported_ways (followed_by a b)
then_reported a b = same_counted _ _ _ _
    (sum_left a.ended (reported a.going * reported b.ended)
    ∙ sym (sum_right a.ended (reported a.going * reported b.ended))
    ∙ ap (λ x. reported (a.ended + x)) (product_left a.going (reported b.ended) ∙ product_right a.going b.ended)
    ∙ sum_right a.ended (a.going * b.ended))
    (product_left a.going (reported b.going) ∙ product_right a.going b.going)

pub either_reported : (a b : Ways) → reported_ways (either (ways_of (reported_ways a)) (ways_of (reported_ways b))) ≡ reported_ways (either a b)
either_reported a b = same_counted _ _ _ _
    (sum_left a.ended (reported b.ended) ∙ sum_right a.ended b.ended)
    (sum_left a.going (reported b.going) ∙ sum_right a.going b.going)

pub end_reported : (a : Ways) → reported_ways (all_end (ways_of (reported_ways a))) ≡ reported_ways (all_end a)
end_reported a = same_counted _ _ _ _ (sum_left a.ended (reported a.going) ∙ sum_right a.ended a.going) refl

pub more_reported : (xs : List Stmt) (s : Stmt) → reported_ways (followed_by (ways_of (reported_ways (ways_in (block_of xs)))) (ways_of (reported_ways (ways s)))) ≡ reported_ways (ways_in (block_of (xs ++ (s ∷ []))))
more_reported xs s = then_reported (ways_in (block_of xs)) (ways s) ∙ ap reported_ways (sym (one_more xs s))

pub block_more : (xs : List CodeStmt) (i : ℕ) (s : CodeStmt) (a b r : Counted) → i < length xs → s ≡ get_or xs i s
    → a ≡ reported_ways (ways_in (block_of (map stmt_of (take i xs)))) → b ≡ reported_ways (ways (stmt_of s)) → r ≡ reported_ways (followed_by (ways_of a) (ways_of b))
    → r ≡ reported_ways (ways_in (block_of (map stmt_of (take (i + 1) xs))))
block_more xs i s a b r lt e p q t =
    t ∙ ap (λ x. reported_ways (followed_by (ways_of x) (ways_of b))) p ∙ ap (λ x. reported_ways (followed_by (ways_of (reported_ways (ways_in (block_of (map stmt_of (take i xs)))))) (ways_of x))) q
    ∙ more_reported (map stmt_of (take i xs)) (stmt_of s) ∙ ap (λ ys. reported_ways (ways_in (block_of ys))) (sym (taken_more stmt_of xs i s lt e))
