-- How much there is to follow.
use Rattle.std.proofs.Common.{◌≡◌, ℕ, zero, suc, ◌+◌, ◌<◌, ◌≤◌, List, [], ◌∷◌, map, drop, length, get_or, sym, ap, subst, ◌∙◌, arith}
use Rattle.std.proofs.lemmas.List.{drop_more}
use Rattle.cocoon_num.specs.Tree.{Stmt, if_, fork, Block, no_stmts, stmt}
use Rattle.cocoon_syntax.specs.TreeOf.{block_of}

abbrev mutual
  pub size : Stmt → ℕ
  size (if_ at e a b) = 1 + (size_all a + size_all b)
  size (fork at x w e b) = 1 + size_all b
  size _ = 1

  pub size_all : Block → ℕ
  size_all no_stmts = 0
  size_all (stmt s rest) = size s + size_all rest

-- a statement is no larger than those among which it is
pub one_of : {A : Type 0} (f : A → Stmt) (xs : List A) (i : ℕ) (x : A) → i < length xs → x ≡ get_or xs i x → size (f x) ≤ size_all (block_of (map f xs))
one_of f [] i x l e = absurd (omega arith)
one_of f (y ∷ ys) zero x l e = subst (λ z. size (f z) ≤ size (f y) + size_all (block_of (map f ys))) (sym e) (omega arith)
one_of f (y ∷ ys) (suc i) x l e = let r = one_of f ys i x (omega arith) e in omega arith

-- the statements from one on
pub from_one : {A : Type 0} (f : A → Stmt) (xs : List A) (i : ℕ) (x : A) → i < length xs → x ≡ get_or xs i x → block_of (map f (drop i xs)) ≡ stmt (f x) (block_of (map f (drop (i + 1) xs)))
from_one f xs i x l e = ap (λ ys. block_of (map f ys)) (drop_more xs i x l ∙ ap (λ z. z ∷ drop (i + 1) xs) (sym e))
