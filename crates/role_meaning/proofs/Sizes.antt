-- How much there is to run.
use Rattle.std.proofs.Common.{◌≡◌, ℕ, zero, suc, ◌+◌, ◌<◌, ◌≤◌, Bool, true, false, Option, Some, None, List, [], ◌∷◌, map, length, get_or, sym, subst, arith}
use Rattle.std.proofs.lemmas.Option.{same_Some}
use Rattle.cocoon_num.specs.Tree.{Stmt, if_, fork, Block, no_stmts, stmt}
use Rattle.cocoon_syntax.specs.TreeOf.{block_of}
use Rattle.role_meaning.specs.Progresses.{picked}

abbrev mutual
  pub size : Stmt → ℕ
  size (if_ at e a b) = 1 + (size_all a + size_all b)
  size (fork at x w e b) = 1 + size_all b
  size _ = 1

  pub size_all : Block → ℕ
  size_all no_stmts = 0
  size_all (stmt s rest) = size s + size_all rest

-- a statement is no larger than those among which it is
pub one_of : {A : Type 0} (f : A → Stmt) (xs : List A) (i : ℕ) (x : A) → i < length xs → x ≡ get_or xs i x → size (f x) ≤ size_all (block_of (map f xs))
one_of f [] i x l e = absurd (omega arith)
one_of f (y ∷ ys) zero x l e = subst (λ z. size (f z) ≤ size (f y) + size_all (block_of (map f ys))) (sym e) (omega arith)
one_of f (y ∷ ys) (suc i) x l e = let r = one_of f ys i x (omega arith) e in omega arith

-- the block that is picked is no larger than both
pub picked_size : (v : Option Bool) (first second b : Block) → picked v first second ≡ Some b → size_all b ≤ size_all first + size_all second
picked_size None first second b h = absurd (cc)
picked_size (Some true) first second b h = subst (λ c. size_all c ≤ size_all first + size_all second) (same_Some first b h) (omega arith)
picked_size (Some false) first second b h = subst (λ c. size_all c ≤ size_all first + size_all second) (same_Some second b h) (omega arith)
