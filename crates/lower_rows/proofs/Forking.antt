-- The functions of forks, one by one.
use Rattle.std.proofs.Common.{◌≡◌, ℕ, ◌||◌, Bool, true, false, List, [], ◌∷◌, refl, ap, ◌∙◌}
use Rattle.std.proofs.lemmas.List.Folds.{list_any-append}
use Rattle.cocoon_num.specs.Lists.{is_one_of}
use Rattle.cocoon_num.specs.Names.{same_name}
use Rattle.cocoon_num.specs.Tree.{Block, Expr, Name, Stmt, fork, stmt}
use Rattle.cocoon_types.specs.LastLevel.{called}
use Rattle.runtime_defs.specs.Sets.{forks_in, forks_of}

or-turn : (a b : Bool) → (a || b) ≡ (b || a)
or-turn true true = refl
or-turn true false = refl
or-turn false true = refl
or-turn false false = refl

or-none : (a : Bool) → (a || false) ≡ a
or-none true = refl
or-none false = refl

-- one statement, and those after it
pub forks-cons : (s : Stmt) (b : Block) (x : List ℕ) → is_one_of (forks_in (stmt s b)) x ≡ (is_one_of (forks_of s) x || is_one_of (forks_in b) x)
forks-cons s b x = list_any-append (λ y. same_name y x) (forks_in b) (forks_of s) ∙ or-turn (is_one_of (forks_in b) x) (is_one_of (forks_of s) x)

-- a fork, and those in its block
pub fork-cons : (at : ℕ) (y : Name) (w : ℕ) (e : Expr) (b : Block) (x : List ℕ) → is_one_of (forks_of (fork at y w e b)) x ≡ (same_name (called e) x || is_one_of (forks_in b) x)
fork-cons at y w e b x =
    list_any-append (λ z. same_name z x) (forks_in b) (called e ∷ []) ∙ or-turn (is_one_of (forks_in b) x) (same_name (called e) x || false)
    ∙ ap (λ a. a || is_one_of (forks_in b) x) (or-none (same_name (called e) x))
