-- Names among those of guards and of forks.
use Rattle.std.proofs.Common.{◌≡◌, ℕ, zero, suc, ◌+◌, ◌<◌, ◌||◌, Bool, true, false, List, [], ◌∷◌, ◌++◌, drop, get_or, length, map, refl, sym, ap, ◌∙◌, arith}
use Rattle.std.proofs.lemmas.List.Folds.{list_any-append}
use Rattle.cocoon_num.specs.Tree.{Block, Design, Expr, Name, Stmt, fork, stmt}
use Rattle.cocoon_num.specs.Lists.{is_one_of}
use Rattle.cocoon_num.specs.Names.{same_name}
use Rattle.cocoon_syntax.specs.TreeOf.{block_of, stmt_of}
use Rattle.cocoon_syntax.specs.declared.stmt.Stmt.{Stmt as Statement}
use Rattle.cocoon_types.specs.DefsRules.{fork_calls, guard_calls}
use Rattle.cocoon_types.specs.LastLevel.{called}
use Rattle.runtime_defs.specs.Printable.{literal_functions}
use Rattle.runtime_defs.specs.Sets.{entry_role, forks_in, forks_of, role_guard, switch_forks, switch_guards}
use Rattle.runtime_defs.proofs.Calls.{either-order, forks-alike, guards-alike}

or-false : (b : Bool) → (b || false) ≡ b
or-false true = refl
or-false false = refl

pub only : (f x : List ℕ) → is_one_of (f ∷ []) x ≡ same_name f x
only f x = or-false (same_name f x)

pub either : (fs gs : List (List ℕ)) (x : List ℕ) → is_one_of (fs ++ gs) x ≡ (is_one_of fs x || is_one_of gs x)
either fs gs x = list_any-append (λ y. same_name y x) fs gs

pub block_step : (a : Stmt) (rest : Block) (x : List ℕ) → is_one_of (forks_in (stmt a rest)) x ≡ (is_one_of (forks_of a) x || is_one_of (forks_in rest) x)
block_step a rest x = either-order (forks_in rest) (forks_of a) x ∙ either (forks_of a) (forks_in rest) x

pub if_step : (a b : Block) (x : List ℕ) → is_one_of (forks_in b ++ forks_in a) x ≡ (is_one_of (forks_in a) x || is_one_of (forks_in b) x)
if_step a b x = either-order (forks_in b) (forks_in a) x ∙ either (forks_in a) (forks_in b) x

-- a fork whose condition calls this function
pub fork_case : (at : ℕ) (x : Name) (w : ℕ) (e : Expr) (b : Block) (f y : List ℕ) → f ≡ called e → is_one_of (forks_of (fork at x w e b)) y ≡ (same_name f y || is_one_of (forks_in b) y)
fork_case at x w e b f y h = either-order (forks_in b) (called e ∷ []) y ∙ ap (λ g. same_name g y || is_one_of (forks_in b) y) (sym h)

-- the statements from one on
pub rest-step : (ss : List Statement) (i : ℕ) (a : Statement) (f : List ℕ) → i < length ss → a ≡ get_or ss i a → is_one_of (forks_of (stmt_of a)) f ≡ false
    → is_one_of (forks_in (block_of (map stmt_of (drop (i + 1) ss)))) f ≡ is_one_of (forks_in (block_of (map stmt_of (drop i ss)))) f
rest-step [] i a f l e h = absurd (omega (arith, l))
rest-step (s ∷ ss) zero a f l e h =
    sym (block_step (stmt_of s) (block_of (map stmt_of ss)) f ∙ ap (λ b. b || is_one_of (forks_in (block_of (map stmt_of ss))) f) (ap (λ t. is_one_of (forks_of (stmt_of t)) f) (sym e) ∙ h))
rest-step (s ∷ ss) (suc i) a f l e h =
    let next : suc i + 1 ≡ suc (i + 1) = omega arith in
    ap (λ n. is_one_of (forks_in (block_of (map stmt_of (drop n (s ∷ ss))))) f) next ∙ rest-step ss i a f (omega (arith, l)) e h

pub guard_parts : (d : Design) (x : List ℕ) → is_one_of (guard_calls d) x ≡ (is_one_of (switch_guards d) x || is_one_of (role_guard (entry_role d)) x)
guard_parts d x = sym (guards-alike d x) ∙ either (switch_guards d) (role_guard (entry_role d)) x

pub literal_parts : (d : Design) (x : List ℕ) → is_one_of (literal_functions d) x ≡ (is_one_of (guard_calls d) x || is_one_of (switch_forks d) x)
literal_parts d x = either (guard_calls d) (fork_calls d) x ∙ ap (λ b. is_one_of (guard_calls d) x || b) (sym (forks-alike d x))

-- a test that is one of two
pub one-true : (whole a b : Bool) (r : Bool) → whole ≡ (a || b) → r ≡ a → r ≡ true → r ≡ whole
one-true whole a b r w e t = t ∙ sym (w ∙ ap (λ x. x || b) (sym e ∙ t))

pub one-false : (whole a b : Bool) (r s : Bool) → whole ≡ (a || b) → r ≡ a → r ≡ false → s ≡ b → s ≡ whole
one-false whole a b r s w e f g = g ∙ sym (w ∙ ap (λ x. x || b) (sym e ∙ f))
