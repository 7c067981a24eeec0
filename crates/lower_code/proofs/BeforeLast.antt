-- All but the last.
use Rattle.std.proofs.Common.{◌≡◌, List, [], ◌∷◌, ◌++◌, map, take, refl, ap}
use Rattle.cocoon_num.specs.Tree.{Expr, Param, expr}
use Rattle.cocoon_syntax.specs.TreeOf.{exprs_of}
use Rattle.p4_ir.specs.P4Tree.{P4Expr}
use Rattle.lowering.specs.Lower.{before_last_from, params_before_last}
use Rattle.lowering.specs.LowerBlock.{exprs_before_last, before_last_after, second_of}

from_back : {A : Type 0} (f : A → Param) (p : A) (xs : List A) (x : A) → f p ∷ map f xs ≡ before_last_from (f p) (map f (xs ++ x ∷ []))
from_back f p [] x = refl
from_back f p (y ∷ xs) x = ap (λ ps. f p ∷ ps) (from_back f y xs x)

pub params_back : {A : Type 0} (f : A → Param) (xs : List A) (x : A) → map f xs ≡ params_before_last (map f (xs ++ x ∷ []))
params_back f [] x = refl
params_back f (y ∷ xs) x = from_back f y xs x

exprs_from_back : {A : Type 0} (f : A → Expr) (p : A) (xs : List A) (x : A) → expr (f p) (exprs_of (map f xs)) ≡ before_last_after (f p) (exprs_of (map f (xs ++ x ∷ [])))
exprs_from_back f p [] x = refl
exprs_from_back f p (y ∷ xs) x = ap (λ es. expr (f p) es) (exprs_from_back f y xs x)

pub exprs_back : {A : Type 0} (f : A → Expr) (xs : List A) (x : A) → exprs_of (map f xs) ≡ exprs_before_last (exprs_of (map f (xs ++ x ∷ [])))
exprs_back f [] x = refl
exprs_back f (y ∷ xs) x = exprs_from_back f y xs x

-- ---- the last of two

never_empty : {A : Type 0} (xs : List A) (x : A) → [] ≡ xs ++ x ∷ [] → ⊥
never_empty [] x h = cc
never_empty (y ∷ xs) x h = cc

pub last_of_two : {A : Type 0} (f : A → P4Expr) (xs rest : List A) (x : A) → take 2 xs ≡ rest ++ x ∷ [] → second_of (map f xs) ≡ f x
last_of_two f [] rest x h = absurd (never_empty rest x h)
last_of_two f (a ∷ []) [] x h = let e : a ≡ x = cc in ap f e
last_of_two f (a ∷ []) (r ∷ rs) x h = let e : [] ≡ rs ++ x ∷ [] = cc in absurd (never_empty rs x e)
last_of_two f (a ∷ b ∷ more) [] x h = absurd (cc)
last_of_two f (a ∷ b ∷ more) (r ∷ []) x h = let e : b ≡ x = cc in ap f e
last_of_two f (a ∷ b ∷ more) (r ∷ q ∷ rs) x h = let e : [] ≡ rs ++ x ∷ [] = cc in absurd (never_empty rs x e)
