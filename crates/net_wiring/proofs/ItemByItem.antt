-- Lists compared item by item, by what each item stands for.
use Rattle.std.proofs.Common.{◌≡◌, ◌≢◌, ◌<◌, ◌+◌, ◌==◌, ℕ, zero, suc, List, [], ◌∷◌, map, take, length, get_or, Option, IfSome, refl, sym, ap, ap₂, ◌∙◌, subst, arith, rules}
use Rattle.std.specs.Prelude.{slice_get}
use Rattle.p4_ir.specs.NetFits.{switch_numbers}
use Rattle.p4_ir.specs.NetOf.{switch_of}
use Rattle.p4_ir.specs.P4Tree.{p_done}
use Rattle.p4_ir.specs.Program.{block_of, program_of, stmt_of}
use Rattle.p4_ir.specs.declared.network.SwitchFiles.{SwitchFiles}
use Rattle.p4_ir.specs.declared.program.P4Stmt.{P4Stmt}
use Rattle.net_wiring.specs.Differences.{DiffersAt, FirstDiffers, programs}
use Rattle.net_wiring.specs.SameTrees.{same_block}

-- ---- lists

-- the same up to an index, and the same at it
pub more-same : {A B : Type 0} (f : A → B) (i : ℕ) (xs ys : List A) (x y : A) → i < length xs → i < length ys → x ≡ get_or xs i x → y ≡ get_or ys i y → f x ≡ f y
    → take i (map f xs) ≡ take i (map f ys) → take (i + 1) (map f xs) ≡ take (i + 1) (map f ys)
more-same f i [] ys x y h k d e s same = absurd (omega (arith, h))
more-same f i (a ∷ xs) [] x y h k d e s same = absurd (omega (arith, k))
more-same f zero (a ∷ xs) (b ∷ ys) x y h k d e s same = ap (λ z. z ∷ []) (ap f (sym d) ∙ s ∙ ap f e)
more-same f (suc i) (a ∷ xs) (b ∷ ys) x y h k d e s same =
    let first : f a ≡ f b = cc in
    let rest : take i (map f xs) ≡ take i (map f ys) = cc in
    let more : take (i + 1) (map f xs) ≡ take (i + 1) (map f ys) = more-same f i xs ys x y (omega (arith, h)) (omega (arith, k)) d e s rest in
    let count : suc (i + 1) ≡ suc i + 1 = omega arith in
    subst (λ n. take n (f a ∷ map f xs) ≡ take n (f b ∷ map f ys)) count (ap₂ (λ z zs. z ∷ zs) first more)

ends : {A B : Type 0} (f : A → B) (xs ys : List A) → length xs < length ys → slice_get (map f xs) (length xs) ≢ slice_get (map f ys) (length xs)
ends f [] [] h e = absurd (omega (arith, h))
ends f [] (y ∷ ys) h e = absurd cc
ends f (x ∷ xs) [] h e = absurd (omega (arith, h))
ends f (x ∷ xs) (y ∷ ys) h e = ends f xs ys (omega (arith, h)) e

-- the same up to the end of the first, which is shorter
pub shorter : {A B : Type 0} (f : A → B) (i : ℕ) (xs ys : List A) → length xs ≡ i → length xs < length ys → take i (map f xs) ≡ take i (map f ys) → FirstDiffers (map f xs) (map f ys) (length xs)
shorter f i xs ys e h same = (subst (λ k. take k (map f xs) ≡ take k (map f ys)) (sym e) same, ends f xs ys h)

-- what is told of two lists is told of two that are the same
pub told-of : {A : Type 0} (r : Option ℕ) (xs ys us vs : List A) → xs ≡ us → ys ≡ vs → IfSome r (DiffersAt us vs) → IfSome r (DiffersAt xs ys)
told-of r xs ys us vs d e h = subst (λ zs. IfSome r (DiffersAt zs ys)) (sym d) (subst (λ zs. IfSome r (DiffersAt us zs)) (sym e) h)

-- ---- switches

pub numbers-of : (switches : List SwitchFiles) → switch_numbers (map switch_of switches) ≡ map (λ (s : SwitchFiles). s.number) switches
numbers-of [] = refl
numbers-of (s ∷ ss) = ap (λ ns. s.number ∷ ns) (numbers-of ss)

pub programs-of : (switches : List SwitchFiles) → programs (map switch_of switches) ≡ map (λ (s : SwitchFiles). program_of s.program) switches
programs-of [] = refl
programs-of (s ∷ ss) = ap (λ ps. program_of s.program ∷ ps) (programs-of ss)

-- ---- blocks

-- no statements are the same as those that are left where none are
pub none-left : (ss : List P4Stmt) → (length ss == 0) ≡ same_block p_done (block_of (map stmt_of ss))
none-left [] = refl
none-left (s ∷ ss) = search rules
