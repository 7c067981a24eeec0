-- In an arena a term has one number.
use Rattle.std.proofs.Common.{◌≡◌, ℕ, ◌<◌, List, [], ◌∷◌, length, Some, slice_get, get_or, refl, ap, sym, ◌∙◌, arith, zero, suc}
use Rattle.std.specs.List.{All, AllByRecursion}
use Rattle.std.proofs.lemmas.List.Elements.{recursion_from_All}
use Rattle.std.proofs.lemmas.Option.{slice_get-get_or}
use Rattle.bv_terms.specs.declared.node.Node.{Node}
use Rattle.bv_terms.specs.declared.node.Node.TheVariants.{Constant, Input, Apply, Not, Binary, Slice, Pick}
use Rattle.bv_terms.specs.TermTrees.{Term}
use Rattle.bv_terms.specs.Arenas.{parts, args_of, made_of, term_at, IsArena}
use Rattle.bv_terms.proofs.KeyFacts.{bits-same}

-- a number whose term is that of no other one
abbrev Alone : (ℕ → Term) → (ℕ → Type 0) → ℕ → Type 0
Alone f B p = (q : ℕ) → B q → f p ≡ f q → p ≡ q

same-args : (f : ℕ → Term) (B : ℕ → Type 0) (xs ys : List ℕ) → AllByRecursion (Alone f B) xs → AllByRecursion B ys → args_of f xs ≡ args_of f ys → xs ≡ ys
same-args f B [] [] h k e = refl
same-args f B [] (b ∷ ys) h k e = absurd cc
same-args f B (a ∷ xs) [] h k e = absurd cc
same-args f B (a ∷ xs) (b ∷ ys) h k e =
    let part : f a ≡ f b = cc in
    let others : args_of f xs ≡ args_of f ys = cc in
    let first : a ≡ b = h.0 b k.0 part in
    let rest : xs ≡ ys = same-args f B xs ys h.1 k.1 others in
    cc

same-node : (f : ℕ → Term) (B : ℕ → Type 0) (m n : Node) → AllByRecursion (Alone f B) (parts m) → AllByRecursion B (parts n) → made_of f m ≡ made_of f n → m ≡ n
same-node f B (Constant a) (Constant b) h k e =
    let width : a.width ≡ b.width = cc in
    let value : a.value ≡ b.value = cc in
    ap Constant (bits-same a b width value)
same-node f B (Input i v) (Input j w) h k e = cc
same-node f B (Apply g xs v) (Apply g' ys w) h k e =
    let lists : args_of f xs ≡ args_of f ys = cc in
    let args : xs ≡ ys = same-args f B xs ys h k lists in
    cc
same-node f B (Not a) (Not b) h k e =
    let part : f a ≡ f b = cc in
    ap Not (h.0 b k.0 part)
same-node f B (Binary op a b) (Binary op' a' b') h k e =
    let part : f a ≡ f a' = cc in
    let part' : f b ≡ f b' = cc in
    let first : a ≡ a' = h.0 a' k.0 part in
    let second : b ≡ b' = h.1.0 b' k.1.0 part' in
    cc
same-node f B (Slice a i j) (Slice b i' j') h k e =
    let part : f a ≡ f b = cc in
    let first : a ≡ b = h.0 b k.0 part in
    cc
same-node f B (Pick c a b) (Pick c' a' b') h k e =
    let part : f c ≡ f c' = cc in
    let part' : f a ≡ f a' = cc in
    let part'' : f b ≡ f b' = cc in
    let choice : c ≡ c' = h.0 c' k.0 part in
    let first : a ≡ a' = h.1.0 a' k.1.0 part' in
    let second : b ≡ b' = h.1.1.0 b' k.1.1.0 part'' in
    cc
same-node f B m n h k e = absurd cc

below : (n : ℕ) (nodes : List Node) → IsArena nodes → (j k : ℕ) → j < n → j < length nodes → k < length nodes → term_at nodes j ≡ term_at nodes k → j ≡ k
below zero nodes a j k l lj lk e = absurd (omega arith)
below (suc n) nodes a j k l lj lk e =
    let m = get_or nodes j (Input 0 0) in
    let m' = get_or nodes k (Input 0 0) in
    let at : slice_get nodes j ≡ Some m = slice_get-get_or nodes j (Input 0 0) lj in
    let at' : slice_get nodes k ≡ Some m' = slice_get-get_or nodes k (Input 0 0) lk in
    let alone : All (Alone (term_at nodes) (λ q. q < length nodes)) (parts m)
    = (λ i d lp q lq same. let b = a.below j m at i d lp in below n nodes a (get_or (parts m) i d) q (omega arith) (omega arith) lq same) in
    let inside : All (λ q. q < length nodes) (parts m') = (λ i d lp. let b = a.below k m' at' i d lp in omega arith) in
    let same : m ≡ m'
    = same-node (term_at nodes) (λ q. q < length nodes) m m' (recursion_from_All (Alone (term_at nodes) (λ q. q < length nodes)) (parts m) alone)
    (recursion_from_All (λ q. q < length nodes) (parts m') inside) (sym (a.made j m at) ∙ e ∙ a.made k m' at') in
    a.once j k m at (at' ∙ ap Some (sym same))

pub one-number : (nodes : List Node) → IsArena nodes → (j k : ℕ) → j < length nodes → k < length nodes → term_at nodes j ≡ term_at nodes k → j ≡ k
one-number nodes a j k = below (suc j) nodes a j k (omega arith)
