-- Nodes and the terms that they make.
use Rattle.std.proofs.Common.{◌≡◌, ℕ, ◌≤◌, List, [], ◌∷◌, refl, ap}
use Rattle.std.specs.List.{All, AllByRecursion}
use Rattle.std.proofs.lemmas.List.Elements.{recursion_from_All}
use Rattle.bv_terms.specs.declared.node.Node.{Node}
use Rattle.bv_terms.specs.declared.node.Node.TheVariants.{Constant, Input, Apply, Not, Binary, Slice, Pick}
use Rattle.bv_terms.specs.TermTrees.{Term, apply, not_, slice, width, IsTerm, AreArgs}
use Rattle.bv_terms.specs.Arenas.{parts, args_of, made_of, node_width, WidthsFit}

-- ---- equal parts make equal terms

Same : (f g : ℕ → Term) → ℕ → Type 0
Same f g p = f p ≡ g p

same-args : (f g : ℕ → Term) (xs : List ℕ) → AllByRecursion (λ p. f p ≡ g p) xs → args_of f xs ≡ args_of g xs
same-args f g [] h = refl
same-args f g (a ∷ xs) h = let e = same-args f g xs h.1 in let e' = h.0 in cc

same-by-recursion : (f g : ℕ → Term) (n : Node) → AllByRecursion (λ p. f p ≡ g p) (parts n) → made_of f n ≡ made_of g n
same-by-recursion f g (Constant b) h = refl
same-by-recursion f g (Input i w) h = refl
same-by-recursion f g (Apply k args w) h = ap (λ xs. apply k xs w) (same-args f g args h)
same-by-recursion f g (Not a) h = ap not_ h.0
same-by-recursion f g (Binary op a b) h = let e = h.0 in let e' = h.1.0 in cc
same-by-recursion f g (Slice a high low) h = ap (λ t. slice t high low) h.0
same-by-recursion f g (Pick c a b) h = let e = h.0 in let e' = h.1.0 in let e'' = h.1.1.0 in cc

pub made-same : (f g : ℕ → Term) (n : Node) → All (λ p. f p ≡ g p) (parts n) → made_of f n ≡ made_of g n
made-same f g n h = same-by-recursion f g n (recursion_from_All (λ p. f p ≡ g p) (parts n) h)

-- ---- terms are made of terms

args-made : (f : ℕ → Term) (xs : List ℕ) → AllByRecursion (λ p. IsTerm (f p)) xs → AllByRecursion (λ p. width (f p) ≤ 64) xs → AreArgs (args_of f xs)
args-made f [] h k = tt
args-made f (a ∷ xs) h k = (h.0, k.0, args-made f xs h.1 k.1)

made-by-recursion : (f : ℕ → Term) (n : Node) → AllByRecursion (λ p. IsTerm (f p)) (parts n) → WidthsFit (λ p. width (f p)) n → IsTerm (made_of f n)
made-by-recursion f (Constant b) h k = ((b.wide, b.narrow), b.fits)
made-by-recursion f (Input i w) h k = k
made-by-recursion f (Apply n args w) h k = (args-made f args h (recursion_from_All (λ p. width (f p) ≤ 64) args k.0), k.1)
made-by-recursion f (Not a) h k = h.0
made-by-recursion f (Binary op a b) h k = (h.0, h.1.0, k)
made-by-recursion f (Slice a high low) h k = (h.0, k.0, k.1)
made-by-recursion f (Pick c a b) h k = (h.0, h.1.0, h.1.1.0, k.0, k.1)

pub made-is-term : (f : ℕ → Term) (n : Node) → All (λ p. IsTerm (f p)) (parts n) → WidthsFit (λ p. width (f p)) n → IsTerm (made_of f n)
made-is-term f n h k = made-by-recursion f n (recursion_from_All (λ p. IsTerm (f p)) (parts n) h) k

-- ---- widths

pub node-width : (f : ℕ → Term) (node : Node) → width (made_of f node) ≡ node_width (λ p. width (f p)) node
node-width f (Constant b) = refl
node-width f (Input i v) = refl
node-width f (Apply g args v) = refl
node-width f (Not a) = refl
node-width f (Binary op a b) = refl
node-width f (Slice a high low) = refl
node-width f (Pick c a b) = refl
