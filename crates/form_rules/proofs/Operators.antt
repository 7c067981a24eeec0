-- Two operators are one where their numbers are one.
use Rattle.std.proofs.Common.{◌≡◌, ℕ, zero, suc, ◌==◌, ◌&&◌, Bool, true, false, List, [], ◌∷◌, Option, Some, None, refl, sym, ap, ◌∙◌}
use Rattle.cocoon_num.specs.Lists.{each}
use Rattle.cocoon_num.specs.Values.{BinaryOp, add, sub, bits_and, bits_or, bits_xor, concat, equal, unequal, less, less_equal, greater, greater_equal, and_, or_, implies}
use Rattle.cocoon_num.specs.Tokens.{same_kind}
use Rattle.cocoon_num.specs.Reads.{operator}
use Rattle.cocoon_types.specs.SameTrees.{same_truth}
use Rattle.form_rules.specs.Operators.{code_of}

-- the operators, each where its number says
abbrev operators : List BinaryOp
operators = add ∷ sub ∷ bits_and ∷ bits_or ∷ bits_xor ∷ concat ∷ equal ∷ unequal ∷ less ∷ less_equal ∷ greater ∷ greater_equal ∷ and_ ∷ or_ ∷ implies ∷ []

abbrev item : List BinaryOp → ℕ → Option BinaryOp
item [] n = None
item (o ∷ os) zero = Some o
item (o ∷ os) (suc n) = item os n

there : (o : BinaryOp) → item operators (code_of o) ≡ Some o
there add = refl
there sub = refl
there bits_and = refl
there bits_or = refl
there bits_xor = refl
there concat = refl
there equal = refl
there unequal = refl
there less = refl
there less_equal = refl
there greater = refl
there greater_equal = refl
there and_ = refl
there or_ = refl
there implies = refl

left : (a b : Bool) → a && b ≡ true → a ≡ true
left true b h = refl
left false b h = h

right : (a b : Bool) → a && b ≡ true → b ≡ true
right true b h = h
right false b h = absurd cc

holds : (p : BinaryOp → Bool) (os : List BinaryOp) (n : ℕ) (o : BinaryOp) → each p os ≡ true → item os n ≡ Some o → p o ≡ true
holds p [] n o h e = absurd cc
holds p (x ∷ os) zero o h e = ap p (sym same) ∙ left (p x) (each p os) h
  where
    same : x ≡ o
    same = cc
holds p (x ∷ os) (suc n) o h e = holds p os n o (right (p x) (each p os) h) e

-- a test of all operators
every : (p : BinaryOp → Bool) → each p operators ≡ true → (o : BinaryOp) → p o ≡ true
every p h o = holds p operators (code_of o) o h (there o)

same_truth-is : (a b : Bool) → same_truth a b ≡ true → a ≡ b
same_truth-is true true h = refl
same_truth-is true false h = sym h
same_truth-is false true h = h
same_truth-is false false h = refl

-- the numbers tell the same as the tokens
abbrev agree : BinaryOp → BinaryOp → Bool
agree a b = same_truth (code_of a == code_of b) (same_kind (operator a) (operator b))

pub by_code : (a b : BinaryOp) → (code_of a == code_of b) ≡ same_kind (operator a) (operator b)
by_code a b = same_truth-is (code_of a == code_of b) (same_kind (operator a) (operator b)) (every (agree a) (every (λ o. each (agree o) operators) refl a) b)
