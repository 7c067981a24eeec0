-- The phrases of expressions for which the parser has functions of its own, and the levels of its operators. Clauses of
-- `source`, `operators` and `exprs` cite it, and other definitions.
use Rattle.std.specs.Prelude.{◌≡◌, ◌+◌, ℕ, suc, true, false, List, Option, Some, None, slice_get, Result, Ok, Err, if◌then◌else◌, codes}
use Rattle.cocoon_num.specs.Tokens.{Kind}
use Rattle.cocoon_num.specs.Tree.{Name, Expr, Exprs, name, call, lit, true_or_false, field}
use Rattle.cocoon_num.specs.Reads.{Level, of_or, of_and, of_cmp, of_cat, of_bit, of_sum, of_unary}
use Rattle.parsing.specs.PlainParser.{Outcome, Literal, good, bad, after, is_mark, is_keyword, marked, literal_of, path_from, sliced}
use Rattle.cocoon_syntax.specs.TreeOf.{expr_of}
use Rattle.cocoon_syntax.specs.declared.expr.Expr.{Expr as CodeExpr}
use Rattle.parsing.specs.declared.stop.Stop.{Stop}
use Rattle.parsing.specs.declared.stop.Stop.TheVariants.{Unexpected, NoMemory}
use Rattle.cocoon_text.specs.declared.operators.Chain.{Chain}
use Rattle.cocoon_text.specs.declared.operators.Chain.TheVariants.{Or, And, Concat, Bits, Sum}

-- the level of a chain
abbrev pub level_of : Chain → Level
level_of Or = of_or
level_of And = of_and
level_of Concat = of_cat
level_of Bits = of_bit
level_of Sum = of_sum

-- the level of its parts
abbrev pub part_of : Chain → Level
part_of Or = of_and
part_of And = of_cmp
part_of Concat = of_bit
part_of Bits = of_sum
part_of Sum = of_unary

-- a phrase, and this mark after it
abbrev pub then_mark : {A : Type 0} → List Kind → List ℕ → Outcome A → Outcome A
then_mark ts m r = after r (λ x j. marked ts m j (good x (suc j)))

-- both sides of a choice, and the bracket after them
pub record Sides : Type 0 where
  pub first : Expr
  pub second : Expr

abbrev pub sides_of : CodeExpr × CodeExpr → Sides
sides_of p = record { first = expr_of p.0; second = expr_of p.1 }

abbrev pub sides_from : List Kind → (ℕ → Outcome Expr) → ℕ → Outcome Sides
sides_from ts e i = after (then_mark ts (codes ":") (e i)) (λ a j. after (then_mark ts (codes ")") (e j)) (λ b k. good (record { first = a; second = b }) k))

-- a variable, or a call with what the second function reads as its arguments
abbrev pub name_or_call : List Kind → (ℕ → Outcome Exprs) → ℕ → Name → Outcome Expr
name_or_call ts es i x =
    if is_mark (codes "(") (slice_get ts (i + 1)) then after (es (i + 2)) (λ xs j. marked ts (codes ")") j (good (call i x xs) (suc j)))
    else good (name i x.text) (suc i)

-- a literal that stands at the token index, or what the reading gives without it
abbrev pub literal_or : ℕ → Option Literal → Outcome Expr → Outcome Expr
literal_or i None r = r
literal_or i (Some x) r = good (lit i x.width x.n) (suc i)

-- a literal, a truth value, or a field
abbrev pub leaf_from : List Kind → ℕ → Outcome Expr
leaf_from ts i =
    literal_or i (literal_of (slice_get ts i))
    (if is_keyword (codes "true") (slice_get ts i) then good (true_or_false i true) (suc i)
    else if is_keyword (codes "false") (slice_get ts i) then good (true_or_false i false) (suc i)
    else after (path_from ts i) (λ p j. good (field i p.header p.field) j))

-- the bits of a slice, or a token with which there are none
abbrev pub RangeAt : List Kind → ℕ → Result (ℕ × ℕ) Stop → Type 0
RangeAt ts j (Ok range) = (f : ℕ → ℕ → Outcome Expr) → sliced ts j f ≡ f range.0 range.1
RangeAt ts j (Err (Unexpected i)) = (f : ℕ → ℕ → Outcome Expr) → sliced ts j f ≡ bad i
RangeAt ts j (Err NoMemory) = Unit {0}
