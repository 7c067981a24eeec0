-- Cited by the clause of `Terms::eval`: the value of a term under given inputs and functions. It follows the section "Terms" of docs/CLAUSES.md.
use Rattle.std.specs.Prelude.{ℕ, ◌==◌, if◌then◌else◌, List, [], ◌∷◌, Option, Some, None}
use Rattle.cocoon_num.specs.Values as values
use Rattle.cocoon_num.specs.Values.{Value, number, truth, BinaryOp, apply_unary, apply_binary, apply_slice, flip}
use Rattle.bv_terms.specs.declared.node.TermOp.{TermOp}
use Rattle.bv_terms.specs.declared.node.TermOp.TheVariants.{Add, Sub, And, Or, Xor, Concat, Equal, Less}
use Rattle.bv_terms.specs.TermTrees.{Term, Args, constant, input, apply, not_, binary, slice, pick, no_args, arg}

-- the value of each input, as a number
abbrev pub Inputs : Type 0
Inputs = ℕ → ℕ

-- the value of each function at arguments, as a number
abbrev pub Functions : Type 0
Functions = ℕ → List ℕ → ℕ

-- a value as a number: truth is 1
abbrev pub number_in : Value → ℕ
number_in (number w n) = n
number_in (truth b) = if b then 1 else 0

-- what an operation gives: truth is a number of width 1. A term has only operations that give something
abbrev pub term_number : Option Value → Value
term_number (Some (number w n)) = number w n
term_number (Some (truth b)) = number 1 (number_in (truth b))
term_number None = number 0 0

abbrev pub operator : TermOp → BinaryOp
operator Add = values.add
operator Sub = values.sub
operator And = values.bits_and
operator Or = values.bits_or
operator Xor = values.bits_xor
operator Concat = values.concat
operator Equal = values.equal
operator Less = values.less

-- a value that an operator gives of two
abbrev pub operated : TermOp → Value → Value → Value
operated op a b = term_number (apply_binary (operator op) a b)

abbrev mutual
  pub term_value : Functions → Inputs → Term → Value
  term_value F ins (constant w n) = number w n
  term_value F ins (input i w) = number w (ins i)
  term_value F ins (apply f args w) = number w (F f (arg_numbers F ins args))
  term_value F ins (not_ a) = term_number (apply_unary flip (term_value F ins a))
  term_value F ins (binary op a b) = operated op (term_value F ins a) (term_value F ins b)
  term_value F ins (slice a high low) = term_number (apply_slice (term_value F ins a) high low)
  term_value F ins (pick c a b) =
      if number_in (term_value F ins c) == 1 then term_value F ins a else term_value F ins b

  pub arg_numbers : Functions → Inputs → Args → List ℕ
  arg_numbers F ins no_args = []
  arg_numbers F ins (arg t ts) = number_in (term_value F ins t) ∷ arg_numbers F ins ts
