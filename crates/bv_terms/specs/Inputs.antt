-- Cited by laws on terms and by the contract of a copy: which inputs and functions a term has, numbers that fit
-- them, and other names for inputs.
use Rattle.std.specs.Prelude.{◌≡◌, ℕ, true, List, []}
use Rattle.std.specs.List.{AllZip}
use Rattle.cocoon_num.specs.Values.{FitsWidth}
use Rattle.bv_terms.specs.TermTrees.{Term, Args, constant, input, apply, not_, binary, slice, pick, no_args, arg, arg_widths}
use Rattle.bv_terms.specs.TermValues.{Functions, Inputs}
use Rattle.bv_terms.specs.Walks.{is_among, walk}

abbrev pub Mentions : Term → (i w : ℕ) → Type 0
Mentions t i w = is_among (walk t []) (input i w) ≡ true

abbrev pub Applies : Term → (f : ℕ) (args : Args) (w : ℕ) → Type 0
Applies t f args w = is_among (walk t []) (apply f args w) ≡ true

-- ---- numbers that fit

abbrev pub InputsFit : Term → Inputs → Type 0
InputsFit t ins = (i w : ℕ) → Mentions t i w → FitsWidth w (ins i)

-- each function gives numbers of its width, at numbers that fit its arguments
abbrev pub FunctionsFit : Term → Functions → Type 0
FunctionsFit t F =
    (f w : ℕ) (args : Args) → Applies t f args w
    → (xs : List ℕ) → AllZip FitsWidth (arg_widths args) xs → FitsWidth w (F f xs)

-- ---- other names

abbrev mutual
  -- the term with other names for its inputs
  pub renamed : (ℕ → ℕ) → Term → Term
  renamed name (constant w n) = constant w n
  renamed name (input i w) = input (name i) w
  renamed name (apply f args w) = apply f (renamed_args name args) w
  renamed name (not_ a) = not_ (renamed name a)
  renamed name (binary op a b) = binary op (renamed name a) (renamed name b)
  renamed name (slice a high low) = slice (renamed name a) high low
  renamed name (pick c a b) = pick (renamed name c) (renamed name a) (renamed name b)

  pub renamed_args : (ℕ → ℕ) → Args → Args
  renamed_args name no_args = no_args
  renamed_args name (arg t ts) = arg (renamed name t) (renamed_args name ts)

-- different inputs of the term have different names
abbrev pub AreApart : (ℕ → ℕ) → Term → Type 0
AreApart name t = (i j v w : ℕ) → Mentions t i v → Mentions t j w → name i ≡ name j → i ≡ j
