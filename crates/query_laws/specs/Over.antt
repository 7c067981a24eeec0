-- Cited by the clauses of the laws: which functions a term of a design applies, and which inputs it has.
use Rattle.std.specs.Prelude.{◌≡◌, ℕ, Bool, true, List, Some, None, slice_get}
use Rattle.std.specs.List.{AllByRecursion}
use Rattle.cocoon_num.specs.Sorts.{Sort}
use Rattle.cocoon_num.specs.Tree.{Expr, FunctionDecl, Design}
use Rattle.cocoon_num.specs.Values.{fits_width}
use Rattle.cocoon_types.specs.Design.{functions, widths_of}
use Rattle.cocoon_types.specs.Typing.{Scope}
use Rattle.bv_terms.specs.TermTrees.{Term, Args, constant, input, apply, not_, binary, slice, pick, no_args, arg, arg_widths}
use Rattle.bv_terms.specs.TermValues.{Inputs}
use Rattle.sound_types.specs.WellTyped.{HasType}
use Rattle.obligation_laws.specs.Shown.{FitsScope}
use Rattle.obligation_laws.specs.TermOf.{TermEnv, result_width, term_context, term_of}

-- the function of this number is defined at run time, with parameters and a result of these widths
pub record IsRuntimeAt (d : Design) (f : ℕ) (widths : List ℕ) (w : ℕ) : Type 0 where
  pub function : FunctionDecl
  pub there : slice_get (functions d) f ≡ Some function
  pub runtime : function.body ≡ None
  pub params_are : widths ≡ widths_of function.params
  pub result_is : w ≡ result_width function.result

abbrev mutual
  -- each application in the term is of a run-time function of the design at its widths, and each input is one of these, by
  -- its number and its width
  pub IsOver : Design → (inputs : ℕ → ℕ → Bool) → Term → Type 0
  IsOver d inputs (constant w n) = Unit {0}
  IsOver d inputs (input i w) = inputs i w ≡ true
  IsOver d inputs (apply f args w) = AreOver d inputs args × IsRuntimeAt d f (arg_widths args) w
  IsOver d inputs (not_ a) = IsOver d inputs a
  IsOver d inputs (binary op a b) = IsOver d inputs a × IsOver d inputs b
  IsOver d inputs (slice a high low) = IsOver d inputs a
  IsOver d inputs (pick c a b) = IsOver d inputs c × IsOver d inputs a × IsOver d inputs b

  pub AreOver : Design → (inputs : ℕ → ℕ → Bool) → Args → Type 0
  AreOver d inputs no_args = Unit {0}
  AreOver d inputs (arg t ts) = IsOver d inputs t × AreOver d inputs ts

-- so it is with all of these terms
abbrev pub AllOver : Design → (inputs : ℕ → ℕ → Bool) → List Term → Type 0
AllOver d inputs ts = AllByRecursion (IsOver d inputs) ts

-- and with the terms of variables
abbrev pub VariablesOver : Design → (inputs : ℕ → ℕ → Bool) → TermEnv → Type 0
VariablesOver d inputs vars = AllByRecursion (λ (v : List ℕ × Term). IsOver d inputs v.1) vars

-- the term of a typed expression is, where those of variables and fields are
abbrev pub TermsAreOver : Design → Type 0
TermsAreOver d =
    (s : Scope) (vars : TermEnv) (fields : List Term) → s.design ≡ d → FitsScope s vars fields
    → (inputs : ℕ → ℕ → Bool) → VariablesOver d inputs vars → AllOver d inputs fields
    → (t : Sort) (e : Expr) → HasType s t e → IsOver d inputs (term_of (term_context d) vars fields e)

-- the number of the input fits its width
abbrev pub fit_input : Inputs → (i w : ℕ) → Bool
fit_input ins i w = fits_width w (ins i)
