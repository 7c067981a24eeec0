-- Cited by private clauses: which function a name stands for, and what its calls are.
use Rattle.std.specs.Prelude.{ℕ, List, [], ◌∷◌, length, if◌then◌else◌, Option, Some, None}
use Rattle.cocoon_num.specs.Names.{same_name}
use Rattle.cocoon_num.specs.Tree.{Expr, FunctionDecl, Design}
use Rattle.bv_terms.specs.TermTrees as term
use Rattle.bv_terms.specs.TermTrees.{Term}
use Rattle.obligation_laws.specs.TermOf.{TermEnv, args_of, bind_terms, call_in, result_width, term_of}
use Rattle.expr_terms.specs.Sizes.{functions_before}

-- the number of the first of these of a name, where they are numbered down to 0
abbrev pub number_in : List FunctionDecl → List ℕ → Option ℕ
number_in [] f = None
number_in (d ∷ earlier) f = if same_name f d.name.text then Some (length earlier) else number_in earlier f

-- the body of the function of this number, which sees those before it
abbrev pub body_term : Design → (number : ℕ) → TermEnv → Expr → Term
body_term d number vars e = term_of (record { headers = []; call = call_in (functions_before d number) }) vars [] e

-- a call of a function over those before it: of one that is defined at run time by its number
abbrev pub called_in : List FunctionDecl → (number : ℕ) → FunctionDecl → List Term → Option Expr → Term
called_in earlier number g ts None = term.apply number (args_of ts) (result_width g.result)
called_in earlier number g ts (Some e) = term_of (record { headers = []; call = call_in earlier }) (bind_terms g.params ts) [] e

-- of the function of this number
abbrev pub called : Design → (number : ℕ) → FunctionDecl → List Term → Option Expr → Term
called d number g ts body = called_in (functions_before d number) number g ts body
