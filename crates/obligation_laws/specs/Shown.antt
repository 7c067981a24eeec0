-- Cited by the clauses of the laws: widths and values of the terms of expressions, by those of variables and fields.
use Rattle.std.specs.Prelude.{◌≡◌, ℕ, ◌+◌, ◌≤◌, true, List, [], ◌∷◌, map, Option, Some, option_and_then, slice_get}
use Rattle.std.specs.List.{AllZip}
use Rattle.cocoon_num.specs.Packets.{Packet}
use Rattle.cocoon_num.specs.Sorts.{Sort, bits_sort, truth_sort}
use Rattle.cocoon_num.specs.Tree.{Expr, Exprs, Param, FunctionDecl, HeaderDecl, Design}
use Rattle.cocoon_num.specs.Values.{BinaryOp, concat}
use Rattle.cocoon_resolve.specs.Readers.{all_widths}
use Rattle.cocoon_types.specs.Design.{functions}
use Rattle.cocoon_types.specs.Tables.{Defs, look_up}
use Rattle.cocoon_types.specs.Typing.{Scope}
use Rattle.cocoon_types.specs.Val.{Binding, Env, context, numbers, value}
use Rattle.bv_terms.specs.TermTrees.{Term, width}
use Rattle.bv_terms.specs.TermValues.{Functions, Inputs, number_in, term_number, term_value}
use Rattle.role_values.specs.Flat.{packet_of}
use Rattle.sound_types.specs.Matching.{Binds, IsOfSort}
use Rattle.sound_types.specs.WellTyped.{HasType, HaveWidths}
use Rattle.obligation_laws.specs.TermOf.{TermEnv, term_context, term_of, terms_of}

-- ---- widths

-- the width of the terms of a type
abbrev pub sort_width : Sort → ℕ
sort_width (bits_sort w) = w
sort_width truth_sort = 1

-- the term is of this width
abbrev pub HasWidth : ℕ → Term → Type 0
HasWidth w t = width t ≡ w

-- operands of these widths are those of the operator
abbrev pub WidthsFit : BinaryOp → ℕ → ℕ → Type 0
WidthsFit concat v w = v + w ≤ 128
WidthsFit op v w = v ≡ w

-- the variables are these, each of its width
abbrev pub AreVariables : List Param → TermEnv → Type 0
AreVariables [] [] = Unit {0}
AreVariables (p ∷ ps) (v ∷ vars) = (v.0 ≡ p.name.text) × HasWidth p.width v.1 × AreVariables ps vars
AreVariables _ _ = ⊥

-- the variables are those in scope, and where there is a packet, the fields are those of the design
pub record FitsScope (s : Scope) (vars : TermEnv) (fields : List Term) : Type 0 where
  pub variables : AreVariables s.vars vars
  pub fields_fit : s.packet ≡ true → AllZip HasWidth (all_widths s.design.headers) fields

-- ---- values

-- the functions of a design that are defined at run time, by their numbers: truth is 1
abbrev pub functions_by : Design → Defs → Functions
functions_by d defs f xs =
    number_in (term_number (option_and_then (λ (g : FunctionDecl). look_up defs g.name.text xs) (slice_get (functions d) f)))

-- the variables with the values of their terms
abbrev pub env_of : Functions → Inputs → TermEnv → Env
env_of F ins vars = map (λ (v : List ℕ × Term). record { name = v.0; value = term_value F ins v.1 }) vars

abbrev pub numbers_of : Functions → Inputs → List Term → List ℕ
numbers_of F ins ts = map (λ t. number_in (term_value F ins t)) ts

-- the packet whose fields have the numbers of these terms
abbrev pub packet_in : Functions → Inputs → List HeaderDecl → List Term → Packet
packet_in F ins headers fields = packet_of headers (numbers_of F ins fields)

-- the term has a value of this width
abbrev pub HasNumber : Functions → Inputs → ℕ → Term → Type 0
HasNumber F ins w t = IsOfSort (bits_sort w) (term_value F ins t)

-- variables and fields have values as the scope has them
pub record ValuesFit (s : Scope) (F : Functions) (ins : Inputs) (vars : TermEnv) (fields : List Term) : Type 0 where
  pub variables : Binds s.vars (env_of F ins vars)
  pub fields_fit : s.packet ≡ true → AllZip (HasNumber F ins) (all_widths s.design.headers) fields

-- ---- the laws

-- the term of a typed expression has the width of its type
abbrev pub TermsHaveWidths : Design → Type 0
TermsHaveWidths d =
    (s : Scope) (vars : TermEnv) (fields : List Term) → s.design ≡ d → FitsScope s vars fields
    → (t : Sort) (e : Expr) → HasType s t e → HasWidth (sort_width t) (term_of (term_context d) vars fields e)

-- Under these definitions the term of a typed expression has the value of the expression, where variables and fields have
-- those of their terms; and terms of expressions that are numbers have these.
pub record TermsHaveValues (d : Design) (defs : Defs) (ins : Inputs) (s : Scope) (vars : TermEnv) (fields : List Term) : Type 0 where
  pub values : (t : Sort) (e : Expr) → HasType s t e
      → term_value (functions_by d defs) ins (term_of (term_context d) vars fields e)
      ≡ term_number (value (context d defs) (env_of (functions_by d defs) ins vars)
      (packet_in (functions_by d defs) ins d.headers fields) e)
  pub numbers : (ws : List ℕ) (es : Exprs) → HaveWidths s ws es
      → Some (numbers_of (functions_by d defs) ins (terms_of (term_context d) vars fields es))
      ≡ numbers (context d defs) (env_of (functions_by d defs) ins vars)
      (packet_in (functions_by d defs) ins d.headers fields) es
