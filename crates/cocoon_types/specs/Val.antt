-- The value of an expression, by cases on its tree, over names. It has none where a name is not there or the
-- widths do not fit. A function with a body is its body over the arguments; its body sees the functions that
-- are declared before it. It follows the section "Values" of docs/LANGUAGE.md; every form there has its case.
-- Optional headers are absent.
use Rattle.std.specs.Prelude.{ℕ, List, [], ◌∷◌, if◌then◌else◌, Option, Some, None, option_map, option_and_then, reverse}
use Rattle.cocoon_num.specs.Values.{Value, number, truth, as_number, fits_width, apply_unary, apply_binary, apply_slice, apply_pick, with_both, with_all}
use Rattle.cocoon_num.specs.Tree.{Param, Expr, name, field, lit, true_or_false, call, unary, binary, slice, pick, Exprs, no_exprs, expr, FunctionDecl, HeaderDecl, Design}
use Rattle.cocoon_num.specs.Names.{same_name}
use Rattle.cocoon_num.specs.Packets.{Packet}
use Rattle.cocoon_types.specs.Design.{read_field, functions}
use Rattle.cocoon_types.specs.Tables.{Defs, look_up}

-- a variable and its value, the latest first
pub record Binding : Type 0 where
  pub name : List ℕ
  pub value : Value

-- the variables with their values
abbrev pub Env : Type 0
Env = List Binding

-- the value of a variable
abbrev pub variable : Env → List ℕ → Option Value
variable [] x = None
variable (b ∷ env) x = if same_name x b.name then Some b.value else variable env x

-- one more variable
abbrev pub bound : List ℕ → Value → Env → Env
bound x v env = record { name = x; value = v } ∷ env

-- the parameters with these numbers, where they are as many and fit
abbrev pub bind : List Param → List ℕ → Option Env
bind [] [] = Some []
bind (p ∷ ps) (n ∷ ns) = if fits_width p.width n then option_map (bound p.name.text (number p.width n)) (bind ps ns) else None
bind _ _ = None

-- what an expression is evaluated in, beside variables and packet: the headers, and the values of the functions
pub record Context : Type 0 where
  pub headers : List HeaderDecl
  pub apply : List ℕ → List ℕ → Option Value

abbrev mutual
  -- the value of an expression
  pub value : Context → Env → Packet → Expr → Option Value
  value s env packet (name at x) = variable env x
  value s env packet (field at h f) = read_field s.headers packet h.text f.text
  value s env packet (lit at w n) = Some (number w n)
  value s env packet (true_or_false at b) = Some (truth b)
  value s env packet (call at f es) = option_and_then (s.apply f.text) (numbers s env packet es)
  value s env packet (unary at op a) = option_and_then (apply_unary op) (value s env packet a)
  value s env packet (binary at op a b) = with_both (apply_binary op) (value s env packet a) (value s env packet b)
  value s env packet (slice at a high low) = option_and_then (λ v. apply_slice v high low) (value s env packet a)
  value s env packet (pick at c a b) = with_all apply_pick (value s env packet c) (value s env packet a) (value s env packet b)

  -- the numbers that some expressions give, from left to right
  pub numbers : Context → Env → Packet → Exprs → Option (List ℕ)
  numbers s env packet no_exprs = Some []
  numbers s env packet (expr e es) = with_both (λ n ns. Some (n ∷ ns)) (option_and_then as_number (value s env packet e)) (numbers s env packet es)

-- ---- functions

-- a function's value at some numbers: of the first of these of that name, which sees those after it
abbrev pub apply_in : List HeaderDecl → Defs → List FunctionDecl → List ℕ → List ℕ → Option Value
apply_in headers defs [] f xs = None
apply_in headers defs (d ∷ earlier) f xs =
    if same_name f d.name.text then
    elim d.body [
      | None ↦ look_up defs f xs
      | Some e ↦ option_and_then (λ env. value (record { headers = headers; apply = apply_in headers defs earlier }) env [] e) (bind d.params xs)
    ]
    else apply_in headers defs earlier f xs

-- a function's value at some numbers, of all that the design declares
abbrev pub apply : Design → Defs → List ℕ → List ℕ → Option Value
apply design defs = apply_in design.headers defs (reverse (functions design))

-- that of a design's expressions under some definitions
abbrev pub context : Design → Defs → Context
context design defs = record { headers = design.headers; apply = apply design defs }
