-- Private clauses of `forms` and `nodes` cite it.
-- How many nodes an expression has, as the code counts them: a call by the form of its function, which says how many
-- nodes a call has of its own, and how often it has each argument. So a function is counted once, and never unfolded.
use Rattle.std.specs.Prelude.{◌≡◌, ℕ, zero, suc, ◌+◌, ◌*◌, List, [], ◌∷◌, ◌++◌, map, length, drop, reverse, slice_index, if◌then◌else◌, Option, Some, None}
use Rattle.cocoon_num.specs.Tree.{Expr, name, field, lit, true_or_false, call, unary, binary, slice, pick, Exprs, no_exprs, expr, Param, FunctionDecl}
use Rattle.cocoon_num.specs.Names.{same_name}
use Rattle.cocoon_num.specs.Packets.{total}
use Rattle.cocoon_types.specs.Limits.{reported}
use Rattle.cocoon_resolve.specs.declared.forms.Form.{Form}
use Rattle.cocoon_resolve.specs.declared.forms.Form.TheVariants.{Plain, Body}
use Rattle.cocoon_resolve.specs.declared.forms.Known.{Known}

-- ---- weights: nodes, where each weighs `one`

abbrev mutual
  -- the weight of an expression, where that of a variable, and of a call by those of its arguments, is given
  pub weight : (one : ℕ) → (List ℕ → List ℕ → ℕ) → (List ℕ → ℕ) → Expr → ℕ
  weight one c v (name at x) = v x
  weight one c v (field at h f) = one
  weight one c v (lit at w n) = one
  weight one c v (true_or_false at b) = one
  weight one c v (call at f es) = c f.text (weights one c v es)
  weight one c v (unary at op a) = one + weight one c v a
  weight one c v (binary at op a b) = one + weight one c v a + weight one c v b
  weight one c v (slice at a high low) = one + weight one c v a
  weight one c v (pick at x a b) = one + weight one c v x + weight one c v a + weight one c v b

  -- the same of some expressions
  pub weights : (one : ℕ) → (List ℕ → List ℕ → ℕ) → (List ℕ → ℕ) → Exprs → List ℕ
  weights one c v no_exprs = []
  weights one c v (expr e es) = weight one c v e ∷ weights one c v es

-- a parameter weighs what its argument does
abbrev pub argument_weight : (one : ℕ) → List Param → List ℕ → List ℕ → ℕ
argument_weight one (p ∷ ps) (n ∷ ns) x = if same_name x p.name.text then n else argument_weight one ps ns x
argument_weight one _ _ x = one

-- the weight of a call, by the functions that are declared before it
abbrev pub call_weight : (one : ℕ) → List FunctionDecl → List ℕ → List ℕ → ℕ
call_weight one [] f ns = one + total ns
call_weight one (d ∷ earlier) f ns =
    if same_name f d.name.text then
    elim d.body [
      | None ↦ one + total ns
      | Some e ↦ weight one (call_weight one earlier) (argument_weight one d.params ns) e
    ]
    else call_weight one earlier f ns

-- ---- one parameter alone

-- 1 for the parameter at this index, and 0 for the others; at their number, 1 for all variables that are no parameter
abbrev pub slot_weight : List Param → (slot : ℕ) → List ℕ → ℕ
slot_weight [] slot x = 1
slot_weight (p ∷ ps) zero x = if same_name x p.name.text then 1 else 0
slot_weight (p ∷ ps) (suc slot) x = if same_name x p.name.text then 0 else slot_weight ps slot x

-- ---- forms

-- how many nodes a call has beside its arguments, and how often each of them
pub data CallForm : Type 0 where
  plain : CallForm
  of_body : (own : ℕ) (uses : List ℕ) → CallForm

-- what a call has of its own; an argument that is missing is one node
abbrev pub own_nodes : CallForm → (args : ℕ) → ℕ
own_nodes plain args = 1
own_nodes (of_body own uses) args = own + total (drop args uses)

-- how often it has the argument at an index
abbrev pub times : CallForm → ℕ → ℕ
times plain i = 1
times (of_body own uses) i = slice_index uses i

-- numbers, each as often as is said
abbrev pub each_times : (ℕ → ℕ) → List ℕ → ℕ
each_times u [] = 0
each_times u (n ∷ ns) = n * u 0 + each_times (λ i. u (suc i)) ns

-- the weight of a call of this form
abbrev pub form_weight : (one : ℕ) → CallForm → List ℕ → ℕ
form_weight one form ns = one * own_nodes form (length ns) + each_times (times form) ns

-- a form with the numbers that the code keeps
abbrev pub reported_form : CallForm → CallForm
reported_form plain = plain
reported_form (of_body own uses) = of_body (reported own) (map reported uses)

-- the form that one of the code stands for
abbrev pub form_of : Form → CallForm
form_of Plain = plain
form_of (Body own uses) = of_body own uses.items

-- the form of the first function of this name
abbrev pub known_form : List Known → List ℕ → CallForm
known_form [] f = plain
known_form (k ∷ ks) f = if same_name f k.name then form_of k.form else known_form ks f

-- the weight of a call, by forms that are known
abbrev pub known_weight : (one : ℕ) → List Known → List ℕ → List ℕ → ℕ
known_weight one ks f ns = form_weight one (known_form ks f) ns

-- ---- the form of a function

-- the values of f at 0 to n - 1
abbrev pub table : (ℕ → ℕ) → ℕ → List ℕ
table f zero = []
table f (suc n) = table f n ++ (f n ∷ [])

-- the weight of a body, of one parameter alone
abbrev pub slot_of_body : List FunctionDecl → (one : ℕ) → List Param → Expr → (slot : ℕ) → ℕ
slot_of_body earlier one ps e slot = weight one (call_weight one earlier) (slot_weight ps slot) e

-- the form of a function with a body
abbrev pub body_form : List FunctionDecl → List Param → Expr → CallForm
body_form earlier ps e =
    of_body (slot_of_body earlier 1 ps e (length ps)) (table (slot_of_body earlier 0 ps e) (length ps))

-- the form of the first function of this name, which sees those after it
abbrev pub form_at : List FunctionDecl → List ℕ → CallForm
form_at [] f = plain
form_at (d ∷ earlier) f =
    if same_name f d.name.text then elim d.body [ None ↦ plain | Some e ↦ body_form earlier d.params e ]
    else form_at earlier f

-- the forms that are known are those of some functions
pub record Knows (fs : List FunctionDecl) (ks : List Known) : Type 0 where
  pub forms : (f : List ℕ) → known_form ks f ≡ reported_form (form_at fs f)

-- ---- as the code makes it

-- the form of a body, by the forms that are known
abbrev pub known_body_form : List Known → List Param → Expr → CallForm
known_body_form ks ps e =
    of_body (reported (weight 1 (known_weight 1 ks) (slot_weight ps (length ps)) e))
    (table (λ i. reported (weight 0 (known_weight 0 ks) (slot_weight ps i) e)) (length ps))

-- that of a function, whose body may be absent
abbrev pub body_known : List Known → List Param → Option Expr → CallForm
body_known ks ps b = elim b [ None ↦ plain | Some e ↦ known_body_form ks ps e ]

-- that of a function
abbrev pub declared_form : List Known → FunctionDecl → CallForm
declared_form ks d = body_known ks d.params d.body

-- what a declaration adds to the functions that are known
abbrev pub Adds : Option FunctionDecl → List Known → List Known → Type 0
Adds None old new = new ≡ old
Adds (Some d) old new =
    (k : Known) × (new ≡ old ++ (k ∷ [])) × (k.name ≡ d.name.text) × (form_of k.form ≡ declared_form (reverse old) d)
