-- The read-back rule: on a path of a refined body that ends in a `send`, each choice that occurs in a condition or in
-- what is sent also stands alone as an argument of the `send` or as a field's value there. A path is followed with
-- each variable and each field replaced by its value. A choice is written as the variable without a name whose token index
-- is that of the statement that makes it. So a choice differs from each variable and from each other choice: the grammar gives no
-- variable an empty name, and a path runs no statement twice. It follows the section "Read-back rule" of docs/LANGUAGE.md.
-- Optional headers are absent.
use Rattle.std.specs.Prelude.{ℕ, ◌==◌, ◌&&◌, Bool, false, not, List, [], ◌∷◌, ◌++◌, map, flat_map, filter as list_filter, length, if◌then◌else◌, Option, Some, None, is_some}
use Rattle.std.specs.List.{list_any}
use Rattle.cocoon_num.specs.Tree.{Name, Expr, name, field, lit, true_or_false, call, unary, binary, slice, pick, Exprs, no_exprs, expr, Stmt, let_, set_field, if_, filter, havoc_var, havoc_field, assume, fork, send, Block, no_stmts, stmt, Param, HeaderDecl, Design}
use Rattle.cocoon_num.specs.Names.{same_name}
use Rattle.cocoon_types.specs.Parts.{parts, list_of}

-- a variable with its value
pub record Var : Type 0 where
  pub name : List ℕ
  pub value : Expr

-- a field with its value
pub record FieldValue : Type 0 where
  pub header : List ℕ
  pub field : List ℕ
  pub value : Expr

-- what a path has met: its conditions, the token indices of its choices, the values as they are now, and what it sent
pub record Path : Type 0 where
  pub conditions : List Expr
  pub choices : List ℕ
  pub vars : List Var
  pub fields : List FieldValue
  pub sent : Option (List Expr)

-- a choice, by its token index
abbrev pub choice : ℕ → Expr
choice at = name at []

-- the value of a variable, else the variable itself
abbrev pub var_value : List Var → ℕ → List ℕ → Expr
var_value [] at x = name at x
var_value (v ∷ vs) at x = if same_name x v.name then v.value else var_value vs at x

-- the value of a field
abbrev pub field_value : List FieldValue → Name → Name → Expr
field_value [] h f = field 0 h f
field_value (v ∷ vs) h f = if same_name h.text v.header && same_name f.text v.field then v.value else field_value vs h f

-- the fields with one of them set
abbrev pub with_field : List FieldValue → Name → Name → Expr → List FieldValue
with_field [] h f e = []
with_field (v ∷ vs) h f e = if same_name h.text v.header && same_name f.text v.field then record v { value = e } ∷ vs else v ∷ with_field vs h f e

abbrev mutual
  -- an expression with each variable and each field replaced by its value
  pub replaced : Path → Expr → Expr
  replaced p (name at x) = var_value p.vars at x
  replaced p (field at h f) = field_value p.fields h f
  replaced p (lit at w n) = lit at w n
  replaced p (true_or_false at b) = true_or_false at b
  replaced p (call at f es) = call at f (all_replaced p es)
  replaced p (unary at op a) = unary at op (replaced p a)
  replaced p (binary at op a b) = binary at op (replaced p a) (replaced p b)
  replaced p (slice at a high low) = slice at (replaced p a) high low
  replaced p (pick at c a b) = pick at (replaced p c) (replaced p a) (replaced p b)

  -- the same of some expressions
  pub all_replaced : Path → Exprs → Exprs
  all_replaced p no_exprs = no_exprs
  all_replaced p (expr e es) = expr (replaced p e) (all_replaced p es)

-- ---- paths

-- the path with one more condition
abbrev pub meets : Expr → Path → Path
meets e p = record p { conditions = replaced p e ∷ p.conditions }

-- the path with one more choice
abbrev pub chooses : ℕ → Path → Path
chooses at p = record p { choices = at ∷ p.choices }

-- the path with one more variable
abbrev pub with_var_as : Name → Expr → Path → Path
with_var_as x e p = record p { vars = record { name = x.text; value = e } ∷ p.vars }

-- the path with a field set
abbrev pub with_field_as : Name → Name → Expr → Path → Path
with_field_as h f e p = record p { fields = with_field p.fields h f e }

-- the variables of a block end with it
abbrev pub leaves : List Var → Path → Path
leaves vars p = record p { vars = vars }

-- a path that has sent stays as it is, and another one is followed
abbrev pub unless_sent : (Path → List Path) → Path → List Path
unless_sent f p = elim p.sent [ None ↦ f p | Some es ↦ p ∷ [] ]

-- the paths that have sent: a fork never falls
abbrev pub those_sent : List Path → List Path
those_sent ps = list_filter (λ (p : Path). is_some p.sent) ps

abbrev mutual
  -- the paths through a statement, from one path on
  pub paths : Stmt → Path → List Path
  paths (let_ at x w e) p = with_var_as x (replaced p e) p ∷ []
  paths (set_field at h f e) p = with_field_as h f (replaced p e) p ∷ []
  paths (if_ at e first second) p = map (leaves p.vars) (paths_in first (meets e p)) ++ map (leaves p.vars) (paths_in second (meets e p))
  paths (filter at e) p = meets e p ∷ []
  paths (havoc_var at x w) p = with_var_as x (choice at) (chooses at p) ∷ []
  paths (havoc_field at h f) p = with_field_as h f (choice at) (chooses at p) ∷ []
  paths (assume at e) p = meets e p ∷ []
  paths (fork at x w e body) p = those_sent (paths_in body (meets e (with_var_as x (choice at) (chooses at p))))
  paths (send at r es) p = record p { sent = Some (list_of (all_replaced p es)) } ∷ []

  -- the paths through a block
  pub paths_in : Block → Path → List Path
  paths_in no_stmts p = p ∷ []
  paths_in (stmt first rest) p = flat_map (unless_sent (paths_in rest)) (paths first p)

-- ---- choices

-- the choice with this token index
abbrev pub is_choice_at : ℕ → Expr → Bool
is_choice_at c e = elim e [ name at x ↦ (c == at) && (length x == 0) | _ ↦ false ]

-- it occurs in an expression
abbrev pub occurs : ℕ → Expr → Bool
occurs c e = list_any (is_choice_at c) (parts e)

-- the values that a path sends: the arguments and the fields
abbrev pub sent_values : List Expr → Path → List Expr
sent_values args p = args ++ map (λ (v : FieldValue). v.value) p.fields

-- a choice that occurs, and stands alone nowhere
abbrev pub is_hidden : List Expr → Path → ℕ → Bool
is_hidden args p c =
    list_any (occurs c) (p.conditions ++ sent_values args p) && not (list_any (is_choice_at c) (sent_values args p))

-- the hidden choices of a path that sends
abbrev pub hidden_on : Path → List ℕ
hidden_on p = elim p.sent [ None ↦ [] | Some args ↦ list_filter (is_hidden args p) p.choices ]

-- the fields with their own values
abbrev pub first_fields : List HeaderDecl → List FieldValue
first_fields hs = flat_map (λ (h : HeaderDecl). map (λ (f : Param). record { header = h.name.text; field = f.name.text; value = field 0 h.name f.name }) h.fields) hs

-- the token indices of the hidden choices of a body
abbrev pub hidden_in : Design → Block → List ℕ
hidden_in d b = flat_map hidden_on (paths_in b (record { conditions = []; choices = []; vars = []; fields = first_fields d.headers; sent = None }))
