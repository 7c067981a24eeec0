-- Cited by the clause of the law `tried_choices_send`, and by the clauses of `role_meaning`: what a path holds, by the choices that its values are,
-- and the choices that are tried where it sends. A choice is known by the token index of its statement, and a value is a
-- choice if it is that alone.
use Rattle.std.specs.Prelude.{ℕ, ◌==◌, ◌&&◌, ◌||◌, Bool, false, List, [], ◌∷◌, ◌++◌, map, flat_map, length, if◌then◌else◌, Option, Some, None}
use Rattle.cocoon_num.specs.Names.{same_name}
use Rattle.cocoon_num.specs.Tree.{Expr, name, field, Exprs, no_exprs, expr, Stmt, let_, set_field, if_, filter, havoc_var, havoc_field, assume, fork, send, Block, no_stmts, stmt, HeaderDecl, Param}

-- a variable, and the choice that it is
pub record VarMark : Type 0 where
  pub name : List ℕ
  pub choice : Option ℕ

-- a field, and the choice that it is
pub record FieldMark : Type 0 where
  pub header : List ℕ
  pub field : List ℕ
  pub choice : Option ℕ

-- the choices of a path in the order in which they are made, the variables with the latest first, and the fields
pub record Marks : Type 0 where
  pub choices : List ℕ
  pub vars : List VarMark
  pub fields : List FieldMark

-- ---- values

abbrev pub var_choice : List VarMark → ℕ → List ℕ → Option ℕ
var_choice [] at x = if length x == 0 then Some at else None
var_choice (v ∷ vs) at x = if same_name x v.name then v.choice else var_choice vs at x

abbrev pub field_choice : List FieldMark → (header field : List ℕ) → Option ℕ
field_choice [] h f = None
field_choice (v ∷ vs) h f = if same_name h v.header && same_name f v.field then v.choice else field_choice vs h f

-- the choice that an expression's value is
abbrev pub expr_choice : Marks → Expr → Option ℕ
expr_choice m (name at x) = var_choice m.vars at x
expr_choice m (field at h f) = field_choice m.fields h.text f.text
expr_choice m e = None

abbrev pub exprs_choices : Marks → Exprs → List (Option ℕ)
exprs_choices m no_exprs = []
exprs_choices m (expr e es) = expr_choice m e ∷ exprs_choices m es

-- ---- statements

abbrev pub set_choice : List FieldMark → (header field : List ℕ) → Option ℕ → List FieldMark
set_choice [] h f c = []
set_choice (v ∷ vs) h f c = if same_name h v.header && same_name f v.field then record v { choice = c } ∷ vs else v ∷ set_choice vs h f c

-- with one more variable
abbrev pub binds : List ℕ → Option ℕ → Marks → Marks
binds x c m = record m { vars = record { name = x; choice = c } ∷ m.vars }

-- with a field set
abbrev pub sets : (header field : List ℕ) → Option ℕ → Marks → Marks
sets h f c m = record m { fields = set_choice m.fields h f c }

-- with one more choice
abbrev pub makes : ℕ → Marks → Marks
makes at m = record m { choices = m.choices ++ (at ∷ []) }

-- the variables of a block end with it
abbrev pub leaves : List VarMark → Marks → Marks
leaves vars m = record m { vars = vars }

-- the fields of a header as they come
abbrev pub header_marks : HeaderDecl → List FieldMark
header_marks h = map (λ (f : Param). record { header = h.name.text; field = f.name.text; choice = None }) h.fields

-- what a path holds where a body begins
abbrev pub first_marks : List HeaderDecl → Marks
first_marks hs = record { choices = []; vars = []; fields = flat_map header_marks hs }

-- ---- what is tried

abbrev pub is_same : Option ℕ → ℕ → Bool
is_same None c = false
is_same (Some a) c = c == a

-- of values and their numbers, the number of the first value that is the choice
abbrev pub number_in : ℕ → List (Option ℕ) → List ℕ → Option ℕ
number_in c (o ∷ os) (n ∷ ns) = if is_same o c then Some n else number_in c os ns
number_in c _ _ = None

-- the number that is wanted of a choice, by arguments and then by fields; 0 if it is none of them
abbrev pub wanted : (args : List (Option ℕ)) → (to : List ℕ) → (fields : List (Option ℕ)) → (sent : List ℕ) → ℕ → ℕ
wanted args to fields sent c = elim (number_in c args to) [
  | Some n ↦ n
  | None ↦ elim (number_in c fields sent) [ Some n ↦ n | None ↦ 0 ]
]

-- the choices that the fields are
abbrev pub fields_choices : Marks → List (Option ℕ)
fields_choices m = map (λ (v : FieldMark). v.choice) m.fields

-- the choices that are tried where a path sends these arguments
abbrev pub tried : (to sent : List ℕ) → Marks → List (Option ℕ) → List ℕ
tried to sent m args = map (wanted args to (fields_choices m) sent) m.choices

abbrev mutual
  -- some path through a statement goes on with what passes the first test, or where it sends, what is tried passes the second
  pub finds : (to sent : List ℕ) → Stmt → (Marks → Bool) → (List ℕ → Bool) → Marks → Bool
  finds to sent (let_ at x w e) t u m = t (binds x.text (expr_choice m e) m)
  finds to sent (set_field at h f e) t u m = t (sets h.text f.text (expr_choice m e) m)
  finds to sent (if_ at e a b) t u m =
      finds_in to sent a (λ q. t (leaves m.vars q)) u m || finds_in to sent b (λ q. t (leaves m.vars q)) u m
  finds to sent (filter at e) t u m = t m
  finds to sent (havoc_var at x w) t u m = t (binds x.text (Some at) (makes at m))
  finds to sent (havoc_field at h f) t u m = t (sets h.text f.text (Some at) (makes at m))
  finds to sent (assume at e) t u m = t m
  finds to sent (fork at x w e b) t u m = finds_in to sent b (λ q. false) u (binds x.text (Some at) (makes at m))
  finds to sent (send at r es) t u m = u (tried to sent m (exprs_choices m es))

  -- the same of a block
  pub finds_in : (to sent : List ℕ) → Block → (Marks → Bool) → (List ℕ → Bool) → Marks → Bool
  finds_in to sent no_stmts t u m = t m
  finds_in to sent (stmt s rest) t u m = finds to sent s (finds_in to sent rest t u) u m
