-- One choice followed through a body, as a plain program: what each value of a path holds of the choice, and whether some
-- path hides it. A path is known by its `Holding` alone. The clauses of the functions here cite it.
use Rattle.std.specs.Prelude.{◌≡◌, ℕ, ◌≤◌, ◌==◌, ◌&&◌, ◌||◌, Bool, true, false, not, suc, List, [], ◌∷◌, ◌++◌, map, flat_map, length, take, set, get_or, if◌then◌else◌, nat_lt, Option, Some, None, option_map}
use Rattle.std.specs.List.{list_any}
use Rattle.cocoon_num.specs.Tree.{Name, Expr, name, field, lit, true_or_false, call, unary, binary, slice, pick, Exprs, no_exprs, expr, Stmt, let_, set_field, if_, filter, havoc_var, havoc_field, assume, fork, send, Block, no_stmts, stmt, Param, HeaderDecl}
use Rattle.cocoon_num.specs.Lists.{has_number}
use Rattle.cocoon_num.specs.Names.{same_name}
use Rattle.form_rules.specs.declared.scope.FieldName.{FieldName}
use Rattle.form_rules.specs.declared.scope.Scope.{Scope}
use Rattle.form_rules.specs.declared.state.Held.{Held}

-- the choice that is followed, the fields of the packet, and the variables, the latest last
pub record Names : Type 0 where
  pub choice : ℕ
  pub fields : List FieldName
  pub vars : List (List ℕ)

-- what a path holds of the choice
pub record Holding : Type 0 where
  pub made : Bool
  pub met : Bool
  pub fields : List Held
  pub vars : List Held

-- with the first variables alone
abbrev pub first_vars : (count : ℕ) → Names → Names
first_vars count n = record n { vars = take count n.vars }

-- where the choice of this token index is followed
abbrev pub at_choice : ℕ → Names → Names
at_choice c n = record n { choice = c }

-- what a value of the code stands for, before a choice is followed
abbrev pub names_of : Scope → Names
names_of s = record { choice = 0; fields = s.fields.items; vars = s.vars.items }

-- ---- values

abbrev pub nothing : Held
nothing = record { within = false; alone = false }

-- the choice of a token index
abbrev pub made_at : Names → ℕ → Held
made_at n at = record { within = n.choice == at; alone = n.choice == at }

-- a name that is not bound
abbrev pub unbound : Names → ℕ → List ℕ → Held
unbound n at x = record { within = (n.choice == at) && (length x == 0); alone = (n.choice == at) && (length x == 0) }

-- the index of the latest variable of a name
abbrev pub latest : List (List ℕ) → List ℕ → Option ℕ
latest [] x = None
latest (y ∷ ys) x = elim (latest ys x) [ None ↦ if same_name x y then Some 0 else None | Some i ↦ Some (suc i) ]

-- the index of the first field of a name
abbrev pub first_field : List FieldName → (header field : List ℕ) → Option ℕ
first_field [] h f = None
first_field (y ∷ ys) h f = if same_name h y.header && same_name f y.field then Some 0 else option_map suc (first_field ys h f)

abbrev pub var_held : Names → Holding → ℕ → List ℕ → Held
var_held n s at x = elim (latest n.vars x) [ None ↦ unbound n at x | Some i ↦ get_or s.vars i nothing ]

abbrev pub field_held : Names → Holding → (header field : List ℕ) → Held
field_held n s h f = elim (first_field n.fields h f) [ None ↦ nothing | Some i ↦ get_or s.fields i nothing ]

abbrev mutual
  -- the choice occurs in an expression's value
  pub mentions : Names → Holding → Expr → Bool
  mentions n s (name at x) = (var_held n s at x).within
  mentions n s (field at h f) = (field_held n s h.text f.text).within
  mentions n s (lit at w m) = false
  mentions n s (true_or_false at b) = false
  mentions n s (call at f es) = any_mentions n s es
  mentions n s (unary at op a) = mentions n s a
  mentions n s (binary at op a b) = mentions n s a || mentions n s b
  mentions n s (slice at a high low) = mentions n s a
  mentions n s (pick at c a b) = mentions n s c || mentions n s a || mentions n s b

  -- it occurs in one of some expressions' values
  pub any_mentions : Names → Holding → Exprs → Bool
  any_mentions n s no_exprs = false
  any_mentions n s (expr e es) = mentions n s e || any_mentions n s es

-- the choice is an expression's value
abbrev pub is_alone : Names → Holding → Expr → Bool
is_alone n s (name at x) = (var_held n s at x).alone
is_alone n s (field at h f) = (field_held n s h.text f.text).alone
is_alone n s e = false

-- it is one of some expressions' values
abbrev pub any_alone : Names → Holding → Exprs → Bool
any_alone n s no_exprs = false
any_alone n s (expr e es) = is_alone n s e || any_alone n s es

-- what an expression's value holds
abbrev pub held : Names → Holding → Expr → Held
held n s e = record { within = mentions n s e; alone = is_alone n s e }

-- ---- statements

abbrev pub meets : Names → Expr → Holding → Holding
meets n e s = record s { met = mentions n s e || s.met }

abbrev pub chooses : Names → ℕ → Holding → Holding
chooses n at s = record s { made = (n.choice == at) || s.made }

abbrev pub with_var : Held → Holding → Holding
with_var h s = record s { vars = s.vars ++ (h ∷ []) }

-- a variable that is chosen
abbrev pub chooses_var : Names → ℕ → Holding → Holding
chooses_var n at s = with_var (made_at n at) (chooses n at s)

abbrev pub with_field : Names → Name → Name → Held → Holding → Holding
with_field n h f v s = record s { fields = elim (first_field n.fields h.text f.text) [ None ↦ s.fields | Some i ↦ set s.fields i v ] }

-- the variables of a block end with it
abbrev pub leaves : Names → Holding → Holding
leaves n s = record s { vars = take (length n.vars) s.vars }

-- what a path holds where it goes on after a statement, or enters its blocks; the variable of a `fork` is bound already
abbrev pub moved : Names → Stmt → Holding → Holding
moved n (let_ at x w e) s = with_var (held n s e) s
moved n (set_field at h f e) s = with_field n h f (held n s e) s
moved n (if_ at e a b) s = meets n e s
moved n (filter at e) s = meets n e s
moved n (havoc_var at x w) s = chooses_var n at s
moved n (havoc_field at h f) s = with_field n h f (made_at n at) (chooses n at s)
moved n (assume at e) s = meets n e s
moved n (fork at x w e b) s = meets n e (chooses_var n at s)
moved n (send at r es) s = s

-- with one more variable
abbrev pub bound : Name → Names → Names
bound x n = record n { vars = n.vars ++ (x.text ∷ []) }

-- what is bound after a statement
abbrev pub after : Stmt → Names → Names
after (let_ at x w e) n = bound x n
after (havoc_var at x w) n = bound x n
after s n = n

-- the choice occurs in a condition or in what is sent
abbrev pub occurs : Names → Exprs → Holding → Bool
occurs n es s = s.met || (any_mentions n s es || list_any (λ (h : Held). h.within) s.fields)

-- it stands alone in what is sent
abbrev pub stands : Names → Exprs → Holding → Bool
stands n es s = any_alone n s es || list_any (λ (h : Held). h.alone) s.fields

-- the choice was made, and a path that sends these values hides it
abbrev pub hides : Names → Exprs → Holding → Bool
hides n es s = s.made && occurs n es s && not (stands n es s)

abbrev mutual
  -- some path through a statement hides the choice where it sends, or goes on holding what passes a test
  pub finds : Names → Stmt → (Holding → Bool) → Holding → Bool
  finds n (if_ at e a b) t s = finds_in n a (λ q. t (leaves n q)) (meets n e s) || finds_in n b (λ q. t (leaves n q)) (meets n e s)
  finds n (fork at x w e b) t s = finds_in (bound x n) b (λ q. false) (moved (bound x n) (fork at x w e b) s)
  finds n (send at r es) t s = hides n es s
  finds n (let_ at x w e) t s = t (moved n (let_ at x w e) s)
  finds n (set_field at h f e) t s = t (moved n (set_field at h f e) s)
  finds n (filter at e) t s = t (moved n (filter at e) s)
  finds n (havoc_var at x w) t s = t (moved n (havoc_var at x w) s)
  finds n (havoc_field at h f) t s = t (moved n (havoc_field at h f) s)
  finds n (assume at e) t s = t (moved n (assume at e) s)

  -- the same of a block
  pub finds_in : Names → Block → (Holding → Bool) → Holding → Bool
  finds_in n no_stmts t s = t s
  finds_in n (stmt first rest) t s = finds n first (finds_in (after first n) rest t) s

-- the names of the fields of a header
abbrev pub names_of_header : HeaderDecl → List FieldName
names_of_header h = map (λ (f : Param). record { header = h.name.text; field = f.name.text }) h.fields

-- the names of the fields of some headers
abbrev pub names_in : List HeaderDecl → List FieldName
names_in hs = flat_map names_of_header hs

-- what is bound where a body begins
abbrev pub body_names : (choice : ℕ) → List HeaderDecl → Names
body_names c hs = record { choice = c; fields = names_in hs; vars = [] }

-- what a path holds where a body begins, in a packet with these fields
abbrev pub at_start : List FieldName → Holding
at_start names = record { made = false; met = false; fields = map (λ (f : FieldName). nothing) names; vars = [] }

abbrev pub at_first : Names → Holding
at_first n = at_start n.fields

-- some path through a body hides the choice
abbrev pub is_hidden : Names → Block → Bool
is_hidden n b = finds_in n b (λ q. false) (at_first n)

-- ---- choices

abbrev mutual
  -- the token indices of the choices in a statement
  pub choices_of : Stmt → List ℕ
  choices_of (if_ at e a b) = choices_in a ++ choices_in b
  choices_of (havoc_var at x w) = at ∷ []
  choices_of (havoc_field at h f) = at ∷ []
  choices_of (fork at x w e b) = at ∷ choices_in b
  choices_of (let_ at x w e) = []
  choices_of (set_field at h f e) = []
  choices_of (filter at e) = []
  choices_of (assume at e) = []
  choices_of (send at r es) = []

  -- those in a block
  pub choices_in : Block → List ℕ
  choices_in no_stmts = []
  choices_in (stmt first rest) = choices_of first ++ choices_in rest

-- the least of some numbers that pass a test, if one of them does
abbrev pub IsLeastOf : (ℕ → Bool) → List ℕ → Option ℕ → Type 0
IsLeastOf f cs None = (c : ℕ) → has_number c cs ≡ true → f c ≡ false
IsLeastOf f cs (Some m) = (f m ≡ true) × ((c : ℕ) → has_number c cs ≡ true → f c ≡ true → m ≤ c)

-- the least of some choices that is hidden in a body, if one of them is
abbrev pub IsLeastHidden : List HeaderDecl → Block → List ℕ → Option ℕ → Type 0
IsLeastHidden hs b = IsLeastOf (λ c. is_hidden (body_names c hs) b)

-- a choice comes before the least so far
abbrev pub comes_before : ℕ → Option ℕ → Bool
comes_before c None = true
comes_before c (Some m) = nat_lt c m

-- the lesser of a choice, if it passes a test, and the least so far
abbrev pub lesser : (ℕ → Bool) → ℕ → Option ℕ → Option ℕ
lesser f c least = if comes_before c least && f c then Some c else least
