-- What a path's values hold of a choice is told by what the path holds of it.
use Rattle.std.specs.Prelude.{◌≡◌, ℕ, suc, ◌+◌, ◌<◌, ◌==◌, ◌&&◌, Bool, true, false, List, [], ◌∷◌, ◌++◌, map, length, set, get_or, if◌then◌else◌, Option, Some, None, option_map, refl}
use Rattle.std.specs.List.{list_any}
use Rattle.std.proofs.Common.{sym, ◌∙◌, ap, ap₂, arith, length-append}
use Rattle.std.proofs.Math.Bool.{or-false, and-true}
use Rattle.std.proofs.lemmas.List.{get_or_push, get_or_append_left}
use Rattle.std.proofs.lemmas.List.Folds.{list_any-append}
use Rattle.cocoon_num.specs.Tree.{Name, Expr, name, field, lit, true_or_false, call, unary, binary, slice, pick, Exprs, no_exprs, expr}
use Rattle.cocoon_num.specs.Names.{same_name}
use Rattle.cocoon_num.specs.Lists.{has_number}
use Rattle.cocoon_types.specs.Parts.{parts, parts_of, list_of}
use Rattle.cocoon_types.specs.ReadBack as paths
use Rattle.cocoon_types.specs.ReadBack.{Var, FieldValue, Path, choice, var_value, field_value, replaced, all_replaced, is_choice_at, occurs}
use Rattle.form_rules.specs.declared.scope.FieldName.{FieldName}
use Rattle.form_rules.specs.declared.state.Held.{Held}
use Rattle.form_rules.specs.Following.{Names, Holding, nothing, made_at, latest, first_field, var_held, field_held, mentions, any_mentions, is_alone, any_alone, held, with_field}
use Rattle.form_rules.proofs.Lists.{either}

-- ---- what a path holds

abbrev pub held_of : ℕ → Expr → Held
held_of c e = record { within = occurs c e; alone = is_choice_at c e }

abbrev pub vars_held : ℕ → List Var → List Held
vars_held c [] = []
vars_held c (v ∷ vs) = vars_held c vs ++ (held_of c v.value ∷ [])

abbrev pub var_names : List Var → List (List ℕ)
var_names [] = []
var_names (v ∷ vs) = var_names vs ++ (v.name ∷ [])

abbrev pub field_name : FieldValue → FieldName
field_name v = record { header = v.header; field = v.field }

abbrev pub field_names : List FieldValue → List FieldName
field_names vs = map (λ (v : FieldValue). field_name v) vs

abbrev pub fields_held : ℕ → List FieldValue → List Held
fields_held c vs = map (λ (v : FieldValue). held_of c v.value) vs

abbrev pub holds : ℕ → Path → Holding
holds c p = record { made = has_number c p.choices; met = list_any (occurs c) p.conditions; fields = fields_held c p.fields; vars = vars_held c p.vars }

-- a path that goes on, and what is bound there
pub record Fits (c : ℕ) (n : Names) (p : Path) : Type 0 where
  pub choice : n.choice ≡ c
  pub fields : n.fields ≡ field_names p.fields
  pub vars : n.vars ≡ var_names p.vars
  pub unsent : p.sent ≡ None

-- ---- variables

-- one more name before those that were looked through
abbrev pub before : List ℕ → List ℕ → Option ℕ → Option ℕ
before y x o = elim o [ None ↦ if same_name x y then Some 0 else None | Some i ↦ Some (suc i) ]

before_if : (y x : List ℕ) (b : Bool) (i : ℕ) (o : Option ℕ) → before y x (if b then Some i else o) ≡ (if b then Some (suc i) else before y x o)
before_if y x true i o = refl
before_if y x false i o = refl

pub latest_push : (ys : List (List ℕ)) (y x : List ℕ) → latest (ys ++ (y ∷ [])) x ≡ (if same_name x y then Some (length ys) else latest ys x)
latest_push [] y x = refl
latest_push (z ∷ ys) y x = ap (before z x) (latest_push ys y x) ∙ before_if z x (same_name x y) (length ys) (latest ys x)

below_before : (b : Bool) (o : Option ℕ) (k : ℕ) → ((j : ℕ) → o ≡ Some j → j < k) → (i : ℕ) → (elim o as (λ p. Option ℕ) [ None ↦ if b then Some 0 else None | Some j ↦ Some (suc j) ]) ≡ Some i → i < suc k
below_before true None k h i e = let z : 0 ≡ i = cc in omega arith
below_before false None k h i e = absurd cc
below_before b (Some j) k h i e = let l : j < k = h j refl in let z : suc j ≡ i = cc in omega arith

pub latest_below : (ys : List (List ℕ)) (x : List ℕ) (i : ℕ) → latest ys x ≡ Some i → i < length ys
latest_below [] x i h = absurd cc
latest_below (y ∷ ys) x i h = below_before (same_name x y) (latest ys x) (length ys) (latest_below ys x) i h

pub as_many : (c : ℕ) (vs : List Var) → length (vars_held c vs) ≡ length (var_names vs)
as_many c [] = refl
as_many c (v ∷ vs) = length-append (vars_held c vs) _ ∙ ap (λ k. k + 1) (as_many c vs) ∙ sym (length-append (var_names vs) _)

-- what is looked up at an index, if there is one
abbrev pub at_index : Held → List Held → Option ℕ → Held
at_index h hs o = elim o [ None ↦ h | Some i ↦ get_or hs i nothing ]

same_index : (d : Held) (hs : List Held) (h : Held) (o : Option ℕ) → ((i : ℕ) → o ≡ Some i → i < length hs) → at_index d (hs ++ (h ∷ [])) o ≡ at_index d hs o
same_index d hs h None below = refl
same_index d hs h (Some i) below = get_or_append_left hs (h ∷ []) nothing i (below i refl)

pushed : (b : Bool) (d : Held) (hs : List Held) (h : Held) (k : ℕ) (o : Option ℕ) → length hs ≡ k → ((i : ℕ) → o ≡ Some i → i < length hs) → at_index d (hs ++ (h ∷ [])) (if b then Some k else o) ≡ (if b then h else at_index d hs o)
pushed true d hs h k o e below = get_or_push hs h nothing k e
pushed false d hs h k o e below = same_index d hs h o below

held_if : (c : ℕ) (b : Bool) (a e : Expr) → (if b then held_of c a else held_of c e) ≡ held_of c (if b then a else e)
held_if c true a e = refl
held_if c false a e = refl

abbrev free : ℕ → ℕ → List ℕ → Held
free c at x = record { within = (c == at) && (length x == 0); alone = (c == at) && (length x == 0) }

-- two truth values as what is held
abbrev pair : Bool → Bool → Held
pair a b = record { within = a; alone = b }

var_is : (c : ℕ) (vs : List Var) (at : ℕ) (x : List ℕ) → at_index (free c at x) (vars_held c vs) (latest (var_names vs) x) ≡ held_of c (var_value vs at x)
var_is c [] at x = ap (λ w. pair w ((c == at) && (length x == 0))) (sym (or-false ((c == at) && (length x == 0))))
var_is c (v ∷ vs) at x =
    ap (at_index (free c at x) (vars_held c (v ∷ vs))) (latest_push (var_names vs) v.name x)
    ∙ pushed (same_name x v.name) (free c at x) (vars_held c vs) (held_of c v.value) (length (var_names vs)) (latest (var_names vs) x) (as_many c vs) (λ i h. let l : i < length (var_names vs) = latest_below (var_names vs) x i h in let e = as_many c vs in omega arith)
    ∙ ap (λ (h : Held). if same_name x v.name then held_of c v.value else h) (var_is c vs at x)
    ∙ held_if c (same_name x v.name) v.value (var_value vs at x)

pub var_held_is : (c : ℕ) (n : Names) (p : Path) → Fits c n p → (at : ℕ) (x : List ℕ) → var_held n (holds c p) at x ≡ held_of c (var_value p.vars at x)
var_held_is c n p fits at x =
    ap₂ (λ (k : ℕ) (ys : List (List ℕ)). at_index (free k at x) (vars_held c p.vars) (latest ys x)) fits.choice fits.vars ∙ var_is c p.vars at x

-- ---- fields

later : (h : Held) (hs : List Held) (o : Option ℕ) → at_index nothing (h ∷ hs) (option_map suc o) ≡ at_index nothing hs o
later h hs None = refl
later h hs (Some i) = refl

field_step : (c : ℕ) (b : Bool) (hs : List Held) (o : Option ℕ) (a e : Expr) → at_index nothing hs o ≡ held_of c e → at_index nothing (held_of c a ∷ hs) (if b then Some 0 else option_map suc o) ≡ held_of c (if b then a else e)
field_step c true hs o a e h = refl
field_step c false hs o a e h = later (held_of c a) hs o ∙ h

field_is : (c : ℕ) (vs : List FieldValue) (h f : Name) → at_index nothing (fields_held c vs) (first_field (field_names vs) h.text f.text) ≡ held_of c (field_value vs h f)
field_is c [] h f = refl
field_is c (v ∷ vs) h f =
    field_step c (same_name h.text v.header && same_name f.text v.field) (fields_held c vs) (first_field (field_names vs) h.text f.text) v.value (field_value vs h f) (field_is c vs h f)

pub field_held_is : (c : ℕ) (n : Names) (p : Path) → Fits c n p → (h f : Name) → field_held n (holds c p) h.text f.text ≡ held_of c (field_value p.fields h f)
field_held_is c n p fits h f = ap (λ ys. at_index nothing (fields_held c p.fields) (first_field ys h.text f.text)) fits.fields ∙ field_is c p.fields h f

-- a list with one element set, if there is an index
abbrev set_at : List Held → Held → Option ℕ → List Held
set_at hs v o = elim o [ None ↦ hs | Some i ↦ set hs i v ]

set_later : (h : Held) (hs : List Held) (v : Held) (o : Option ℕ) → set_at (h ∷ hs) v (option_map suc o) ≡ h ∷ set_at hs v o
set_later h hs v None = refl
set_later h hs v (Some i) = refl

set_step : (c : ℕ) (b : Bool) (v : FieldValue) (hs : List Held) (o : Option ℕ) (e : Expr) (rest more : List FieldValue) → set_at hs (held_of c e) o ≡ fields_held c more → fields_held c rest ≡ hs →
    set_at (held_of c v.value ∷ hs) (held_of c e) (if b then Some 0 else option_map suc o) ≡ fields_held c (if b then record v { value = e } ∷ rest else v ∷ more)
set_step c true v hs o e rest more h k = ap (λ (xs : List Held). held_of c e ∷ xs) (sym k)
set_step c false v hs o e rest more h k = set_later (held_of c v.value) hs (held_of c e) o ∙ ap (λ (xs : List Held). held_of c v.value ∷ xs) h

set_is : (c : ℕ) (vs : List FieldValue) (h f : Name) (e : Expr) → set_at (fields_held c vs) (held_of c e) (first_field (field_names vs) h.text f.text) ≡ fields_held c (paths.with_field vs h f e)
set_is c [] h f e = refl
set_is c (v ∷ vs) h f e =
    set_step c (same_name h.text v.header && same_name f.text v.field) v (fields_held c vs) (first_field (field_names vs) h.text f.text) e vs (paths.with_field vs h f e) (set_is c vs h f e) refl

names_step : (b : Bool) (v : FieldValue) (e : Expr) (rest more : List FieldValue) → field_names more ≡ field_names rest → field_names (if b then record v { value = e } ∷ rest else v ∷ more) ≡ field_names (v ∷ rest)
names_step true v e rest more h = refl
names_step false v e rest more h = ap (λ (ys : List FieldName). field_name v ∷ ys) h

-- setting a field leaves the names
pub same_fields : (vs : List FieldValue) (h f : Name) (e : Expr) → field_names (paths.with_field vs h f e) ≡ field_names vs
same_fields [] h f e = refl
same_fields (v ∷ vs) h f e = names_step (same_name h.text v.header && same_name f.text v.field) v e vs (paths.with_field vs h f e) (same_fields vs h f e)

pub with_field_is : (c : ℕ) (n : Names) (p : Path) → Fits c n p → (h f : Name) (e : Expr) (v : Held) → v ≡ held_of c e → holds c (paths.with_field_as h f e p) ≡ with_field n h f v (holds c p)
with_field_is c n p fits h f e v is =
    let put : List Held → Holding = λ hs. record (holds c p) { fields = hs } in
    ap put (sym (ap₂ (λ (ys : List FieldName) (w : Held). set_at (fields_held c p.fields) w (first_field ys h.text f.text)) fits.fields is ∙ set_is c p.fields h f e))

-- ---- expressions

mutual
  pub mentions_is : (c : ℕ) (n : Names) (p : Path) → Fits c n p → (e : Expr) → mentions n (holds c p) e ≡ occurs c (replaced p e)
  mentions_is c n p fits (name at x) = ap (λ (h : Held). h.within) (var_held_is c n p fits at x)
  mentions_is c n p fits (field at h f) = ap (λ (h : Held). h.within) (field_held_is c n p fits h f)
  mentions_is c n p fits (lit at w m) = refl
  mentions_is c n p fits (true_or_false at b) = refl
  mentions_is c n p fits (call at f es) = any_mentions_is c n p fits es
  mentions_is c n p fits (unary at op a) = mentions_is c n p fits a
  mentions_is c n p fits (binary at op a b) =
      ap₂ either (mentions_is c n p fits a) (mentions_is c n p fits b) ∙ sym (list_any-append (is_choice_at c) (parts (replaced p a)) (parts (replaced p b)))
  mentions_is c n p fits (slice at a high low) = mentions_is c n p fits a
  mentions_is c n p fits (pick at d a b) =
      ap₂ either (ap₂ either (mentions_is c n p fits d) (mentions_is c n p fits a) ∙ sym (list_any-append (is_choice_at c) (parts (replaced p d)) (parts (replaced p a)))) (mentions_is c n p fits b)
      ∙ sym (list_any-append (is_choice_at c) (parts (replaced p d) ++ parts (replaced p a)) (parts (replaced p b)))

  any_mentions_is : (c : ℕ) (n : Names) (p : Path) → Fits c n p → (es : Exprs) → any_mentions n (holds c p) es ≡ list_any (is_choice_at c) (parts_of (all_replaced p es))
  any_mentions_is c n p fits no_exprs = refl
  any_mentions_is c n p fits (expr e es) =
      ap₂ either (mentions_is c n p fits e) (any_mentions_is c n p fits es) ∙ sym (list_any-append (is_choice_at c) (parts (replaced p e)) (parts_of (all_replaced p es)))

pub is_alone_is : (c : ℕ) (n : Names) (p : Path) → Fits c n p → (e : Expr) → is_alone n (holds c p) e ≡ is_choice_at c (replaced p e)
is_alone_is c n p fits (name at x) = ap (λ (h : Held). h.alone) (var_held_is c n p fits at x)
is_alone_is c n p fits (field at h f) = ap (λ (h : Held). h.alone) (field_held_is c n p fits h f)
is_alone_is c n p fits e = refl

pub sent_mentions_is : (c : ℕ) (n : Names) (p : Path) → Fits c n p → (es : Exprs) → any_mentions n (holds c p) es ≡ list_any (occurs c) (list_of (all_replaced p es))
sent_mentions_is c n p fits no_exprs = refl
sent_mentions_is c n p fits (expr e es) = ap₂ either (mentions_is c n p fits e) (sent_mentions_is c n p fits es)

pub sent_alone_is : (c : ℕ) (n : Names) (p : Path) → Fits c n p → (es : Exprs) → any_alone n (holds c p) es ≡ list_any (is_choice_at c) (list_of (all_replaced p es))
sent_alone_is c n p fits no_exprs = refl
sent_alone_is c n p fits (expr e es) = ap₂ either (is_alone_is c n p fits e) (sent_alone_is c n p fits es)

pub held_is : (c : ℕ) (n : Names) (p : Path) → Fits c n p → (e : Expr) → held n (holds c p) e ≡ held_of c (replaced p e)
held_is c n p fits e = ap₂ pair (mentions_is c n p fits e) (is_alone_is c n p fits e)

pub made_is : (c : ℕ) (n : Names) (at : ℕ) → n.choice ≡ c → made_at n at ≡ held_of c (choice at)
made_is c n at h =
    ap (λ k. pair (k == at) (k == at)) h ∙ ap₂ pair (sym (and-true (c == at)) ∙ sym (or-false ((c == at) && true))) (sym (and-true (c == at)))
