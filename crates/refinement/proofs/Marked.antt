-- The paths of a body, by the choices that their values are: what is tried at a path that sends is found.
use Rattle.std.proofs.Common.{◌≡◌, ◌⊎◌, inl, inr, ℕ, ◌==◌, ◌&&◌, ◌||◌, List, [], ◌∷◌, ◌++◌, map, length, reverse, Bool, true, false, cond, Option, Some, None, is_some, if◌then◌else◌, refl, sym, ap, subst, ◌∙◌}
use Rattle.std.specs.Prelude.{filter as list_filter, flat_map}
use Rattle.std.proofs.lemmas.List.{reverse-append}
use Rattle.cocoon_num.specs.Names.{same_name}
use Rattle.cocoon_num.specs.Tree.{Name, Expr, name, field, lit, true_or_false, call, unary, binary, slice, pick, Exprs, no_exprs, expr, Stmt, let_, set_field, if_, filter, havoc_var, havoc_field, assume, fork, send, Block, no_stmts, stmt}
use Rattle.cocoon_types.specs.Parts.{list_of}
use Rattle.cocoon_types.specs.ReadBack as read
use Rattle.cocoon_types.specs.ReadBack.{all_replaced, chooses, field_value, FieldValue, meets, Path, paths, paths_in, replaced, unless_sent, Var, var_value, with_field, with_var_as}
use Rattle.sound_types.proofs.Members.{flat_in, In, in_either, map_in}
use Rattle.refinement.specs.Trails.{binds, expr_choice, exprs_choices, field_choice, FieldMark, finds, finds_in, leaves, makes, Marks, set_choice, sets, tried, var_choice, VarMark}

-- the choice that a value is
abbrev pub choice_of : Expr → Option ℕ
choice_of (name at x) = if length x == 0 then Some at else None
choice_of e = None

abbrev pub var_mark : Var → VarMark
var_mark v = record { name = v.name; choice = choice_of v.value }

abbrev pub field_mark : FieldValue → FieldMark
field_mark v = record { header = v.header; field = v.field; choice = choice_of v.value }

abbrev pub marks_of : Path → Marks
marks_of p = record { choices = reverse p.choices; vars = map var_mark p.vars; fields = map field_mark p.fields }

-- ---- values

if_choice : (b : Bool) (e f : Expr) (o : Option ℕ) → o ≡ choice_of f → (if b then choice_of e else o) ≡ choice_of (if b then e else f)
if_choice true e f o h = refl
if_choice false e f o h = h

var_marked : (vs : List Var) (at : ℕ) (x : List ℕ) → var_choice (map var_mark vs) at x ≡ choice_of (var_value vs at x)
var_marked [] at x = refl
var_marked (v ∷ vs) at x = if_choice (same_name x v.name) v.value (var_value vs at x) (var_choice (map var_mark vs) at x) (var_marked vs at x)

field_marked : (vs : List FieldValue) (h f : Name) → field_choice (map field_mark vs) h.text f.text ≡ choice_of (field_value vs h f)
field_marked [] h f = refl
field_marked (v ∷ vs) h f =
    if_choice (same_name h.text v.header && same_name f.text v.field) v.value (field_value vs h f) (field_choice (map field_mark vs) h.text f.text) (field_marked vs h f)

expr_marked : (p : Path) (e : Expr) → expr_choice (marks_of p) e ≡ choice_of (replaced p e)
expr_marked p (name at x) = var_marked p.vars at x
expr_marked p (field at h f) = field_marked p.fields h f
expr_marked p (lit at w n) = refl
expr_marked p (true_or_false at b) = refl
expr_marked p (call at f es) = refl
expr_marked p (unary at op a) = refl
expr_marked p (binary at op a b) = refl
expr_marked p (slice at a high low) = refl
expr_marked p (pick at c a b) = refl

pub exprs_marked : (p : Path) (es : Exprs) → exprs_choices (marks_of p) es ≡ map choice_of (list_of (all_replaced p es))
exprs_marked p no_exprs = refl
exprs_marked p (expr e es) = (λ i. expr_marked p e i ∷ exprs_marked p es i)

if_set : (b : Bool) (v : FieldValue) (vs set : List FieldValue) (e : Expr) (ms : List FieldMark) → ms ≡ map field_mark set
    → (if b then record (field_mark v) { choice = choice_of e } ∷ map field_mark vs else field_mark v ∷ ms) ≡ map field_mark (if b then record v { value = e } ∷ vs else v ∷ set)
if_set true v vs set e ms h = refl
if_set false v vs set e ms h = ap (λ xs. field_mark v ∷ xs) h

set_marked : (vs : List FieldValue) (h f : Name) (e : Expr) → set_choice (map field_mark vs) h.text f.text (choice_of e) ≡ map field_mark (with_field vs h f e)
set_marked [] h f e = refl
set_marked (v ∷ vs) h f e =
    if_set (same_name h.text v.header && same_name f.text v.field) v vs (with_field vs h f e) e (set_choice (map field_mark vs) h.text f.text (choice_of e)) (set_marked vs h f e)

-- ---- steps of a path

let_marked : (x : Name) (e : Expr) (p : Path) → binds x.text (expr_choice (marks_of p) e) (marks_of p) ≡ marks_of (with_var_as x (replaced p e) p)
let_marked x e p = ap (λ c. binds x.text c (marks_of p)) (expr_marked p e)

field_set_marked : (h f : Name) (e : Expr) (p : Path) → sets h.text f.text (choice_of e) (marks_of p) ≡ marks_of (read.with_field_as h f e p)
field_set_marked h f e p = ap (λ fs. record { choices = reverse p.choices; vars = map var_mark p.vars; fields = fs }) (set_marked p.fields h f e)

made_marked : (at : ℕ) (p : Path) → makes at (marks_of p) ≡ marks_of (chooses at p)
made_marked at p = ap (λ cs. record { choices = cs; vars = map var_mark p.vars; fields = map field_mark p.fields }) (sym (reverse-append (at ∷ []) p.choices))

-- ---- paths

-- a path that goes on passes the first test, and where it has sent, what is tried passes the second
pub record Passes (to sent : List ℕ) (t : Marks → Bool) (u : List ℕ → Bool) (q : Path) : Type 0 where
  pub going : q.sent ≡ None → t (marks_of q) ≡ true
  pub sending : (es : List Expr) → q.sent ≡ Some es → u (tried to sent (marks_of q) (map choice_of es)) ≡ true

or_first : (a b : Bool) → a ≡ true → (a || b) ≡ true
or_first true b h = refl
or_first false b h = absurd (cc)

or_second : (a b : Bool) → b ≡ true → (a || b) ≡ true
or_second true b h = refl
or_second false b h = h

kept_in : {A : Type 0} (f : A → Bool) (x : A) (xs : List A) → In x (list_filter f xs) → In x xs × (f x ≡ true)
kept_in f x [] h = absurd h
kept_in f x (y ∷ xs) h = by (f y) f x y xs (list_filter f xs) refl (kept_in f x xs) h
  where
    by : {A : Type 0} (b : Bool) (f : A → Bool) (x y : A) (xs rest : List A) → f y ≡ b → (In x rest → In x xs × (f x ≡ true)) → In x (cond b (y ∷ rest) rest) → In x (y ∷ xs) × (f x ≡ true)
    by true f x y xs rest e k h = elim h [ inl q ↦ (inl q, ap f q ∙ e) | inr l ↦ (let t = k l in (inr t.0, t.1)) ]
    by false f x y xs rest e k h = let t = k h in (inr t.0, t.1)

none_sent : (q : Path) → is_some q.sent ≡ true → q.sent ≡ None → ⊥
none_sent q h e = let t : is_some q.sent ≡ false = ap (λ (o : Option (List Expr)). is_some o) e in let both : true ≡ false = sym h ∙ t in cc

one_path : (q x : Path) → q ≡ x → (P : Path → Type 0) → P q → P x
one_path q x e P h = subst P e h

module _ (to sent : List ℕ) (u : List ℕ → Bool) where
  after_sent : (rest : Block) (t : Marks → Bool) (q x : Path) (o : Option (List Expr)) → x.sent ≡ o → In q (elim o [ None ↦ paths_in rest x | Some es ↦ x ∷ [] ]) → Passes to sent t u q
      → ((x.sent ≡ None) → In q (paths_in rest x) → finds_in to sent rest t u (marks_of x) ≡ true) → Passes to sent (finds_in to sent rest t u) u x
  after_sent rest t q x None e i pass more = record {
    going = λ none. more none i;
    sending = λ es some. (let both : None ≡ Some es = sym e ∙ some in absurd (cc));
  }
  after_sent rest t q x (Some es) e i pass more = record {
    going = λ none. (let both : None ≡ Some es = sym none ∙ e in absurd (cc));
    sending = elim i [ inl same ↦ subst (λ z. (xs : List Expr) → z.sent ≡ Some xs → u (tried to sent (marks_of z) (map choice_of xs)) ≡ true) same pass.sending | inr n ↦ absurd n ];
  }

  left : (vars : List Var) (t : Marks → Bool) (q x : Path) → q ≡ read.leaves vars x → Passes to sent t u q → Passes to sent (λ m. t (leaves (map var_mark vars) m)) u x
  left vars t q x e pass = let p : Passes to sent t u (read.leaves vars x) = subst (Passes to sent t u) e pass in record { going = p.going; sending = p.sending }

  only_sent : (t : Marks → Bool) (q : Path) → is_some q.sent ≡ true → Passes to sent t u q → Passes to sent (λ m. false) u q
  only_sent t q h pass = record { going = λ none. absurd (none_sent q h none); sending = pass.sending }

  mutual
    pub stmt_found : (s : Stmt) (p q : Path) → p.sent ≡ None → In q (paths s p) → (t : Marks → Bool) → Passes to sent t u q → finds to sent s t u (marks_of p) ≡ true
    stmt_found (let_ at x w e) p q none i t pass = elim i [
      | inl same ↦ ap t (let_marked x e p) ∙ (subst (Passes to sent t u) same pass).going none
      | inr n ↦ absurd n
    ]
    stmt_found (set_field at h f e) p q none i t pass = elim i [
      | inl same ↦ ap t (ap (λ c. sets h.text f.text c (marks_of p)) (expr_marked p e) ∙ field_set_marked h f (replaced p e) p) ∙ (subst (Passes to sent t u) same pass).going none
      | inr n ↦ absurd n
    ]
    stmt_found (if_ at e a b) p q none i t pass = elim (in_either q (map (read.leaves p.vars) (paths_in a (meets e p))) (map (read.leaves p.vars) (paths_in b (meets e p))) i) [
      | inl k ↦
          let x = map_in (read.leaves p.vars) q (paths_in a (meets e p)) k in
          or_first (finds_in to sent a (λ m. t (leaves (map var_mark p.vars) m)) u (marks_of p)) (finds_in to sent b (λ m. t (leaves (map var_mark p.vars) m)) u (marks_of p))
          (block_found a (meets e p) x.0 none x.1 (λ m. t (leaves (map var_mark p.vars) m)) (left p.vars t q x.0 x.2 pass))
      | inr k ↦
          let x = map_in (read.leaves p.vars) q (paths_in b (meets e p)) k in
          or_second (finds_in to sent a (λ m. t (leaves (map var_mark p.vars) m)) u (marks_of p)) (finds_in to sent b (λ m. t (leaves (map var_mark p.vars) m)) u (marks_of p))
          (block_found b (meets e p) x.0 none x.1 (λ m. t (leaves (map var_mark p.vars) m)) (left p.vars t q x.0 x.2 pass))
    ]
    stmt_found (filter at e) p q none i t pass = elim i [ inl same ↦ (subst (Passes to sent t u) same pass).going none | inr n ↦ absurd n ]
    stmt_found (havoc_var at x w) p q none i t pass = elim i [
      | inl same ↦ ap (λ m. t (binds x.text (Some at) m)) (made_marked at p) ∙ (subst (Passes to sent t u) same pass).going none
      | inr n ↦ absurd n
    ]
    stmt_found (havoc_field at h f) p q none i t pass = elim i [
      | inl same ↦ ap t (ap (sets h.text f.text (Some at)) (made_marked at p) ∙ field_set_marked h f (read.choice at) (chooses at p)) ∙ (subst (Passes to sent t u) same pass).going none
      | inr n ↦ absurd n
    ]
    stmt_found (assume at e) p q none i t pass = elim i [ inl same ↦ (subst (Passes to sent t u) same pass).going none | inr n ↦ absurd n ]
    stmt_found (fork at x w e b) p q none i t pass =
        let inside : Path = meets e (with_var_as x (read.choice at) (chooses at p)) in
        let k = kept_in (λ (y : Path). is_some y.sent) q (paths_in b (meets e (with_var_as x (read.choice at) (chooses at p)))) i in
        ap (λ m. finds_in to sent b (λ z. false) u (binds x.text (Some at) m)) (made_marked at p)
        ∙ block_found b (meets e (with_var_as x (read.choice at) (chooses at p))) q none k.0 (λ m. false) (only_sent t q k.1 pass)
    stmt_found (send at r es) p q none i t pass = elim i [
      | inl same ↦ ap (λ args. u (tried to sent (marks_of p) args)) (exprs_marked p es) ∙ (subst (Passes to sent t u) same pass).sending (list_of (all_replaced p es)) refl
      | inr n ↦ absurd n
    ]

    pub block_found : (b : Block) (p q : Path) → p.sent ≡ None → In q (paths_in b p) → (t : Marks → Bool) → Passes to sent t u q → finds_in to sent b t u (marks_of p) ≡ true
    block_found no_stmts p q none i t pass = elim i [ inl same ↦ (subst (Passes to sent t u) same pass).going none | inr n ↦ absurd n ]
    block_found (stmt s rest) p q none i t pass =
        let x = flat_in (unless_sent (paths_in rest)) q (paths s p) i in
        stmt_found s p x.0 none x.1 (finds_in to sent rest t u)
        (after_sent rest t q x.0 x.0.sent refl x.2 pass (λ open_still inside. block_found rest x.0 q open_still inside t pass))
