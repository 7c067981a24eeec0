-- The condition of a fork is what its function gives at the arguments before the choice, and the choice.
use Rattle.std.specs.Prelude.{◌≡◌, ℕ, ◌^◌, ◌<◌, ◌||◌, Bool, true, false, cond, List, [], ◌∷◌, ◌++◌, Option, Some, None, option_and_then, refl}
use Rattle.std.proofs.Common.{sym, ◌∙◌, ap, ap₂, subst}
use Rattle.std.proofs.lemmas.Bool.{or_parts}
use Rattle.cocoon_num.specs.Names.{same_name, named}
use Rattle.cocoon_num.specs.Packets.{Packet}
use Rattle.cocoon_num.specs.Tree.{Expr, name, field, lit, true_or_false, call, unary, binary, slice, pick, Exprs, no_exprs, expr, Param, FunctionDecl, HeaderDecl}
use Rattle.cocoon_num.specs.Values.{Value, number, as_number, apply_unary, apply_binary, apply_slice, with_both}
use Rattle.cocoon_types.specs.Tables.{Defs, look_up}
use Rattle.cocoon_types.specs.Val.{Context, Env, apply_in, bind, bound, numbers, value}
use Rattle.lowering.specs.Agrees.{EitherOf, FitAll, GroupTakesIn, inner_context}
use Rattle.lowering.specs.Lower.{params_before_last}
use Rattle.lowering.specs.LowerBlock.{exprs_before_last, in_expr, in_exprs}
use Rattle.lowering.specs.Forks.{EndsIn, IsName, last_width}
use Rattle.lowering.proofs.Names.{same_name-other, same_name-refl}

-- ---- what does not name a variable

other_name : (b : Bool) (v w : Option Value) → b ≡ false → cond b v w ≡ w
other_name true v w h = absurd cc
other_name false v w h = refl

mutual
  pub value_without : (c : Context) (x : List ℕ) (v : Value) (env : Env) (packet : Packet) (e : Expr) → in_expr x e ≡ false → value c (bound x v env) packet e ≡ value c env packet e
  value_without c x v env packet (name at y) h = other_name (same_name y x) (Some v) _ (same_name-other x y h)
  value_without c x v env packet (field at hd f) h = refl
  value_without c x v env packet (lit at w n) h = refl
  value_without c x v env packet (true_or_false at b) h = refl
  value_without c x v env packet (call at f es) h = ap (option_and_then (c.apply f.text)) (numbers_without c x v env packet es h)
  value_without c x v env packet (unary at op a) h = ap (option_and_then (apply_unary op)) (value_without c x v env packet a h)
  value_without c x v env packet (binary at op a b) h =
      let p = or_parts (in_expr x a) (in_expr x b) h in
      ap₂ (with_both (apply_binary op)) (value_without c x v env packet a p.0) (value_without c x v env packet b p.1)
  value_without c x v env packet (slice at a high low) h = ap (option_and_then (λ u. apply_slice u high low)) (value_without c x v env packet a h)
  value_without c x v env packet (pick at e a b) h =
      let p = or_parts (in_expr x e || in_expr x a) (in_expr x b) h in
      let q = or_parts (in_expr x e) (in_expr x a) p.0 in
      rw (value_without c x v env packet e q.0, value_without c x v env packet a q.1, value_without c x v env packet b p.1) refl

  pub numbers_without : (c : Context) (x : List ℕ) (v : Value) (env : Env) (packet : Packet) (es : Exprs) → in_exprs x es ≡ false → numbers c (bound x v env) packet es ≡ numbers c env packet es
  numbers_without c x v env packet no_exprs h = refl
  numbers_without c x v env packet (expr e es) h =
      let p = or_parts (in_expr x e) (in_exprs x es) h in
      rw (value_without c x v env packet e p.0, numbers_without c x v env packet es p.1) refl

-- ---- the arguments, the last of which is the choice

this_name : (b : Bool) (v w : Option Value) → b ≡ true → cond b v w ≡ v
this_name true v w h = refl
this_name false v w h = absurd cc

name_is : (c : Context) (x : List ℕ) (v : Value) (env : Env) (packet : Packet) (e : Expr) → IsName x e → value c (bound x v env) packet e ≡ Some v
name_is c x v env packet (name at y) h = this_name (same_name y x) (Some v) _ (subst (λ z. same_name y z ≡ true) h (same_name-refl y))
name_is c x v env packet (field at hd f) h = absurd h
name_is c x v env packet (lit at w n) h = absurd h
name_is c x v env packet (true_or_false at b) h = absurd h
name_is c x v env packet (call at f es) h = absurd h
name_is c x v env packet (unary at op a) h = absurd h
name_is c x v env packet (binary at op a b) h = absurd h
name_is c x v env packet (slice at a high low) h = absurd h
name_is c x v env packet (pick at e a b) h = absurd h

more : (a : Option ℕ) (o p : Option (List ℕ)) (n : ℕ) (ns : List ℕ) → with_both (λ m rest. Some (m ∷ rest)) a o ≡ Some ns
    → ((rest : List ℕ) → o ≡ Some rest → p ≡ Some (rest ++ (n ∷ []))) → with_both (λ m rest. Some (m ∷ rest)) a p ≡ Some (ns ++ (n ∷ []))
more None o p n ns e f = absurd cc
more (Some m) None p n ns e f = absurd cc
more (Some m) (Some rest) p n ns e f = rw (f rest refl) (ap (λ (o : Option (List ℕ)). option_and_then (λ ms. Some (ms ++ (n ∷ []))) o) e)

pub numbers_end : (c : Context) (x : List ℕ) (w n : ℕ) (env : Env) (packet : Packet) (es : Exprs) → EndsIn x es → (ns : List ℕ) → numbers c env packet (exprs_before_last es) ≡ Some ns
    → numbers c (bound x (number w n) env) packet es ≡ Some (ns ++ (n ∷ []))
numbers_end c x w n env packet no_exprs h ns e = absurd h
numbers_end c x w n env packet (expr a no_exprs) h ns e =
    rw (name_is c x (number w n) env packet a h) (ap (λ (o : Option (List ℕ)). option_and_then (λ ms. Some (ms ++ (n ∷ []))) o) e)
numbers_end c x w n env packet (expr a (expr b es)) h ns e =
    rw (value_without c x (number w n) env packet a h.0)
    (more (option_and_then as_number (value c env packet a)) (numbers c env packet (exprs_before_last (expr b es))) (numbers c (bound x (number w n) env) packet (expr b es)) n ns e
    (λ rest g. numbers_end c x w n env packet (expr b es) h.1 rest g))

-- ---- numbers that fit

abbrev width_of : Option ℕ → ℕ
width_of None = 0
width_of (Some w) = w

pub fit_with : (ps : List Param) (w : ℕ) (ns : List ℕ) (x : ℕ) → last_width ps ≡ Some w → FitAll (params_before_last ps) ns → x < 2 ^ w → FitAll ps (ns ++ (x ∷ []))
fit_with [] w ns x e f h = absurd cc
fit_with (p ∷ []) w [] x e f h = (subst (λ k. x < 2 ^ k) (sym (ap width_of e)) h, tt)
fit_with (p ∷ []) w (n ∷ ns) x e f h = absurd f
fit_with (p ∷ q ∷ ps) w [] x e f h = absurd f
fit_with (p ∷ q ∷ ps) w (n ∷ ns) x e f h = (f.0, fit_with (q ∷ ps) w ns x e f.1 h)

pub last_fits : (ps : List Param) (w : ℕ) (ns : List ℕ) (x : ℕ) → last_width ps ≡ Some w → FitAll (params_before_last ps) ns → FitAll ps (ns ++ (x ∷ [])) → x < 2 ^ w
last_fits [] w ns x e f h = absurd cc
last_fits (p ∷ []) w [] x e f h = subst (λ k. x < 2 ^ k) (ap width_of e) h.0
last_fits (p ∷ []) w (n ∷ ns) x e f h = absurd f
last_fits (p ∷ q ∷ ps) w [] x e f h = absurd f
last_fits (p ∷ q ∷ ps) w (n ∷ ns) x e f h = last_fits (q ∷ ps) w ns x e f.1 h.1

-- ---- the function

abbrev decl_of : FunctionDecl → Option FunctionDecl → FunctionDecl
decl_of d None = d
decl_of d (Some x) = x

before_last_by : (b : Bool) (d first : FunctionDecl) (o : Option FunctionDecl) (A : Type 0) (ns : List ℕ) → EitherOf b (FitAll (params_before_last first.params) ns) A
    → (A → o ≡ Some d → FitAll (params_before_last d.params) ns) → cond b (Some first) o ≡ Some d → FitAll (params_before_last d.params) ns
before_last_by true d first o A ns h f e = subst (λ (z : FunctionDecl). FitAll (params_before_last z.params) ns) (ap (decl_of d) e) h
before_last_by false d first o A ns h f e = f h e

pub before_last_fits : (fs : List FunctionDecl) (f : List ℕ) (ns : List ℕ) (d : FunctionDecl) → GroupTakesIn fs f ns → named (λ (d : FunctionDecl). d.name) f fs ≡ Some d → FitAll (params_before_last d.params) ns
before_last_fits [] f ns d h e = absurd h
before_last_fits (first ∷ fs) f ns d h e =
    before_last_by (same_name f first.name.text) d first (named (λ (d : FunctionDecl). d.name) f fs) (GroupTakesIn fs f ns) ns h (λ g k. before_last_fits fs f ns d g k) e

abbrev value_of : List HeaderDecl → Defs → List FunctionDecl → FunctionDecl → List ℕ → List ℕ → Option Expr → Option Value
value_of headers defs earlier d f xs body = elim body [
  | None ↦ look_up defs f xs
  | Some e ↦ option_and_then (λ env. value (inner_context headers defs earlier) env [] e) (bind d.params xs)
]

applied_by : (b : Bool) (headers : List HeaderDecl) (defs : Defs) (earlier : List FunctionDecl) (d first : FunctionDecl) (f xs : List ℕ) (o : Option FunctionDecl) (u : Option Value)
    → d.body ≡ None → (o ≡ Some d → u ≡ look_up defs f xs) → cond b (Some first) o ≡ Some d → cond b (value_of headers defs earlier first f xs first.body) u ≡ look_up defs f xs
applied_by true headers defs earlier d first f xs o u h g e =
    ap (λ (z : FunctionDecl). value_of headers defs earlier first f xs z.body) (ap (decl_of d) e) ∙ ap (value_of headers defs earlier first f xs) h
applied_by false headers defs earlier d first f xs o u h g e = g e

-- the first function of a name is applied, by its table where it has no body
pub applied : (headers : List HeaderDecl) (defs : Defs) (fs : List FunctionDecl) (f xs : List ℕ) (d : FunctionDecl) → named (λ (d : FunctionDecl). d.name) f fs ≡ Some d → d.body ≡ None
    → apply_in headers defs fs f xs ≡ look_up defs f xs
applied headers defs [] f xs d e h = absurd cc
applied headers defs (first ∷ fs) f xs d e h =
    applied_by (same_name f first.name.text) headers defs fs d first f xs (named (λ (d : FunctionDecl). d.name) f fs) (apply_in headers defs fs f xs) h
    (λ g. applied headers defs fs f xs d g h) e
