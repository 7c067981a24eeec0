-- What the guards of hosts and of switches say: their numbers are listed, and ports are below their count.
use Rattle.std.proofs.Common.{◌≡◌, inl, inr, ℕ, ◌^◌, ◌<◌, ◌==◌, ◌&&◌, ◌||◌, not, Bool, true, false, cond, List, [], ◌∷◌, Some, None, if◌then◌else◌, nat_lt, refl, sym, ap, subst, ◌∙◌}
use Rattle.std.specs.Prelude.{filter, option_and_then, option_map}
use Rattle.std.proofs.lemmas.Bool.{eqb-true, ltb-true}
use Rattle.cocoon_num.specs.Names.{same_name}
use Rattle.cocoon_num.specs.PacketForms.{FieldsFit}
use Rattle.cocoon_num.specs.Reads.{operator}
use Rattle.cocoon_num.specs.Tokens.{same_kind}
use Rattle.cocoon_num.specs.Tree.{Name, Expr, name, field, lit, true_or_false, call, unary, binary, slice, pick, Exprs, no_exprs, expr, Param, Role, token_index}
use Rattle.cocoon_num.specs.Values.{Value, number, truth, BinaryOp, add, sub, bits_and, bits_or, bits_xor, concat, equal, unequal, less, less_equal, greater, greater_equal, and_, or_, implies, apply_binary, as_number, fits_width, with_both}
use Rattle.cocoon_types.specs.Design.{widths_of}
use Rattle.cocoon_types.specs.FormRules.{guards_by}
use Rattle.cocoon_types.specs.RuleParts.{unless}
use Rattle.cocoon_types.specs.SameTrees.{same_expr, same_exprs}
use Rattle.cocoon_types.specs.Val.{Context, Env, bind, bound, value, variable}
use Rattle.sound_types.proofs.Members.{In, none_at}
use Rattle.sound_types.proofs.Options.{both_true, both_there, map_there, passes, same_text, text_self}

-- ---- parameters

-- what binds fits
pub bind_fits : (ps : List Param) (ns : List ℕ) (env : Env) → bind ps ns ≡ Some env → FieldsFit (widths_of ps) ns
bind_fits [] [] env h = tt
bind_fits [] (n ∷ ns) env h = absurd (cc)
bind_fits (p ∷ ps) [] env h = absurd (cc)
bind_fits (p ∷ ps) (n ∷ ns) env h = by_case (fits_width p.width n) refl h (bind_fits ps ns)
  where
    by_case : (b : Bool) → fits_width p.width n ≡ b → (if b then option_map (bound p.name.text (number p.width n)) (bind ps ns) else None) ≡ Some env
        → ((v : Env) → bind ps ns ≡ Some v → FieldsFit (widths_of ps) ns) → (n < 2 ^ p.width) × FieldsFit (widths_of ps) ns
    by_case true e k ih =
        let t = map_there (bound p.name.text (number p.width n)) (bind ps ns) env k in
        (ltb-true n (2 ^ p.width) e, ih t.0 t.1)
    by_case false e k ih = absurd (cc)

-- one parameter is bound to one number
pub bind_one : (p : Param) (ns : List ℕ) (env : Env) → bind (p ∷ []) ns ≡ Some env → (n : ℕ) × (ns ≡ n ∷ []) × (n < 2 ^ p.width) × (env ≡ bound p.name.text (number p.width n) [])
bind_one p [] env h = absurd (cc)
bind_one p (n ∷ []) env h = by_case (fits_width p.width n) refl h
  where
    by_case : (b : Bool) → fits_width p.width n ≡ b → (if b then Some (bound p.name.text (number p.width n) []) else None) ≡ Some env
        → (m : ℕ) × (n ∷ [] ≡ m ∷ []) × (m < 2 ^ p.width) × (env ≡ bound p.name.text (number p.width m) [])
    by_case true e k = let same : bound p.name.text (number p.width n) [] ≡ env = cc in (n, refl, ltb-true n (2 ^ p.width) e, sym same)
    by_case false e k = absurd (cc)
bind_one p (n ∷ m ∷ ns) env h = by_case (fits_width p.width n) h
  where
    by_case : (b : Bool) → (if b then None else None) ≡ Some env → (k : ℕ) × (n ∷ m ∷ ns ≡ k ∷ []) × (k < 2 ^ p.width) × (env ≡ bound p.name.text (number p.width k) [])
    by_case true k = absurd (cc)
    by_case false k = absurd (cc)

-- two to two
pub bind_two : (p q : Param) (ns : List ℕ) (env : Env) → bind (p ∷ q ∷ []) ns ≡ Some env
    → (n m : ℕ) × (ns ≡ n ∷ m ∷ []) × (n < 2 ^ p.width) × (m < 2 ^ q.width) × (env ≡ bound p.name.text (number p.width n) (bound q.name.text (number q.width m) []))
bind_two p q [] env h = absurd (cc)
bind_two p q (n ∷ ns) env h = by_case (fits_width p.width n) refl h
  where
    by_case : (b : Bool) → fits_width p.width n ≡ b → (if b then option_map (bound p.name.text (number p.width n)) (bind (q ∷ []) ns) else None) ≡ Some env
        → (k m : ℕ) × (n ∷ ns ≡ k ∷ m ∷ []) × (k < 2 ^ p.width) × (m < 2 ^ q.width) × (env ≡ bound p.name.text (number p.width k) (bound q.name.text (number q.width m) []))
    by_case true e k =
        let t = map_there (bound p.name.text (number p.width n)) (bind (q ∷ []) ns) env k in
        let one = bind_one q ns t.0 t.1 in
        (n, one.0, ap (λ xs. n ∷ xs) one.1, ltb-true n (2 ^ p.width) e, one.2, sym t.2 ∙ ap (bound p.name.text (number p.width n)) one.3)
    by_case false e k = absurd (cc)

-- ---- trees of guards

-- a name
is_name : (e : Expr) (x : List ℕ) → same_expr e (name 0 x) ≡ true → (at : ℕ) × (e ≡ name at x)
is_name (name at y) x h = (at, ap (name at) (same_text y x h))
is_name (field at y f) x h = absurd (cc)
is_name (lit at w n) x h = absurd (cc)
is_name (true_or_false at b) x h = absurd (cc)
is_name (call at f es) x h = absurd (cc)
is_name (unary at op a) x h = absurd (cc)
is_name (binary at op a b) x h = absurd (cc)
is_name (slice at a high low) x h = absurd (cc)
is_name (pick at c a b) x h = absurd (cc)

-- one name
one_name : (es : Exprs) (x : List ℕ) → same_exprs es (expr (name 0 x) no_exprs) ≡ true → (at : ℕ) × (es ≡ expr (name at x) no_exprs)
one_name no_exprs x h = absurd (cc)
one_name (expr e no_exprs) x h =
    let both = both_true (same_expr e (name 0 x)) true h in
    let n = is_name e x both.0 in
    (n.0, ap (λ y. expr y no_exprs) n.1)
one_name (expr e (expr f es)) x h = let both = both_true (same_expr e (name 0 x)) false h in let no : false ≡ true = both.1 in absurd (cc)

-- a call of one name
is_call : (e : Expr) (f x : List ℕ) → same_expr e (call 0 (record { at = 0; text = f }) (expr (name 0 x) no_exprs)) ≡ true → (at nat : ℕ) × (g : Name) × (e ≡ call at g (expr (name nat x) no_exprs)) × (g.text ≡ f)
is_call (name at y) f x h = absurd (cc)
is_call (field at y g) f x h = absurd (cc)
is_call (lit at w n) f x h = absurd (cc)
is_call (true_or_false at b) f x h = absurd (cc)
is_call (call at g es) f x h =
    let both = both_true (same_name g.text f) (same_exprs es (expr (name 0 x) no_exprs)) h in
    let one = one_name es x both.1 in
    (at, one.0, g, ap (call at g) one.1, same_text g.text f both.0)
is_call (unary at op a) f x h = absurd (cc)
is_call (binary at op a b) f x h = absurd (cc)
is_call (slice at a high low) f x h = absurd (cc)
is_call (pick at c a b) f x h = absurd (cc)

is_lit : (e : Expr) (w n : ℕ) → same_expr e (lit 0 w n) ≡ true → (at : ℕ) × (e ≡ lit at w n)
is_lit (name at y) w n h = absurd (cc)
is_lit (field at y g) w n h = absurd (cc)
is_lit (lit at v m) w n h =
    let both = both_true (v == w) (m == n) h in
    (at, λ i. lit at (eqb-true v w both.0 i) (eqb-true m n both.1 i))
is_lit (true_or_false at b) w n h = absurd (cc)
is_lit (call at g es) w n h = absurd (cc)
is_lit (unary at op a) w n h = absurd (cc)
is_lit (binary at op a b) w n h = absurd (cc)
is_lit (slice at a high low) w n h = absurd (cc)
is_lit (pick at c a b) w n h = absurd (cc)

pub is_and : (op : BinaryOp) → same_kind (operator op) (operator and_) ≡ true → op ≡ and_
is_and add h = absurd (cc)
is_and sub h = absurd (cc)
is_and bits_and h = absurd (cc)
is_and bits_or h = absurd (cc)
is_and bits_xor h = absurd (cc)
is_and concat h = absurd (cc)
is_and equal h = absurd (cc)
is_and unequal h = absurd (cc)
is_and less h = absurd (cc)
is_and less_equal h = absurd (cc)
is_and greater h = absurd (cc)
is_and greater_equal h = absurd (cc)
is_and and_ h = refl
is_and or_ h = absurd (cc)
is_and implies h = absurd (cc)

is_less : (op : BinaryOp) → same_kind (operator op) (operator less) ≡ true → op ≡ less
is_less add h = absurd (cc)
is_less sub h = absurd (cc)
is_less bits_and h = absurd (cc)
is_less bits_or h = absurd (cc)
is_less bits_xor h = absurd (cc)
is_less concat h = absurd (cc)
is_less equal h = absurd (cc)
is_less unequal h = absurd (cc)
is_less less h = refl
is_less less_equal h = absurd (cc)
is_less greater h = absurd (cc)
is_less greater_equal h = absurd (cc)
is_less and_ h = absurd (cc)
is_less or_ h = absurd (cc)
is_less implies h = absurd (cc)

-- a binary expression of parts that are so
pub is_binary : (op : BinaryOp) → ((o : BinaryOp) → same_kind (operator o) (operator op) ≡ true → o ≡ op) → (e a b : Expr) → same_expr e (binary 0 op a b) ≡ true
    → (at : ℕ) × (x y : Expr) × (e ≡ binary at op x y) × (same_expr x a ≡ true) × (same_expr y b ≡ true)
is_binary op f (name at y) a b h = absurd (cc)
is_binary op f (field at y g) a b h = absurd (cc)
is_binary op f (lit at v m) a b h = absurd (cc)
is_binary op f (true_or_false at c) a b h = absurd (cc)
is_binary op f (call at g es) a b h = absurd (cc)
is_binary op f (unary at o x) a b h = absurd (cc)
is_binary op f (binary at o x y) a b h =
    let both = both_true (same_kind (operator o) (operator op) && same_expr x a) (same_expr y b) h in
    let first = both_true (same_kind (operator o) (operator op)) (same_expr x a) both.0 in
    (at, x, y, ap (λ p. binary at p x y) (f o first.0), first.1, both.1)
is_binary op f (slice at x high low) a b h = absurd (cc)
is_binary op f (pick at c x y) a b h = absurd (cc)

-- ---- values of guards

-- the value of the first variable
first_variable : (x : List ℕ) (v : Value) (env : Env) → variable (bound x v env) x ≡ Some v
first_variable x v env = ap (λ b. if b then Some v else variable env x) (text_self x)

second_variable : (x y : List ℕ) (v u : Value) (env : Env) → same_name y x ≡ false → variable (bound x v (bound y u env)) y ≡ Some u
second_variable x y v u env h = ap (λ b. if b then Some v else variable (bound y u env) y) h ∙ first_variable y u env

-- a call of a variable that is a number
call_value : (c : Context) (env : Env) (at nat : ℕ) (f : Name) (x : List ℕ) (w n : ℕ) → variable env x ≡ Some (number w n) → value c env [] (call at f (expr (name nat x) no_exprs)) ≡ c.apply f.text (n ∷ [])
call_value c env at nat f x w n h = ap (λ o. option_and_then (c.apply f.text) (with_both (λ m ms. Some (m ∷ ms)) (option_and_then as_number o) (Some []))) h

both_parts : (a b : Value) → apply_binary and_ a b ≡ Some (truth true) → (a ≡ truth true) × (b ≡ truth true)
both_parts (truth true) (truth true) h = (refl, refl)
both_parts (truth true) (truth false) h = absurd (cc)
both_parts (truth false) (truth b) h = absurd (cc)
both_parts (truth a) (number w n) h = absurd (cc)
both_parts (number w n) b h = absurd (cc)

below_parts : (w n m : ℕ) → apply_binary less (number w n) (number 16 m) ≡ Some (truth true) → n < m
below_parts w n m h = by_case (w == 16) h
  where
    truths : (c : Bool) → Some (truth c) ≡ Some (truth true) → c ≡ true
    truths true k = refl
    truths false k = absurd (cc)

    by_case : (b : Bool) → (if b then Some (truth (nat_lt n m)) else None) ≡ Some (truth true) → n < m
    by_case true k = ltb-true n m (truths (nat_lt n m) k)
    by_case false k = absurd (cc)

-- h(a) is true
pub host_value : (c : Context) (p : Param) (n : ℕ) (at : ℕ) (f : Name) (es : Exprs) → same_exprs es (expr (name 0 p.name.text) no_exprs) ≡ true
    → value c (bound p.name.text (number p.width n) []) [] (call at f es) ≡ Some (truth true) → c.apply f.text (n ∷ []) ≡ Some (truth true)
host_value c p n at f es h k =
    let env = bound p.name.text (number p.width n) [] in
    let one = one_name es p.name.text h in
    sym (call_value c env at one.0 f p.name.text p.width n (first_variable p.name.text (number p.width n) [])) ∙ ap (λ xs. value c env [] (call at f xs)) (sym one.1) ∙ k

-- g(s) and p < 16wN is true
pub switch_value : (c : Context) (s p : Param) (n m ports : ℕ) (f : List ℕ) (e : Expr) → same_name p.name.text s.name.text ≡ false
    → same_expr e (binary 0 and_ (call 0 (record { at = 0; text = f }) (expr (name 0 s.name.text) no_exprs)) (binary 0 less (name 0 p.name.text) (lit 0 16 ports))) ≡ true
    → value c (bound s.name.text (number s.width n) (bound p.name.text (number p.width m) [])) [] e ≡ Some (truth true)
    → (c.apply f (n ∷ []) ≡ Some (truth true)) × (m < ports)
switch_value c s p n m ports f e apart h k =
    let env = bound s.name.text (number s.width n) (bound p.name.text (number p.width m) []) in
    let g = call 0 (record { at = 0; text = f }) (expr (name 0 s.name.text) no_exprs) in
    let l = binary 0 less (name 0 p.name.text) (lit 0 16 ports) in
    let b = is_binary and_ is_and e g l h in
    let called = is_call b.1 f s.name.text b.4 in
    let compared = is_binary less is_less b.2 (name 0 p.name.text) (lit 0 16 ports) b.5 in
    let x = is_name compared.1 p.name.text compared.4 in
    let y = is_lit compared.2 16 ports compared.5 in
    let whole : with_both (apply_binary and_) (value c env [] b.1) (value c env [] b.2) ≡ Some (truth true) = ap (value c env []) (sym b.3) ∙ k in
    let parts = both_there (apply_binary and_) (value c env [] b.1) (value c env [] b.2) (truth true) whole in
    let trues = both_parts parts.0 parts.1 parts.4 in
    let first : value c env [] b.1 ≡ Some (truth true) = parts.2 ∙ ap Some trues.0 in
    let second : value c env [] b.2 ≡ Some (truth true) = parts.3 ∙ ap Some trues.1 in
    let less_is : value c env [] (binary compared.0 less (name x.0 p.name.text) (lit y.0 16 ports)) ≡ Some (truth true) =
    (λ i. value c env [] (binary compared.0 less (sym x.1 i) (sym y.1 i))) ∙ ap (value c env []) (sym compared.3) ∙ second in (
      ap (λ z. c.apply z (n ∷ [])) (sym called.4)
          ∙ sym (call_value c env called.0 called.1 called.2 s.name.text s.width n (first_variable s.name.text (number s.width n) (bound p.name.text (number p.width m) [])))
          ∙ ap (value c env []) (sym called.3) ∙ first,
      below_parts p.width m ports (ap (λ o. with_both (apply_binary less) o (Some (number 16 ports)))
          (sym (second_variable s.name.text p.name.text (number s.width n) (number p.width m) [] apart)) ∙ less_is),
    )

-- ---- guards of one function

-- where a guard is not of the form, or is by another function than the first
abbrev tested : (fits : List Param → Expr → Bool) (function : Expr → List ℕ) → Role → Role → List ℕ
tested fits function q x = unless (fits x.params x.guard && (not (fits q.params q.guard) || same_name (function q.guard) (function x.guard))) (token_index x.guard)

-- each guard is of the form, and all are by one function
pub guards_fit : (fits : List Param → Expr → Bool) (function : Expr → List ℕ) (rs : List Role) → guards_by fits function rs ≡ [] → (r : Role) → In r rs → fits r.params r.guard ≡ true
guards_fit fits function [] h r i = absurd i
guards_fit fits function (q ∷ rs) h r i =
    let t = none_at (tested fits function q) (q ∷ rs) h r i in
    (both_true (fits r.params r.guard) (not (fits q.params q.guard) || same_name (function q.guard) (function r.guard))
    (passes (fits r.params r.guard && (not (fits q.params q.guard) || same_name (function q.guard) (function r.guard))) (token_index r.guard) t)).0

or_not : (b c : Bool) → (not b || c) ≡ true → b ≡ true → c ≡ true
or_not true c h e = h
or_not false c h e = absurd (cc)

pub guards_same : (fits : List Param → Expr → Bool) (function : Expr → List ℕ) (rs : List Role) → guards_by fits function rs ≡ [] → (r q : Role) → In r rs → In q rs → function r.guard ≡ function q.guard
guards_same fits function [] h r q i j = absurd i
guards_same fits function (x ∷ rs) h r q i j =
    let own = guards_fit fits function (x ∷ rs) h x (inl refl) in
    let one = λ (y : Role) (k : In y (x ∷ rs)). same_text (function x.guard) (function y.guard)
    (or_not (fits x.params x.guard) (same_name (function x.guard) (function y.guard))
    (both_true (fits y.params y.guard) (not (fits x.params x.guard) || same_name (function x.guard) (function y.guard))
    (passes (fits y.params y.guard && (not (fits x.params x.guard) || same_name (function x.guard) (function y.guard))) (token_index y.guard) (none_at (tested fits function x) (x ∷ rs) h y k))).1 own) in
    sym (one r i) ∙ one q j

pub kept : {A : Type 0} (test : A → Bool) (x : A) (xs : List A) → In x xs → test x ≡ true → In x (filter test xs)
kept test x [] i h = absurd i
kept test x (y ∷ xs) i h = elim i [
  | inl e ↦ subst (λ b. In x (cond b (y ∷ filter test xs) (filter test xs))) (sym (ap test (sym e) ∙ h)) (inl e)
  | inr k ↦ later (test y) (kept test x xs k h)
]
  where
    later : (b : Bool) → In x (filter test xs) → In x (cond b (y ∷ filter test xs) (filter test xs))
    later true j = inr j
    later false j = j
