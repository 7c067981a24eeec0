-- An expression that has a type has a value of that type, wherever its variables, fields and functions have theirs.
use Rattle.std.proofs.Common.{◌≡◌, inl, inr, ℕ, ◌<◌, ◌^◌, List, [], ◌∷◌, ◌++◌, Bool, true, false, Option, Some, None, if◌then◌else◌, option_map, option_and_then, refl, sym, ap, subst}
use Rattle.cocoon_num.specs.PacketForms.{FieldsFit}
use Rattle.cocoon_num.specs.Packets.{Packet}
use Rattle.cocoon_num.specs.Sorts.{Sort, bits_sort, truth_sort, has_sort, unary_sort, binary_sort, slice_sort, pick_sort}
use Rattle.cocoon_num.specs.Tree.{Expr, name, field, lit, true_or_false, call, unary, binary, slice, pick, Exprs, no_exprs, expr, FunctionDecl}
use Rattle.cocoon_num.specs.Values.{Value, number, truth, as_number, apply_unary, apply_binary, apply_slice, apply_pick, with_both, with_all}
use Rattle.cocoon_types.specs.Design.{field_width, read_field, widths_of}
use Rattle.cocoon_types.specs.Parts.{parts, parts_of}
use Rattle.cocoon_types.specs.Typing.{Scope, var_width, function_named, result_sort, args_fit, sort_of, sorts_of}
use Rattle.cocoon_types.specs.Val.{Context, Env, value, numbers, variable}
use Rattle.sound_types.specs.Matching.{HasValue, IsOfSort}
use Rattle.sound_types.proofs.Members.{In, in_left, in_right}
use Rattle.sound_types.proofs.Operators.{unary_value, binary_value, slice_value, pick_value, same_is}
use Rattle.sound_types.proofs.Options.{then_there, map_there, both_there, all_there, if_there, both_true}

-- ---- values that are there

pub value_there : (t : Sort) (r : Option Value) → HasValue t r → (v : Value) × (r ≡ Some v) × IsOfSort t v
value_there t None h = absurd h
value_there t (Some v) h = (v, refl, h)

value_then : (k : Value → Option Value) (u t : Sort) (r : Option Value) → HasValue u r → ((v : Value) → IsOfSort u v → HasValue t (k v)) → HasValue t (option_and_then k r)
value_then k u t None h f = absurd h
value_then k u t (Some v) h f = f v h

value_both : (k : Value → Value → Option Value) (s u t : Sort) (x y : Option Value) → HasValue s x → HasValue u y
    → ((v w : Value) → IsOfSort s v → IsOfSort u w → HasValue t (k v w)) → HasValue t (with_both k x y)
value_both k s u t None y p q f = absurd p
value_both k s u t (Some v) None p q f = absurd q
value_both k s u t (Some v) (Some w) p q f = f v w p q

value_all : (k : Value → Value → Value → Option Value) (r s u t : Sort) (x y z : Option Value) → HasValue r x → HasValue s y → HasValue u z
    → ((c v w : Value) → IsOfSort r c → IsOfSort s v → IsOfSort u w → HasValue t (k c v w)) → HasValue t (with_all k x y z)
value_all k r s u t None y z o p q f = absurd o
value_all k r s u t (Some c) y z o p q f = value_both (k c) s u t y z p q (λ v w. f c v w o)

pub number_there : (w : ℕ) (r : Option Value) → HasValue (bits_sort w) r → (n : ℕ) × (option_and_then as_number r ≡ Some n) × (n < 2 ^ w)
number_there w None h = absurd h
number_there w (Some (number v n)) h = (n, refl, h.1)
number_there w (Some (truth b)) h = absurd h

pub has_sort_there : (s : Sort) (o : Option Sort) → has_sort s o ≡ true → o ≡ Some s
has_sort_there s None h = absurd (cc)
has_sort_there s (Some t) h = ap Some (sym (same_is s t h))

-- ---- expressions

-- a literal fits its width, and a called function is one of these
abbrev pub Fine : (List ℕ → Type 0) → Expr → Type 0
Fine P (lit at w n) = n < 2 ^ w
Fine P (call at f es) = P f.text
Fine P e = Unit {0}

abbrev pub AllFine : (List ℕ → Type 0) → List Expr → Type 0
AllFine P es = (a : Expr) → In a es → Fine P a

-- Variables, fields, and the functions of these names have values of their types.
pub record Sees (P : List ℕ → Type 0) (s : Scope) (c : Context) (env : Env) (packet : Packet) : Type 0 where
  pub variables : (x : List ℕ) (w : ℕ) → var_width s x ≡ Some w → HasValue (bits_sort w) (variable env x)
  pub fields : (h f : List ℕ) (w : ℕ) → s.packet ≡ true → field_width s.design.headers h f ≡ Some w → HasValue (bits_sort w) (read_field c.headers packet h f)
  pub calls : (f : List ℕ) (g : FunctionDecl) → P f → function_named s f ≡ Some g → (ns : List ℕ) → FieldsFit (widths_of g.params) ns → HasValue (result_sort g.result) (c.apply f ns)

if_packet : (b : Bool) (o : Option Sort) (t : Sort) → (if b then o else None) ≡ Some t → (b ≡ true) × (o ≡ Some t)
if_packet true o t h = (refl, h)
if_packet false o t h = absurd (cc)

mutual
  pub sound : (P : List ℕ → Type 0) (s : Scope) (c : Context) (env : Env) (packet : Packet) → Sees P s c env packet → (e : Expr) (t : Sort) → AllFine P (parts e) → sort_of s e ≡ Some t
      → HasValue t (value c env packet e)
  sound P s c env packet sees (name at x) t fine h =
      let m = map_there bits_sort (var_width s x) t h in subst (λ u. HasValue u (variable env x)) m.2 (sees.variables x m.0 m.1)
  sound P s c env packet sees (field at x f) t fine h =
      let k = if_packet s.packet (option_map bits_sort (field_width s.design.headers x.text f.text)) t h in
      let m = map_there bits_sort (field_width s.design.headers x.text f.text) t k.1 in
      subst (λ u. HasValue u (read_field c.headers packet x.text f.text)) m.2 (sees.fields x.text f.text m.0 k.0 m.1)
  sound P s c env packet sees (lit at w n) t fine h =
      let e : bits_sort w ≡ t = cc in subst (λ u. HasValue u (Some (number w n))) e (refl, fine (lit at w n) (inl refl))
  sound P s c env packet sees (true_or_false at b) t fine h =
      let e : truth_sort ≡ t = cc in subst (λ u. HasValue u (Some (truth b))) e tt
  sound P s c env packet sees (call at f es) t fine h =
      let d = then_there (λ (g : FunctionDecl). if args_fit (widths_of g.params) (sorts_of s es) then Some (result_sort g.result) else None) (function_named s f.text) t h in
      let k = if_there (args_fit (widths_of d.0.params) (sorts_of s es)) (result_sort d.0.result) t d.2 in
      let ns = sounds P s c env packet sees es (widths_of d.0.params) (λ a i. fine a (inr i)) k.0 in
      let v = sees.calls f.text d.0 (fine (call at f es) (inl refl)) d.1 ns.0 ns.2 in
      subst (HasValue t) (sym (ap (option_and_then (c.apply f.text)) ns.1)) (subst (λ u. HasValue u (c.apply f.text ns.0)) k.1 v)
  sound P s c env packet sees (unary at op a) t fine h =
      let d = then_there (unary_sort op) (sort_of s a) t h in
      value_then (apply_unary op) d.0 t (value c env packet a) (sound P s c env packet sees a d.0 (λ x i. fine x (inr i)) d.1) (λ v. unary_value op d.0 t v d.2)
  sound P s c env packet sees (binary at op a b) t fine h =
      let d = both_there (binary_sort op) (sort_of s a) (sort_of s b) t h in
      value_both (apply_binary op) d.0 d.1 t (value c env packet a) (value c env packet b)
      (sound P s c env packet sees a d.0 (λ x i. fine x (inr (in_left x (parts a) (parts b) i))) d.2)
      (sound P s c env packet sees b d.1 (λ x i. fine x (inr (in_right x (parts a) (parts b) i))) d.3)
      (λ v w. binary_value op d.0 d.1 t v w d.4)
  sound P s c env packet sees (slice at a high low) t fine h =
      let d = then_there (λ u. slice_sort u high low) (sort_of s a) t h in
      value_then (λ v. apply_slice v high low) d.0 t (value c env packet a) (sound P s c env packet sees a d.0 (λ x i. fine x (inr i)) d.1) (λ v. slice_value d.0 t high low v d.2)
  sound P s c env packet sees (pick at k a b) t fine h =
      let d = all_there pick_sort (sort_of s k) (sort_of s a) (sort_of s b) t h in
      value_all apply_pick d.0 d.1 d.2 t (value c env packet k) (value c env packet a) (value c env packet b)
      (sound P s c env packet sees k d.0 (λ x i. fine x (inr (in_left x (parts k ++ parts a) (parts b) (in_left x (parts k) (parts a) i)))) d.3)
      (sound P s c env packet sees a d.1 (λ x i. fine x (inr (in_left x (parts k ++ parts a) (parts b) (in_right x (parts k) (parts a) i)))) d.4)
      (sound P s c env packet sees b d.2 (λ x i. fine x (inr (in_right x (parts k ++ parts a) (parts b) i))) d.5)
      (λ x v w. pick_value d.0 d.1 d.2 t x v w d.6)

  -- some expressions have numbers that fit, where they have the types of these widths
  pub sounds : (P : List ℕ → Type 0) (s : Scope) (c : Context) (env : Env) (packet : Packet) → Sees P s c env packet → (es : Exprs) (ws : List ℕ) → AllFine P (parts_of es)
      → args_fit ws (sorts_of s es) ≡ true → (ns : List ℕ) × (numbers c env packet es ≡ Some ns) × FieldsFit ws ns
  sounds P s c env packet sees no_exprs [] fine h = ([], refl, tt)
  sounds P s c env packet sees no_exprs (w ∷ ws) fine h = absurd (cc)
  sounds P s c env packet sees (expr e es) [] fine h = absurd (cc)
  sounds P s c env packet sees (expr e es) (w ∷ ws) fine h =
      let both = both_true (has_sort (bits_sort w) (sort_of s e)) (args_fit ws (sorts_of s es)) h in
      let v = sound P s c env packet sees e (bits_sort w) (λ a i. fine a (in_left a (parts e) (parts_of es) i)) (has_sort_there (bits_sort w) (sort_of s e) both.0) in
      let n = number_there w (value c env packet e) v in
      let ns = sounds P s c env packet sees es ws (λ a i. fine a (in_right a (parts e) (parts_of es) i)) both.1 in
      (n.0 ∷ ns.0, (λ i. with_both (λ m ms. Some (m ∷ ms)) (n.1 i) (ns.1 i)), (n.2, ns.2))
