-- What tables give, the definitions give.
use Rattle.std.proofs.Common.{◌≡◌, ℕ, zero, suc, ◌≤◌, List, [], ◌∷◌, length, reverse, Bool, true, false, Option, Some, None, if◌then◌else◌, option_and_then, refl, sym, ap, subst, ◌∙◌, add-one, arith}
use Rattle.std.proofs.lemmas.List.{take_all}
use Rattle.cocoon_num.specs.FunTables.{looked}
use Rattle.cocoon_num.specs.Names.{same_name}
use Rattle.cocoon_num.specs.Packets.{Packet}
use Rattle.cocoon_num.specs.Tree.{Expr, name, field, lit, true_or_false, call, unary, binary, slice, pick, Exprs, no_exprs, expr, FunctionDecl, Design}
use Rattle.cocoon_num.specs.Values.{Value, apply_unary, apply_binary, apply_slice, apply_pick, as_number, with_all, with_both}
use Rattle.cocoon_num.specs.declared.fun_table.FunTable.{FunTable}
use Rattle.cocoon_types.specs.Design.{functions, read_field}
use Rattle.cocoon_types.specs.Tables.{Defs, look_up}
use Rattle.cocoon_types.specs.Val.{Context, Env, apply_in, bind, context, numbers, value}
use Rattle.declarations.proofs.NameFacts.{same-true}
use Rattle.role_values.specs.ByTables.{all_fit_widths, apply_by, called, context_by, earlier, result_value, table_at, table_value}
use Rattle.role_values.specs.Stands.{IsTableOf, Stands}
use Rattle.role_values.proofs.FunctionSteps.{earlier_count, earlier_more, there}

-- ---- options

then_up : {A B : Type 0} (x y : Option A) (k l : A → Option B) (v : B) → ((a : A) → x ≡ Some a → y ≡ Some a) → ((a : A) → k a ≡ Some v → l a ≡ Some v)
    → option_and_then k x ≡ Some v → option_and_then l y ≡ Some v
then_up None y k l v f g h = absurd (cc)
then_up (Some a) y k l v f g h = ap (option_and_then l) (f a refl) ∙ g a h

both_up : {A B C : Type 0} (k : A → B → Option C) (x y : Option A) (z w : Option B) (v : C) → ((a : A) → x ≡ Some a → y ≡ Some a) → ((b : B) → z ≡ Some b → w ≡ Some b)
    → with_both k x z ≡ Some v → with_both k y w ≡ Some v
both_up k None y z w v f g h = absurd (cc)
both_up k (Some a) y None w v f g h = absurd (cc)
both_up k (Some a) y (Some b) w v f g h = (λ i. with_both k (f a refl i) (g b refl i)) ∙ h

all_up : {A : Type 0} (k : A → A → A → Option A) (c d x y z w : Option A) (v : A) → ((a : A) → c ≡ Some a → d ≡ Some a) → ((a : A) → x ≡ Some a → y ≡ Some a) → ((a : A) → z ≡ Some a → w ≡ Some a)
    → with_all k c x z ≡ Some v → with_all k d y w ≡ Some v
all_up k None d x y z w v e f g h = absurd (cc)
all_up k (Some a) d x y z w v e f g h = ap (λ r. with_all k r y w) (e a refl) ∙ both_up (k a) x y z w v f g h

if_up : {A : Type 0} (b : Bool) (x y z w : Option A) (v : A) → (b ≡ true → x ≡ Some v → y ≡ Some v) → (z ≡ Some v → w ≡ Some v)
    → (if b then x else z) ≡ Some v → (if b then y else w) ≡ Some v
if_up true x y z w v f g h = f refl h
if_up false x y z w v f g h = g h

body_up : (b : Option Expr) (x y : Option Value) (k l : Expr → Option Value) (v : Value) → (b ≡ None → x ≡ Some v → y ≡ Some v) → ((e : Expr) → k e ≡ Some v → l e ≡ Some v)
    → (elim b [ None ↦ x | Some e ↦ k e ]) ≡ Some v → (elim b [ None ↦ y | Some e ↦ l e ]) ≡ Some v
body_up None x y k l v f g h = f refl h
body_up (Some e) x y k l v f g h = g e h

-- ---- expressions

-- what one context gives, the other gives
record Up (s t : Context) (packet : Packet) : Type 0 where
  calls : (f ns : List ℕ) (v : Value) → s.apply f ns ≡ Some v → t.apply f ns ≡ Some v
  fields : (h f : List ℕ) (v : Value) → read_field s.headers packet h f ≡ Some v → read_field t.headers packet h f ≡ Some v

mutual
  value_up : (s t : Context) (packet : Packet) → Up s t packet → (env : Env) (e : Expr) (v : Value) → value s env packet e ≡ Some v → value t env packet e ≡ Some v
  value_up s t packet u env (name at x) v h = h
  value_up s t packet u env (field at x f) v h = u.fields x.text f.text v h
  value_up s t packet u env (lit at w n) v h = h
  value_up s t packet u env (true_or_false at b) v h = h
  value_up s t packet u env (call at f es) v h =
      then_up (numbers s env packet es) (numbers t env packet es) (s.apply f.text) (t.apply f.text) v (λ ns. numbers_up s t packet u env es ns) (λ ns. u.calls f.text ns v) h
  value_up s t packet u env (unary at op a) v h =
      then_up (value s env packet a) (value t env packet a) (apply_unary op) (apply_unary op) v (λ x. value_up s t packet u env a x) (λ x k. k) h
  value_up s t packet u env (binary at op a b) v h =
      both_up (apply_binary op) (value s env packet a) (value t env packet a) (value s env packet b) (value t env packet b) v
      (λ x. value_up s t packet u env a x) (λ x. value_up s t packet u env b x) h
  value_up s t packet u env (slice at a high low) v h =
      then_up (value s env packet a) (value t env packet a) (λ x. apply_slice x high low) (λ x. apply_slice x high low) v (λ x. value_up s t packet u env a x) (λ x k. k) h
  value_up s t packet u env (pick at c a b) v h =
      all_up apply_pick (value s env packet c) (value t env packet c) (value s env packet a) (value t env packet a) (value s env packet b) (value t env packet b) v
      (λ x. value_up s t packet u env c x) (λ x. value_up s t packet u env a x) (λ x. value_up s t packet u env b x) h

  numbers_up : (s t : Context) (packet : Packet) → Up s t packet → (env : Env) (es : Exprs) (ns : List ℕ) → numbers s env packet es ≡ Some ns → numbers t env packet es ≡ Some ns
  numbers_up s t packet u env no_exprs ns h = h
  numbers_up s t packet u env (expr e es) ns h =
      both_up (λ n ms. Some (n ∷ ms)) (option_and_then as_number (value s env packet e)) (option_and_then as_number (value t env packet e)) (numbers s env packet es) (numbers t env packet es) ns
      (λ n. then_up (value s env packet e) (value t env packet e) as_number as_number n (λ x. value_up s t packet u env e x) (λ x k. k)) (λ ms. numbers_up s t packet u env es ms) h

-- ---- functions

if_some : (b : Bool) (x v : Value) → (if b then Some x else None) ≡ Some v → (b ≡ true) × (x ≡ v)
if_some true x v h = (refl, cc)
if_some false x v h = absurd (cc)

table_up : (tables : List (Option FunTable)) (defs : Defs) (n : ℕ) (g : FunctionDecl) (f ns : List ℕ) (v : Value) → IsTableOf tables defs n g → f ≡ g.name.text
    → table_value g.result (table_at tables n) ns ≡ Some v → look_up defs f ns ≡ Some v
table_up tables defs n g f ns v is same h =
    let found = if_some (all_fit_widths is.table.widths ns) (result_value g.result (looked is.table ns)) v (ap (λ t. table_value g.result t ns) (sym is.is_there) ∙ h) in
    ap (λ x. look_up defs x ns) same ∙ is.gives ns found.0 ∙ ap Some found.1

pub apply_up : (design : Design) (tables : List (Option FunTable)) (defs : Defs) → Stands design tables defs → (n : ℕ) → n ≤ length (functions design) → (f ns : List ℕ) (v : Value)
    → apply_by tables (earlier design n) f ns ≡ Some v → apply_in design.headers defs (earlier design n) f ns ≡ Some v
apply_up design tables defs st zero l f ns v = λ h. absurd (cc)
apply_up design tables defs st (suc n) l f ns v =
    let g = there (functions design) n (omega arith) in
    let more : earlier design (suc n) ≡ g.0 ∷ earlier design n = ap (earlier design) (sym (add-one n)) ∙ earlier_more design n g.0 g.1 in
    let before = apply_up design tables defs st n (omega arith) in
    let count : length (earlier design n) ≡ n = earlier_count design n (omega arith) in
    let u : Up (record { headers = []; apply = apply_by tables (earlier design n) }) (record { headers = design.headers; apply = apply_in design.headers defs (earlier design n) }) [] =
    record { calls = before; fields = λ h k w e. absurd (cc) } in
    subst (λ fs. apply_by tables fs f ns ≡ Some v → apply_in design.headers defs fs f ns ≡ Some v) (sym more)
    (if_up (same_name f g.0.name.text)
    (called (apply_by tables (earlier design n)) (table_at tables (length (earlier design n))) g.0 ns)
    (elim g.0.body [
      | None ↦ look_up defs f ns
      | Some e ↦ option_and_then (λ env. value (record { headers = design.headers; apply = apply_in design.headers defs (earlier design n) }) env [] e) (bind g.0.params ns)
    ])
    (apply_by tables (earlier design n) f ns) (apply_in design.headers defs (earlier design n) f ns) v
    (λ same. body_up g.0.body (table_value g.0.result (table_at tables (length (earlier design n))) ns) (look_up defs f ns)
    (λ e. option_and_then (λ env. value (record { headers = []; apply = apply_by tables (earlier design n) }) env [] e) (bind g.0.params ns))
    (λ e. option_and_then (λ env. value (record { headers = design.headers; apply = apply_in design.headers defs (earlier design n) }) env [] e) (bind g.0.params ns))
    v
    (λ none k. table_up tables defs n g.0 f ns v (st n g.0 g.1 none) (same-true f g.0.name.text same) (ap (λ m. table_value g.0.result (table_at tables m) ns) (sym count) ∙ k))
    (λ e. then_up (bind g.0.params ns) (bind g.0.params ns)
    (λ env. value (record { headers = []; apply = apply_by tables (earlier design n) }) env [] e)
    (λ env. value (record { headers = design.headers; apply = apply_in design.headers defs (earlier design n) }) env [] e) v (λ env k. k)
    (λ env. value_up (record { headers = []; apply = apply_by tables (earlier design n) }) (record { headers = design.headers; apply = apply_in design.headers defs (earlier design n) }) [] u env e v)))
    (before f ns v))

pub values_up : (design : Design) (tables : List (Option FunTable)) (defs : Defs) → Stands design tables defs → (env : Env) (packet : Packet) (e : Expr) (v : Value)
    → value (context_by design.headers tables design (length (functions design))) env packet e ≡ Some v → value (context design defs) env packet e ≡ Some v
values_up design tables defs st env packet e v =
    let all : earlier design (length (functions design)) ≡ reverse (functions design) = ap reverse (take_all (length (functions design)) (functions design) (omega arith)) in
    value_up (context_by design.headers tables design (length (functions design))) (context design defs) packet
    (record {
      calls = λ f ns w h. ap (λ fs. apply_in design.headers defs fs f ns) (sym all) ∙ apply_up design tables defs st (length (functions design)) (omega arith) f ns w h;
      fields = λ h f w k. k;
    })
    env e v
