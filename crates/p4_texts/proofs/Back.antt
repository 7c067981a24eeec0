-- The text of a program that keeps the kind rules stands for it.
use Rattle.std.specs.Prelude.{◌≡◌, ℕ, zero, suc, ◌||◌, Bool, true, false, not, List, [], ◌∷◌, ◌++◌, map, slice_get, Option, Some, None, is_some, option_map, option_and_then, codes, if◌then◌else◌, refl}
use Rattle.std.proofs.Common.{sym, ap, ap₂, ◌∙◌}
use Rattle.std.proofs.lemmas.Bool.{and_parts}
use Rattle.std.proofs.lemmas.Option.{slice_get-map}
use Rattle.cocoon_num.specs.Lists.{all_distinct, each, is_one_of}
use Rattle.cocoon_num.specs.Names.{same_name}
use Rattle.cocoon_num.specs.Sorts.{bits_sort, unary_sort, binary_sort, slice_sort, pick_sort}
use Rattle.cocoon_num.specs.Values.{BinaryOp, add, sub, bits_and, bits_or, bits_xor, concat, equal, unequal, less, less_equal, greater, greater_equal, and_, or_, implies, with_both}
use Rattle.p4_ir.specs.Program.{binary_of}
use Rattle.p4_ir.specs.P4Kinds.{Within, field_sort, is_implies, p4_sort}
use Rattle.p4_ir.specs.P4Tree.{P4Expr, p_lit, p_truth, p_meta, p_field, p_port, p_rid, p_unary, p_binary, p_slice, p_pick, P4Field, P4Header, Program}
use Rattle.p4_texts.specs.Meant.{expr_meant, field_at, header_at, meta_at, names_of, place_in}
use Rattle.p4_texts.specs.TextOf.{binary_written, expr_written, field_called, field_in_header, field_written, header_called, header_written, member_written, meta_name, meta_written, text_of_program}
use Rattle.p4_texts.specs.Written.{FieldText, HeaderText, MemberText}
use Rattle.p4_texts.proofs.Lists.{name_is, same_self}
use Rattle.p4_texts.proofs.Said.{all_some, both_some, each_at, there, then_some, unless_some}

-- ---- the place of a name

one_of_at : (xs : List (List ℕ)) (i : ℕ) (x : List ℕ) → slice_get xs i ≡ Some x → is_one_of xs x ≡ true
one_of_at [] i x h = absurd cc
one_of_at (y ∷ ys) zero x h = let same : y ≡ x = cc in ap (λ z. same_name z x || is_one_of ys x) same ∙ ap (λ b. b || is_one_of ys x) (same_self x)
one_of_at (y ∷ ys) (suc i) x h = later (same_name y x) (is_one_of ys x) (one_of_at ys i x h)
  where
    later : (a b : Bool) → b ≡ true → (a || b) ≡ true
    later true b h = refl
    later false b h = h

pub place_of : (xs : List (List ℕ)) (i : ℕ) (x : List ℕ) → all_distinct xs ≡ true → slice_get xs i ≡ Some x → place_in xs x ≡ i
place_of [] i x d h = absurd cc
place_of (y ∷ ys) zero x d h = let same : y ≡ x = cc in ap (λ (b : Bool). if b then 0 else suc (place_in ys x)) (ap (λ z. same_name z x) same ∙ same_self x)
place_of (y ∷ ys) (suc i) x d h =
    let p = and_parts (not (is_one_of ys y)) (all_distinct ys) d in
    let other : same_name y x ≡ false = by (same_name y x) refl p.0 in
    ap (λ (b : Bool). if b then 0 else suc (place_in ys x)) other ∙ ap suc (place_of ys i x p.1 h)
  where
    by : (b : Bool) → same_name y x ≡ b → not (is_one_of ys y) ≡ true → same_name y x ≡ false
    by false e n = e
    by true e n =
        let same : y ≡ x = name_is y x e in
        let found : is_one_of ys y ≡ true = ap (is_one_of ys) same ∙ one_of_at ys i x h in
        absurd (let none : not true ≡ true = ap not (sym found) ∙ n in cc)

pub alike : {A B : Type 0} (f : A → B) (g : B → A) → ((x : A) → g (f x) ≡ x) → (xs : List A) → map g (map f xs) ≡ xs
alike f g h [] = refl
alike f g h (x ∷ xs) = ap₂ (λ y ys. y ∷ ys) (h x) (alike f g h xs)

pub map_twice : {A B C : Type 0} (f : A → B) (g : B → C) (xs : List A) → map g (map f xs) ≡ map (λ x. g (f x)) xs
map_twice f g [] = refl
map_twice f g (x ∷ xs) = ap (λ ys. g (f x) ∷ ys) (map_twice f g xs)

-- names that begin alike are told apart by what follows
same_place : (g : List ℕ → List ℕ) → ((a b : List ℕ) → same_name (g a) (g b) ≡ same_name a b) → (xs : List (List ℕ)) (x : List ℕ) → place_in (map g xs) (g x) ≡ place_in xs x
same_place g h [] x = refl
same_place g h (y ∷ ys) x = ap (λ (b : Bool). if b then 0 else suc (place_in (map g ys) (g x))) (h y x) ∙ ap (λ n. if same_name y x then 0 else suc n) (same_place g h ys x)

-- ---- names of a program

pub record Named (p : Program) : Type 0 where
  pub headers : all_distinct (map (λ (h : P4Header). h.name) p.headers) ≡ true
  pub fields : each (λ (h : P4Header). all_distinct (map (λ (f : P4Field). f.name) h.fields)) p.headers ≡ true
  pub meta : all_distinct (map (λ (f : P4Field). f.name) p.meta) ≡ true

pub meta_back : (p : Program) (i : ℕ) → Named p → is_some (slice_get p.meta i) ≡ true → meta_at (text_of_program p) (meta_name p i) ≡ i
meta_back p i n s =
    let f = there (slice_get p.meta i) s in
    let called : meta_name p i ≡ f.it.name = ap (λ (o : Option P4Field). elim o as (λ _. List ℕ) [ Some g ↦ g.name | None ↦ [] ]) f.is in
    let at : slice_get (map (λ (g : P4Field). g.name) p.meta) i ≡ Some f.it.name = slice_get-map (λ (g : P4Field). g.name) p.meta i ∙ ap (option_map (λ (g : P4Field). g.name)) f.is in
    ap (λ z. place_in z (meta_name p i)) (map_twice meta_written (λ (g : FieldText). g.name) p.meta)
    ∙ ap (place_in (map (λ (g : P4Field). g.name) p.meta)) called ∙ place_of (map (λ (g : P4Field). g.name) p.meta) i f.it.name n.meta at

abbrev h_name : List ℕ → List ℕ
h_name x = codes "h_" ++ x

abbrev f_name : List ℕ → List ℕ
f_name x = codes "f_" ++ x

pub header_back : (p : Program) (i : ℕ) (d : P4Header) → Named p → slice_get p.headers i ≡ Some d → header_at (text_of_program p) (header_called p i) ≡ i
header_back p i d n e =
    let called : header_called p i ≡ h_name d.name = ap (λ (o : Option P4Header). elim o as (λ _. List ℕ) [ Some g ↦ codes "h_" ++ g.name | None ↦ [] ]) e in
    let at : slice_get (map (λ (g : P4Header). g.name) p.headers) i ≡ Some d.name = slice_get-map (λ (g : P4Header). g.name) p.headers i ∙ ap (option_map (λ (g : P4Header). g.name)) e in
    ap (λ z. place_in z (header_called p i)) (map_twice member_written (λ (m : MemberText). m.name) p.headers ∙ sym (map_twice (λ (g : P4Header). g.name) h_name p.headers))
    ∙ ap (place_in (map h_name (map (λ (g : P4Header). g.name) p.headers))) called
    ∙ same_place h_name (λ a b. refl) (map (λ (g : P4Header). g.name) p.headers) d.name ∙ place_of (map (λ (g : P4Header). g.name) p.headers) i d.name n.headers at

pub field_back : (p : Program) (i j : ℕ) (d : P4Header) (x : P4Field) → Named p → slice_get p.headers i ≡ Some d → slice_get d.fields j ≡ Some x
    → field_at (text_of_program p) i (field_in_header p i j) ≡ j
field_back p i j d x n e g =
    let called : field_in_header p i j ≡ f_name x.name =
    ap (λ (o : Option P4Header). elim o as (λ _. List ℕ) [ Some h ↦ field_called h.fields j | None ↦ [] ]) e ∙ ap (λ (o : Option P4Field). elim o as (λ _. List ℕ) [ Some f ↦ codes "f_" ++ f.name | None ↦ [] ]) g in
    let there_is : slice_get (map header_written p.headers) i ≡ Some (header_written d) = slice_get-map header_written p.headers i ∙ ap (option_map header_written) e in
    let names : names_of (map field_written d.fields) ≡ map f_name (map (λ (f : P4Field). f.name) d.fields) = map_twice field_written (λ (f : FieldText). f.name) d.fields ∙ sym (map_twice (λ (f : P4Field). f.name) f_name d.fields) in
    let at : slice_get (map (λ (f : P4Field). f.name) d.fields) j ≡ Some x.name = slice_get-map (λ (f : P4Field). f.name) d.fields j ∙ ap (option_map (λ (f : P4Field). f.name)) g in
    ap (λ (o : Option HeaderText). elim o as (λ _. ℕ) [ Some h ↦ place_in (names_of h.fields) (field_in_header p i j) | None ↦ 0 ]) there_is
    ∙ ap (λ z. place_in z (field_in_header p i j)) names ∙ ap (place_in (map f_name (map (λ (f : P4Field). f.name) d.fields))) called
    ∙ same_place f_name (λ a b. refl) (map (λ (f : P4Field). f.name) d.fields) x.name
    ∙ place_of (map (λ (f : P4Field). f.name) d.fields) j x.name (each_at (λ (h : P4Header). all_distinct (map (λ (f : P4Field). f.name) h.fields)) p.headers i d n.fields e) at

-- a field of a header that is there
pub record FieldThere (p : Program) (i j : ℕ) : Type 0 where
  pub header : P4Header
  pub field : P4Field
  pub header_is : slice_get p.headers i ≡ Some header
  pub field_is : slice_get header.fields j ≡ Some field

pub field_there : (p : Program) (i j : ℕ) → is_some (field_sort p i j) ≡ true → FieldThere p i j
field_there p i j s = by (slice_get p.headers i) refl s
  where
    inside : (d : P4Header) → slice_get p.headers i ≡ Some d → (o : Option P4Field) → slice_get d.fields j ≡ o → is_some (option_map (λ (x : P4Field). bits_sort x.width) o) ≡ true → FieldThere p i j
    inside d e None g s = absurd cc
    inside d e (Some x) g s = record { header = d; field = x; header_is = e; field_is = g }

    by : (o : Option P4Header) → slice_get p.headers i ≡ o → is_some (option_and_then (λ (d : P4Header). option_map (λ (x : P4Field). bits_sort x.width) (slice_get d.fields j)) o) ≡ true → FieldThere p i j
    by None e s = absurd cc
    by (Some d) e s = inside d e (slice_get d.fields j) refl s

-- ---- expressions and statements

op_back : (op : BinaryOp) → is_implies op ≡ false → binary_of (binary_written op) ≡ op
op_back add h = refl
op_back sub h = refl
op_back bits_and h = refl
op_back bits_or h = refl
op_back bits_xor h = refl
op_back concat h = refl
op_back equal h = refl
op_back unequal h = refl
op_back less h = refl
op_back less_equal h = refl
op_back greater h = refl
op_back greater_equal h = refl
op_back and_ h = refl
op_back or_ h = refl
op_back implies h = absurd cc

no_implies : {A : Type 0} (b : Bool) (o : Option A) → is_some (if b then None else o) ≡ true → b ≡ false
no_implies true o h = absurd cc
no_implies false o h = refl

of_map : {A B : Type 0} (f : A → B) (o : Option A) → is_some (option_map f o) ≡ true → is_some o ≡ true
of_map f None h = absurd cc
of_map f (Some a) h = refl

abbrev pub inside : Program → Bool → List ℕ → Within
inside p in_ingress tables = record { program = p; in_ingress = in_ingress; tables = tables }

abbrev pub back : Program → P4Expr → P4Expr
back p e = expr_meant (text_of_program p) (expr_written p e)

pub expr_back : (p : Program) (i : Bool) (ns : List ℕ) → Named p → (e : P4Expr) → is_some (p4_sort (inside p i ns) e) ≡ true → back p e ≡ e
expr_back p i ns n (p_lit w v) s = refl
expr_back p i ns n (p_truth b) s = refl
expr_back p i ns n (p_meta j) s = ap p_meta (meta_back p j n (of_map (λ (f : P4Field). bits_sort f.width) (slice_get p.meta j) s))
expr_back p i ns n (p_field h f) s =
    let x = field_there p h f s in
    let at : header_at (text_of_program p) (header_called p h) ≡ h = header_back p h x.header n x.header_is in
    ap₂ p_field at (ap (λ z. field_at (text_of_program p) z (field_in_header p h f)) at ∙ field_back p h f x.header x.field n x.header_is x.field_is)
expr_back p i ns n p_port s = refl
expr_back p i ns n p_rid s = refl
expr_back p i ns n (p_unary op a) s = ap (p_unary op) (expr_back p i ns n a (then_some (unary_sort op) (p4_sort (inside p i ns) a) s))
expr_back p i ns n (p_binary op a b) s =
    let sorts = with_both (binary_sort op) (p4_sort (inside p i ns) a) (p4_sort (inside p i ns) b) in
    let some = both_some (binary_sort op) (p4_sort (inside p i ns) a) (p4_sort (inside p i ns) b) (unless_some (is_implies op) sorts s) in
    ap (λ o. p_binary o (back p a) (back p b)) (op_back op (no_implies (is_implies op) sorts s)) ∙ ap₂ (p_binary op) (expr_back p i ns n a some.0) (expr_back p i ns n b some.1)
expr_back p i ns n (p_slice a high low) s = ap (λ z. p_slice z high low) (expr_back p i ns n a (then_some (λ z. slice_sort z high low) (p4_sort (inside p i ns) a) s))
expr_back p i ns n (p_pick c a b) s =
    let some = all_some pick_sort (p4_sort (inside p i ns) c) (p4_sort (inside p i ns) a) (p4_sort (inside p i ns) b) s in
    ap (λ z. p_pick z (back p a) (back p b)) (expr_back p i ns n c some.0) ∙ ap₂ (p_pick c) (expr_back p i ns n a some.1) (expr_back p i ns n b some.2)
