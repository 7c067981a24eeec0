-- An expression at which no rule fails, nor at a part of it, has a type.
use Rattle.std.proofs.Common.{◌≡◌, inl, inr, ℕ, ◌+◌, ◌-◌, ◌%◌, ◌^◌, bit_and, bit_or, bit_xor, ◌==◌, ◌&&◌, ◌||◌, nat_le, nat_lt, not, List, [], ◌∷◌, ◌++◌, length, map, Bool, true, false, cond, Option, Some, None, is_some, if◌then◌else◌, option_map, option_and_then, refl, sym, ap, ◌∙◌, arith}
use Rattle.std.specs.List.{list_any, list_all}
use Rattle.std.proofs.lemmas.List.{length-map}
use Rattle.cocoon_num.specs.Names.{same_name, named}
use Rattle.cocoon_num.specs.Sorts.{Sort, bits_sort, truth_sort, has_sort, same_sort, are_same, unary_sort, binary_sort, work_sort, slice_sort, pick_sort}
use Rattle.cocoon_num.specs.Tree.{Name, Expr, name, field, lit, true_or_false, call, unary, binary, slice, pick, Exprs, no_exprs, expr, Param, FunctionDecl, HeaderDecl, token_index}
use Rattle.cocoon_num.specs.Values.{flip, not_, BinaryOp, add, sub, bits_and, bits_or, bits_xor, concat, equal, unequal, less, less_equal, greater, greater_equal, and_, or_, implies, computes, compares, with_both, with_all}
use Rattle.cocoon_types.specs.Design.{field_width, widths_of}
use Rattle.cocoon_types.specs.NameRules.{unknown_in_expr, late_in_expr}
use Rattle.cocoon_types.specs.Parts.{parts, parts_of, list_of, count_of}
use Rattle.cocoon_types.specs.RuleParts.{unless, unless_named, has_name, param_names}
use Rattle.cocoon_types.specs.Sites.{ExprSite}
use Rattle.cocoon_types.specs.TypeRules.{wide_in_expr, wrong_in_expr, not_bool_in_expr, wrong_count_in_expr, bad_slices, packet_used, too_wide_sum, both_typed, are_like, is_other, unless_is, all_typed, wrong_args, found_widths, where_, bad_bounds}
use Rattle.cocoon_types.specs.Typing.{Scope, var_width, function_named, result_sort, args_fit, call_sort, sort_of, sorts_of}
use Rattle.sound_types.specs.Literals.{literal_fits}
use Rattle.sound_types.proofs.Members.{In, in_left, in_right}
use Rattle.sound_types.proofs.Options.{some_there, both_true, true_both, same_self, passes, nil_left, nil_right}
use Rattle.sound_types.proofs.Values.{has_sort_there}

-- no rule fails at the expression, and a literal fits
pub record IsFaultless (site : ExprSite) : Type 0 where
  pub known : unknown_in_expr site ≡ []
  pub before : late_in_expr site ≡ []
  pub narrow : wide_in_expr site ≡ []
  pub operands : wrong_in_expr site ≡ []
  pub truths : not_bool_in_expr site ≡ []
  pub count : wrong_count_in_expr site ≡ []
  pub bounds : bad_slices site ≡ []
  pub packet : packet_used site ≡ []
  pub literal : literal_fits site.e ≡ true

-- nor at these
abbrev pub AreFaultless : Scope → List Expr → Type 0
AreFaultless s es = (a : Expr) → In a es → IsFaultless (record { scope = s; e = a })

-- ---- tests

pub where_there : (b : Bool) (ats : List ℕ) → b ≡ true → where_ b ats ≡ [] → ats ≡ []
where_there true ats e h = h
where_there false ats e h = absurd (cc)

pub is_there : {A : Type 0} (o : Option A) (a : A) → o ≡ Some a → is_some o ≡ true
is_there o a h = ap is_some h

any_there : {A : Type 0} (name_of : A → Name) (x : List ℕ) (xs : List A) → list_any (λ (n : Name). same_name x n.text) (map name_of xs) ≡ true → (a : A) × (named name_of x xs ≡ Some a)
any_there name_of x [] h = absurd (cc)
any_there {A} name_of x (y ∷ xs) h = by_test (same_name x (name_of y).text) h (any_there name_of x xs)
  where
    by_test : (b : Bool) → (b || list_any (λ (n : Name). same_name x n.text) (map name_of xs)) ≡ true
        → (list_any (λ (n : Name). same_name x n.text) (map name_of xs) ≡ true → (a : A) × (named name_of x xs ≡ Some a)) → (a : A) × (cond b (Some y) (named name_of x xs) ≡ Some a)
    by_test true k f = (y, refl)
    by_test false k f = f k

-- ---- types that are there

number_sort : (o : Option Sort) (at : ℕ) → is_some o ≡ true → unless (not (has_sort truth_sort o)) at ≡ [] → (w : ℕ) × (o ≡ Some (bits_sort w))
number_sort None at i h = absurd (cc)
number_sort (Some (bits_sort w)) at i h = (w, refl)
number_sort (Some truth_sort) at i h = absurd (cc)

pub other_there : (t : Sort) (o : Option Sort) (at : ℕ) → is_some o ≡ true → unless (not (is_other t o)) at ≡ [] → has_sort t o ≡ true
other_there t None at i h = absurd (cc)
other_there t (Some u) at i h = by_test (same_sort t u) h
  where
    by_test : (b : Bool) → unless (not (not b)) at ≡ [] → b ≡ true
    by_test true k = refl
    by_test false k = absurd (cc)

pub truth_there : (o : Option Sort) (at : ℕ) → is_some o ≡ true → unless (not (is_other truth_sort o)) at ≡ [] → o ≡ Some truth_sort
truth_there None at i h = absurd (cc)
truth_there (Some (bits_sort w)) at i h = absurd (cc)
truth_there (Some truth_sort) at i h = refl

numbers_there : (x y : Option Sort) (at : ℕ) → is_some x ≡ true → is_some y ≡ true → where_ (both_typed x y) (unless (are_like x y) at) ≡ []
    → (w : ℕ) × (x ≡ Some (bits_sort w)) × (y ≡ Some (bits_sort w))
numbers_there None y at i j h = absurd (cc)
numbers_there (Some (bits_sort v)) None at i j h = absurd (cc)
numbers_there (Some (bits_sort v)) (Some (bits_sort w)) at i j h = let e : v ≡ w = grind (arith, passes (v == w) at h) in (v, refl, ap (λ z. Some (bits_sort z)) (sym e))
numbers_there (Some (bits_sort v)) (Some truth_sort) at i j h = absurd (cc)
numbers_there (Some truth_sort) None at i j h = absurd (cc)
numbers_there (Some truth_sort) (Some y) at i j h = absurd (cc)

-- what the operators of numbers and those of truth values have
computed : (f : ℕ → ℕ → ℕ → ℕ) (x y : Option Sort) (at : ℕ) → is_some x ≡ true → is_some y ≡ true → where_ (both_typed x y) (unless (are_like x y) at) ≡ []
    → (t : Sort) × (with_both (work_sort (computes f)) x y ≡ Some t)
computed f x y at i j h =
    let n = numbers_there x y at i j h in
    (bits_sort n.0, (λ k. with_both (work_sort (computes f)) (n.1 k) (n.2 k)) ∙ ap (λ b. if b then Some (bits_sort n.0) else None) (same_self n.0))

compared : (f : ℕ → ℕ → Bool) (x y : Option Sort) (at : ℕ) → is_some x ≡ true → is_some y ≡ true → where_ (both_typed x y) (unless (are_like x y) at) ≡ []
    → (t : Sort) × (with_both (work_sort (compares f)) x y ≡ Some t)
compared f x y at i j h =
    let n = numbers_there x y at i j h in
    (truth_sort, (λ k. with_both (work_sort (compares f)) (n.1 k) (n.2 k)) ∙ ap (λ b. if b then Some truth_sort else None) (same_self n.0))

combined : (op : BinaryOp) (x y : Option Sort) (at to : ℕ) → binary_sort op truth_sort truth_sort ≡ Some truth_sort → is_some x ≡ true → is_some y ≡ true
    → where_ (both_typed x y) (unless (not (is_other truth_sort x)) at ++ unless (not (is_other truth_sort y)) to) ≡ [] → (t : Sort) × (with_both (binary_sort op) x y ≡ Some t)
combined op x y at to e i j h =
    let both = where_there (both_typed x y) (unless (not (is_other truth_sort x)) at ++ unless (not (is_other truth_sort y)) to) (true_both (is_some x) (is_some y) i j) h in
    let p = truth_there x at i (nil_left (unless (not (is_other truth_sort x)) at) (unless (not (is_other truth_sort y)) to) both) in
    let q = truth_there y to j (nil_right (unless (not (is_other truth_sort x)) at) (unless (not (is_other truth_sort y)) to) both) in
    (truth_sort, (λ k. with_both (binary_sort op) (p k) (q k)) ∙ e)

narrow_sum : (n : ℕ) → not (nat_lt 128 n) ≡ true → nat_le n 128 ≡ true
narrow_sum n h = grind (arith, h)

joined : (x y : Option Sort) (at to here : ℕ) → is_some x ≡ true → is_some y ≡ true
    → where_ (both_typed x y) (unless (not (has_sort truth_sort x)) at ++ unless (not (has_sort truth_sort y)) to) ≡ [] → unless (not (too_wide_sum x y)) here ≡ []
    → (t : Sort) × (with_both (binary_sort concat) x y ≡ Some t)
joined x y at to here i j h k =
    let both = where_there (both_typed x y) (unless (not (has_sort truth_sort x)) at ++ unless (not (has_sort truth_sort y)) to) (true_both (is_some x) (is_some y) i j) h in
    let p = number_sort x at i (nil_left (unless (not (has_sort truth_sort x)) at) (unless (not (has_sort truth_sort y)) to) both) in
    let q = number_sort y to j (nil_right (unless (not (has_sort truth_sort x)) at) (unless (not (has_sort truth_sort y)) to) both) in
    let few : unless (not (nat_lt 128 (p.0 + q.0))) here ≡ [] = (λ l. unless (not (too_wide_sum (sym p.1 l) (sym q.1 l))) here) ∙ k in
    (bits_sort (p.0 + q.0), (λ l. with_both (binary_sort concat) (p.1 l) (q.1 l)) ∙ ap (λ b. if b then Some (bits_sort (p.0 + q.0)) else None) (narrow_sum (p.0 + q.0) (passes (not (nat_lt 128 (p.0 + q.0))) here few)))

sliced : (x : Option Sort) (high low at here : ℕ) → is_some x ≡ true → unless (not (has_sort truth_sort x)) at ≡ [] → unless (not (bad_bounds x high low)) here ≡ []
    → (t : Sort) × (option_and_then (λ u. slice_sort u high low) x ≡ Some t)
sliced x high low at here i h k =
    let p = number_sort x at i h in
    let within = ap (λ o. unless (not (bad_bounds o high low)) here) (sym p.1) ∙ k in
    (bits_sort (high - low + 1), ap (option_and_then (λ u. slice_sort u high low)) p.1 ∙ ap (λ b. if b then Some (bits_sort (high - low + 1)) else None) (twice (nat_le low high && nat_lt high p.0) within))
  where
    twice : (b : Bool) → unless (not (not b)) here ≡ [] → b ≡ true
    twice true l = refl
    twice false l = absurd (cc)

picked : (x y z : Option Sort) (at to : ℕ) → is_some x ≡ true → is_some y ≡ true → is_some z ≡ true → where_ (is_some x && both_typed y z) (unless (are_same y z) at) ≡ []
    → where_ (both_typed y z) (unless (not (is_other truth_sort x)) to) ≡ [] → (t : Sort) × (with_all pick_sort x y z ≡ Some t)
picked x None z at to i j k g h = absurd (cc)
picked x (Some u) None at to i j k g h = absurd (cc)
picked x (Some u) (Some v) at to i j k g h =
    let p = truth_there x to i h in
    let same = where_there (is_some x && true) (unless (same_sort u v) at) (true_both (is_some x) true i refl) g in
    (u, ap (λ o. with_all pick_sort o (Some u) (Some v)) p ∙ ap (λ b. if b then Some u else None) (passes (same_sort u v) at same))

-- an operator whose operands have types
operated : (s : Scope) (at : ℕ) (op : BinaryOp) (a b : Expr) → is_some (sort_of s a) ≡ true → is_some (sort_of s b) ≡ true → IsFaultless (record { scope = s; e = binary at op a b })
    → (t : Sort) × (with_both (binary_sort op) (sort_of s a) (sort_of s b) ≡ Some t)
operated s at add a b i j c = computed (λ w x y. (x + y) % 2 ^ w) (sort_of s a) (sort_of s b) at i j c.operands
operated s at sub a b i j c = computed (λ w x y. (x + 2 ^ w - y) % 2 ^ w) (sort_of s a) (sort_of s b) at i j c.operands
operated s at bits_and a b i j c = computed (λ w x y. bit_and x y) (sort_of s a) (sort_of s b) at i j c.operands
operated s at bits_or a b i j c = computed (λ w x y. bit_or x y) (sort_of s a) (sort_of s b) at i j c.operands
operated s at bits_xor a b i j c = computed (λ w x y. bit_xor x y) (sort_of s a) (sort_of s b) at i j c.operands
operated s at concat a b i j c = joined (sort_of s a) (sort_of s b) (token_index a) (token_index b) at i j c.operands c.narrow
operated s at equal a b i j c = compared (λ x y. x == y) (sort_of s a) (sort_of s b) at i j c.operands
operated s at unequal a b i j c = compared (λ x y. not (x == y)) (sort_of s a) (sort_of s b) at i j c.operands
operated s at less a b i j c = compared (λ x y. nat_lt x y) (sort_of s a) (sort_of s b) at i j c.operands
operated s at less_equal a b i j c = compared (λ x y. nat_le x y) (sort_of s a) (sort_of s b) at i j c.operands
operated s at greater a b i j c = compared (λ x y. nat_lt y x) (sort_of s a) (sort_of s b) at i j c.operands
operated s at greater_equal a b i j c = compared (λ x y. nat_le y x) (sort_of s a) (sort_of s b) at i j c.operands
operated s at and_ a b i j c = combined and_ (sort_of s a) (sort_of s b) (token_index a) (token_index b) refl i j c.truths
operated s at or_ a b i j c = combined or_ (sort_of s a) (sort_of s b) (token_index a) (token_index b) refl i j c.truths
operated s at implies a b i j c = combined implies (sort_of s a) (sort_of s b) (token_index a) (token_index b) refl i j c.truths

-- ---- calls

args_there : (s : Scope) (ws : List ℕ) (es : Exprs) → all_typed s es ≡ true → (length ws == count_of es) ≡ true → wrong_args s ws es ≡ [] → args_fit ws (sorts_of s es) ≡ true
args_there s [] no_exprs i c h = refl
args_there s [] (expr e es) i c h = absurd (grind (arith, c))
args_there s (w ∷ ws) no_exprs i c h = absurd (grind (arith, c))
args_there s (w ∷ ws) (expr e es) i c h =
    let both = both_true (is_some (sort_of s e)) (list_all (λ x. is_some (sort_of s x)) (list_of es)) i in
    let count : (length ws == count_of es) ≡ true = grind (arith, c) in
    true_both (has_sort (bits_sort w) (sort_of s e)) (args_fit ws (sorts_of s es))
    (other_there (bits_sort w) (sort_of s e) (token_index e) both.0 (nil_left (unless_is s (bits_sort w) e) (wrong_args s ws es) h))
    (args_there s ws es both.1 count (nil_right (unless_is s (bits_sort w) e) (wrong_args s ws es) h))

called : (s : Scope) (es : Exprs) (f : Name) (o : Option FunctionDecl) → is_some o ≡ true → all_typed s es ≡ true
    → (elim o as (λ x. List ℕ) [ None ↦ [] | Some d ↦ where_ (all_typed s es) (unless_named (length d.params == count_of es) f) ]) ≡ []
    → where_ (all_typed s es && (length (found_widths o) == count_of es)) (wrong_args s (found_widths o) es) ≡ [] → (t : Sort) × (call_sort o (sorts_of s es) ≡ Some t)
called s es f None i all g h = absurd (cc)
called s es f (Some d) i all g h =
    let count = passes (length d.params == count_of es) f.at (where_there (all_typed s es) (unless_named (length d.params == count_of es) f) all g) in
    let widths : (length (widths_of d.params) == count_of es) ≡ true = ap (λ n. n == count_of es) (length-map d.params (λ (p : Param). p.width)) ∙ count in
    let args = where_there (all_typed s es && (length (widths_of d.params) == count_of es)) (wrong_args s (widths_of d.params) es) (true_both (all_typed s es) (length (widths_of d.params) == count_of es) all widths) h in
    (result_sort d.result, ap (λ b. if b then Some (result_sort d.result) else None) (args_there s (widths_of d.params) es all widths args))

-- ---- fields

pub field_there : (f : Name) (o : Option HeaderDecl) (at : ℕ) → (elim o as (λ x. List ℕ) [ None ↦ at ∷ [] | Some d ↦ unless_named (has_name f.text (param_names d.fields)) f ]) ≡ []
    → (w : ℕ) × (option_and_then (λ (d : HeaderDecl). option_map (λ (p : Param). p.width) (named (λ (p : Param). p.name) f.text d.fields)) o ≡ Some w)
field_there f None at h = absurd (cc)
field_there f (Some d) at h =
    let t = any_there (λ (p : Param). p.name) f.text d.fields (passes (has_name f.text (param_names d.fields)) f.at h) in
    (t.0.width, ap (option_map (λ (p : Param). p.width)) t.1)

-- ---- expressions

mutual
  pub typed : (s : Scope) (e : Expr) → AreFaultless s (parts e) → (t : Sort) × (sort_of s e ≡ Some t)
  typed s (name at x) h =
      let w = some_there (var_width s x) (passes (is_some (var_width s x)) at (h (name at x) (inl refl)).known) in (bits_sort w.0, ap (option_map bits_sort) w.1)
  typed s (field at x f) h =
      let c = h (field at x f) (inl refl) in
      let w = field_there f (named (λ (d : HeaderDecl). d.name) x.text s.design.headers) x.at c.known in
      (bits_sort w.0, ap (λ b. if b then option_map bits_sort (field_width s.design.headers x.text f.text) else None) (passes s.packet at c.packet) ∙ ap (option_map bits_sort) w.1)
  typed s (lit at w n) h = (bits_sort w, refl)
  typed s (true_or_false at b) h = (truth_sort, refl)
  typed s (call at f es) h =
      let c = h (call at f es) (inl refl) in
      called s es f (function_named s f.text) (passes (is_some (function_named s f.text)) f.at c.known) (all_there s es (λ a i. h a (inr i))) c.count c.operands
  typed s (unary at flip a) h =
      let t = typed s a (λ x i. h x (inr i)) in
      let n = number_sort (sort_of s a) (token_index a) (is_there (sort_of s a) t.0 t.1) (h (unary at flip a) (inl refl)).operands in
      (bits_sort n.0, ap (option_and_then (unary_sort flip)) n.1)
  typed s (unary at not_ a) h =
      let t = typed s a (λ x i. h x (inr i)) in
      let n = truth_there (sort_of s a) (token_index a) (is_there (sort_of s a) t.0 t.1) (h (unary at not_ a) (inl refl)).truths in
      (truth_sort, ap (option_and_then (unary_sort not_)) n)
  typed s (binary at op a b) h =
      let t = typed s a (λ x i. h x (inr (in_left x (parts a) (parts b) i))) in
      let u = typed s b (λ x i. h x (inr (in_right x (parts a) (parts b) i))) in
      operated s at op a b (is_there (sort_of s a) t.0 t.1) (is_there (sort_of s b) u.0 u.1) (h (binary at op a b) (inl refl))
  typed s (slice at a high low) h =
      let t = typed s a (λ x i. h x (inr i)) in
      let c = h (slice at a high low) (inl refl) in
      sliced (sort_of s a) high low (token_index a) at (is_there (sort_of s a) t.0 t.1) c.operands c.bounds
  typed s (pick at k a b) h =
      let o = typed s k (λ x i. h x (inr (in_left x (parts k ++ parts a) (parts b) (in_left x (parts k) (parts a) i)))) in
      let t = typed s a (λ x i. h x (inr (in_left x (parts k ++ parts a) (parts b) (in_right x (parts k) (parts a) i)))) in
      let u = typed s b (λ x i. h x (inr (in_right x (parts k ++ parts a) (parts b) i))) in
      let c = h (pick at k a b) (inl refl) in
      picked (sort_of s k) (sort_of s a) (sort_of s b) (token_index a) (token_index k) (is_there (sort_of s k) o.0 o.1) (is_there (sort_of s a) t.0 t.1) (is_there (sort_of s b) u.0 u.1) c.operands c.truths

  all_there : (s : Scope) (es : Exprs) → AreFaultless s (parts_of es) → all_typed s es ≡ true
  all_there s no_exprs h = refl
  all_there s (expr e es) h =
      let t = typed s e (λ x i. h x (in_left x (parts e) (parts_of es) i)) in
      true_both (is_some (sort_of s e)) (all_typed s es) (is_there (sort_of s e) t.0 t.1) (all_there s es (λ x i. h x (in_right x (parts e) (parts_of es) i)))

-- it has a type that no rule on types refuses
pub typed_as : (s : Scope) (t : Sort) (e : Expr) → AreFaultless s (parts e) → unless_is s t e ≡ [] → sort_of s e ≡ Some t
typed_as s t e h k =
    let u = typed s e h in
    has_sort_there t (sort_of s e) (other_there t (sort_of s e) (token_index e) (is_there (sort_of s e) u.0 u.1) k)
