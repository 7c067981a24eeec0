-- Typed expressions, by the rules that designs keep.
use Rattle.std.proofs.Common.{◌≡◌, inl, inr, ℕ, zero, suc, ◌<◌, ◌^◌, List, [], ◌∷◌, ◌++◌, take, Bool, true, false, Option, Some, None, if◌then◌else◌, option_map, option_and_then, refl, sym, ap, subst, ◌∙◌, arith}
use Rattle.std.specs.Prelude.{slice_get}
use Rattle.std.proofs.lemmas.Bool.{ltb-true}
use Rattle.cocoon_num.specs.Sorts.{Sort, bits_sort, truth_sort, has_sort, same_sort, unary_sort, binary_sort, slice_sort, pick_sort}
use Rattle.cocoon_num.specs.Tree.{Expr, name, field, lit, true_or_false, call, unary, binary, slice, pick, Exprs, no_exprs, expr, FunctionDecl, Design}
use Rattle.cocoon_types.specs.Design.{field_width, functions, widths_of}
use Rattle.cocoon_types.specs.Parts.{parts, parts_of}
use Rattle.cocoon_num.specs.Values.{with_all, with_both}
use Rattle.cocoon_types.specs.Typing.{Scope, args_fit, call_sort, function_named, result_sort, sort_of, sorts_of, var_width}
use Rattle.sound_types.specs.Literals.{DesignLiteralsFit, literal_fits}
use Rattle.sound_types.specs.WellTyped.{HasType, HaveWidths, scope_at, scope_in}
use Rattle.sound_types.proofs.Bodies.{sort_same}
use Rattle.sound_types.proofs.Expressions.{Any, fine}
use Rattle.sound_types.proofs.Functions.{IsNameOf, IsTypedBody, NamesDiffer, typed_at}
use Rattle.sound_types.proofs.Members.{In, all_at, at_place, in_left, in_right, named_there}
use Rattle.sound_types.proofs.Operators.{same_is}
use Rattle.sound_types.proofs.Options.{all_there, both_there, both_true, if_there, map_there, then_there}
use Rattle.sound_types.proofs.Values.{AllFine, has_sort_there}
use Rattle.obligation_laws.specs.TypedExprs.{IsBefore, TypedAll, TypedAs}

-- a function of this name that is called is declared before
abbrev pub AreBefore : (List ℕ → Type 0) → Scope → Type 0
AreBefore P s = (f : List ℕ) (g : FunctionDecl) → P f → function_named s f ≡ Some g → IsBefore s f g

some_sort : (a b : Sort) → Some a ≡ Some b → b ≡ a
some_sort a b h = cc

if_packet : (b : Bool) (o : Option Sort) (t : Sort) → (if b then o else None) ≡ Some t → (b ≡ true) × (o ≡ Some t)
if_packet true o t h = (refl, h)
if_packet false o t h = absurd (cc)

pick_sorts : (r a b t : Sort) → pick_sort r a b ≡ Some t → (r ≡ truth_sort) × (a ≡ t) × (b ≡ t)
pick_sorts (bits_sort w) a b t h = absurd (cc)
pick_sorts truth_sort a b t h = let e = if_there (same_sort a b) a t h in (refl, e.1, sym (same_is a b e.0) ∙ e.1)

mutual
  pub typed_as : (P : List ℕ → Type 0) (s : Scope) → AreBefore P s → (e : Expr) (t : Sort) → AllFine P (parts e) → sort_of s e ≡ Some t → TypedAs s t e
  typed_as P s before (name at x) t fine h =
      let m = map_there bits_sort (var_width s x) t h in (m.0, m.1, sym m.2)
  typed_as P s before (field at x f) t fine h =
      let k = if_packet s.packet (option_map bits_sort (field_width s.design.headers x.text f.text)) t h in
      let m = map_there bits_sort (field_width s.design.headers x.text f.text) t k.1 in (m.0, k.0, m.1, sym m.2)
  typed_as P s before (lit at w n) t fine h = (fine (lit at w n) (inl refl), some_sort (bits_sort w) t h)
  typed_as P s before (true_or_false at b) t fine h = some_sort truth_sort t h
  typed_as P s before (call at f es) t fine h =
      let d = then_there (λ (g : FunctionDecl). if args_fit (widths_of g.params) (sorts_of s es) then Some (result_sort g.result) else None) (function_named s f.text) t h in
      let k = if_there (args_fit (widths_of d.0.params) (sorts_of s es)) (result_sort d.0.result) t d.2 in
      (d.0, before f.text d.0 (fine (call at f es) (inl refl)) d.1, typed_all P s before es (widths_of d.0.params) (λ a i. fine a (inr i)) k.0, sym k.1)
  typed_as P s before (unary at op a) t fine h =
      let d = then_there (unary_sort op) (sort_of s a) t h in (d.0, typed_as P s before a d.0 (λ x i. fine x (inr i)) d.1, d.2)
  typed_as P s before (binary at op a b) t fine h =
      let d = both_there (binary_sort op) (sort_of s a) (sort_of s b) t h in
      (d.0, d.1, typed_as P s before a d.0 (λ x i. fine x (inr (in_left x (parts a) (parts b) i))) d.2, typed_as P s before b d.1 (λ x i. fine x (inr (in_right x (parts a) (parts b) i))) d.3, d.4)
  typed_as P s before (slice at a high low) t fine h =
      let d = then_there (λ u. slice_sort u high low) (sort_of s a) t h in (d.0, typed_as P s before a d.0 (λ x i. fine x (inr i)) d.1, d.2)
  typed_as P s before (pick at k a b) t fine h =
      let d = all_there pick_sort (sort_of s k) (sort_of s a) (sort_of s b) t h in
      let e = pick_sorts d.0 d.1 d.2 t d.6 in (
        typed_as P s before k truth_sort (λ x i. fine x (inr (in_left x (parts k ++ parts a) (parts b) (in_left x (parts k) (parts a) i)))) (d.3 ∙ ap Some e.0),
        typed_as P s before a t (λ x i. fine x (inr (in_left x (parts k ++ parts a) (parts b) (in_right x (parts k) (parts a) i)))) (d.4 ∙ ap Some e.1),
        typed_as P s before b t (λ x i. fine x (inr (in_right x (parts k ++ parts a) (parts b) i))) (d.5 ∙ ap Some e.2),
      )

  typed_all : (P : List ℕ → Type 0) (s : Scope) → AreBefore P s → (es : Exprs) (ws : List ℕ) → AllFine P (parts_of es) → args_fit ws (sorts_of s es) ≡ true → TypedAll s ws es
  typed_all P s before no_exprs [] fine h = tt
  typed_all P s before no_exprs (w ∷ ws) fine h = absurd (cc)
  typed_all P s before (expr e es) [] fine h = absurd (cc)
  typed_all P s before (expr e es) (w ∷ ws) fine h =
      let both = both_true (has_sort (bits_sort w) (sort_of s e)) (args_fit ws (sorts_of s es)) h in (
        typed_as P s before e (bits_sort w) (λ a i. fine a (in_left a (parts e) (parts_of es) i)) (has_sort_there (bits_sort w) (sort_of s e) both.0),
        typed_all P s before es ws (λ a i. fine a (in_right a (parts e) (parts_of es) i)) both.1,
      )

-- ---- functions that are there

pub in_place : {A : Type 0} (x : A) (xs : List A) → In x xs → (n : ℕ) × (slice_get xs n ≡ Some x)
in_place x [] i = absurd i
in_place x (y ∷ xs) i = elim i [
  | inl e ↦ (zero, ap Some (sym e))
  | inr k ↦ let t = in_place x xs k in (suc t.0, t.1)
]

pub is_before : (s : Scope) (f : List ℕ) (g : FunctionDecl) → In g s.before → f ≡ g.name.text → IsBefore s f g
is_before s f g i e = let p = in_place g s.before i in record { number = p.0; there = p.1; name = e }

-- where expressions of roles and assumptions stand: all functions are declared before
abbrev pub everywhere : Scope → Scope
everywhere s = record s { before = functions s.design }

mutual
  same_everywhere : (s : Scope) (e : Expr) → sort_of (everywhere s) e ≡ sort_of s e
  same_everywhere s (name at x) = refl
  same_everywhere s (field at h f) = refl
  same_everywhere s (lit at w n) = refl
  same_everywhere s (true_or_false at b) = refl
  same_everywhere s (call at f es) = ap (call_sort (function_named s f.text)) (all_everywhere s es)
  same_everywhere s (unary at op a) = ap (option_and_then (unary_sort op)) (same_everywhere s a)
  same_everywhere s (binary at op a b) = λ k. with_both (binary_sort op) (same_everywhere s a k) (same_everywhere s b k)
  same_everywhere s (slice at a high low) = ap (option_and_then (λ t. slice_sort t high low)) (same_everywhere s a)
  same_everywhere s (pick at c a b) = λ k. with_all pick_sort (same_everywhere s c k) (same_everywhere s a k) (same_everywhere s b k)

  all_everywhere : (s : Scope) (es : Exprs) → sorts_of (everywhere s) es ≡ sorts_of s es
  all_everywhere s no_exprs = refl
  all_everywhere s (expr e es) = λ k. same_everywhere s e k ∷ all_everywhere s es k

any_before : (s : Scope) → AreBefore Any (everywhere s)
any_before s f g any e = let t = named_there (λ (x : FunctionDecl). x.name) f (functions s.design) g e in is_before (everywhere s) f g t.0 t.1

pub typed_everywhere : (s : Scope) (t : Sort) (e : Expr) → HasType s t e → TypedAs (everywhere s) t e
typed_everywhere s t e h = typed_as Any (everywhere s) (any_before s) e t (λ x i. fine x (all_at literal_fits (parts e) h.1 x i)) (same_everywhere s e ∙ h.0)

pub all_typed_everywhere : (s : Scope) (ws : List ℕ) (es : Exprs) → HaveWidths s ws es → TypedAll (everywhere s) ws es
all_typed_everywhere s [] no_exprs h = tt
all_typed_everywhere s [] (expr e es) h = absurd h
all_typed_everywhere s (w ∷ ws) no_exprs h = absurd h
all_typed_everywhere s (w ∷ ws) (expr e es) h = (typed_everywhere s (bits_sort w) e h.0, all_typed_everywhere s ws es h.1)

-- ---- bodies of functions

pub typed_body : (d : Design) (n : ℕ) (g : FunctionDecl) (e : Expr) → NamesDiffer d → ((x : FunctionDecl) → In x (take n (functions d)) → In x (functions d))
    → IsTypedBody d (take n (functions d)) g → g.body ≡ Some e → TypedAs (scope_in d n g.params) (result_sort g.result) e
typed_body d n g e differ within h is =
    let s = scope_in d n g.params in
    let t = h e is in
    typed_as (IsNameOf s.before) s
    (λ f x p k.
    let at = named_there (λ (y : FunctionDecl). y.name) f (functions d) x k in
    let same : p.0 ≡ x = differ p.0 x (within p.0 p.1) at.0 (sym p.2 ∙ at.1) in
    is_before s f x (subst (λ z. In z s.before) same p.1) at.1)
    e (result_sort g.result) t.1 (sym (sort_same s 0 e) ∙ t.0)
