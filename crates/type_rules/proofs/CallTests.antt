-- The faults of a call, and its type: what is found of its values one by one decides both.
use Rattle.std.proofs.Common.{◌≡◌, ℕ, zero, suc, ◌+◌, ◌==◌, ◌&&◌, ◌||◌, Bool, true, false, not, List, [], ◌∷◌, ◌++◌, map, take, drop, length, get_or, ◌<◌, Option, Some, None, option_map, is_none, is_some, if◌then◌else◌, refl, sym, ap, subst, ◌∙◌, arith}
use Rattle.std.proofs.Math.Bool.{and-false, or-false}
use Rattle.std.proofs.lemmas.List.{append-nil, append_assoc, length-map, length-take-le, map_more}
use Rattle.std.proofs.lemmas.Bool.{both_ways, ne_eqb, eqb-true, eqb-false, eq-eqb}
use Rattle.cocoon_num.specs.Tree.{Name, Param, Expr, call, Exprs, no_exprs, expr, FunctionDecl, token_index}
use Rattle.cocoon_num.specs.Lists.{has_number}
use Rattle.cocoon_num.specs.Sorts.{Sort, bits_sort, has_sort, same_sort}
use Rattle.cocoon_types.specs.Rules.{Rule, wrong_width, wrong_count}
use Rattle.cocoon_types.specs.Design.{widths_of}
use Rattle.cocoon_types.specs.Parts.{count_of}
use Rattle.cocoon_types.specs.RuleParts.{unless}
use Rattle.cocoon_types.specs.Typing.{Scope, function_named, args_fit, call_sort, sort_of, sorts_of, result_sort}
use Rattle.cocoon_types.specs.TypeRules.{where_, is_other, unless_is, wrong_args, all_typed, found_widths}
use Rattle.cocoon_types.specs.FirstFault.{Fault, rank}
use Rattle.cocoon_types.specs.Noting.{Notes, NotingLaws}
use Rattle.cocoon_syntax.specs.TreeOf.{expr_of, exprs_of, param_of}
use Rattle.cocoon_syntax.specs.declared.decl.Param.{Param as Parameter}
use Rattle.cocoon_syntax.specs.declared.expr.Expr.{Expr as Tree}
use Rattle.type_rules.specs.declared.calls.Args.{Args}
use Rattle.type_rules.specs.declared.sort.Typed.{Typed}
use Rattle.type_rules.specs.Typed.{AreArgs, IsTyped, sort_value}
use Rattle.type_rules.specs.Tests.{fails_if, fails_among, held_if, at_expr, in_expr, in_exprs}
use Rattle.type_rules.proofs.Membership.{number-append, number-unless, number-where_not, any-append}
use Rattle.type_rules.proofs.ExprTests.{site}

-- ---- truth values

and_true : (a : Bool) → (a && true) ≡ a
and_true true = refl
and_true false = refl

and_assoc : (a b c : Bool) → (a && (b && c)) ≡ ((a && b) && c)
and_assoc true b c = refl
and_assoc false b c = refl

and_or : (a b c : Bool) → (a && (b || c)) ≡ ((a && b) || (a && c))
and_or true b c = refl
and_or false b c = refl

-- ---- one value more

pub among-append : (rule : Rule) (xs ys : List ℕ) (f : Fault) → fails_among rule (xs ++ ys) f ≡ (fails_among rule xs f || fails_among rule ys f)
among-append rule xs ys f =
    ap (λ b. (rank f.rule == rank rule) && b) (number-append f.at xs ys) ∙ and_or (rank f.rule == rank rule) (has_number f.at xs) (has_number f.at ys)

no_args : (s : Scope) (ws : List ℕ) → wrong_args s ws no_exprs ≡ []
no_args s [] = refl
no_args s (w ∷ ws) = refl

wrong_more : (s : Scope) (ws : List ℕ) (xs : List Expr) (x : Expr)
    → wrong_args s ws (exprs_of (xs ++ x ∷ [])) ≡ wrong_args s ws (exprs_of xs) ++ wrong_args s (drop (length xs) ws) (expr x no_exprs)
wrong_more s ws [] x = sym (ap (λ l. l ++ wrong_args s ws (expr x no_exprs)) (no_args s ws))
wrong_more s [] (y ∷ ys) x = refl
wrong_more s (w ∷ ws) (y ∷ ys) x =
    ap (λ l. unless_is s (bits_sort w) y ++ l) (wrong_more s ws ys x)
    ∙ sym (append_assoc (unless_is s (bits_sort w) y) (wrong_args s ws (exprs_of ys)) (wrong_args s (drop (length ys) ws) (expr x no_exprs)))

pub typed_more : (s : Scope) (xs : List Expr) (x : Expr) → all_typed s (exprs_of (xs ++ x ∷ [])) ≡ (all_typed s (exprs_of xs) && is_some (sort_of s x))
typed_more s [] x = and_true (is_some (sort_of s x))
typed_more s (y ∷ ys) x = ap (λ b. is_some (sort_of s y) && b) (typed_more s ys x) ∙ and_assoc (is_some (sort_of s y)) (all_typed s (exprs_of ys)) (is_some (sort_of s x))

pub count_back : (es : List Expr) → count_of (exprs_of es) ≡ length es
count_back [] = refl
count_back (e ∷ es) = ap suc (count_back es)

-- ---- the type of a call

abbrev is_nil : List ℕ → Bool
is_nil [] = true
is_nil (n ∷ ns) = false

has-some : (w : ℕ) (t : Option Sort) → has_sort (bits_sort w) t ≡ (is_some t && not (is_other (bits_sort w) t))
has-some w None = refl
has-some w (Some t) = by (same_sort (bits_sort w) t)
  where
    by : (b : Bool) → b ≡ not (not b)
    by true = refl
    by false = refl

nil-unless : (o : Bool) (at : ℕ) (rest : List ℕ) → is_nil (unless (not o) at ++ rest) ≡ (not o && is_nil rest)
nil-unless true at rest = refl
nil-unless false at rest = refl

shuffle : (a o t e n : Bool) → ((a && not o) && ((t && e) && n)) ≡ (((a && t) && e) && (not o && n))
shuffle false o t e n = refl
shuffle true true t e n = sym (and-false (t && e))
shuffle true false t e n = refl

suc_eq : (m n : ℕ) → (m == n) ≡ (suc m == suc n)
suc_eq m n = by (m == n) refl
  where
    by : (b : Bool) → (m == n) ≡ b → (m == n) ≡ (suc m == suc n)
    by true e = e ∙ sym (eq-eqb (suc m) (suc n) (ap suc (eqb-true m n e)))
    by false e = e ∙ sym (ne_eqb (suc m) (suc n) (λ h. eqb-false m n e (omega (arith, h))))

-- the values fit where all have types, as many as there are widths, and none is of another
pub fit : (s : Scope) (ws : List ℕ) (es : Exprs) → args_fit ws (sorts_of s es) ≡ ((all_typed s es && (length ws == count_of es)) && is_nil (wrong_args s ws es))
fit s [] no_exprs = refl
fit s [] (expr e es) =
    sym (ap (λ b. (all_typed s (expr e es) && b) && true) (ne_eqb 0 (suc (count_of es)) (λ h. omega (arith, h)))
    ∙ ap (λ b. b && true) (and-false (all_typed s (expr e es))))
fit s (w ∷ ws) no_exprs = sym (ap (λ b. (true && b) && true) (ne_eqb (suc (length ws)) 0 (λ h. omega (arith, h))))
fit s (w ∷ ws) (expr e es) =
    (λ i. has-some w (sort_of s e) i && fit s ws es i)
    ∙ shuffle (is_some (sort_of s e)) (is_other (bits_sort w) (sort_of s e)) (all_typed s es) (length ws == count_of es) (is_nil (wrong_args s ws es))
    ∙ (λ i. ((is_some (sort_of s e) && all_typed s es) && suc_eq (length ws) (count_of es) i)
    && sym (nil-unless (is_other (bits_sort w) (sort_of s e)) (token_index e) (wrong_args s ws es)) i)

-- ---- notes

pub number-where_all : (n : ℕ) (c : Bool) (ats : List ℕ) → has_number n (where_ c ats) ≡ (c && has_number n ats)
number-where_all n true ats = refl
number-where_all n false ats = refl

-- the tests of a call of a function
values_test : (rule : Rule) (n at : ℕ) (s : Scope) (g : Name) (es : Exprs) (d : FunctionDecl) → function_named s g.text ≡ Some d
    → (fails_if wrong_count (all_typed s es && not (length d.params == count_of es)) g.at (record { rule = rule; at = n })
    || ((all_typed s es && (length d.params == count_of es)) && fails_among wrong_width (wrong_args s (widths_of d.params) es) (record { rule = rule; at = n })))
    ≡ at_expr (site s (call at g es)) (record { rule = rule; at = n })
values_test wrong_count n at s g es d h =
    ap (λ b. ((all_typed s es && not (length d.params == count_of es)) && (n == g.at)) || b) (and-false (all_typed s es && (length d.params == count_of es)))
    ∙ or-false ((all_typed s es && not (length d.params == count_of es)) && (n == g.at))
    ∙ sym (number-where_not n (all_typed s es) (length d.params == count_of es) g.at)
    ∙ sym (ap (λ f. has_number n (elim f [ None ↦ [] | Some x ↦ where_ (all_typed s es) (unless (length x.params == count_of es) g.at) ])) h)
values_test wrong_width n at s g es d h =
    ap (λ l. (all_typed s es && (l == count_of es)) && has_number n (wrong_args s (widths_of d.params) es)) (sym (length-map d.params (λ (p : Param). p.width)))
    ∙ sym (number-where_all n (all_typed s es && (length (widths_of d.params) == count_of es)) (wrong_args s (widths_of d.params) es))
    ∙ sym (ap (λ f. has_number n (where_ (all_typed s es && (length (found_widths f) == count_of es)) (wrong_args s (found_widths f) es))) h)
values_test rule n at s g es d h = and-false (all_typed s es && (length d.params == count_of es))

none_test : (rule : Rule) (n at : ℕ) (s : Scope) (g : Name) (es : Exprs) → function_named s g.text ≡ None
    → at_expr (site s (call at g es)) (record { rule = rule; at = n }) ≡ false
none_test wrong_count n at s g es h = ap (λ f. has_number n (elim f [ None ↦ [] | Some x ↦ where_ (all_typed s es) (unless (length x.params == count_of es) g.at) ])) h
none_test wrong_width n at s g es h =
    ap (λ f. has_number n (where_ (all_typed s es && (length (found_widths f) == count_of es)) (wrong_args s (found_widths f) es))) h
    ∙ number-where_all n (all_typed s es && (0 == count_of es)) []
    ∙ and-false (all_typed s es && (0 == count_of es))
none_test rule n at s g es h = refl

module _ (laws : NotingLaws) where
  -- one more value was tested
  pub wrong_step : (s : Scope) (ws : List ℕ) (xs : List Expr) (x : Expr) (o p q : Option Fault)
      → Notes (fails_among wrong_width (wrong_args s ws (exprs_of xs))) o p
      → Notes (fails_among wrong_width (wrong_args s (drop (length xs) ws) (expr x no_exprs))) p q
      → Notes (fails_among wrong_width (wrong_args s ws (exprs_of (xs ++ x ∷ [])))) o q
  wrong_step s ws xs x o p q m n =
      laws.alike _ _ o q
      (λ f. sym (ap (λ l. fails_among wrong_width l f) (wrong_more s ws xs x) ∙ among-append wrong_width (wrong_args s ws (exprs_of xs)) (wrong_args s (drop (length xs) ws) (expr x no_exprs)) f))
      (laws.in_turn _ _ o p q m n)

  -- and its faults were noted
  pub noted_step : (s : Scope) (xs : List Expr) (x : Expr) (o p q : Option Fault) → Notes (in_exprs s xs) o p → Notes (in_expr s x) p q → Notes (in_exprs s (xs ++ x ∷ [])) o q
  noted_step s xs x o p q m n =
      laws.alike _ (in_exprs s (xs ++ x ∷ [])) o q
      (λ f. sym (any-append (λ e. in_expr s e f) xs (x ∷ []) ∙ ap (λ b. in_exprs s xs f || b) (or-false (in_expr s x f))))
      (laws.in_turn _ _ o p q m n)

  -- a value for a parameter
  pub other_notes : (at : ℕ) (w : ℕ) (a : Option Sort) (ws : List ℕ) (s : Scope) (x : Expr) (o p : Option Fault) → at ≡ token_index x → a ≡ sort_of s x
      → Notes (fails_if wrong_width (is_other (bits_sort w) a) at) o p → Notes (fails_among wrong_width (wrong_args s (w ∷ ws) (expr x no_exprs))) o p
  other_notes at w a ws s x o p hat ha m =
      laws.alike _ _ o p
      (λ f. (λ i. fails_if wrong_width (is_other (bits_sort w) (ha i)) (hat i) f)
      ∙ sym (ap (λ b. (rank f.rule == rank wrong_width) && b) (number-unless f.at (is_other (bits_sort w) (sort_of s x)) (token_index x)))
      ∙ sym (ap (λ l. fails_among wrong_width l f) (ap (λ l. unless_is s (bits_sort w) x ++ l) (no_args s ws) ∙ append-nil (unless_is s (bits_sort w) x))))
      m

  -- what is held is noted under a test
  pub held_notes : (tested : Bool) (picks : Fault → Bool) (held o p : Option Fault) → Notes picks None held → Notes (held_if tested held) o p → Notes (λ f. tested && picks f) o p
  held_notes true picks held o p m n = laws.apart picks o held p m n
  held_notes false picks held o p m n = laws.alike (held_if false held) (λ f. false && picks f) o p (λ f. refl) n

  pub values_notes : (at : ℕ) (s : Scope) (g : Name) (es : Exprs) (d : FunctionDecl) (typed fits : Bool) (held o p q : Option Fault)
      → function_named s g.text ≡ Some d → typed ≡ all_typed s es → fits ≡ (length d.params == count_of es)
      → Notes (fails_among wrong_width (wrong_args s (widths_of d.params) es)) None held
      → Notes (fails_if wrong_count (typed && not fits) g.at) o p
      → Notes (held_if (typed && fits) held) p q
      → Notes (at_expr (site s (call at g es))) o q
  values_notes at s g es d typed fits held o p q hd ht hf m u v =
      laws.alike _ (at_expr (site s (call at g es))) o q
      (λ f. (λ i. fails_if wrong_count (ht i && not (hf i)) g.at f || ((ht i && hf i) && fails_among wrong_width (wrong_args s (widths_of d.params) es) f))
      ∙ values_test f.rule f.at at s g es d hd)
      (laws.in_turn _ _ o p q u (held_notes (typed && fits) _ held p q m v))

  pub none_notes : (at : ℕ) (s : Scope) (g : Name) (es : Exprs) (o : Option Fault) → function_named s g.text ≡ None → Notes (at_expr (site s (call at g es))) o o
  none_notes at s g es o h = laws.nothing _ o (λ f. none_test f.rule f.at at s g es h)

  -- nothing is held exactly where no value is of another type
  none_held : (ats : List ℕ) (held : Option Fault) → Notes (fails_among wrong_width ats) None held → is_none held ≡ is_nil ats
  none_held [] None m = refl
  none_held (n ∷ ns) None m =
      let f : Fault = record { rule = wrong_width; at = n } in
      absurd (both_ways _ (laws.first (fails_among wrong_width (n ∷ ns)) None m f) (ap (λ b. b || has_number n ns) (eq-eqb n n refl)))
  none_held [] (Some f) m = absurd (both_ways _ (and-false (rank f.rule == rank wrong_width)) (laws.first (fails_among wrong_width []) (Some f) m).picked)
  none_held (n ∷ ns) (Some f) m = refl

  -- the type of a call of a function
  pub values_sort : (s : Scope) (g : Name) (es : Exprs) (d : FunctionDecl) (typed fits none : Bool) (held : Option Fault)
      → function_named s g.text ≡ Some d → typed ≡ all_typed s es → fits ≡ (length d.params == count_of es) → none ≡ is_none held
      → Notes (fails_among wrong_width (wrong_args s (widths_of d.params) es)) None held
      → (if (typed && fits) && none then Some (result_sort d.result) else None) ≡ call_sort (function_named s g.text) (sorts_of s es)
  values_sort s g es d typed fits none held hd ht hf hn m =
      ap (λ b. if b then Some (result_sort d.result) else None)
      ((λ i. (ht i && hf i) && (hn ∙ none_held _ held m) i)
      ∙ ap (λ l. (all_typed s es && (l == count_of es)) && is_nil (wrong_args s (widths_of d.params) es)) (sym (length-map d.params (λ (p : Param). p.width)))
      ∙ sym (fit s (widths_of d.params) es))
      ∙ sym (ap (λ f. call_sort f (sorts_of s es)) hd)

-- ---- what the code has of a call

-- what is found of the values, for the parameters of the function that is called
pub called : {s : Scope} {a : Args} {ws : List ℕ} {es fs : Exprs} (g : Name) (found : Option FunctionDecl) → function_named s g.text ≡ found → ws ≡ found_widths found → es ≡ fs
    → AreArgs a s ws es → AreArgs a s (found_widths (function_named s g.text)) fs
called {s} {a} {ws} {es} {fs} g found hg hw he h =
    subst (λ (e : Exprs). AreArgs a s (found_widths (function_named s g.text)) e) he
    (subst (λ (v : List ℕ). AreArgs a s v es) (hw ∙ ap found_widths (sym hg)) h)

-- how many values there are
pub counted : (n : ℕ) (xs : List Tree) → n ≡ length xs → n ≡ count_of (exprs_of (map expr_of xs))
counted n xs h = h ∙ sym (length-map xs expr_of) ∙ sym (count_back (map expr_of xs))

-- the width of a parameter
pub width_at : (ps : List Parameter) (i : ℕ) (p : Parameter) → i < length ps → p ≡ get_or ps i p
    → drop i (widths_of (map param_of ps)) ≡ p.width ∷ drop (suc i) (widths_of (map param_of ps))
width_at [] i p l h = absurd (omega (arith, l))
width_at (q ∷ qs) zero p l h = ap (λ (x : Parameter). x.width ∷ widths_of (map param_of qs)) (sym h)
width_at (q ∷ qs) (suc i) p l h = width_at qs i p (omega (arith, l)) h

-- ---- some values, one by one

-- one more of some expressions
pub taken : (es : List Tree) (i : ℕ) (e : Tree) → i < length es → e ≡ get_or es i e → map expr_of (take (i + 1) es) ≡ map expr_of (take i es) ++ expr_of e ∷ []
taken es i e l h = map_more expr_of es i e l ∙ ap (λ (y : Tree). map expr_of (take i es) ++ expr_of y ∷ []) (sym h)

pub taken_count : (es : List Tree) (i : ℕ) → i < length es → length (map expr_of (take i es)) ≡ i
taken_count es i l = length-map (take i es) expr_of ∙ length-take-le i es (omega (arith, l))

-- of no values
pub no_values : NotingLaws → (s : Scope) (ws : List ℕ) (a : Args) → a.typed ≡ true → a.wrong ≡ None → AreArgs a s ws no_exprs
no_values laws s ws a ht hw = record {
  typed = ht;
  wrong = subst (λ (o : Option Fault). Notes (fails_among wrong_width (wrong_args s ws no_exprs)) None o) (sym hw)
      (laws.nothing _ None (λ f. ap (λ (l : List ℕ). fails_among wrong_width l f) (no_args s ws) ∙ and-false (rank f.rule == rank wrong_width)));
}

-- one value more
pub one_value : NotingLaws → {s : Scope} {ws : List ℕ} {a b : Args} {t : Typed} (xs : List Expr) (x : Expr) (i : ℕ) → IsTyped t s x → length xs ≡ i
    → AreArgs a s ws (exprs_of xs) → b.typed ≡ (a.typed && is_some (option_map sort_value t.sort))
    → Notes (fails_among wrong_width (wrong_args s (drop i ws) (expr x no_exprs))) a.wrong b.wrong → AreArgs b s ws (exprs_of (xs ++ x ∷ []))
one_value laws {s} {ws} {a} {b} {t} xs x i h count m hb n = record {
  typed = hb ∙ (λ j. m.typed j && is_some (h.sort j)) ∙ sym (typed_more s xs x);
  wrong = wrong_step laws s ws xs x None a.wrong b.wrong m.wrong (subst (λ (k : ℕ). Notes (fails_among wrong_width (wrong_args s (drop k ws) (expr x no_exprs))) a.wrong b.wrong) (sym count) n);
}
