-- The faults of an expression with operands, as the tests that note them have it.
use Rattle.std.proofs.Common.{◌≡◌, ℕ, ◌==◌, ◌&&◌, ◌||◌, Bool, false, not, ◌++◌, Option, is_some, refl, sym, ap, subst, ◌∙◌}
use Rattle.std.proofs.Math.Bool.{or-false}
use Rattle.cocoon_num.specs.Values.{UnaryOp, flip, not_, BinaryOp, concat, and_, or_, implies}
use Rattle.cocoon_num.specs.Tree.{Name, Expr, field, unary, binary, slice, pick, token_index}
use Rattle.cocoon_num.specs.Lists.{has_number}
use Rattle.cocoon_num.specs.Sorts.{Sort, truth_sort, has_sort, are_same}
use Rattle.cocoon_types.specs.Rules.{Rule, too_wide, wrong_width, not_bool, bad_slice, packet_in_guard}
use Rattle.cocoon_types.specs.Typing.{Scope, sort_of}
use Rattle.cocoon_types.specs.TypeRules.{too_wide_sum, both_typed, are_like, is_other, bad_bounds, where_, unless_is}
use Rattle.cocoon_types.specs.FirstFault.{Fault}
use Rattle.cocoon_types.specs.Noting.{Notes, NotingLaws}
use Rattle.type_rules.specs.declared.sort.Operands.TheVariants.{Numbers, Joined, Truths}
use Rattle.type_rules.specs.Tests.{fails_if, at_expr}
use Rattle.type_rules.specs.Typed.{operands_of}
use Rattle.type_rules.proofs.Membership.{number-unless, number-unless_not, number-two, number-where, number-where_not, number-where_none}

-- an expression with its scope
abbrev fault : Rule → ℕ → Fault
fault rule n = record { rule = rule; at = n }

-- ---- each kind of expression: the tests are its rules

joined_test : (rule : Rule) (n at : ℕ) (s : Scope) (x y : Expr)
    → ((fails_if too_wide (too_wide_sum (sort_of s x) (sort_of s y)) at (fault rule n)
    || fails_if wrong_width (both_typed (sort_of s x) (sort_of s y) && has_sort truth_sort (sort_of s x)) (token_index x) (fault rule n))
    || fails_if wrong_width (both_typed (sort_of s x) (sort_of s y) && has_sort truth_sort (sort_of s y)) (token_index y) (fault rule n))
    ≡ at_expr (record { scope = s; e = binary at concat x y }) (fault rule n)
joined_test too_wide n at s x y =
    let w = too_wide_sum (sort_of s x) (sort_of s y) in
    or-false ((w && (n == at)) || false) ∙ or-false (w && (n == at)) ∙ sym (number-unless n w at)
joined_test wrong_width n at s x y =
    sym (number-two n (both_typed (sort_of s x) (sort_of s y)) (has_sort truth_sort (sort_of s x)) (has_sort truth_sort (sort_of s y)) (token_index x) (token_index y))
joined_test rule n at s x y = refl

-- the test of an operator with one operand
abbrev pub unary_tests : UnaryOp → Option Sort → (at : ℕ) → Fault → Bool
unary_tests flip a at = fails_if wrong_width (has_sort truth_sort a) at
unary_tests not_ a at = fails_if not_bool (is_other truth_sort a) at

-- the one operator whose operands are put together
is_concat : (op : BinaryOp) → operands_of op ≡ Joined → op ≡ concat
is_concat concat h = refl
is_concat op h = absurd (cc)

numbers_test : (op : BinaryOp) → operands_of op ≡ Numbers → (rule : Rule) (n at : ℕ) (s : Scope) (x y : Expr)
    → fails_if wrong_width (both_typed (sort_of s x) (sort_of s y) && not (are_like (sort_of s x) (sort_of s y))) at (fault rule n)
    ≡ at_expr (record { scope = s; e = binary at op x y }) (fault rule n)
numbers_test concat h rule n at s x y = absurd (cc)
numbers_test and_ h rule n at s x y = absurd (cc)
numbers_test or_ h rule n at s x y = absurd (cc)
numbers_test implies h rule n at s x y = absurd (cc)
numbers_test op h wrong_width n at s x y = sym (number-where_not n (both_typed (sort_of s x) (sort_of s y)) (are_like (sort_of s x) (sort_of s y)) at)
numbers_test op h rule n at s x y = refl

truths_test : (op : BinaryOp) → operands_of op ≡ Truths → (rule : Rule) (n at : ℕ) (s : Scope) (x y : Expr)
    → (fails_if not_bool (both_typed (sort_of s x) (sort_of s y) && is_other truth_sort (sort_of s x)) (token_index x) (fault rule n)
    || fails_if not_bool (both_typed (sort_of s x) (sort_of s y) && is_other truth_sort (sort_of s y)) (token_index y) (fault rule n))
    ≡ at_expr (record { scope = s; e = binary at op x y }) (fault rule n)
truths_test op h rule n at s x y = by op h rule
  where
    -- the rule that they break
    breaks : has_number n (where_ (both_typed (sort_of s x) (sort_of s y)) (unless_is s truth_sort x ++ unless_is s truth_sort y))
        ≡ (((both_typed (sort_of s x) (sort_of s y) && is_other truth_sort (sort_of s x)) && (n == token_index x)) || ((both_typed (sort_of s x) (sort_of s y) && is_other truth_sort (sort_of s y)) && (n == token_index y)))
    breaks = number-two n (both_typed (sort_of s x) (sort_of s y)) (is_other truth_sort (sort_of s x)) (is_other truth_sort (sort_of s y)) (token_index x) (token_index y)

    by : (op : BinaryOp) → operands_of op ≡ Truths → (rule : Rule)
        → (fails_if not_bool (both_typed (sort_of s x) (sort_of s y) && is_other truth_sort (sort_of s x)) (token_index x) (fault rule n)
        || fails_if not_bool (both_typed (sort_of s x) (sort_of s y) && is_other truth_sort (sort_of s y)) (token_index y) (fault rule n))
        ≡ at_expr (record { scope = s; e = binary at op x y }) (fault rule n)
    by and_ h not_bool = sym breaks
    by and_ h wrong_width = sym (number-where_none n (both_typed (sort_of s x) (sort_of s y)))
    by and_ h rule = refl
    by or_ h not_bool = sym breaks
    by or_ h wrong_width = sym (number-where_none n (both_typed (sort_of s x) (sort_of s y)))
    by or_ h rule = refl
    by implies h not_bool = sym breaks
    by implies h wrong_width = sym (number-where_none n (both_typed (sort_of s x) (sort_of s y)))
    by implies h rule = refl
    by other h rule = absurd (cc)

unary_test : (op : UnaryOp) (rule : Rule) (n at : ℕ) (s : Scope) (x : Expr)
    → unary_tests op (sort_of s x) (token_index x) (fault rule n) ≡ at_expr (record { scope = s; e = unary at op x }) (fault rule n)
unary_test flip wrong_width n at s x = sym (number-unless n (has_sort truth_sort (sort_of s x)) (token_index x))
unary_test not_ not_bool n at s x = sym (number-unless n (is_other truth_sort (sort_of s x)) (token_index x))
unary_test flip rule n at s x = refl
unary_test not_ rule n at s x = refl

slice_test : (rule : Rule) (n at high low : ℕ) (s : Scope) (x : Expr)
    → (fails_if wrong_width (has_sort truth_sort (sort_of s x)) (token_index x) (fault rule n)
    || fails_if bad_slice (bad_bounds (sort_of s x) high low) at (fault rule n))
    ≡ at_expr (record { scope = s; e = slice at x high low }) (fault rule n)
slice_test wrong_width n at high low s x = or-false (has_sort truth_sort (sort_of s x) && (n == token_index x)) ∙ sym (number-unless n (has_sort truth_sort (sort_of s x)) (token_index x))
slice_test bad_slice n at high low s x = sym (number-unless n (bad_bounds (sort_of s x) high low) at)
slice_test rule n at high low s x = refl

pick_test : (rule : Rule) (n at : ℕ) (s : Scope) (c x y : Expr)
    → (fails_if wrong_width ((is_some (sort_of s c) && both_typed (sort_of s x) (sort_of s y)) && not (are_same (sort_of s x) (sort_of s y))) (token_index x) (fault rule n)
    || fails_if not_bool (both_typed (sort_of s x) (sort_of s y) && is_other truth_sort (sort_of s c)) (token_index c) (fault rule n))
    ≡ at_expr (record { scope = s; e = pick at c x y }) (fault rule n)
pick_test wrong_width n at s c x y =
    or-false (((is_some (sort_of s c) && both_typed (sort_of s x) (sort_of s y)) && not (are_same (sort_of s x) (sort_of s y))) && (n == token_index x))
    ∙ sym (number-where_not n (is_some (sort_of s c) && both_typed (sort_of s x) (sort_of s y)) (are_same (sort_of s x) (sort_of s y)) (token_index x))
pick_test not_bool n at s c x y = sym (number-where n (both_typed (sort_of s x) (sort_of s y)) (is_other truth_sort (sort_of s c)) (token_index c))
pick_test rule n at s c x y = refl

field_test : (rule : Rule) (n at : ℕ) (s : Scope) (h f : Name) → fails_if packet_in_guard (not s.packet) at (fault rule n) ≡ at_expr (record { scope = s; e = field at h f }) (fault rule n)
field_test packet_in_guard n at s h f = sym (number-unless_not n s.packet at)
field_test rule n at s h f = refl

-- ---- what is noted by the tests of an expression

module _ (laws : NotingLaws) (s : Scope) (at : ℕ) where
  pub flip_notes : {n : ℕ} {a : Option Sort} {b : Bool} (x : Expr) {o p : Option Fault} → n ≡ token_index x → a ≡ sort_of s x
      → b ≡ has_sort truth_sort a → Notes (fails_if wrong_width b n) o p → Notes (at_expr (record { scope = s; e = unary at flip x })) o p
  flip_notes {n} {a} {b} x {o} {p} hn ha hb u =
      laws.alike _ (at_expr (record { scope = s; e = unary at flip x })) o p
      (λ f. (λ i. fails_if wrong_width ((hb ∙ ap (has_sort truth_sort) ha) i) (hn i) f) ∙ unary_test flip f.rule f.at at s x) u

  pub not_notes : {n : ℕ} {a : Option Sort} {b : Bool} (x : Expr) {o p : Option Fault} → n ≡ token_index x → a ≡ sort_of s x
      → b ≡ is_other truth_sort a → Notes (fails_if not_bool b n) o p → Notes (at_expr (record { scope = s; e = unary at not_ x })) o p
  not_notes {n} {a} {b} x {o} {p} hn ha hb u =
      laws.alike _ (at_expr (record { scope = s; e = unary at not_ x })) o p
      (λ f. (λ i. fails_if not_bool ((hb ∙ ap (is_other truth_sort) ha) i) (hn i) f) ∙ unary_test not_ f.rule f.at at s x) u

  pub joined_notes : {n m : ℕ} {a b : Option Sort} {w c d e : Bool} (op : BinaryOp) (x y : Expr) {o p q r : Option Fault} → operands_of op ≡ Joined
      → n ≡ token_index x → a ≡ sort_of s x → m ≡ token_index y → b ≡ sort_of s y
      → w ≡ too_wide_sum a b → c ≡ both_typed a b → d ≡ has_sort truth_sort a → e ≡ has_sort truth_sort b
      → Notes (fails_if too_wide w at) o p → Notes (fails_if wrong_width (c && d) n) p q → Notes (fails_if wrong_width (c && e) m) q r
      → Notes (at_expr (record { scope = s; e = binary at op x y })) o r
  joined_notes {n} {m} {a} {b} {w} {c} {d} {e} op x y {o} {p} {q} {r} h hn ha hm hb hw hc hd he u v k =
      subst (λ z. Notes (at_expr (record { scope = s; e = binary at z x y })) o r) (sym (is_concat op h)) (laws.alike _ (at_expr (record { scope = s; e = binary at concat x y })) o r
      (λ f. (λ i. (fails_if too_wide ((hw ∙ (λ j. too_wide_sum (ha j) (hb j))) i) at f
      || fails_if wrong_width ((hc ∙ (λ j. both_typed (ha j) (hb j))) i && (hd ∙ ap (has_sort truth_sort) ha) i) (hn i) f)
      || fails_if wrong_width ((hc ∙ (λ j. both_typed (ha j) (hb j))) i && (he ∙ ap (has_sort truth_sort) hb) i) (hm i) f)
      ∙ joined_test f.rule f.at at s x y)
      (laws.in_turn _ _ o q r (laws.in_turn _ _ o p q u v) k))

  pub numbers_notes : {a b : Option Sort} {c d : Bool} (op : BinaryOp) (x y : Expr) {o p : Option Fault} → operands_of op ≡ Numbers
      → a ≡ sort_of s x → b ≡ sort_of s y → c ≡ both_typed a b → d ≡ are_like a b
      → Notes (fails_if wrong_width (c && not d) at) o p
      → Notes (at_expr (record { scope = s; e = binary at op x y })) o p
  numbers_notes {a} {b} {c} {d} op x y {o} {p} h ha hb hc hd u =
      laws.alike _ (at_expr (record { scope = s; e = binary at op x y })) o p
      (λ f. (λ i. fails_if wrong_width ((hc ∙ (λ j. both_typed (ha j) (hb j))) i && not ((hd ∙ (λ j. are_like (ha j) (hb j))) i)) at f)
      ∙ numbers_test op h f.rule f.at at s x y)
      u

  pub truths_notes : {n m : ℕ} {a b : Option Sort} {c d e : Bool} (op : BinaryOp) (x y : Expr) {o p q : Option Fault} → operands_of op ≡ Truths
      → n ≡ token_index x → a ≡ sort_of s x → m ≡ token_index y → b ≡ sort_of s y
      → c ≡ both_typed a b → d ≡ is_other truth_sort a → e ≡ is_other truth_sort b
      → Notes (fails_if not_bool (c && d) n) o p → Notes (fails_if not_bool (c && e) m) p q
      → Notes (at_expr (record { scope = s; e = binary at op x y })) o q
  truths_notes {n} {m} {a} {b} {c} {d} {e} op x y {o} {p} {q} h hn ha hm hb hc hd he u v =
      laws.alike _ (at_expr (record { scope = s; e = binary at op x y })) o q
      (λ f. (λ i. fails_if not_bool ((hc ∙ (λ j. both_typed (ha j) (hb j))) i && (hd ∙ ap (is_other truth_sort) ha) i) (hn i) f
      || fails_if not_bool ((hc ∙ (λ j. both_typed (ha j) (hb j))) i && (he ∙ ap (is_other truth_sort) hb) i) (hm i) f)
      ∙ truths_test op h f.rule f.at at s x y)
      (laws.in_turn _ _ o p q u v)

  pub slice_notes : {n : ℕ} {a : Option Sort} {b c : Bool} (high low : ℕ) (x : Expr) {o p q : Option Fault}
      → n ≡ token_index x → a ≡ sort_of s x → b ≡ has_sort truth_sort a → c ≡ bad_bounds a high low
      → Notes (fails_if wrong_width b n) o p → Notes (fails_if bad_slice c at) p q
      → Notes (at_expr (record { scope = s; e = slice at x high low })) o q
  slice_notes {n} {a} {b} {c} high low x {o} {p} {q} hn ha hb hc u v =
      laws.alike _ (at_expr (record { scope = s; e = slice at x high low })) o q
      (λ f. (λ i. fails_if wrong_width ((hb ∙ ap (has_sort truth_sort) ha) i) (hn i) f || fails_if bad_slice ((hc ∙ (λ j. bad_bounds (ha j) high low)) i) at f)
      ∙ slice_test f.rule f.at at high low s x)
      (laws.in_turn _ _ o p q u v)

  pub pick_notes : {n m : ℕ} {a b c : Option Sort} {all both same other : Bool} (z x y : Expr) {o p q : Option Fault}
      → m ≡ token_index z → c ≡ sort_of s z → n ≡ token_index x → a ≡ sort_of s x → b ≡ sort_of s y
      → all ≡ (is_some c && both_typed a b) → same ≡ are_same a b → both ≡ both_typed a b → other ≡ is_other truth_sort c
      → Notes (fails_if wrong_width (all && not same) n) o p → Notes (fails_if not_bool (both && other) m) p q
      → Notes (at_expr (record { scope = s; e = pick at z x y })) o q
  pick_notes {n} {m} {a} {b} {c} {all} {both} {same} {other} z x y {o} {p} {q} hm hc hn ha hb hall hsame hboth hother u v =
      laws.alike _ (at_expr (record { scope = s; e = pick at z x y })) o q
      (λ f. (λ i. fails_if wrong_width ((hall ∙ (λ j. is_some (hc j) && both_typed (ha j) (hb j))) i && not ((hsame ∙ (λ j. are_same (ha j) (hb j))) i)) (hn i) f
      || fails_if not_bool ((hboth ∙ (λ j. both_typed (ha j) (hb j))) i && (hother ∙ ap (is_other truth_sort) hc) i) (hm i) f)
      ∙ pick_test f.rule f.at at s z x y)
      (laws.in_turn _ _ o p q u v)

  pub field_notes : {packet : Bool} (h f : Name) {o p : Option Fault} → s.packet ≡ packet
      → Notes (fails_if packet_in_guard (not packet) at) o p
      → Notes (at_expr (record { scope = s; e = field at h f })) o p
  field_notes {packet} h f {o} {p} same u =
      laws.alike _ (at_expr (record { scope = s; e = field at h f })) o p
      (λ g. sym (ap (λ b. fails_if packet_in_guard (not b) at g) same) ∙ field_test g.rule g.at at s h f)
      u
