-- The faults of a statement, as the tests that note them have it.
use Rattle.std.proofs.Common.{◌≡◌, ℕ, ◌==◌, ◌&&◌, ◌||◌, Bool, false, not, List, [], ◌++◌, length, Option, Some, None, refl, sym, ap, subst, ◌∙◌}
use Rattle.std.proofs.Math.Bool.{and-false, or-false}
use Rattle.cocoon_num.specs.Tree.{Name, Param, Expr, Exprs, Block, Role, let_, set_field, if_, filter, havoc_var, havoc_field, assume, fork, send, token_index}
use Rattle.cocoon_num.specs.Lists.{has_number}
use Rattle.cocoon_num.specs.Sorts.{Sort, bits_sort, truth_sort, is_declared_width}
use Rattle.cocoon_types.specs.Rules.{Rule, too_wide, wrong_width, not_bool, wrong_count, after_send}
use Rattle.cocoon_types.specs.Design.{field_width, widths_of}
use Rattle.cocoon_types.specs.Parts.{count_of}
use Rattle.cocoon_types.specs.RuleParts.{unless}
use Rattle.cocoon_types.specs.Typing.{Scope, with_var, sort_of}
use Rattle.cocoon_types.specs.TypeRules.{where_, is_other, unless_is, wrong_args, first_role, role_widths}
use Rattle.cocoon_types.specs.FirstFault.{Fault}
use Rattle.cocoon_types.specs.Noting.{Notes, NotingLaws}
use Rattle.type_rules.specs.Tests.{fails_if, fails_among, held_if, at_stmt}
use Rattle.type_rules.specs.declared.calls.Args.{Args}
use Rattle.type_rules.specs.Typed.{AreArgs}
use Rattle.type_rules.proofs.Membership.{number-unless, number-unless_not}
use Rattle.type_rules.proofs.CallTests.{number-where_all, held_notes}
use Rattle.std.proofs.lemmas.List.{append-nil, length-map}

-- a width that may not be declared
wide : (n : ℕ) (b : Bool) (at : ℕ) → has_number n (unless b at ++ []) ≡ (not b && (n == at))
wide n b at = ap (has_number n) (append-nil (unless b at)) ∙ number-unless_not n b at

-- the first of three tests, or of two
first_of_three : (a : Bool) → ((a || false) || false) ≡ a
first_of_three a = or-false (a || false) ∙ or-false a

let_test : (rule : Rule) (n at w : ℕ) (ended : Bool) (s : Scope) (x : Name) (e : Expr)
    → ((fails_if after_send ended at (record { rule = rule; at = n })
    || fails_if too_wide (not (is_declared_width w)) x.at (record { rule = rule; at = n }))
    || fails_if wrong_width (is_other (bits_sort w) (sort_of s e)) (token_index e) (record { rule = rule; at = n }))
    ≡ at_stmt (record { scope = s; ended = ended; s = let_ at x w e }) (record { rule = rule; at = n })
let_test after_send n at w ended s x e = first_of_three (ended && (n == at)) ∙ sym (number-unless n ended at)
let_test too_wide n at w ended s x e = or-false (not (is_declared_width w) && (n == x.at)) ∙ sym (wide n (is_declared_width w) x.at)
let_test wrong_width n at w ended s x e = sym (number-unless n (is_other (bits_sort w) (sort_of s e)) (token_index e))
let_test rule n at w ended s x e = refl

havoc_test : (rule : Rule) (n at w : ℕ) (ended : Bool) (s : Scope) (x : Name)
    → (fails_if after_send ended at (record { rule = rule; at = n }) || fails_if too_wide (not (is_declared_width w)) x.at (record { rule = rule; at = n }))
    ≡ at_stmt (record { scope = s; ended = ended; s = havoc_var at x w }) (record { rule = rule; at = n })
havoc_test after_send n at w ended s x = or-false (ended && (n == at)) ∙ sym (number-unless n ended at)
havoc_test too_wide n at w ended s x = sym (wide n (is_declared_width w) x.at)
havoc_test rule n at w ended s x = refl

havoc_field_test : (rule : Rule) (n at : ℕ) (ended : Bool) (s : Scope) (h f : Name)
    → fails_if after_send ended at (record { rule = rule; at = n }) ≡ at_stmt (record { scope = s; ended = ended; s = havoc_field at h f }) (record { rule = rule; at = n })
havoc_field_test after_send n at ended s h f = sym (number-unless n ended at)
havoc_field_test rule n at ended s h f = refl

-- conditions of three kinds of statements
if_test : (rule : Rule) (n at : ℕ) (ended : Bool) (s : Scope) (e : Expr) (a b : Block)
    → (fails_if after_send ended at (record { rule = rule; at = n }) || fails_if not_bool (is_other truth_sort (sort_of s e)) (token_index e) (record { rule = rule; at = n }))
    ≡ at_stmt (record { scope = s; ended = ended; s = if_ at e a b }) (record { rule = rule; at = n })
if_test after_send n at ended s e a b = or-false (ended && (n == at)) ∙ sym (number-unless n ended at)
if_test not_bool n at ended s e a b = sym (number-unless n (is_other truth_sort (sort_of s e)) (token_index e))
if_test rule n at ended s e a b = refl

filter_test : (rule : Rule) (n at : ℕ) (ended : Bool) (s : Scope) (e : Expr)
    → (fails_if after_send ended at (record { rule = rule; at = n }) || fails_if not_bool (is_other truth_sort (sort_of s e)) (token_index e) (record { rule = rule; at = n }))
    ≡ at_stmt (record { scope = s; ended = ended; s = filter at e }) (record { rule = rule; at = n })
filter_test after_send n at ended s e = or-false (ended && (n == at)) ∙ sym (number-unless n ended at)
filter_test not_bool n at ended s e = sym (number-unless n (is_other truth_sort (sort_of s e)) (token_index e))
filter_test rule n at ended s e = refl

assume_test : (rule : Rule) (n at : ℕ) (ended : Bool) (s : Scope) (e : Expr)
    → (fails_if after_send ended at (record { rule = rule; at = n }) || fails_if not_bool (is_other truth_sort (sort_of s e)) (token_index e) (record { rule = rule; at = n }))
    ≡ at_stmt (record { scope = s; ended = ended; s = assume at e }) (record { rule = rule; at = n })
assume_test after_send n at ended s e = or-false (ended && (n == at)) ∙ sym (number-unless n ended at)
assume_test not_bool n at ended s e = sym (number-unless n (is_other truth_sort (sort_of s e)) (token_index e))
assume_test rule n at ended s e = refl

fork_test : (rule : Rule) (n at w : ℕ) (ended : Bool) (s : Scope) (x : Name) (e : Expr) (b : Block)
    → ((fails_if after_send ended at (record { rule = rule; at = n })
    || fails_if too_wide (not (is_declared_width w)) x.at (record { rule = rule; at = n }))
    || fails_if not_bool (is_other truth_sort (sort_of (with_var x w s) e)) (token_index e) (record { rule = rule; at = n }))
    ≡ at_stmt (record { scope = s; ended = ended; s = fork at x w e b }) (record { rule = rule; at = n })
fork_test after_send n at w ended s x e b = first_of_three (ended && (n == at)) ∙ sym (number-unless n ended at)
fork_test too_wide n at w ended s x e b = or-false (not (is_declared_width w) && (n == x.at)) ∙ sym (wide n (is_declared_width w) x.at)
fork_test not_bool n at w ended s x e b = sym (number-unless n (is_other truth_sort (sort_of (with_var x w s) e)) (token_index e))
fork_test rule n at w ended s x e b = refl

-- a field that is set, by its width
set_test : (rule : Rule) (n at w : ℕ) (ended : Bool) (s : Scope) (h f : Name) (e : Expr) → field_width s.design.headers h.text f.text ≡ Some w
    → (fails_if after_send ended at (record { rule = rule; at = n }) || fails_if wrong_width (is_other (bits_sort w) (sort_of s e)) (token_index e) (record { rule = rule; at = n }))
    ≡ at_stmt (record { scope = s; ended = ended; s = set_field at h f e }) (record { rule = rule; at = n })
set_test after_send n at w ended s h f e k = or-false (ended && (n == at)) ∙ sym (number-unless n ended at)
set_test wrong_width n at w ended s h f e k =
    sym (number-unless n (is_other (bits_sort w) (sort_of s e)) (token_index e))
    ∙ sym (ap (λ o. has_number n (elim o [ None ↦ [] | Some v ↦ unless_is s (bits_sort v) e ])) k)
set_test rule n at w ended s h f e k = refl

unset_test : (rule : Rule) (n at : ℕ) (ended : Bool) (s : Scope) (h f : Name) (e : Expr) → field_width s.design.headers h.text f.text ≡ None
    → fails_if after_send ended at (record { rule = rule; at = n }) ≡ at_stmt (record { scope = s; ended = ended; s = set_field at h f e }) (record { rule = rule; at = n })
unset_test after_send n at ended s h f e k = sym (number-unless n ended at)
unset_test wrong_width n at ended s h f e k = sym (ap (λ o. has_number n (elim o [ None ↦ [] | Some v ↦ unless_is s (bits_sort v) e ])) k)
unset_test rule n at ended s h f e k = refl

-- a `send`, by the role's first declaration
send_test : (rule : Rule) (n at : ℕ) (ended : Bool) (s : Scope) (r : Name) (es : Exprs) (d : Role) → first_role s.design r.text ≡ Some d
    → ((fails_if after_send ended at (record { rule = rule; at = n })
    || fails_if wrong_count (not (length d.params == count_of es)) at (record { rule = rule; at = n }))
    || ((length d.params == count_of es) && fails_among wrong_width (wrong_args s (widths_of d.params) es) (record { rule = rule; at = n })))
    ≡ at_stmt (record { scope = s; ended = ended; s = send at r es }) (record { rule = rule; at = n })
send_test after_send n at ended s r es d k =
    ap (λ b. ((ended && (n == at)) || false) || b) (and-false (length d.params == count_of es))
    ∙ first_of_three (ended && (n == at)) ∙ sym (number-unless n ended at)
send_test wrong_count n at ended s r es d k =
    ap (λ b. (not (length d.params == count_of es) && (n == at)) || b) (and-false (length d.params == count_of es))
    ∙ or-false (not (length d.params == count_of es) && (n == at))
    ∙ sym (number-unless_not n (length d.params == count_of es) at)
    ∙ sym (ap (λ o. has_number n (elim o [ None ↦ [] | Some x ↦ unless (length x.params == count_of es) at ])) k)
send_test wrong_width n at ended s r es d k =
    ap (λ l. (l == count_of es) && has_number n (wrong_args s (widths_of d.params) es)) (sym (length-map d.params (λ (p : Param). p.width)))
    ∙ sym (number-where_all n (length (widths_of d.params) == count_of es) (wrong_args s (widths_of d.params) es))
    ∙ sym (ap (λ o. has_number n (where_ (length (role_widths o) == count_of es) (wrong_args s (role_widths o) es))) k)
send_test rule n at ended s r es d k = and-false (length d.params == count_of es)

lost_test : (rule : Rule) (n at : ℕ) (ended : Bool) (s : Scope) (r : Name) (es : Exprs) → first_role s.design r.text ≡ None
    → fails_if after_send ended at (record { rule = rule; at = n }) ≡ at_stmt (record { scope = s; ended = ended; s = send at r es }) (record { rule = rule; at = n })
lost_test after_send n at ended s r es k = sym (number-unless n ended at)
lost_test wrong_count n at ended s r es k = sym (ap (λ o. has_number n (elim o [ None ↦ [] | Some x ↦ unless (length x.params == count_of es) at ])) k)
lost_test wrong_width n at ended s r es k =
    sym (ap (λ o. has_number n (where_ (length (role_widths o) == count_of es) (wrong_args s (role_widths o) es))) k
    ∙ number-where_all n (0 == count_of es) [] ∙ and-false (0 == count_of es))
lost_test rule n at ended s r es k = refl

-- ---- what is noted by the tests of a statement

module _ (laws : NotingLaws) (s : Scope) (ended : Bool) (at : ℕ) where
  pub let_notes : {n : ℕ} {a : Option Sort} {b : Bool} (x : Name) (w : ℕ) (e : Expr) {o p q r : Option Fault} → n ≡ token_index e → a ≡ sort_of s e → b ≡ is_other (bits_sort w) a
      → Notes (fails_if after_send ended at) o p → Notes (fails_if too_wide (not (is_declared_width w)) x.at) p q → Notes (fails_if wrong_width b n) q r
      → Notes (at_stmt (record { scope = s; ended = ended; s = let_ at x w e })) o r
  let_notes {n} {a} {b} x w e {o} {p} {q} {r} hn ha hb u v k =
      laws.alike _ (at_stmt (record { scope = s; ended = ended; s = let_ at x w e })) o r
      (λ f. (λ i. (fails_if after_send ended at f || fails_if too_wide (not (is_declared_width w)) x.at f) || fails_if wrong_width ((hb ∙ ap (is_other (bits_sort w)) ha) i) (hn i) f)
      ∙ let_test f.rule f.at at w ended s x e)
      (laws.in_turn _ _ o q r (laws.in_turn _ _ o p q u v) k)

  pub fork_notes : {n : ℕ} {a : Option Sort} {b : Bool} (x : Name) (w : ℕ) (e : Expr) (body : Block) {o p q r : Option Fault} → n ≡ token_index e → a ≡ sort_of (with_var x w s) e → b ≡ is_other truth_sort a
      → Notes (fails_if after_send ended at) o p → Notes (fails_if too_wide (not (is_declared_width w)) x.at) p q → Notes (fails_if not_bool b n) q r
      → Notes (at_stmt (record { scope = s; ended = ended; s = fork at x w e body })) o r
  fork_notes {n} {a} {b} x w e body {o} {p} {q} {r} hn ha hb u v k =
      laws.alike _ (at_stmt (record { scope = s; ended = ended; s = fork at x w e body })) o r
      (λ f. (λ i. (fails_if after_send ended at f || fails_if too_wide (not (is_declared_width w)) x.at f) || fails_if not_bool ((hb ∙ ap (is_other truth_sort) ha) i) (hn i) f)
      ∙ fork_test f.rule f.at at w ended s x e body)
      (laws.in_turn _ _ o q r (laws.in_turn _ _ o p q u v) k)

  pub havoc_notes : (x : Name) (w : ℕ) {o p q : Option Fault} → Notes (fails_if after_send ended at) o p → Notes (fails_if too_wide (not (is_declared_width w)) x.at) p q
      → Notes (at_stmt (record { scope = s; ended = ended; s = havoc_var at x w })) o q
  havoc_notes x w {o} {p} {q} u v =
      laws.alike _ (at_stmt (record { scope = s; ended = ended; s = havoc_var at x w })) o q (λ f. havoc_test f.rule f.at at w ended s x) (laws.in_turn _ _ o p q u v)

  pub havoc_field_notes : (h f : Name) {o p : Option Fault} → Notes (fails_if after_send ended at) o p → Notes (at_stmt (record { scope = s; ended = ended; s = havoc_field at h f })) o p
  havoc_field_notes h f {o} {p} u =
      laws.alike _ (at_stmt (record { scope = s; ended = ended; s = havoc_field at h f })) o p (λ g. havoc_field_test g.rule g.at at ended s h f) u

  pub if_notes : {n : ℕ} {a : Option Sort} {b : Bool} (e : Expr) (x y : Block) {o p q : Option Fault} → n ≡ token_index e → a ≡ sort_of s e → b ≡ is_other truth_sort a
      → Notes (fails_if after_send ended at) o p → Notes (fails_if not_bool b n) p q → Notes (at_stmt (record { scope = s; ended = ended; s = if_ at e x y })) o q
  if_notes {n} {a} {b} e x y {o} {p} {q} hn ha hb u v =
      laws.alike _ (at_stmt (record { scope = s; ended = ended; s = if_ at e x y })) o q
      (λ f. (λ i. fails_if after_send ended at f || fails_if not_bool ((hb ∙ ap (is_other truth_sort) ha) i) (hn i) f) ∙ if_test f.rule f.at at ended s e x y)
      (laws.in_turn _ _ o p q u v)

  pub filter_notes : {n : ℕ} {a : Option Sort} {b : Bool} (e : Expr) {o p q : Option Fault} → n ≡ token_index e → a ≡ sort_of s e → b ≡ is_other truth_sort a
      → Notes (fails_if after_send ended at) o p → Notes (fails_if not_bool b n) p q → Notes (at_stmt (record { scope = s; ended = ended; s = filter at e })) o q
  filter_notes {n} {a} {b} e {o} {p} {q} hn ha hb u v =
      laws.alike _ (at_stmt (record { scope = s; ended = ended; s = filter at e })) o q
      (λ f. (λ i. fails_if after_send ended at f || fails_if not_bool ((hb ∙ ap (is_other truth_sort) ha) i) (hn i) f) ∙ filter_test f.rule f.at at ended s e)
      (laws.in_turn _ _ o p q u v)

  pub assume_notes : {n : ℕ} {a : Option Sort} {b : Bool} (e : Expr) {o p q : Option Fault} → n ≡ token_index e → a ≡ sort_of s e → b ≡ is_other truth_sort a
      → Notes (fails_if after_send ended at) o p → Notes (fails_if not_bool b n) p q → Notes (at_stmt (record { scope = s; ended = ended; s = assume at e })) o q
  assume_notes {n} {a} {b} e {o} {p} {q} hn ha hb u v =
      laws.alike _ (at_stmt (record { scope = s; ended = ended; s = assume at e })) o q
      (λ f. (λ i. fails_if after_send ended at f || fails_if not_bool ((hb ∙ ap (is_other truth_sort) ha) i) (hn i) f) ∙ assume_test f.rule f.at at ended s e)
      (laws.in_turn _ _ o p q u v)

  pub set_notes : {n : ℕ} {a : Option Sort} {b : Bool} (w : ℕ) (h f : Name) (e : Expr) {o p q : Option Fault} → field_width s.design.headers h.text f.text ≡ Some w
      → n ≡ token_index e → a ≡ sort_of s e → b ≡ is_other (bits_sort w) a
      → Notes (fails_if after_send ended at) o p → Notes (fails_if wrong_width b n) p q → Notes (at_stmt (record { scope = s; ended = ended; s = set_field at h f e })) o q
  set_notes {n} {a} {b} w h f e {o} {p} {q} hw hn ha hb u v =
      laws.alike _ (at_stmt (record { scope = s; ended = ended; s = set_field at h f e })) o q
      (λ g. (λ i. fails_if after_send ended at g || fails_if wrong_width ((hb ∙ ap (is_other (bits_sort w)) ha) i) (hn i) g) ∙ set_test g.rule g.at at w ended s h f e hw)
      (laws.in_turn _ _ o p q u v)

  pub unset_notes : (h f : Name) (e : Expr) {o p : Option Fault} → field_width s.design.headers h.text f.text ≡ None
      → Notes (fails_if after_send ended at) o p → Notes (at_stmt (record { scope = s; ended = ended; s = set_field at h f e })) o p
  unset_notes h f e {o} {p} hw u =
      laws.alike _ (at_stmt (record { scope = s; ended = ended; s = set_field at h f e })) o p (λ g. unset_test g.rule g.at at ended s h f e hw) u

  pub send_notes : {fits : Bool} {held : Option Fault} (r : Name) (es : Exprs) (d : Role) {o p q t : Option Fault} → first_role s.design r.text ≡ Some d → fits ≡ (length d.params == count_of es)
      → Notes (fails_among wrong_width (wrong_args s (widths_of d.params) es)) None held
      → Notes (fails_if after_send ended at) o p → Notes (fails_if wrong_count (not fits) at) p q → Notes (held_if fits held) q t
      → Notes (at_stmt (record { scope = s; ended = ended; s = send at r es })) o t
  send_notes {fits} {held} r es d {o} {p} {q} {t} hd hf m u v k =
      laws.alike _ (at_stmt (record { scope = s; ended = ended; s = send at r es })) o t
      (λ f. (λ i. (fails_if after_send ended at f || fails_if wrong_count (not (hf i)) at f) || (hf i && fails_among wrong_width (wrong_args s (widths_of d.params) es) f))
      ∙ send_test f.rule f.at at ended s r es d hd)
      (laws.in_turn _ _ o q t (laws.in_turn _ _ o p q u v) (held_notes laws fits _ held q t m k))

  pub lost_notes : (r : Name) (es : Exprs) {o p : Option Fault} → first_role s.design r.text ≡ None
      → Notes (fails_if after_send ended at) o p → Notes (at_stmt (record { scope = s; ended = ended; s = send at r es })) o p
  lost_notes r es {o} {p} hd u =
      laws.alike _ (at_stmt (record { scope = s; ended = ended; s = send at r es })) o p (λ f. lost_test f.rule f.at at ended s r es hd) u

-- what is found of the values of a `send`, for the parameters of the role
pub sent : {s : Scope} {a : Args} {ws : List ℕ} {es fs : Exprs} (r : Name) {found : Option Role} → first_role s.design r.text ≡ found → ws ≡ role_widths found → es ≡ fs
    → AreArgs a s ws es → AreArgs a s (role_widths (first_role s.design r.text)) fs
sent {s} {a} {ws} {es} {fs} r {found} hr hw he h =
    subst (λ (e : Exprs). AreArgs a s (role_widths (first_role s.design r.text)) e) he
    (subst (λ (v : List ℕ). AreArgs a s v es) (hw ∙ ap role_widths (sym hr)) h)
