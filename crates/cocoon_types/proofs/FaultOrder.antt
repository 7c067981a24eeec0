-- The order of faults: of any two one does not come before the other, and a fault does not come before itself. Faults of
-- which neither comes before the other are one.
use Rattle.std.proofs.Common.{◌≡◌, ℕ, ◌==◌, ◌&&◌, ◌||◌, ◌<◌, ◌≤◌, ◌⊎◌, Bool, true, false, nat_lt, List, [], ◌∷◌, get_or, refl, sym, ap, ◌∙◌, inl, inr, arith}
use Rattle.std.proofs.lemmas.Bool.{lt-ltb, le-ltb, ltb-false, eqb-true, eqb-false, eq-eqb, ne_eqb, and_parts, and_from, or_parts, or_from, and_cases, and_left, and_right, cases_order, both_ways}
use Rattle.cocoon_types.specs.Rules.{Rule, twice, unknown_name, late_function, unknown_role, not_refinable, sink_refined, no_host, no_switch, zero_count, too_wide, header_width, wrong_width, not_bool, wrong_count, bad_slice, after_send, packet_in_guard, sink_form, header_changed, guard_form, not_switch_form, not_wire, last_choice, fork_form, hidden_choice}
use Rattle.cocoon_types.specs.FirstFault.{Fault, rank, phase, comes_before}
use Rattle.cocoon_types.specs.Noting.{same_fault}

-- ---- two numbers, and three, in order

abbrev before_two : (b c y z : ℕ) → Bool
before_two b c y z = nat_lt b y || ((b == y) && nat_lt c z)

abbrev before_three : (a b c x y z : ℕ) → Bool
before_three a b c x y z = nat_lt a x || ((a == x) && before_two b c y z)

-- the first does not come before the second
abbrev LateTwo : (b c y z : ℕ) → Type 0
LateTwo b c y z = (y < b) ⊎ ((b ≡ y) × (z ≤ c))

abbrev LateThree : (a b c x y z : ℕ) → Type 0
LateThree a b c x y z = (x < a) ⊎ ((a ≡ x) × LateTwo b c y z)

late_two : (b c y z : ℕ) → before_two b c y z ≡ false → LateTwo b c y z
late_two b c y z h = by (cases_order b y)
  where
    by : (b ≡ y) ⊎ ((b < y) ⊎ (y < b)) → LateTwo b c y z
    by (inl e) =
        elim (and_cases (b == y) (nat_lt c z) (or_parts _ _ h).1) [
          | inl n ↦ absurd (eqb-false b y n e)
          | inr n ↦ inr (e, ltb-false c z n)
        ]
    by (inr (inl l)) = absurd (both_ways _ (or_parts _ _ h).0 (lt-ltb b y l))
    by (inr (inr l)) = inl l

late_three : (a b c x y z : ℕ) → before_three a b c x y z ≡ false → LateThree a b c x y z
late_three a b c x y z h = by (cases_order a x)
  where
    by : (a ≡ x) ⊎ ((a < x) ⊎ (x < a)) → LateThree a b c x y z
    by (inl e) =
        elim (and_cases (a == x) (before_two b c y z) (or_parts _ _ h).1) [
          | inl n ↦ absurd (eqb-false a x n e)
          | inr n ↦ inr (e, late_two b c y z n)
        ]
    by (inr (inl l)) = absurd (both_ways _ (or_parts _ _ h).0 (lt-ltb a x l))
    by (inr (inr l)) = inl l

two_late : (b c y z : ℕ) → LateTwo b c y z → before_two b c y z ≡ false
two_late b c y z (inl l) = or_from _ _ (le-ltb b y (omega (arith, l))) (and_left _ _ (ne_eqb b y (λ e. omega (arith, l, e))))
two_late b c y z (inr h) = or_from _ _ (le-ltb b y (omega (arith, h.0))) (and_right _ _ (le-ltb c z h.1))

three_late : (a b c x y z : ℕ) → LateThree a b c x y z → before_three a b c x y z ≡ false
three_late a b c x y z (inl l) = or_from _ _ (le-ltb a x (omega (arith, l))) (and_left _ _ (ne_eqb a x (λ e. omega (arith, l, e))))
three_late a b c x y z (inr h) = or_from _ _ (le-ltb a x (omega (arith, h.0))) (and_right _ _ (two_late b c y z h.1))

two_trans : (b c y z q r : ℕ) → LateTwo b c y z → LateTwo y z q r → LateTwo b c q r
two_trans b c y z q r (inl l) (inl k) = inl (omega (arith, l, k))
two_trans b c y z q r (inl l) (inr k) = inl (omega (arith, l, k.0))
two_trans b c y z q r (inr h) (inl k) = inl (omega (arith, h.0, k))
two_trans b c y z q r (inr h) (inr k) = inr (h.0 ∙ k.0, omega (arith, h.1, k.1))

three_trans : (a b c x y z p q r : ℕ) → LateThree a b c x y z → LateThree x y z p q r → LateThree a b c p q r
three_trans a b c x y z p q r (inl l) (inl k) = inl (omega (arith, l, k))
three_trans a b c x y z p q r (inl l) (inr k) = inl (omega (arith, l, k.0))
three_trans a b c x y z p q r (inr h) (inl k) = inl (omega (arith, h.0, k))
three_trans a b c x y z p q r (inr h) (inr k) = inr (h.0 ∙ k.0, two_trans b c y z q r h.1 k.1)

two_total : (b c y z : ℕ) → LateTwo b c y z ⊎ LateTwo y z b c
two_total b c y z = by (cases_order b y) (cases_order c z)
  where
    by : (b ≡ y) ⊎ ((b < y) ⊎ (y < b)) → (c ≡ z) ⊎ ((c < z) ⊎ (z < c)) → LateTwo b c y z ⊎ LateTwo y z b c
    by (inl e) (inl k) = inl (inr (e, omega (arith, k)))
    by (inl e) (inr (inl k)) = inr (inr (sym e, omega (arith, k)))
    by (inl e) (inr (inr k)) = inl (inr (e, omega (arith, k)))
    by (inr (inl l)) k = inr (inl l)
    by (inr (inr l)) k = inl (inl l)

three_total : (a b c x y z : ℕ) → LateThree a b c x y z ⊎ LateThree x y z a b c
three_total a b c x y z = by (cases_order a x) (two_total b c y z)
  where
    by : (a ≡ x) ⊎ ((a < x) ⊎ (x < a)) → LateTwo b c y z ⊎ LateTwo y z b c → LateThree a b c x y z ⊎ LateThree x y z a b c
    by (inl e) (inl k) = inl (inr (e, k))
    by (inl e) (inr k) = inr (inr (sym e, k))
    by (inr (inl l)) k = inr (inl l)
    by (inr (inr l)) k = inl (inl l)

two_same : (b c y z : ℕ) → LateTwo b c y z → LateTwo y z b c → (b ≡ y) × (c ≡ z)
two_same b c y z (inl l) (inl k) = absurd (omega (arith, l, k))
two_same b c y z (inl l) (inr k) = absurd (omega (arith, l, k.0))
two_same b c y z (inr h) (inl k) = absurd (omega (arith, h.0, k))
two_same b c y z (inr h) (inr k) = (h.0, omega (arith, h.1, k.1))

three_same : (a b c x y z : ℕ) → LateThree a b c x y z → LateThree x y z a b c → (b ≡ y) × (c ≡ z)
three_same a b c x y z (inl l) (inl k) = absurd (omega (arith, l, k))
three_same a b c x y z (inl l) (inr k) = absurd (omega (arith, l, k.0))
three_same a b c x y z (inr h) (inl k) = absurd (omega (arith, h.0, k))
three_same a b c x y z (inr h) (inr k) = two_same b c y z h.1 k.1

-- ---- faults

-- the rules in the order of the table
abbrev pub all_rules : List Rule
all_rules =
    twice ∷ unknown_name ∷ late_function ∷ unknown_role ∷ not_refinable ∷ sink_refined ∷ no_host ∷ no_switch
    ∷ zero_count ∷ too_wide ∷ header_width ∷ wrong_width ∷ not_bool ∷ wrong_count ∷ bad_slice ∷ after_send ∷ packet_in_guard
    ∷ sink_form ∷ header_changed ∷ guard_form ∷ not_switch_form ∷ not_wire ∷ last_choice ∷ fork_form ∷ hidden_choice ∷ []

-- a rule is the one that stands in its place
at_rank : (r : Rule) → get_or all_rules (rank r) twice ≡ r
at_rank twice = refl
at_rank unknown_name = refl
at_rank late_function = refl
at_rank unknown_role = refl
at_rank not_refinable = refl
at_rank sink_refined = refl
at_rank no_host = refl
at_rank no_switch = refl
at_rank zero_count = refl
at_rank too_wide = refl
at_rank header_width = refl
at_rank wrong_width = refl
at_rank not_bool = refl
at_rank wrong_count = refl
at_rank bad_slice = refl
at_rank after_send = refl
at_rank packet_in_guard = refl
at_rank sink_form = refl
at_rank header_changed = refl
at_rank guard_form = refl
at_rank not_switch_form = refl
at_rank not_wire = refl
at_rank last_choice = refl
at_rank fork_form = refl
at_rank hidden_choice = refl

pub same_rank : (r s : Rule) → rank r ≡ rank s → r ≡ s
same_rank r s h = sym (at_rank r) ∙ ap (λ n. get_or all_rules n twice) h ∙ at_rank s

same_parts : (f g : Fault) → f.rule ≡ g.rule → f.at ≡ g.at → f ≡ g
same_parts f g h k = λ i. record { rule = h i; at = k i }

abbrev late : (f g : Fault) → Type 0
late f g = LateThree (phase f.rule) f.at (rank f.rule) (phase g.rule) g.at (rank g.rule)

late_of : (f g : Fault) → comes_before f g ≡ false → late f g
late_of f g h = late_three (phase f.rule) f.at (rank f.rule) (phase g.rule) g.at (rank g.rule) h

of_late : (f g : Fault) → late f g → comes_before f g ≡ false
of_late f g h = three_late (phase f.rule) f.at (rank f.rule) (phase g.rule) g.at (rank g.rule) h

-- a fault does not come before itself
pub not_before_itself : (f : Fault) → comes_before f f ≡ false
not_before_itself f = of_late f f (inr (refl, inr (refl, omega arith)))

-- what does not come before one that does not come before a third, does not come before that
pub not_before_trans : (f g h : Fault) → comes_before f g ≡ false → comes_before g h ≡ false → comes_before f h ≡ false
not_before_trans f g h p q = of_late f h (three_trans (phase f.rule) f.at (rank f.rule) (phase g.rule) g.at (rank g.rule) (phase h.rule) h.at (rank h.rule) (late_of f g p) (late_of g h q))

-- of two faults, the second does not come before the first where the first comes before the second
pub not_before_back : (f g : Fault) → comes_before f g ≡ true → comes_before g f ≡ false
not_before_back f g h =
    elim (three_total (phase f.rule) f.at (rank f.rule) (phase g.rule) g.at (rank g.rule)) [
      | inl l ↦ absurd (both_ways _ (of_late f g l) h)
      | inr l ↦ of_late g f l
    ]

-- a fault of a later phase does not come before one of an earlier
pub not_before_earlier : (f g : Fault) → phase g.rule < phase f.rule → comes_before f g ≡ false
not_before_earlier f g l = of_late f g (inl l)

-- neither comes before the other
pub neither_before : (f g : Fault) → comes_before f g ≡ false → comes_before g f ≡ false → f ≡ g
neither_before f g p q =
    let s = three_same (phase f.rule) f.at (rank f.rule) (phase g.rule) g.at (rank g.rule) (late_of f g p) (late_of g f q) in
    same_parts f g (same_rank f.rule g.rule s.1) s.0

-- ---- the test that two are one

pub same_is : (f g : Fault) → same_fault f g ≡ true → f ≡ g
same_is f g h =
    let s = and_parts (rank g.rule == rank f.rule) (g.at == f.at) h in
    sym (same_parts g f (same_rank g.rule f.rule (eqb-true _ _ s.0)) (eqb-true _ _ s.1))

pub is_same : (f : Fault) → same_fault f f ≡ true
is_same f = and_from _ _ (eq-eqb (rank f.rule) (rank f.rule) refl) (eq-eqb f.at f.at refl)
