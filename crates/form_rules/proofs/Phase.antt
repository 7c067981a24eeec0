-- The faults of the third phase are those of its rules.
use Rattle.std.proofs.Common.{◌≡◌, ℕ, ◌==◌, ◌||◌, Bool, true, false, List, [], ◌∷◌, ◌++◌, Option, Some, None, refl, sym, ◌∙◌}
use Rattle.std.specs.List.{flat_map}
use Rattle.cocoon_num.specs.Tree.{Design}
use Rattle.cocoon_num.specs.Lists.{has_number}
use Rattle.cocoon_types.specs.Design.{switch_decl}
use Rattle.cocoon_types.specs.FormRules.{switch_declared, switch_sends}
use Rattle.cocoon_types.specs.Rules.{Rule, twice, unknown_name, late_function, unknown_role, not_refinable, sink_refined, no_host, no_switch, zero_count, too_wide, header_width, wrong_width, not_bool, wrong_count, bad_slice, after_send, packet_in_guard, sink_form, header_changed, guard_form, not_switch_form, not_wire, last_choice, fork_form, hidden_choice, fails_at}
use Rattle.cocoon_types.specs.FirstFault.{Fault, is_fault_of}
use Rattle.cocoon_types.specs.Noting.{Notes, NotingLaws}
use Rattle.form_rules.specs.BodyFaults.{is_body_fault}
use Rattle.cocoon_types.specs.Among.{among}
use Rattle.form_rules.specs.Parts.{not_two_ports}

-- a fault of the phase, by the passes
abbrev passes : Design → Fault → Bool
passes d f =
    ((((among sink_form (fails_at sink_form d) f || among header_changed (fails_at header_changed d) f) || among guard_form (fails_at guard_form d) f)
    || among not_switch_form (flat_map not_two_ports (switch_declared d)) f) || is_body_fault d f) || among hidden_choice (fails_at hidden_choice d) f

or-false : (a : Bool) → a || false ≡ a
or-false true = refl
or-false false = refl

number-append : (n : ℕ) (xs ys : List ℕ) → has_number n (xs ++ ys) ≡ has_number n xs || has_number n ys
number-append n [] ys = refl
number-append n (x ∷ xs) ys = by (n == x) (has_number n xs) (has_number n ys) (has_number n (xs ++ ys)) (number-append n xs ys)
  where
    by : (a b c r : Bool) → r ≡ b || c → a || r ≡ (a || b) || c
    by true b c r e = refl
    by false b c r e = e

three : (b : Bool) → ((b || false) || false) || false ≡ b
three true = refl
three false = refl

four : (b : Bool) → (((b || false) || false) || false) || false ≡ b
four true = refl
four false = refl

five : (b : Bool) → ((((b || false) || false) || false) || false) || false ≡ b
five true = refl
five false = refl

of_phase : (d : Design) (rule : Rule) (n : ℕ) → passes d (record { rule = rule; at = n }) ≡ is_fault_of 3 d (record { rule = rule; at = n })
of_phase d sink_form n = five (has_number n (fails_at sink_form d))
of_phase d header_changed n = four (has_number n (fails_at header_changed d))
of_phase d guard_form n = three (has_number n (fails_at guard_form d))
of_phase d not_switch_form n = by (has_number n (flat_map not_two_ports (switch_declared d))) (has_number n sends) ∙ sym (number-append n (flat_map not_two_ports (switch_declared d)) sends)
  where
    sends : List ℕ
    sends = elim (switch_decl d) [ None ↦ [] | Some s ↦ switch_sends d s ]

    by : (a b : Bool) → ((((false || false) || false) || a) || (((b || false) || false) || false)) || false ≡ a || b
    by true b = refl
    by false true = refl
    by false false = refl
of_phase d not_wire n = by (has_number n (fails_at not_wire d))
  where
    by : (b : Bool) → (((false || b) || false) || false) || false ≡ b
    by true = refl
    by false = refl
of_phase d last_choice n = by (has_number n (fails_at last_choice d))
  where
    by : (b : Bool) → ((b || false) || false) ≡ b
    by true = refl
    by false = refl
of_phase d fork_form n = or-false (has_number n (fails_at fork_form d))
of_phase d hidden_choice n = refl
of_phase d twice n = refl
of_phase d unknown_name n = refl
of_phase d late_function n = refl
of_phase d unknown_role n = refl
of_phase d not_refinable n = refl
of_phase d sink_refined n = refl
of_phase d no_host n = refl
of_phase d no_switch n = refl
of_phase d zero_count n = refl
of_phase d too_wide n = refl
of_phase d header_width n = refl
of_phase d wrong_width n = refl
of_phase d not_bool n = refl
of_phase d wrong_count n = refl
of_phase d bad_slice n = refl
of_phase d after_send n = refl
of_phase d packet_in_guard n = refl

-- what the passes note one after the other
pub phase_noted : NotingLaws → (d : Design) (o p q r s t u : Option Fault)
    → Notes (among sink_form (fails_at sink_form d)) o p → Notes (among header_changed (fails_at header_changed d)) p q → Notes (among guard_form (fails_at guard_form d)) q r
    → Notes (among not_switch_form (flat_map not_two_ports (switch_declared d))) r s → Notes (is_body_fault d) s t → Notes (among hidden_choice (fails_at hidden_choice d)) t u
    → Notes (is_fault_of 3 d) o u
phase_noted laws d o p q r s t u a b c e f g =
    laws.alike (passes d) (is_fault_of 3 d) o u (λ x. of_phase d x.rule x.at)
    (laws.in_turn _ (among hidden_choice (fails_at hidden_choice d)) o t u
    (laws.in_turn _ (is_body_fault d) o s t
    (laws.in_turn _ (among not_switch_form (flat_map not_two_ports (switch_declared d))) o r s
    (laws.in_turn _ (among guard_form (fails_at guard_form d)) o q r
    (laws.in_turn (among sink_form (fails_at sink_form d)) (among header_changed (fails_at header_changed d)) o p q a b) c) e) f) g)
