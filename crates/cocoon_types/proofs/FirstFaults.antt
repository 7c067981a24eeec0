-- The first fault of a design: there is one exactly where the design is not well formed. The faults are noted rule after
-- rule.
use Rattle.std.proofs.Common.{◌≡◌, ℕ, ◌==◌, ◌&&◌, ◌||◌, ◌⊎◌, Bool, true, false, nat_le, List, [], ◌∷◌, Option, Some, None, refl, sym, ap, ◌∙◌, inl, inr, arith}
use Rattle.std.specs.List.{list_any}
use Rattle.std.proofs.lemmas.Bool.{leb-true, leb-false, and_from, and_parts, eq-eqb, eqb-true, both_ways, cases_Bool}
use Rattle.cocoon_num.specs.Tree.{Design}
use Rattle.cocoon_num.specs.Lists.{has_number}
use Rattle.cocoon_types.specs.Rules.{Rule, twice, unknown_name, late_function, unknown_role, not_refinable, sink_refined, no_host, no_switch, zero_count, too_wide, header_width, wrong_width, not_bool, wrong_count, bad_slice, after_send, packet_in_guard, sink_form, header_changed, guard_form, not_switch_form, not_wire, last_choice, fork_form, hidden_choice, fails_at, WellFormed}
use Rattle.cocoon_types.specs.FirstFault.{Fault, rank, phase, is_fault, comes_before, IsFirst, FirstFault}
use Rattle.cocoon_types.specs.Noting.{same_fault, Notes, FirstOf}
use Rattle.cocoon_types.proofs.FaultOrder.{all_rules, same_rank, not_before_earlier, neither_before}
use Rattle.cocoon_types.proofs.NotesLaws.{note_first, note_earlier, note_later, notes_then, notes_none, notes_alike, notes_first}

pub one_first_fault : (d : Design) (f g : Fault) → FirstFault d f → FirstFault d g → f ≡ g
one_first_fault d f g h k = neither_before f g (k.none_before f h.picked) (h.none_before g k.picked)

-- a list without numbers
no_numbers : (ns : List ℕ) → ((n : ℕ) → has_number n ns ≡ false) → ns ≡ []
no_numbers [] h = refl
no_numbers (n ∷ ns) h = absurd (both_ways _ (h n) (ap (λ b. b || has_number n ns) (eq-eqb n n refl)))

pub found_none : (d : Design) → FirstOf (is_fault d) None → WellFormed d
found_none d h rule = no_numbers (fails_at rule d) (λ n. h (record { rule = rule; at = n }))

pub never_both : (d : Design) (f : Fault) → WellFormed d → ¬ FirstFault d f
never_both d f well first = both_ways _ (ap (has_number f.at) (well f.rule)) first.picked

-- ---- all faults, noted

-- a value of an accumulator in which these faults are noted
abbrev Noting : (Fault → Bool) → Option Fault → Type 0
Noting p a = (b : Option Fault) × Notes p a b

note_one : (f : Fault) (a : Option Fault) → Noting (same_fault f) a
note_one f None = (Some f, note_first f)
note_one f (Some g) =
    elim (cases_Bool (comes_before f g)) [ inl h ↦ (Some f, note_earlier f g h) | inr h ↦ (Some g, note_later f g h) ]

-- the fault is of this rule, at one of these token indices
abbrev is_at : Rule → List ℕ → Fault → Bool
is_at rule ns f = (rank f.rule == rank rule) && has_number f.at ns

one_more : (b c d : Bool) → ((b && c) || (b && d)) ≡ (b && (c || d))
one_more true c d = refl
one_more false c d = refl

note_places : (rule : Rule) (ns : List ℕ) (a : Option Fault) → Noting (is_at rule ns) a
note_places rule [] a = (a, notes_none (is_at rule []) a (λ f. none (rank f.rule == rank rule)))
  where
    none : (b : Bool) → (b && false) ≡ false
    none true = refl
    none false = refl
note_places rule (n ∷ ns) a =
    let f : Fault = record { rule = rule; at = n } in
    let one = note_one f a in
    let rest = note_places rule ns one.0 in
    (rest.0, notes_alike _ (is_at rule (n ∷ ns)) a rest.0 (λ g. one_more (rank g.rule == rank rule) (g.at == n) (has_number g.at ns)) (notes_then (same_fault f) (is_at rule ns) a one.0 rest.0 one.1 rest.1))

-- the rule is one of these
abbrev is_among : List Rule → Rule → Bool
is_among rules rule = list_any (λ r. rank rule == rank r) rules

note_rules : (d : Design) (rules : List Rule) (a : Option Fault) → Noting (λ f. is_among rules f.rule && is_fault d f) a
note_rules d [] a = (a, notes_none _ a (λ f. refl))
note_rules d (r ∷ rs) a =
    let one = note_places r (fails_at r d) a in
    let rest = note_rules d rs one.0 in
    (rest.0, notes_alike _ (λ f. is_among (r ∷ rs) f.rule && is_fault d f) a rest.0 (λ f. by f (rank f.rule == rank r) refl (is_among rs f.rule)) (notes_then (is_at r (fails_at r d)) (λ f. is_among rs f.rule && is_fault d f) a one.0 rest.0 one.1 rest.1))
  where
    absorb : (x : Bool) (y : Bool) → (x || (y && x)) ≡ x
    absorb true y = refl
    absorb false true = refl
    absorb false false = refl

    by : (f : Fault) (b : Bool) → (rank f.rule == rank r) ≡ b → (c : Bool) → ((b && has_number f.at (fails_at r d)) || (c && is_fault d f)) ≡ ((b || c) && is_fault d f)
    by f true e c =
        let same : has_number f.at (fails_at r d) ≡ is_fault d f = ap (λ x. has_number f.at (fails_at x d)) (sym (same_rank f.rule r (eqb-true _ _ e))) in
        ap (λ x. x || (c && is_fault d f)) same ∙ absorb (is_fault d f) c
    by f false e c = refl

every_rule : (r : Rule) → is_among all_rules r ≡ true
every_rule twice = refl
every_rule unknown_name = refl
every_rule late_function = refl
every_rule unknown_role = refl
every_rule not_refinable = refl
every_rule sink_refined = refl
every_rule no_host = refl
every_rule no_switch = refl
every_rule zero_count = refl
every_rule too_wide = refl
every_rule header_width = refl
every_rule wrong_width = refl
every_rule not_bool = refl
every_rule wrong_count = refl
every_rule bad_slice = refl
every_rule after_send = refl
every_rule packet_in_guard = refl
every_rule sink_form = refl
every_rule header_changed = refl
every_rule guard_form = refl
every_rule not_switch_form = refl
every_rule not_wire = refl
every_rule last_choice = refl
every_rule fork_form = refl
every_rule hidden_choice = refl

note_all : (d : Design) → Noting (is_fault d) None
note_all d =
    let all = note_rules d all_rules None in
    (all.0, notes_alike _ (is_fault d) None all.0 (λ f. ap (λ b. b && is_fault d f) (every_rule f.rule)) all.1)

pub either : (d : Design) → WellFormed d ⊎ ((f : Fault) × FirstFault d f)
either d = by (note_all d).0 (notes_first (is_fault d) (note_all d).0 (note_all d).1)
  where
    by : (found : Option Fault) → FirstOf (is_fault d) found → WellFormed d ⊎ ((f : Fault) × FirstFault d f)
    by None h = inl (found_none d h)
    by (Some f) h = inr (f, h)

pub earlier_phases : (d : Design) (n : ℕ) (f : Fault) → IsFirst (λ g. nat_le (phase g.rule) n && is_fault d g) f → FirstFault d f
earlier_phases d n f h =
    let parts = and_parts (nat_le (phase f.rule) n) (is_fault d f) h.picked in
    record {
      picked = parts.1;
      none_before = λ g k. elim (cases_Bool (nat_le (phase g.rule) n)) [
        | inl e ↦ h.none_before g (and_from _ _ e k)
        | inr e ↦ not_before_earlier g f (omega (arith, leb-false (phase g.rule) n e, leb-true (phase f.rule) n parts.0))
      ];
    }
