-- The faults of a design, by all of its rules, and the first of them: that of the first phase, there at the least token
-- index, and there by the rule that stands first in the table of "Rules of a design" in docs/LANGUAGE.md. The laws of
-- `first_faults` cite it, and the clauses of all that notes faults.
use Rattle.std.specs.Prelude.{ℕ, ◌==◌, ◌&&◌, ◌||◌, nat_lt, Bool, if◌then◌else◌, IsTrue, IsFalse}
use Rattle.cocoon_num.specs.Tree.{Design}
use Rattle.cocoon_num.specs.Lists.{has_number}
use Rattle.cocoon_types.specs.Rules.{Rule, twice, unknown_name, late_function, unknown_role, not_refinable, sink_refined, no_host, no_switch, zero_count, too_wide, header_width, wrong_width, not_bool, wrong_count, bad_slice, after_send, packet_in_guard, sink_form, header_changed, guard_form, not_switch_form, not_wire, last_choice, fork_form, hidden_choice, fails_at}

-- where a rule stands in the table, from 0
abbrev pub rank : Rule → ℕ
rank twice = 0
rank unknown_name = 1
rank late_function = 2
rank unknown_role = 3
rank not_refinable = 4
rank sink_refined = 5
rank no_host = 6
rank no_switch = 7
rank zero_count = 8
rank too_wide = 9
rank header_width = 10
rank wrong_width = 11
rank not_bool = 12
rank wrong_count = 13
rank bad_slice = 14
rank after_send = 15
rank packet_in_guard = 16
rank sink_form = 17
rank header_changed = 18
rank guard_form = 19
rank not_switch_form = 20
rank not_wire = 21
rank last_choice = 22
rank fork_form = 23
rank hidden_choice = 24

-- the phase of the rule that stands there: 1 for names, 2 for types, 3 for forms
abbrev pub phase_at : ℕ → ℕ
phase_at n = if nat_lt n 8 then 1 else (if nat_lt n 17 then 2 else 3)

-- the phase of a rule
abbrev pub phase : Rule → ℕ
phase rule = phase_at (rank rule)

-- a rule, and the token index at which it fails
pub record Fault : Type 0 where
  pub rule : Rule
  pub at : ℕ

-- the design has the fault
abbrev pub is_fault : Design → Fault → Bool
is_fault d f = has_number f.at (fails_at f.rule d)

-- it has, by a rule of this phase
abbrev pub is_fault_of : (phase : ℕ) → Design → Fault → Bool
is_fault_of n d f = (phase f.rule == n) && is_fault d f

-- the first is told before the second
abbrev pub comes_before : Fault → Fault → Bool
comes_before f g =
    nat_lt (phase f.rule) (phase g.rule)
    || ((phase f.rule == phase g.rule) && (nat_lt f.at g.at || ((f.at == g.at) && nat_lt (rank f.rule) (rank g.rule))))

-- of the faults that a test picks it is the first
pub record IsFirst (picks : Fault → Bool) (f : Fault) : Type 0 where
  pub picked : IsTrue (picks f)
  pub none_before : (g : Fault) → IsTrue (picks g) → IsFalse (comes_before g f)

-- the first fault of a design
abbrev pub FirstFault : Design → Fault → Type 0
FirstFault d f = IsFirst (is_fault d) f
