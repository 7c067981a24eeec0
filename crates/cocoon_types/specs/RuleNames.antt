-- Cited by the clauses of `Noted`, and of all that notes or tells faults: the rules and faults of the definitions that
-- those of the code stand for.
use Rattle.std.specs.Prelude.{ℕ}
use Rattle.cocoon_types.specs.FirstFault.{Fault}
use Rattle.cocoon_types.specs.Rules as rules
use Rattle.cocoon_types.specs.declared.fault.TypeRule.{TypeRule}
use Rattle.cocoon_types.specs.declared.fault.TypeRule.TheVariants.{Twice, UnknownName, LateFunction, UnknownRole, NotRefinable, SinkRefined, NoHost, NoSwitch, ZeroCount, TooWide, HeaderWidth, WrongWidth, NotBool, WrongCount, BadSlice, AfterSend, PacketInGuard, SinkForm, HeaderChanged, GuardForm, NotSwitchForm, NotWire, LastChoice, ForkForm, HiddenChoice}

-- the rule
abbrev pub rule_of : TypeRule → rules.Rule
rule_of Twice = rules.twice
rule_of UnknownName = rules.unknown_name
rule_of LateFunction = rules.late_function
rule_of UnknownRole = rules.unknown_role
rule_of NotRefinable = rules.not_refinable
rule_of SinkRefined = rules.sink_refined
rule_of NoHost = rules.no_host
rule_of NoSwitch = rules.no_switch
rule_of ZeroCount = rules.zero_count
rule_of TooWide = rules.too_wide
rule_of HeaderWidth = rules.header_width
rule_of WrongWidth = rules.wrong_width
rule_of NotBool = rules.not_bool
rule_of WrongCount = rules.wrong_count
rule_of BadSlice = rules.bad_slice
rule_of AfterSend = rules.after_send
rule_of PacketInGuard = rules.packet_in_guard
rule_of SinkForm = rules.sink_form
rule_of HeaderChanged = rules.header_changed
rule_of GuardForm = rules.guard_form
rule_of NotSwitchForm = rules.not_switch_form
rule_of NotWire = rules.not_wire
rule_of LastChoice = rules.last_choice
rule_of ForkForm = rules.fork_form
rule_of HiddenChoice = rules.hidden_choice

-- the fault of a rule at a token index
abbrev pub fault_at : TypeRule → ℕ → Fault
fault_at rule at = record { rule = rule_of rule; at = at }

-- the same of a pair
abbrev pub fault_of : TypeRule × ℕ → Fault
fault_of found = fault_at found.0 found.1
