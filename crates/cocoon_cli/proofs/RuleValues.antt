-- Two values of the code that stand for one rule are the same.
use Rattle.std.proofs.Common.{◌≡◌, refl, sym, ap, ◌∙◌}
use Rattle.cocoon_types.specs.RuleNames.{rule_of}
use Rattle.cocoon_types.specs.Rules.{Rule, twice, unknown_name, late_function, unknown_role, not_refinable, sink_refined, no_host, no_switch, zero_count, too_wide, header_width, wrong_width, not_bool, wrong_count, bad_slice, after_send, packet_in_guard, sink_form, header_changed, guard_form, not_switch_form, not_wire, last_choice, fork_form, hidden_choice}
use Rattle.cocoon_types.specs.declared.fault.TypeRule.{TypeRule}
use Rattle.cocoon_types.specs.declared.fault.TypeRule.TheVariants.{Twice, UnknownName, LateFunction, UnknownRole, NotRefinable, SinkRefined, NoHost, NoSwitch, ZeroCount, TooWide, HeaderWidth, WrongWidth, NotBool, WrongCount, BadSlice, AfterSend, PacketInGuard, SinkForm, HeaderChanged, GuardForm, NotSwitchForm, NotWire, LastChoice, ForkForm, HiddenChoice}

abbrev value_of : Rule → TypeRule
value_of twice = Twice
value_of unknown_name = UnknownName
value_of late_function = LateFunction
value_of unknown_role = UnknownRole
value_of not_refinable = NotRefinable
value_of sink_refined = SinkRefined
value_of no_host = NoHost
value_of no_switch = NoSwitch
value_of zero_count = ZeroCount
value_of too_wide = TooWide
value_of header_width = HeaderWidth
value_of wrong_width = WrongWidth
value_of not_bool = NotBool
value_of wrong_count = WrongCount
value_of bad_slice = BadSlice
value_of after_send = AfterSend
value_of packet_in_guard = PacketInGuard
value_of sink_form = SinkForm
value_of header_changed = HeaderChanged
value_of guard_form = GuardForm
value_of not_switch_form = NotSwitchForm
value_of not_wire = NotWire
value_of last_choice = LastChoice
value_of fork_form = ForkForm
value_of hidden_choice = HiddenChoice

value_back : (x : TypeRule) → value_of (rule_of x) ≡ x
value_back Twice = refl
value_back UnknownName = refl
value_back LateFunction = refl
value_back UnknownRole = refl
value_back NotRefinable = refl
value_back SinkRefined = refl
value_back NoHost = refl
value_back NoSwitch = refl
value_back ZeroCount = refl
value_back TooWide = refl
value_back HeaderWidth = refl
value_back WrongWidth = refl
value_back NotBool = refl
value_back WrongCount = refl
value_back BadSlice = refl
value_back AfterSend = refl
value_back PacketInGuard = refl
value_back SinkForm = refl
value_back HeaderChanged = refl
value_back GuardForm = refl
value_back NotSwitchForm = refl
value_back NotWire = refl
value_back LastChoice = refl
value_back ForkForm = refl
value_back HiddenChoice = refl

pub same_rule : (x y : TypeRule) → rule_of x ≡ rule_of y → x ≡ y
same_rule x y e = sym (value_back x) ∙ ap value_of e ∙ value_back y
