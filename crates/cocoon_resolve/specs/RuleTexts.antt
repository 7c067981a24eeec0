-- Cited by the clause of `rule_name`: the names of the rules as reports give them, those of the table in "Rules of a design"
-- in docs/LANGUAGE.md.
use Rattle.std.specs.Prelude.{ℕ, List, codes}
use Rattle.cocoon_types.specs.declared.fault.TypeRule.{TypeRule}
use Rattle.cocoon_types.specs.declared.fault.TypeRule.TheVariants.{Twice, UnknownName, LateFunction, UnknownRole, NotRefinable, SinkRefined, NoHost, NoSwitch, ZeroCount, TooWide, HeaderWidth, WrongWidth, NotBool, WrongCount, BadSlice, AfterSend, PacketInGuard, SinkForm, HeaderChanged, GuardForm, NotSwitchForm, NotWire, LastChoice, ForkForm, HiddenChoice}

abbrev pub rule_text : TypeRule → List ℕ
rule_text Twice = codes "Twice"
rule_text UnknownName = codes "UnknownName"
rule_text LateFunction = codes "LateFunction"
rule_text UnknownRole = codes "UnknownRole"
rule_text NotRefinable = codes "NotRefinable"
rule_text SinkRefined = codes "SinkRefined"
rule_text NoHost = codes "NoHost"
rule_text NoSwitch = codes "NoSwitch"
rule_text ZeroCount = codes "ZeroCount"
rule_text TooWide = codes "TooWide"
rule_text HeaderWidth = codes "HeaderWidth"
rule_text WrongWidth = codes "WrongWidth"
rule_text NotBool = codes "NotBool"
rule_text WrongCount = codes "WrongCount"
rule_text BadSlice = codes "BadSlice"
rule_text AfterSend = codes "AfterSend"
rule_text PacketInGuard = codes "PacketInGuard"
rule_text SinkForm = codes "SinkForm"
rule_text HeaderChanged = codes "HeaderChanged"
rule_text GuardForm = codes "GuardForm"
rule_text NotSwitchForm = codes "NotSwitchForm"
rule_text NotWire = codes "NotWire"
rule_text LastChoice = codes "LastChoice"
rule_text ForkForm = codes "ForkForm"
rule_text HiddenChoice = codes "HiddenChoice"
