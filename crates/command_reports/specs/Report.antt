-- Cited by the clauses of ending.rt, refusal.rt, report.rt, status.rt and printing.rt, and in cocoon_cli
-- by `keeps` of `run`. How a command ends: with a status, and a whole report. It follows "Statuses" and
-- "Reports" in docs/FORMATS.md.
use Rattle.std.specs.Prelude.{◌≡◌, ◌⊎◌, ℕ, List, [], ◌∷◌, ◌++◌, Option, Some, None, Result, Ok, Err, Vec, String, codes, decimal, option_map, string_bytes}
use Rattle.std.specs.declared.alloc.Global.{Global}
use Rattle.cocoon_io.specs.Calls.{appended, AppendsPrefix}
use Rattle.cocoon_num.specs.LimitNames.{limit_text}
use Rattle.cocoon_num.specs.declared.NoMemory.{NoMemory}
use Rattle.cocoon_num.specs.declared.limit_name.LimitName.{LimitName}
use Rattle.cocoon_num.specs.declared.limit_name.LimitName.TheVariants as limit
use Rattle.cocoon_resolve.specs.RuleTexts.{rule_text}
use Rattle.cocoon_text.specs.TextFaults.{kind_name}
use Rattle.cocoon_types.specs.Limits.{most}
use Rattle.lower_p4.specs.LowerLimits.{most_hosts, most_members, most_sites, most_switches, most_tables}
use Rattle.runtime_defs.specs.Bound.{most_rows}
use Rattle.net_run.specs.RunCounts.{most_runs}
use Rattle.net_wiring.specs.declared.wiring.Wiring.{Wiring}
use Rattle.net_wiring.specs.declared.wiring.Wiring.TheVariants as wires
use Rattle.packet_runs.specs.Packets.{most_bytes}
use Rattle.p4_read.specs.declared.fault.P4Fault.{P4Fault}
use Rattle.p4_read.specs.declared.fault.P4Fault.TheVariants as p4
use Rattle.p4_run.specs.declared.faults.LoadFault.{LoadFault}
use Rattle.p4_run.specs.declared.faults.LoadFault.TheVariants as load
use Rattle.command_reports.specs.declared.refusal.BundleCause.{BundleCause}
use Rattle.command_reports.specs.declared.refusal.BundleCause.TheVariants as cause
use Rattle.command_reports.specs.declared.files.CommandFile.{CommandFile}
use Rattle.command_reports.specs.declared.files.CommandFile.TheVariants.{Design, Definitions, Bundle}
use Rattle.command_reports.specs.declared.status.Status.{Status}
use Rattle.command_reports.specs.declared.status.Status.TheVariants as status
use Rattle.command_reports.specs.declared.refusal.InputFault.{InputFault}
use Rattle.command_reports.specs.declared.refusal.InputFault.TheVariants.{NoTree, Rule}
use Rattle.command_reports.specs.declared.refusal.EntryRule.{EntryRule}
use Rattle.command_reports.specs.declared.refusal.EntryRule.TheVariants.{UnknownFunction, WrongRow, TwoDefaults, GuardRows, ForkRows}
use Rattle.command_reports.specs.declared.refusal.DefinitionsFault.{DefinitionsFault}
use Rattle.command_reports.specs.declared.refusal.DefinitionsFault.TheVariants as definitions
use Rattle.command_reports.specs.declared.refusal.Refusal.{Refusal}
use Rattle.command_reports.specs.declared.refusal.Refusal.TheVariants as refusal
use Rattle.command_reports.specs.declared.report.Report.{Report}
use Rattle.command_reports.specs.declared.report.Verdict.{Verdict}
use Rattle.command_reports.specs.declared.report.Verdict.TheVariants as verdict
use Rattle.command_reports.specs.FileNames.{FileNames, name_of}

-- a status and the whole report
pub record Ending : Type 0 where
  pub status : Status
  pub report : List ℕ

-- the number of a status
abbrev pub status_number : Status → ℕ
status_number status.Done = 0
status_number status.Refuted = 1
status_number status.Usage = 2
status_number status.Language = 3
status_number status.Broken = 4
status_number status.HopBound = 5
status_number status.Budget = 6
status_number status.Bundle = 7
status_number status.ReadFault = 8
status_number status.WriteFault = 9
status_number status.Limit = 10
status_number status.Lines = 11
status_number status.NoMemory = 12
status_number status.NoFile = 13

-- ---- what is wrong with a text

-- the line of the position of a design's fault
abbrev pub line_number : InputFault → ℕ
line_number (NoTree f) = f.line
line_number (Rule rule position) = position.line

-- its column
abbrev pub column_number : InputFault → ℕ
column_number (NoTree f) = f.column
column_number (Rule rule position) = position.column

-- its name
abbrev pub fault_name : InputFault → List ℕ
fault_name (NoTree f) = kind_name f.kind
fault_name (Rule rule position) = rule_text rule

-- the name of a rule of entries
abbrev pub entry_rule_name : EntryRule → List ℕ
entry_rule_name UnknownFunction = codes "UnknownFunction"
entry_rule_name WrongRow = codes "WrongRow"
entry_rule_name TwoDefaults = codes "TwoDefaults"
entry_rule_name GuardRows = codes "GuardRows"
entry_rule_name ForkRows = codes "ForkRows"

-- PREFIX FILE LINE:COLUMN NAME
abbrev pub fault_line : (prefix file : List ℕ) → (line column : ℕ) → (name : List ℕ) → List ℕ
fault_line prefix file line column name =
    prefix ++ (codes " " ++ (file ++ (codes " " ++ (decimal line ++ (codes ":"
    ++ (decimal column ++ (codes " " ++ (name ++ codes "\n"))))))))

-- definitions FILE NoDefault NAME
abbrev pub no_default_line : (file name : List ℕ) → List ℕ
no_default_line file name =
    codes "definitions " ++ (file ++ (codes " NoDefault " ++ (name ++ codes "\n")))

abbrev pub language_line : List ℕ → InputFault → List ℕ
language_line file f =
    fault_line (codes "language") file (line_number f) (column_number f) (fault_name f)

abbrev pub definitions_line : List ℕ → DefinitionsFault → List ℕ
definitions_line file (definitions.NoTree f) =
    fault_line (codes "definitions") file f.line f.column (kind_name f.kind)
definitions_line file (definitions.Entry rule p) =
    fault_line (codes "definitions") file p.line p.column (entry_rule_name rule)
definitions_line file (definitions.NoDefault name) = no_default_line file name

-- ---- lists of numbers

-- some numbers, each behind a space
abbrev pub spaced : List ℕ → List ℕ
spaced [] = []
spaced (n ∷ ns) = 32 ∷ (decimal n ++ spaced ns)

-- a list of numbers behind a space; `-` where it is empty
abbrev pub list_text : List ℕ → List ℕ
list_text [] = codes " -"
list_text (n ∷ ns) = spaced (n ∷ ns)

-- ---- refusals

abbrev pub refusal_status : Refusal → Status
refusal_status (refusal.Language fault) = status.Language
refusal_status (refusal.Definitions fault) = status.Broken
refusal_status (refusal.Broken number values) = status.Broken
refusal_status (refusal.ReadFault file) = status.ReadFault
refusal_status (refusal.WriteFault file) = status.WriteFault
refusal_status (refusal.TooLong file most) = status.Limit
refusal_status (refusal.OverLimit limit count) = status.Limit
refusal_status (refusal.NoLevel level last) = status.Limit
refusal_status (refusal.Line file number) = status.Lines
refusal_status (refusal.NoHost file number) = status.Lines
refusal_status (refusal.Unread file cause) = status.Bundle
refusal_status refusal.NoMemory = status.NoMemory
refusal_status (refusal.NoFile file) = status.NoFile

-- what of the folder or of memory an outcome speaks of
pub data Fault : Type 0 where
  by_read by_write : CommandFile → Fault
  by_memory no_fault : Fault

abbrev pub fault_of : Refusal → Fault
fault_of (refusal.ReadFault file) = by_read file
fault_of (refusal.WriteFault file) = by_write file
fault_of refusal.NoMemory = by_memory
fault_of _ = no_fault

abbrev pub fault_in : {A : Type 0} → Result A Refusal → Fault
fault_in (Ok report) = no_fault
fault_in (Err r) = fault_of r

abbrev pub no_memory_line : List ℕ
no_memory_line = codes "no memory\n"

-- a line that ends with the name of a file
abbrev pub line_with : List ℕ → List ℕ → List ℕ
line_with prefix name = prefix ++ (name ++ codes "\n")

-- that of a file that has more bytes than it may have
abbrev pub limit_line : List ℕ → ℕ → List ℕ
limit_line name most =
    codes "limit file " ++ (name ++ (codes " over " ++ (decimal most ++ codes "\n")))

-- The most that a count of a limit may be. That of a file is another for each kind of file, and that of
-- a level is the last level of its design; lines of their own have them.
abbrev pub most_allowed : LimitName → Option ℕ
most_allowed limit.File = None
most_allowed limit.Refines = Some (most limit.Refines)
most_allowed limit.Within = Some (most limit.Within)
most_allowed limit.Ports = Some (most limit.Ports)
most_allowed limit.Roles = Some (most limit.Roles)
most_allowed limit.Functions = Some (most limit.Functions)
most_allowed limit.Assumptions = Some (most limit.Assumptions)
most_allowed limit.Params = Some (most limit.Params)
most_allowed limit.Headers = Some (most limit.Headers)
most_allowed limit.Fields = Some (most limit.Fields)
most_allowed limit.Paths = Some (most limit.Paths)
most_allowed limit.Expanded = Some (most limit.Expanded)
most_allowed limit.Leaves = Some 4096
most_allowed limit.Clauses = Some 4000000
most_allowed limit.Rows = Some most_rows
most_allowed limit.Switches = Some most_switches
most_allowed limit.Hosts = Some most_hosts
most_allowed limit.Tables = Some most_tables
most_allowed limit.Sites = Some most_sites
most_allowed limit.Members = Some most_members
most_allowed limit.Level = None
most_allowed limit.Copies = Some most_runs
most_allowed limit.Packet = Some most_bytes

-- what a count is over; nothing for a limit without a number of its own
abbrev pub over_text : Option ℕ → List ℕ
over_text None = []
over_text (Some most) = codes " over " ++ decimal most

-- that of a count that is over its limit
abbrev pub over_line : LimitName → ℕ → List ℕ
over_line limit count =
    codes "limit " ++ (limit_text limit ++ (codes " " ++ (decimal count
    ++ (over_text (most_allowed limit) ++ codes "\n"))))

-- that of a level that is over the last one
abbrev pub level_line : (level last : ℕ) → List ℕ
level_line level last =
    codes "limit level " ++ (decimal level ++ (codes " over " ++ (decimal last ++ codes "\n")))

-- that of a file of which this line is not of its form
abbrev pub form_line : (file : List ℕ) → (number : ℕ) → List ℕ
form_line file number =
    codes "line " ++ (file ++ (codes " " ++ (decimal number ++ codes " Form\n")))

-- that of a file of which this line names a host that is not there
abbrev pub host_line : (file : List ℕ) → (number : ℕ) → List ℕ
host_line file number =
    codes "line " ++ (file ++ (codes " " ++ (decimal number ++ codes " NoSuchHost\n")))

-- KIND AT
abbrev pub p4_text : P4Fault → List ℕ
p4_text (p4.Lex at) = codes "Lex " ++ decimal at
p4_text (p4.Unexpected at) = codes "Unexpected " ++ decimal at
p4_text (p4.TooDeep at) = codes "TooDeep " ++ decimal at
p4_text (p4.Kind at) = codes "Kind " ++ decimal at
p4_text p4.NoMemory = codes "NoMemory"

-- KIND NUMBERS
abbrev pub load_text : LoadFault → List ℕ
load_text (load.MissingTable table) = codes "MissingTable " ++ decimal table
load_text (load.UnknownTable table) = codes "UnknownTable " ++ decimal table
load_text (load.RowShape table row) =
    codes "RowShape " ++ (decimal table ++ (codes " " ++ decimal row))
load_text (load.GroupShape index) = codes "GroupShape " ++ decimal index
load_text load.NoMemory = codes "NoMemory"

-- the pointer of a member; `-` where there is none
abbrev pub pointer_text : List ℕ → List ℕ
pointer_text [] = codes "-"
pointer_text (byte ∷ bytes) = byte ∷ bytes

-- a digest that was found, and the one that is kept
abbrev pub stale_text : (found kept : List ℕ) → List ℕ
stale_text found kept = codes "stale " ++ (found ++ (codes " " ++ kept))

-- the number of a certificate that is refused
abbrev pub refused_text : (number : ℕ) → List ℕ
refused_text number = codes "refused " ++ decimal number

-- how many certificates there are, and how many obligations
abbrev pub count_text : (found wanted : ℕ) → List ℕ
count_text found wanted = codes "count " ++ (decimal found ++ (codes " " ++ decimal wanted))

-- where wires differ first
abbrev pub wiring_text : Wiring → List ℕ
wiring_text wires.Ports = codes "wiring ports"
wiring_text (wires.Switches at) = codes "wiring switches " ++ decimal at
wiring_text (wires.Hosts at) = codes "wiring hosts " ++ decimal at
wiring_text (wires.Links at) = codes "wiring links " ++ decimal at
wiring_text (wires.Programs at) = codes "wiring programs " ++ decimal at

-- what is wrong with a file of a bundle
abbrev pub cause_text : BundleCause → List ℕ
cause_text cause.Missing = codes "missing"
cause_text (cause.Stale found kept) = stale_text found kept
cause_text cause.NotJson = codes "notjson"
cause_text (cause.P4 fault) = codes "p4 " ++ p4_text fault
cause_text (cause.Shape pointer) = codes "shape " ++ pointer_text pointer
cause_text (cause.Load fault) = codes "load " ++ load_text fault
cause_text (cause.Refused number) = refused_text number
cause_text (cause.Count found wanted) = count_text found wanted
cause_text (cause.Wiring wiring) = wiring_text wiring

-- that of an assumption that is false at these values
abbrev pub broken_line : (number : ℕ) (values : List ℕ) → List ℕ
broken_line number values =
    codes "broken assumption " ++ (decimal number ++ (codes " at" ++ (list_text values
    ++ codes "\n")))

-- bundle FILE CAUSE
abbrev pub bundle_line : (file : List ℕ) → BundleCause → List ℕ
bundle_line file c = codes "bundle " ++ (file ++ (codes " " ++ (cause_text c ++ codes "\n")))

-- that of a refusal; there is none about a file of a kind that the command has not
abbrev pub refusal_line : FileNames → Refusal → Option (List ℕ)
refusal_line names (refusal.Language fault) =
    option_map (λ name. language_line name fault) (name_of names Design)
refusal_line names (refusal.Definitions fault) =
    option_map (λ name. definitions_line name fault) (name_of names Definitions)
refusal_line names (refusal.Broken number values) = Some (broken_line number values)
refusal_line names (refusal.ReadFault file) =
    option_map (line_with (codes "read fault ")) (name_of names file)
refusal_line names (refusal.WriteFault file) =
    option_map (line_with (codes "write fault ")) (name_of names file)
refusal_line names (refusal.TooLong file most) =
    option_map (λ name. limit_line name most) (name_of names file)
refusal_line names (refusal.OverLimit limit count) = Some (over_line limit count)
refusal_line names (refusal.NoLevel level last) = Some (level_line level last)
refusal_line names (refusal.Line file number) =
    option_map (λ name. form_line name number) (name_of names file)
refusal_line names (refusal.NoHost file number) =
    option_map (λ name. host_line name number) (name_of names file)
refusal_line names (refusal.Unread file cause) =
    option_map (λ name. bundle_line name cause) (name_of names (Bundle file))
refusal_line names refusal.NoMemory = Some no_memory_line
refusal_line names (refusal.NoFile file) =
    option_map (line_with (codes "no file ")) (name_of names file)

-- the second has the bytes of the first, where both were made; it is made only of one that was
abbrev pub HasBytes : Result (Option (String Global)) NoMemory
    → Result (Option (Vec ℕ Global)) NoMemory → Type 0
HasBytes line (Err e) = Unit {0}
HasBytes (Ok line) (Ok bytes) = option_map (λ v. v.items) bytes ≡ option_map string_bytes line
HasBytes (Err e) (Ok bytes) = ⊥

-- ---- endings

-- the whole report of a command that succeeds
abbrev pub success : List ℕ → Report
success lines = record { verdict = verdict.Done; lines = lines }

-- that of a command that gave up a search
abbrev pub given_up : List ℕ → Report
given_up lines = record { verdict = verdict.Budget; lines = lines }

abbrev pub verdict_status : Verdict → Status
verdict_status verdict.Done = status.Done
verdict_status verdict.Refuted = status.Refuted
verdict_status verdict.HopBound = status.HopBound
verdict_status verdict.Budget = status.Budget

abbrev pub status_of : Result Report Refusal → Status
status_of (Ok report) = verdict_status report.verdict
status_of (Err r) = refusal_status r

abbrev pub line_of : FileNames → Result Report Refusal → Option (List ℕ)
line_of names (Ok report) = Some report.lines
line_of names (Err r) = refusal_line names r

-- the ending of an outcome: its status, and its line
pub record IsEnding (names : FileNames) (outcome : Result Report Refusal) (e : Ending) : Type 0 where
  pub status : e.status ≡ status_of outcome
  pub line : line_of names outcome ≡ Some e.report

-- of words that are no command
abbrev pub usage : Ending
usage = record {
  status = status.Usage;
  report = codes "usage cocoon check compile update forward step live gen\n";
}

abbrev pub no_memory : Ending
no_memory = record { status = status.NoMemory; report = no_memory_line }

-- ---- what is printed

-- How a put of a whole report ends: with its status and all its bytes; with a write fault and a
-- prefix of them, where the sink failed; or out of memory, with nothing. That the sink failed is a
-- parameter.
pub data Puts (sink_failed : Type 0) (e : Ending) (before after : Option (List ℕ))
    : Status → Type 0 where
  all : {s : Status} → s ≡ e.status → after ≡ appended before e.report
      → Puts sink_failed e before after s
  a_prefix : {s : Status} → s ≡ status.WriteFault → sink_failed
      → AppendsPrefix before e.report after → Puts sink_failed e before after s
  nothing : {s : Status} → s ≡ status.NoMemory → after ≡ before
      → Puts sink_failed e before after s

-- this ending is printed, or else that there was no memory for it
abbrev pub Prints : (sink_failed : Type 0) → Ending → (before after : Option (List ℕ)) → Status
    → Type 0
Prints sink_failed e before after s =
    Puts sink_failed e before after s ⊎ Puts sink_failed no_memory before after s
