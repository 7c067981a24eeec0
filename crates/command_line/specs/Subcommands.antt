-- Each subcommand: as `clap` states it, and what it asks for by its matches. A new one is a part of its
-- own here, with a member of `cocoon_app` and a branch of `command_of`. Cited by the clauses of
-- subcommands.rt. It follows the section "Commands" of README.md.
use Rattle.std.specs.Prelude.{◌≤◌, ℕ, List, [], ◌∷◌, if◌then◌else◌, Option, Some, None, option_and_then, codes}
use Rattle.clap.specs.Words.{App, Row, Text, first_of, new_app, with_rule}
use Rattle.cocoon_num.specs.Names.{same_name}
use Rattle.command_line.specs.Arguments.{argument_name, argument_number, number_up_to, option_number}
use Rattle.command_line.specs.Command.{Command, check, compile, update, step, forward, gen}
use Rattle.command_line.specs.Syntax.{app_with, case_argument, conflicts_argument, count_argument, design_argument, defs_argument, hops_argument, hosts_argument, level_argument, option_argument, out_argument, packets_argument, rounds_argument, with_arguments}

-- ---- searches

-- the most conflicts of one search that may be asked for
abbrev pub most_conflicts : ℕ
most_conflicts = 200000

-- how many are asked for if no word says it
abbrev pub usual_conflicts : ℕ
usual_conflicts = 20000

-- the number of conflicts, by what `clap` matched
abbrev pub conflicts_in : List Row → Option ℕ
conflicts_in rows = option_number conflicts_argument usual_conflicts most_conflicts rows

-- the most rounds of one obligation that may be asked for
abbrev pub most_rounds : ℕ
most_rounds = 4096

-- how many are asked for if no word says it
abbrev pub usual_rounds : ℕ
usual_rounds = 64

-- the number of rounds, by what `clap` matched
abbrev pub rounds_in : List Row → Option ℕ
rounds_in rows = option_number rounds_argument usual_rounds most_rounds rows

-- a subcommand with the options of searches
abbrev pub with_searches : App → App
with_searches app =
    with_rule (with_rule app (option_argument conflicts_argument)) (option_argument rounds_argument)

-- ---- check

-- the subcommand `check`
abbrev pub check_app : App
check_app = with_searches (with_arguments (new_app (codes "check")) (design_argument ∷ []))

-- `check` with a name and numbers that are all there
abbrev pub with_name : Option (List ℕ) → (conflicts rounds : Option ℕ) → Option Command
with_name (Some design) (Some conflicts) (Some rounds) = Some (check design conflicts rounds)
with_name _ _ _ = None

-- what `check` asks for, by its matches
abbrev pub check_of : List Row → Option Command
check_of rows =
    with_name (argument_name design_argument rows) (conflicts_in rows) (rounds_in rows)

-- ---- compile

-- the subcommand `compile`
abbrev pub compile_app : App
compile_app =
    with_searches
    (with_arguments (new_app (codes "compile")) (design_argument ∷ defs_argument ∷ out_argument ∷ []))

-- `compile` with names and numbers that are all there
abbrev pub with_names : (design defs out : Option (List ℕ)) → (conflicts rounds : Option ℕ) → Option Command
with_names (Some design) (Some defs) (Some out) (Some conflicts) (Some rounds) =
    Some (compile design defs out conflicts rounds)
with_names _ _ _ _ _ = None

-- what `compile` asks for, by its matches
abbrev pub compile_of : List Row → Option Command
compile_of rows =
    with_names (argument_name design_argument rows) (argument_name defs_argument rows)
    (argument_name out_argument rows) (conflicts_in rows) (rounds_in rows)

-- ---- update

-- the subcommand `update`
abbrev pub update_app : App
update_app =
    with_rule
    (with_arguments (new_app (codes "update")) (design_argument ∷ defs_argument ∷ out_argument ∷ []))
    (option_argument conflicts_argument)

-- `update` with names and a number that are all there
abbrev pub with_bundle : (design defs out : Option (List ℕ)) → (conflicts : Option ℕ) → Option Command
with_bundle (Some design) (Some defs) (Some out) (Some conflicts) =
    Some (update design defs out conflicts)
with_bundle _ _ _ _ = None

-- what `update` asks for, by its matches
abbrev pub update_of : List Row → Option Command
update_of rows =
    with_bundle (argument_name design_argument rows) (argument_name defs_argument rows)
    (argument_name out_argument rows) (conflicts_in rows)

-- ---- step

-- the subcommand `step`
abbrev pub step_app : App
step_app =
    with_arguments (new_app (codes "step"))
    (design_argument ∷ defs_argument ∷ level_argument ∷ case_argument ∷ [])

-- the number of the highest level
abbrev pub highest_level : ℕ
highest_level = 16

-- the number of a level, by what `clap` matched
abbrev pub level_in : List Row → Option ℕ
level_in rows = option_and_then (number_up_to highest_level) (first_of level_argument rows)

-- `step` with names and a number that are all there
abbrev pub with_level : Option (List ℕ) → Option (List ℕ) → Option ℕ → Option (List ℕ) → Option Command
with_level (Some design) (Some defs) (Some level) (Some file) = Some (step design defs level file)
with_level _ _ _ _ = None

-- what `step` asks for, by its matches
abbrev pub step_of : List Row → Option Command
step_of rows =
    with_level (argument_name design_argument rows) (argument_name defs_argument rows)
    (level_in rows) (argument_name case_argument rows)

-- ---- forward

-- the subcommand `forward`
abbrev pub forward_app : App
forward_app =
    with_rule (with_arguments (new_app (codes "forward")) (out_argument ∷ packets_argument ∷ []))
    (option_argument hops_argument)

-- the most visits of a packet that may be asked for
abbrev pub most_hops : ℕ
most_hops = 64

-- how many are asked for if no word says it
abbrev pub usual_hops : ℕ
usual_hops = 16

-- the number of visits, by what `clap` matched
abbrev pub hops_in : List Row → Option ℕ
hops_in rows = option_number hops_argument usual_hops most_hops rows

-- `forward` with names and a number that are all there
abbrev pub with_hops : Option (List ℕ) → Option (List ℕ) → Option ℕ → Option Command
with_hops (Some out) (Some packets) (Some hops) = Some (forward out packets hops)
with_hops _ _ _ = None

-- what `forward` asks for, by its matches
abbrev pub forward_of : List Row → Option Command
forward_of rows =
    with_hops (argument_name out_argument rows) (argument_name packets_argument rows) (hops_in rows)

-- ---- gen

-- the subcommand `gen`
abbrev pub gen_app : App
gen_app = with_arguments (new_app (codes "gen")) (hosts_argument ∷ count_argument ∷ [])

-- the most hosts that may be asked for
abbrev pub most_hosts : ℕ
most_hosts = 200

-- the most packets
abbrev pub most_packets : ℕ
most_packets = 100000

-- `gen` with numbers that are all there
abbrev pub with_numbers : (hosts packets : Option ℕ) → Option Command
with_numbers (Some hosts) (Some packets) = Some (gen hosts packets)
with_numbers _ _ = None

-- what `gen` asks for, by its matches
abbrev pub gen_of : List Row → Option Command
gen_of rows =
    with_numbers (argument_number hosts_argument most_hosts rows)
    (argument_number count_argument most_packets rows)

-- ---- all of them

-- the whole command line
abbrev pub cocoon_app : App
cocoon_app =
    app_with (check_app ∷ compile_app ∷ update_app ∷ step_app ∷ forward_app ∷ gen_app ∷ [])

-- what a subcommand asks for, by its name and its matches
abbrev pub command_of : Text × List Row → Option Command
command_of met =
    if same_name met.0 (codes "check") then check_of met.1
    else if same_name met.0 (codes "compile") then compile_of met.1
    else if same_name met.0 (codes "update") then update_of met.1
    else if same_name met.0 (codes "step") then step_of met.1
    else if same_name met.0 (codes "forward") then forward_of met.1
    else if same_name met.0 (codes "gen") then gen_of met.1
    else None

-- one search may meet so many conflicts, and one obligation be given so many rounds
abbrev pub CanSearch : (conflicts rounds : ℕ) → Type 0
CanSearch conflicts rounds =
    (1 ≤ conflicts) × (conflicts ≤ most_conflicts) × (1 ≤ rounds) × (rounds ≤ most_rounds)

-- so many hosts may be generated, and so many packets sent
abbrev pub CanGenerate : (hosts packets : ℕ) → Type 0
CanGenerate hosts packets =
    (1 ≤ hosts) × (hosts ≤ most_hosts) × (1 ≤ packets) × (packets ≤ most_packets)

-- the numbers that a command asks for are ones that may be asked for
abbrev pub IsInRange : Command → Type 0
IsInRange (check design conflicts rounds) = CanSearch conflicts rounds
IsInRange (compile design defs out conflicts rounds) = CanSearch conflicts rounds
IsInRange (update design defs out conflicts) = (1 ≤ conflicts) × (conflicts ≤ most_conflicts)
IsInRange (gen hosts packets) = CanGenerate hosts packets
IsInRange asked = Unit {0}
