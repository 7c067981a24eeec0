-- The parts of a command line as `clap` states one: arguments, and what has them. Cited by the clauses
-- of syntax.rt. It follows the section "Commands" of README.md.
use Rattle.std.specs.Prelude.{List, [], ◌∷◌, Some, true, codes}
use Rattle.clap.specs.Words.{App, Rule, Text, new_app, new_rule, with_rule, with_subcommand}
use Rattle.clap.specs.declared.builder.ArgAction.TheVariants.{Set}

-- an argument that has to be there, with one value
abbrev pub required_argument : Text → Rule
required_argument id = record (new_rule id) { required = true; action = Some Set }

-- the argument for the file of a design
abbrev pub design_argument : Text
design_argument = codes "DESIGN"

-- that for the file of the definitions
abbrev pub defs_argument : Text
defs_argument = codes "DEFS"

-- that for the name of a bundle
abbrev pub out_argument : Text
out_argument = codes "OUT"

-- that for the number of a level
abbrev pub level_argument : Text
level_argument = codes "LEVEL"

-- that for the file of a case
abbrev pub case_argument : Text
case_argument = codes "CASE"

-- that for the file of packets
abbrev pub packets_argument : Text
packets_argument = codes "PACKETS"

-- that for a number of hosts
abbrev pub hosts_argument : Text
hosts_argument = codes "HOSTS"

-- that for a number of packets
abbrev pub count_argument : Text
count_argument = codes "COUNT"

-- an option `--NAME`, with one value
abbrev pub option_argument : Text → Rule
option_argument name = record (new_rule name) { long = Some name; action = Some Set }

-- the option for a number of visits
abbrev pub hops_argument : Text
hops_argument = codes "hops"

-- that for a number of conflicts
abbrev pub conflicts_argument : Text
conflicts_argument = codes "conflicts"

-- that for a number of rounds
abbrev pub rounds_argument : Text
rounds_argument = codes "rounds"

-- a command with these arguments, in their order
abbrev pub with_arguments : App → List Text → App
with_arguments app [] = app
with_arguments app (id ∷ ids) = with_arguments (with_rule app (required_argument id)) ids

-- a command with these subcommands
abbrev pub with_subcommands : App → List App → App
with_subcommands app [] = app
with_subcommands app (sub ∷ subs) = with_subcommands (with_subcommand app sub.top) subs

-- the command line with these subcommands
abbrev pub app_with : List App → App
app_with subs = with_subcommands (new_app (codes "cocoon")) subs
