-- Which command some words give: the subcommand that `clap` finds in them by the command line of
-- Subcommands.antt, with each name in its form. There is none where `clap` refuses the words or they ask
-- for help, where they have no subcommand, and where a name is of another form. It follows the
-- section "Commands" of README.md.
use Rattle.std.specs.Prelude.{ℕ, List, [], ◌∷◌, Option, None, option_and_then}
use Rattle.clap.specs.Words.{App, Kinds, Row, Text, fault_of, subcommand_of}
use Rattle.command_line.specs.Command.{Command}
use Rattle.command_line.specs.Subcommands.{cocoon_app, command_of}

-- what was met, where no kind of fault comes
abbrev pub unless_refused : Kinds → Option (Text × List Row) → Option (Text × List Row)
unless_refused [] met = met
unless_refused (kind ∷ kinds) met = None

-- the subcommand of the words with its matches, where `clap` takes the words by a command line; a
-- call for help counts as a fault
unfoldable pub subcommand_by : App → List (List ℕ) → Option (Text × List Row)
subcommand_by app words = unless_refused (fault_of app words) (subcommand_of app words)

-- the command that the words give by a command line, the program's name first
abbrev pub command_by : App → List (List ℕ) → Option Command
command_by app words = option_and_then command_of (subcommand_by app words)

-- the subcommand of the words
abbrev pub subcommand : List (List ℕ) → Option (Text × List Row)
subcommand words = subcommand_by cocoon_app words

-- the command that the words give
unfoldable pub command : List (List ℕ) → Option Command
command words = command_by cocoon_app words
