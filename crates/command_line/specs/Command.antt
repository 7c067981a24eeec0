-- What the words ask for: a command with its names. `parse_command` cites it, and so do the clauses of
-- cocoon_cli that take a command. It follows the section "Commands" of README.md.
use Rattle.std.specs.Prelude.{ℕ, List}
use Rattle.command_line.specs.declared.command.Command.{Command as Asked}
use Rattle.command_line.specs.declared.command.Command.TheVariants.{Check, Compile, Update, Step, Forward, Gen}

-- what a command asks for
pub data Command : Type 0 where
  check : (design : List ℕ) (conflicts rounds : ℕ) → Command
  compile : (design defs out : List ℕ) (conflicts rounds : ℕ) → Command
  update : (design defs out : List ℕ) (conflicts : ℕ) → Command
  step : (design defs : List ℕ) (level : ℕ) (file : List ℕ) → Command
  forward : (out packets : List ℕ) (hops : ℕ) → Command
  gen : (hosts packets : ℕ) → Command

-- the one that a value of the code stands for
abbrev pub stands_for : Asked → Command
stands_for (Check asked) = check asked.design.now asked.conflicts asked.rounds
stands_for (Compile asked) =
    compile asked.design.now asked.defs.now asked.out.now asked.conflicts asked.rounds
stands_for (Update asked) =
    update asked.design.now asked.defs.now asked.out.now asked.conflicts
stands_for (Step asked) = step asked.design.now asked.defs.now asked.level asked.file.now
stands_for (Forward asked) = forward asked.out.now asked.packets.now asked.hops
stands_for (Gen asked) = gen asked.hosts asked.packets
