-- What is made of what was read. Clauses of `joins` cite it, and of the parsers.
use Rattle.std.specs.Prelude.{◌≡◌, ℕ, Result, Ok, Err}
use Rattle.parsing.specs.declared.stop.Stop.{Stop}
use Rattle.parsing.specs.declared.stop.Stop.TheVariants.{NoMemory}

-- what was read, and this before it
abbrev pub with_first : {A B : Type 0} → A → Result (B × ℕ) Stop → Result ((A × B) × ℕ) Stop
with_first x (Ok found) = Ok ((x, found.0), found.1)
with_first x (Err stop) = Err stop

-- the tree that is made of what was read, unless memory ran out
abbrev pub Makes : {A B C D : Type 0} → (A → C) → (B → D) → (C → D) → Result (A × ℕ) Stop → Result (B × ℕ) Stop → Type 0
Makes f g make (Ok found) (Ok made) = (g made.0 ≡ make (f found.0)) × (made.1 ≡ found.1)
Makes f g make (Ok found) (Err stop) = stop ≡ NoMemory
Makes f g make (Err stop) result = result ≡ Err stop
