-- Cited by the other definitions of this crate, and by the clauses of what reads clauses: their literals as signed numbers.
use Rattle.std.specs.Prelude.{ℤ, List, map}
use Rattle.cnf_core.specs.declared.clauses.Clause.{Clause}

abbrev pub literals : Clause → List ℤ
literals c = map (λ l. l.number) c.lits
