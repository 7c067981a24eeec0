-- Cited by the view of `Literals` alone: the literals in order, wherever they lie.
use Rattle.std.specs.Prelude.{List}
use Rattle.cnf_core.specs.declared.lit.Lit.{Lit}
use Rattle.cnf_core.specs.declared.literals.Held.{Held}
use Rattle.cnf_core.specs.declared.literals.Held.TheVariants.{One, Two, Three, Many}

abbrev pub items_of : Held → List Lit
items_of (One lits) = lits
items_of (Two lits) = lits
items_of (Three lits) = lits
items_of (Many lits) = lits.items
