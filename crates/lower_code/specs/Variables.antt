-- Cited by the clauses of all that reads or binds variables: the variables of the definitions that those of the code
-- stand for.
use Rattle.std.specs.Prelude.{List, map, reverse}
use Rattle.p4_ir.specs.P4Tree.{P4Expr, p_lit, p_port, p_meta}
use Rattle.lowering.specs.Lower as lower
use Rattle.lower_code.specs.declared.variables.Reading.{Reading}
use Rattle.lower_code.specs.declared.variables.Reading.TheVariants.{Switch, Port, Meta}
use Rattle.lower_code.specs.declared.variables.Variable.{Variable}

-- what a variable is read as
abbrev pub reading_of : Reading → P4Expr
reading_of (Switch s) = p_lit 16 s
reading_of Port = p_port
reading_of (Meta i) = p_meta i

-- the variable
abbrev pub variable_of : Variable → lower.Variable
variable_of v = record { name = v.name.now; expr = reading_of v.reading }

-- the variables, the last that was bound first
abbrev pub variables_of : List Variable → List lower.Variable
variables_of vs = map variable_of (reverse vs)
