-- Cited by the clauses of all that reads or binds variables: the variables that some bindings stand for.
use Rattle.std.specs.Prelude.{List, map, reverse}
use Rattle.cocoon_types.specs.Val as val
use Rattle.role_values.specs.Meant.{meant}
use Rattle.role_values.specs.declared.bindings.Binding.{Binding}

-- the variable and its value
abbrev pub binding_of : Binding → val.Binding
binding_of b = record { name = b.name; value = meant b.value }

-- the variables, the last first
abbrev pub env_of : List Binding → val.Env
env_of bs = map binding_of (reverse bs)
