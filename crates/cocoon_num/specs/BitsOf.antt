-- Cited by the clauses of the operations of `Bits`: the value that a number of the code stands for.
use Rattle.cocoon_num.specs.Values.{Value, number}
use Rattle.cocoon_num.specs.declared.bits.Bits.{Bits}

abbrev pub value_of : Bits → Value
value_of b = number b.width b.value
