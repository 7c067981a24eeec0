-- Private clauses of the comparison of trees cite it: a number for each operator.
use Rattle.std.specs.Prelude.{ℕ}
use Rattle.cocoon_num.specs.Values.{BinaryOp, add, sub, bits_and, bits_or, bits_xor, concat, equal, unequal, less, less_equal, greater, greater_equal, and_, or_, implies}

-- where the operator stands in their list
abbrev pub code_of : BinaryOp → ℕ
code_of add = 0
code_of sub = 1
code_of bits_and = 2
code_of bits_or = 3
code_of bits_xor = 4
code_of concat = 5
code_of equal = 6
code_of unequal = 7
code_of less = 8
code_of less_equal = 9
code_of greater = 10
code_of greater_equal = 11
code_of and_ = 12
code_of or_ = 13
code_of implies = 14
