use Rattle.std.proofs.Common.{◌≡◌, ◌++◌, map}
use Rattle.p4_ir.specs.Program.{expr_of, stmt_of}
use Rattle.lowering.specs.Lower.{sets}
use Rattle.lower_code.proofs.calls.set_fields.Given as goal

abbrev pub invariant-loop-arg : goal.invariant-loop-arg
invariant-loop-arg l =
    map stmt_of l.fn.code.items ++ sets l.first (map expr_of l.fn.args.items)
    ≡ map stmt_of l.code.items ++ sets l.field (map expr_of l.arg-iterator.rest.items)
