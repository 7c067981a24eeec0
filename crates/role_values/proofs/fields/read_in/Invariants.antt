use Rattle.std.proofs.Common.{◌≡◌, drop, map}
use Rattle.cocoon_syntax.specs.TreeOf.{param_of}
use Rattle.cocoon_types.specs.Design.{read_in}
use Rattle.role_values.proofs.fields.read_in.Given as goal

abbrev pub invariant-loop-index : goal.invariant-loop-index
invariant-loop-index l = read_in (map param_of l.params) l.numbers l.field ≡ read_in (map param_of (drop l.index l.params)) (drop l.index l.numbers) l.field
