use Rattle.std.proofs.Common.{◌==◌, ◌∙◌, ap₂}
use Rattle.cocoon_syntax.specs.TreeOf.{binary_of}
use Rattle.form_rules.proofs.Operators.{by_code}
use Rattle.form_rules.proofs.same_trees.is_binary.Goals as goal

pub returns : goal.returns
returns c = ap₂ (λ a b. a == b) c.code.ensures c.code-2.ensures ∙ by_code (binary_of c.args.op) (binary_of c.args.other)
