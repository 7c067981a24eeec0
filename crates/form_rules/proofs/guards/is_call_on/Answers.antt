use Rattle.std.proofs.Common.{◌∙◌, ap, map}
use Rattle.cocoon_num.specs.Tree as tree
use Rattle.cocoon_syntax.specs.TreeOf.{expr_of, exprs_of}
use Rattle.cocoon_types.specs.SameTrees.{same_exprs}
use Rattle.form_rules.proofs.CallTrees.{called_on}
use Rattle.form_rules.proofs.guards.is_call_on.Goals as goal

pub returns-in-Call : goal.returns-in-Call
returns-in-Call c =
    c.is_argument.ensures ∙ ap (λ es. same_exprs (exprs_of (map expr_of es)) (tree.expr (tree.name 0 c.args.name.now) tree.no_exprs)) c.deref.ensures.value
    ∙ called_on c.args.expr.now c.in-Call.field-0 c.in-Call.args c.args.name.now c.in-Call.is
