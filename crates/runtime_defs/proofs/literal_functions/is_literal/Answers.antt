use Rattle.cocoon_num.specs.Lists.{is_one_of}
use Rattle.cocoon_syntax.specs.TreeOf.{design_of}
use Rattle.cocoon_types.specs.DefsRules.{guard_calls}
use Rattle.runtime_defs.specs.Printable.{literal_functions}
use Rattle.runtime_defs.specs.Sets.{switch_forks}
use Rattle.runtime_defs.proofs.LiteralCalls.{literal_parts, one-false}
use Rattle.runtime_defs.proofs.literal_functions.is_literal.Goals as goal

pub returns-else-is_in_guards : goal.returns-else-is_in_guards
returns-else-is_in_guards c =
    let d = design_of c.args.checked.now in
    let x = c.args.function.now in
    one-false (is_one_of (literal_functions d) x) (is_one_of (guard_calls d) x) (is_one_of (switch_forks d) x) c.is_in_guards.result c.is_in_switch_forks.result
    (literal_parts d x) c.is_in_guards.ensures c.if-is_in_guards.false c.is_in_switch_forks.ensures
