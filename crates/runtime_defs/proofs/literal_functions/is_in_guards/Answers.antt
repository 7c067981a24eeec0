use Rattle.cocoon_num.specs.Lists.{is_one_of}
use Rattle.cocoon_syntax.specs.TreeOf.{design_of}
use Rattle.cocoon_types.specs.DefsRules.{guard_calls}
use Rattle.runtime_defs.specs.Sets.{entry_role, role_guard, switch_guards}
use Rattle.runtime_defs.proofs.LiteralCalls.{guard_parts, one-false, one-true}
use Rattle.runtime_defs.proofs.literal_functions.is_in_guards.Goals as goal

pub returns-then-is_in_switch_guards : goal.returns-then-is_in_switch_guards
returns-then-is_in_switch_guards c =
    let d = design_of c.args.checked.now in
    let x = c.args.function.now in
    one-true (is_one_of (guard_calls d) x) (is_one_of (switch_guards d) x) (is_one_of (role_guard (entry_role d)) x) c.is_in_switch_guards.result
    (guard_parts d x) c.is_in_switch_guards.ensures c.if-is_in_switch_guards.true

pub returns-else-is_in_switch_guards : goal.returns-else-is_in_switch_guards
returns-else-is_in_switch_guards c =
    let d = design_of c.args.checked.now in
    let x = c.args.function.now in
    one-false (is_one_of (guard_calls d) x) (is_one_of (switch_guards d) x) (is_one_of (role_guard (entry_role d)) x) c.is_in_switch_guards.result c.is_in_host_guard.result
    (guard_parts d x) c.is_in_switch_guards.ensures c.if-is_in_switch_guards.false c.is_in_host_guard.ensures
