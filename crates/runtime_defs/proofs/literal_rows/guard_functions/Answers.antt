use Rattle.std.proofs.Common.{◌++◌, [], ap, ◌∙◌}
use Rattle.std.proofs.lemmas.List.{append-nil}
use Rattle.cocoon_num.specs.Lists.{is_one_of}
use Rattle.cocoon_syntax.specs.TreeOf.{design_of}
use Rattle.cocoon_types.specs.DefsRules.{guard_calls}
use Rattle.runtime_defs.specs.Sets.{entry_role, role_guard, switch_guards}
use Rattle.runtime_defs.proofs.Calls.{guards-alike}
use Rattle.runtime_defs.proofs.Members.{holds-alike}
use Rattle.runtime_defs.proofs.literal_rows.guard_functions.Goals as goal

pub returns : goal.returns
returns c =
    let d = design_of c.args.checked.now in
    holds-alike d c.add_switch_guards.new.set (switch_guards d ++ (role_guard (entry_role d) ++ [])) (guard_calls d)
    (λ x. ap (λ l. is_one_of (switch_guards d ++ l) x) (append-nil (role_guard (entry_role d))) ∙ guards-alike d x)
    (c.in_ok-add_switch_guards.ensures (role_guard (entry_role d) ++ []) (c.in_ok-add_host_guard.ensures [] (c.new-set.ensures d)))
