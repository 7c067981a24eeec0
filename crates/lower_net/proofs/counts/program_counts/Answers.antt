use Rattle.std.proofs.Common.{ap, sym, ◌∙◌}
use Rattle.cocoon_syntax.specs.TreeOf.{design_of}
use Rattle.lowering.specs.Lower.{callees}
use Rattle.lowering.specs.Whole.{role_lowered, role_vars}
use Rattle.lowering.specs.Counting.{all_tables}
use Rattle.lowering.proofs.Counted.{all_counted, forks_counted}
use Rattle.lower_net.specs.NetDeclarations.{switch_role}
use Rattle.lower_net.proofs.Whole.{all-functions}
use Rattle.lower_net.proofs.counts.program_counts.Goals as goal

pub returns-clause-tables : goal.returns-clause-tables
returns-clause-tables c = λ s.
    let d = design_of c.args.checked.now in
    let r = switch_role d c.args.ingress.now in
    c.in_ok-tables.ensures ∙ ap (λ fs. all_tables fs r.body) (all-functions d c.args.functions c.requires)
    ∙ sym (all_counted r.headers r.functions r.port (role_vars r s) (record { app = 0; var = 0; field = 1; site = 1 }) (role_lowered r s).next r.body)

pub returns-clause-forks : goal.returns-clause-forks
returns-clause-forks c = λ s.
    let r = switch_role (design_of c.args.checked.now) c.args.ingress.now in
    c.in_ok-forks.ensures ∙ sym (forks_counted (callees r.headers r.functions r.port) (role_vars r s) (record { app = 0; var = 0; field = 1; site = 1 }) r.body)
