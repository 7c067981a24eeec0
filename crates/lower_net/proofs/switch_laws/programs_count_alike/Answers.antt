use Rattle.std.proofs.Common.{sym, ◌∙◌}
use Rattle.lowering.specs.Lower.{callees}
use Rattle.lowering.specs.Whole.{role_lowered, role_vars}
use Rattle.lowering.proofs.Counted.{all_counted, forks_counted}
use Rattle.lower_net.proofs.switch_laws.programs_count_alike.Goals as goal

pub returns-clause-tables : goal.returns-clause-tables
returns-clause-tables c = λ r s t.
    all_counted r.headers r.functions r.port (role_vars r s) (record { app = 0; var = 0; field = 1; site = 1 }) (role_lowered r s).next r.body
    ∙ sym (all_counted r.headers r.functions r.port (role_vars r t) (record { app = 0; var = 0; field = 1; site = 1 }) (role_lowered r t).next r.body)

pub returns-clause-forks : goal.returns-clause-forks
returns-clause-forks c = λ r s t.
    forks_counted (callees r.headers r.functions r.port) (role_vars r s) (record { app = 0; var = 0; field = 1; site = 1 }) r.body
    ∙ sym (forks_counted (callees r.headers r.functions r.port) (role_vars r t) (record { app = 0; var = 0; field = 1; site = 1 }) r.body)
