use Rattle.std.proofs.Common.{rules, ◌≡◌, Err}
use Rattle.cocoon_text.proofs.Closings.{switch_reads, switch_pair_fails, switch_ports_fail}
use Rattle.cocoon_text.proofs.decls.switch.Goals as goal

pub returns-in_err-into-clause-agrees : goal.returns-in_err-into-clause-agrees
returns-in_err-into-clause-agrees c =
    let e : c.from_residual.result ≡ Err c.in_err-into.field-0.0 = search rules in
    switch_pair_fails c.args.source.now c.args.pos c.in_err-into.field-0.0 c.in_err-into.ensures.is e

pub returns-in_err-ports-clause-agrees : goal.returns-in_err-ports-clause-agrees
returns-in_err-ports-clause-agrees c =
    let e : c.from_residual-in_err-ports.result ≡ Err c.in_err-ports.field-0.0 = search rules in
    switch_ports_fail c.args.source.now c.args.pos c.in_err-ports.field-0.0 c.in_ok-into.ensures.is c.in_err-ports.ensures.is e

pub returns-clause-agrees : goal.returns-clause-agrees
returns-clause-agrees c = let e = switch_reads c.args.source.now c.args.pos c.in_ok-into.ensures.is c.in_ok-ports.ensures.is in search rules
