use Rattle.std.proofs.Common.{◌+◌}
use Rattle.command_laws.proofs.Telling.{reported}
use Rattle.command_laws.proofs.Travelling.{within_n}
use Rattle.command_laws.proofs.forwarding.forward_tells_the_design.Goals as goal

pub returns-clause-report : goal.returns-clause-report
returns-clause-report c = reported c.one_network.ensures c.calls_keep_more.ensures

pub returns-clause-exact : goal.returns-clause-exact
returns-clause-exact c = λ x a bytes ds are d.
    let goes = x.compiled.exact a bytes d.choices x.hops d.host d.bytes in
    (λ h. goes.0 ((are.exact d).0 h), λ h. (are.exact d).1 (goes.1 h))

pub returns-clause-whole : goal.returns-clause-whole
returns-clause-whole c = λ x a bytes none more choices b sent goes.
    let net = x.compiled.net in
    let delivered = within_n net (λ m n. c.travellers_go_on.ensures net m n) a bytes choices x.hops more b sent none
    ((x.compiled.exact a bytes choices (x.hops + more) b sent).1 goes) in
    (x.compiled.exact a bytes choices x.hops b sent).0 delivered

pub returns-clause-within : goal.returns-clause-within
returns-clause-within c = λ x a bytes ds are d h. x.compiled.within a bytes d.choices x.hops d.host d.bytes ((are.exact d).0 h)
