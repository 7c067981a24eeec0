use Rattle.std.proofs.Common.{subst}
use Rattle.obligation_gen.specs.ShownTrees.{ShowsEnd}
use Rattle.obligation_gen.proofs.Leaves.{inside_kind, sent_kind}
use Rattle.obligation_gen.proofs.refined.kind.Goals as goal

pub returns-in-Sent : goal.returns-in-Sent
returns-in-Sent c = λ d nodes of h. sent_kind d nodes _ _ _ of (subst (λ e. ShowsEnd d nodes e of) c.in-Sent.is h)

pub returns-in-Inside : goal.returns-in-Inside
returns-in-Inside c = λ d nodes of h. inside_kind d nodes _ _ _ of (subst (λ e. ShowsEnd d nodes e of) c.in-Inside.is h)
