use Rattle.std.proofs.Common.{ap₂, ◌∙◌}
use Rattle.std.specs.Prelude.{unwrap_or}
use Rattle.p4_resolve.proofs.ScopeFacts.{place_is}
use Rattle.p4_resolve.proofs.scope.place.Goals as goal

pub returns : goal.returns
returns c = λ names h. c.unwrap_or.ensures ∙ ap₂ unwrap_or (c.number.ensures ∙ h.numbers c.args.name.now) (c.count.ensures ∙ h.count) ∙ place_is names c.args.name.now
