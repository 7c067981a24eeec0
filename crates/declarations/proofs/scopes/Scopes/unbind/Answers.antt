use Rattle.std.proofs.Common.{subst}
use Rattle.declarations.specs.Kept.{IsKept}
use Rattle.declarations.proofs.Keeping.{unbinding, last_held}
use Rattle.declarations.proofs.scopes.Scopes.unbind.Goals as goal

pub invariant_of-self : goal.invariant_of-self
invariant_of-self c =
    unbinding c.pop.new.self.items c.in-Some.last c.self.inside.widths c.insert.new.self
    (subst (λ xs. IsKept xs c.self.inside.widths) c.in-Some.ensures.items c.self.invariant)
    c.in_ok-insert.ensures.updates

pub invariant_of-self-in_err-insert : goal.invariant_of-self-in_err-insert
invariant_of-self-in_err-insert c =
    absurd (last_held c.pop.new.self.items c.in-Some.last c.self.inside.widths
    (subst (λ xs. IsKept xs c.self.inside.widths) c.in-Some.ensures.items c.self.invariant)
    c.in_err-insert.ensures.absent)
