use Rattle.std.proofs.Common.{subst, ◌++◌, ◌∷◌, []}
use Rattle.p4_resolve.specs.Judged.{Sees}
use Rattle.p4_resolve.proofs.NameFacts.{seen_more}
use Rattle.p4_resolve.proofs.table_rules.action_fits.Goals as goal

pub returns-then-is_new-clause-seen : goal.returns-then-is_new-clause-seen
returns-then-is_new-clause-seen c = λ names seen.
    subst (λ x. Sees c.is_new.new.names.keys (names ++ x ∷ [])) c.bytes-action.ensures
    (seen_more c.bytes-action.result.now c.args.actions.now.keys c.is_new.new.names.keys c.in_ok-is_new.is_new names seen c.in_ok-is_new.ensures)

pub returns-else-is_new-clause-seen : goal.returns-else-is_new-clause-seen
returns-else-is_new-clause-seen c = λ names seen.
    subst (λ x. Sees c.is_new.new.names.keys (names ++ x ∷ [])) c.bytes-action.ensures
    (seen_more c.bytes-action.result.now c.args.actions.now.keys c.is_new.new.names.keys c.in_ok-is_new.is_new names seen c.in_ok-is_new.ensures)
