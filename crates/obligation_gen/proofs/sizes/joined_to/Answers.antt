use Rattle.std.proofs.Common.{◌≡◌, ◌+◌, ◌*◌, ap, ◌∙◌}
use Rattle.cocoon_types.specs.Limits.{reported}
use Rattle.obligation_gen.specs.Sent.{role_in}
use Rattle.obligation_gen.specs.Joined.{count_to, sent}
use Rattle.obligation_gen.proofs.Joining.{pairs}
use Rattle.obligation_gen.proofs.sizes.joined_to.Goals as goal

pub returns : goal.returns
returns c =
    let old = c.args.old.now in
    let end = c.args.leaf.now.end in
    let n = count_to (role_in end) old in
    let many : c.count_to.result ≡ reported n = c.count_to.ensures ∙ ap (λ r. reported (count_to r old)) c.role.ensures in
    let each : c.saturating_add-each.result ≡ reported (reported (reported (sent end) * 2) + 1) =
    c.saturating_add-each.ensures ∙ ap (λ x. reported (x + 1)) (c.saturating_mul.ensures ∙ ap (λ x. reported (x * 2)) c.sent.ensures) in
    c.saturating_mul-2.ensures ∙ ap (λ x. reported (x * c.saturating_add-each.result)) many ∙ ap (λ x. reported (reported n * x)) each ∙ pairs n (sent end)
