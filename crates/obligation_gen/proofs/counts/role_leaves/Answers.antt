use Rattle.std.proofs.Common.{rules, ◌≡◌, ◌∙◌, ap, map, Some, option_map}
use Rattle.cocoon_syntax.specs.TreeOf.{block_of, body_of, design_of, role_of, stmt_of}
use Rattle.cocoon_types.specs.Design.{role_at}
use Rattle.cocoon_types.specs.Limits.{reported}
use Rattle.obligation_gen.specs.Weighed.{leaves_in, weighed_in}
use Rattle.obligation_gen.proofs.Tables.{role_weighs}
use Rattle.obligation_gen.proofs.counts.role_leaves.Goals as goal

pub returns-in-Some-body : goal.returns-in-Some-body
returns-in-Some-body c =
    let is : role_at c.args.level (design_of c.args.checked.now) c.args.name.now ≡ Some (role_of c.in-Some.role.now) = search rules in
    c.body_leaves.ensures
    ∙ ap (λ ss. reported (weighed_in (leaves_in c.args.table.now) (block_of (map stmt_of ss))).ended) c.deref.ensures.value
    ∙ ap reported (role_weighs (leaves_in c.args.table.now) (role_at c.args.level (design_of c.args.checked.now)) c.args.name.now (role_of c.in-Some.role.now) (block_of (map stmt_of c.in-Some-body.body.items)) is (ap (option_map body_of) c.in-Some-body.is))
