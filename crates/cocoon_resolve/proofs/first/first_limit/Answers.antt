use Rattle.std.proofs.Common.{◌∙◌, sym}
use Rattle.cocoon_num.specs.declared.limit_name.LimitName.TheVariants.{File}
use Rattle.cocoon_syntax.specs.TreeOf.{design_of}
use Rattle.cocoon_resolve.proofs.Firsts.{first_in, within_in}
use Rattle.cocoon_resolve.proofs.first.first_limit.Goals as goal

pub returns-in-Some : goal.returns-in-Some
returns-in-Some c =
    first_in (design_of c.args.design.now) c.order.result c.order.ensures c.loop-name.name-index File c.in-Some.count
    c.loop-name.invariant c.loop-name-test.true (sym c.in_ok-found.ensures ∙ c.in-Some.is)

pub loop-name-preserved : goal.loop-name-preserved
loop-name-preserved c =
    within_in (design_of c.args.design.now) c.order.result c.order.ensures c.loop-name.name-index File
    c.loop-name.invariant c.loop-name-test.true (sym c.in_ok-found.ensures ∙ c.in_default.is)
