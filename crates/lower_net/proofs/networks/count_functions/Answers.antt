use Rattle.std.proofs.Common.{◌≡◌, ◌≤◌, length, rules, ap, ◌∙◌, arith}
use Rattle.cocoon_syntax.specs.TreeOf.{design_of}
use Rattle.cocoon_types.specs.Design.{functions}
use Rattle.runtime_defs.specs.Fitting.{FitsPlace}
use Rattle.lower_net.proofs.Few.{few-functions}
use Rattle.lower_net.proofs.Over.{zip_count}
use Rattle.lower_net.proofs.networks.count_functions.Goals as goal

pub overflow_cast-result : goal.overflow_cast-result
overflow_cast-result c =
    let d = design_of c.args.checked.now in
    let same : length c.tables.result.now ≡ length (functions d) = ap length c.tables.ensures.are ∙ zip_count FitsPlace (functions d) c.args.defs.now c.requires.places in
    let few : length (functions d) ≤ 128 = few-functions d c.design.ensures.resolves.limits in
    omega (arith, same, few)

pub returns : goal.returns
returns c =
    let same : length c.tables.result.now ≡ length (functions (design_of c.args.checked.now)) =
    ap length c.tables.ensures.are ∙ zip_count FitsPlace (functions (design_of c.args.checked.now)) c.args.defs.now c.requires.places in
    search rules
