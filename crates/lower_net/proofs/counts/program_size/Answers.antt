use Rattle.std.proofs.Common.{ap, ◌∙◌}
use Rattle.std.proofs.lemmas.Result.{IfOk-weaker}
use Rattle.cocoon_syntax.specs.TreeOf.{design_of}
use Rattle.lowering.specs.Counting.{all_parts}
use Rattle.lower_net.specs.NetDeclarations.{switch_role}
use Rattle.lower_net.proofs.Whole.{all-functions}
use Rattle.lower_net.proofs.counts.program_size.Goals as goal

pub returns : goal.returns
returns c =
    let d = design_of c.args.checked.now in
    let r = switch_role d c.args.ingress.now in
    IfOk-weaker c.code_size.result _ _ (λ n h. h ∙ ap (λ fs. all_parts fs r.body) (all-functions d c.args.functions c.requires)) c.code_size.ensures
