use Rattle.std.proofs.Common.{◌≡◌, ◌<◌, ◌∙◌, ap, arith, get_or, length, subst, sym}
use Rattle.std.proofs.lemmas.List.{get_or_read}
use Rattle.cnf_core.specs.Literals.{index_of}
use Rattle.proof_check.specs.Registering.{IsLast}
use Rattle.proof_check.proofs.chains.Chains.last.Goals as goal

pub returns : goal.returns
returns c = λ vars tops r.
    let hs = c.args.self.now.heads.items in
    let f = index_of c.args.top.number in
    let within : c.index-at.result < length hs = omega (arith, c.index-at.ensures, c.requires) in
    let value : c.index.result.now ≡ get_or hs f 0 = get_or_read hs c.index-at.result c.index.result.now within c.index.ensures 0 ∙ ap (λ i. get_or hs i 0) c.index-at.ensures in
    subst (IsLast tops f (length tops)) (sym value) (r.heads f)
