use Rattle.std.proofs.Common.{◌≡◌, Some, slice_get, subst, ap, sym, ◌∙◌}
use Rattle.p4_ir.specs.NetTree.{SwitchFiles}
use Rattle.net_bundle.proofs.Shared.{shared_at}
use Rattle.net_bundle.proofs.writable.SharedNetWritableNet.program.Goals as goal

pub returns : goal.returns
returns c s e =
    let found : slice_get c.args.self.now.switches.numbers c.args.index ≡ Some c.number_at-number.result =
    subst (λ ns. slice_get ns c.args.index ≡ Some c.number_at-number.result) c.items-numbers.ensures c.number_at-number.ensures in
    ap (λ (x : SwitchFiles). x.program) (shared_at c.args.self.now.switches c.args.self.now.switches.numbers c.args.index c.number_at-number.result found s e) ∙ sym c.program.ensures
