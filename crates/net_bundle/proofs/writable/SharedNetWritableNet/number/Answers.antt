use Rattle.std.proofs.Common.{◌≡◌, Some, slice_get, subst, ap}
use Rattle.p4_ir.specs.NetTree.{SwitchFiles}
use Rattle.net_bundle.proofs.Shared.{shared_at}
use Rattle.net_bundle.proofs.writable.SharedNetWritableNet.number.Goals as goal

pub returns : goal.returns
returns c s e =
    let found : slice_get c.args.self.now.switches.numbers c.args.index ≡ Some c.number_at.result =
    subst (λ ns. slice_get ns c.args.index ≡ Some c.number_at.result) c.items-numbers.ensures c.number_at.ensures in
    ap (λ (x : SwitchFiles). x.number) (shared_at c.args.self.now.switches c.args.self.now.switches.numbers c.args.index c.number_at.result found s e)
