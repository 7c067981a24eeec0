use Rattle.std.proofs.Common.{◌≡◌, Some, map, slice_get, subst, sym, ◌∙◌}
use Rattle.p4_ir.specs.NetOf.{switch_of}
use Rattle.p4_ir.specs.NetTree.{SwitchFiles}
use Rattle.net_bundle.proofs.Shared.{found_has}
use Rattle.net_bundle.proofs.writable.NetDataWritableNet.program.Goals as goal

pub returns : goal.returns
returns c s e =
    let found : slice_get (map switch_of c.args.self.now.switches) c.args.index ≡ Some (switch_of c.switch_at-switch.result.now) =
    subst (λ xs. slice_get (map switch_of xs) c.args.index ≡ Some (switch_of c.switch_at-switch.result.now)) c.items-switches.ensures c.switch_at-switch.ensures in
    found_has (λ (x : SwitchFiles). x.program) (map switch_of c.args.self.now.switches) c.args.index (switch_of c.switch_at-switch.result.now) found s e ∙ sym c.of.ensures
