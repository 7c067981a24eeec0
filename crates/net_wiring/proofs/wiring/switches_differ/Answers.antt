use Rattle.std.proofs.Common.{◌∙◌, ap, map, sym}
use Rattle.p4_ir.specs.declared.network.SwitchFiles.{SwitchFiles}
use Rattle.net_wiring.proofs.ItemByItem.{numbers-of, told-of}
use Rattle.net_wiring.proofs.wiring.switches_differ.Goals as goal

pub returns-clause-first : goal.returns-clause-first
returns-clause-first c =
    let old = numbers-of c.args.old.now.switches ∙ ap (map (λ (s : SwitchFiles). s.number)) (sym c.items.ensures) in
    let new = numbers-of c.args.new.now.switches ∙ ap (map (λ (s : SwitchFiles). s.number)) (sym c.items-2.ensures) in
    told-of c.differ_at.result _ _ _ _ old new c.differ_at.ensures.first

pub returns-clause-same : goal.returns-clause-same
returns-clause-same c = λ none.
    numbers-of c.args.old.now.switches ∙ ap (map (λ (s : SwitchFiles). s.number)) (sym c.items.ensures) ∙ c.differ_at.ensures.same none
    ∙ ap (map (λ (s : SwitchFiles). s.number)) c.items-2.ensures ∙ sym (numbers-of c.args.new.now.switches)
