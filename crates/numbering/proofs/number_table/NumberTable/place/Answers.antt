use Rattle.std.proofs.Common.{Some, None, ◌∙◌, ap}
use Rattle.numbering.proofs.NumberFacts.{place_is}
use Rattle.numbering.proofs.number_table.NumberTable.place.Goals as goal

pub returns-in-Some-clause-first : goal.returns-in-Some-clause-first
returns-in-Some-clause-first c = λ numbers h.
    let t = c.args.self.now in
    ap (λ o. elim o [ None ↦ t.count | Some i ↦ i ]) c.in-Some.ensures ∙ place_is t numbers h c.args.number

pub returns-in-None-clause-first : goal.returns-in-None-clause-first
returns-in-None-clause-first c = λ numbers h.
    let t = c.args.self.now in
    ap (λ o. elim o [ None ↦ t.count | Some i ↦ i ]) c.in-None.ensures ∙ place_is t numbers h c.args.number
