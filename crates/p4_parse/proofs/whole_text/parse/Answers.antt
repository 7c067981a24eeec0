use Rattle.std.proofs.Common.{arith, ◌≤◌, length, sym, ◌∙◌, ap, subst}
use Rattle.p4_ir.specs.P4Text.{p4_bounds}
use Rattle.p4_texts.specs.Written.{BeginsP4}
use Rattle.p4_texts.specs.TreeOf.{text_of}
use Rattle.p4_parse.specs.Faults.{IsFirstFault}
use Rattle.p4_parse.specs.Phrases.{kinds_at}
use Rattle.parsing.proofs.Reaches.{fault_fits, reach_few}
use Rattle.p4_parse.proofs.WholeTexts.{Read, kinds_few, text_fault, text_read}
use Rattle.p4_parse.proofs.whole_text.parse.Goals as goal

pub new-source-requires : goal.new-source-requires
new-source-requires c =
    let h = c.requires.few in
    let f : length c.up_to.result.now ≤ length c.args.tokens.now = subst (λ ts. length ts ≤ length c.args.tokens.now) (sym c.up_to.ensures) (reach_few c.args.tokens.now c.first_deep-deep.result) in omega arith

pub fault_of-requires : goal.fault_of-requires
fault_of-requires c =
    let text = c.args.text.now in
    let tokens = c.args.tokens.now in
    let r : Read text tokens c.first_deep-deep.result c.new-source.result = record { ended = c.requires.ended; first_deep = c.first_deep-deep.ensures.deep; source_is = c.new-source.ensures ∙ ap (kinds_at text) c.up_to.ensures } in
    fault_fits p4_bounds BeginsP4 (kinds_at text tokens) _ (kinds_few text tokens c.requires.few) (text_fault c.reading.ensures text tokens c.first_deep-deep.result c.new-source.result r c.in-Err.stop c.in-Err.ensures)

pub returns-in-Err-clause-fault : goal.returns-in-Err-clause-fault
returns-in-Err-clause-fault c =
    let text = c.args.text.now in
    let tokens = c.args.tokens.now in
    let r : Read text tokens c.first_deep-deep.result c.new-source.result = record { ended = c.requires.ended; first_deep = c.first_deep-deep.ensures.deep; source_is = c.new-source.ensures ∙ ap (kinds_at text) c.up_to.ensures } in
    subst (IsFirstFault (kinds_at text tokens)) (sym c.fault_of.ensures) (text_fault c.reading.ensures text tokens c.first_deep-deep.result c.new-source.result r c.in-Err.stop c.in-Err.ensures)

pub returns-in-Ok-clause-reads : goal.returns-in-Ok-clause-reads
returns-in-Ok-clause-reads c =
    let text = c.args.text.now in
    let tokens = c.args.tokens.now in
    let r : Read text tokens c.first_deep-deep.result c.new-source.result = record { ended = c.requires.ended; first_deep = c.first_deep-deep.ensures.deep; source_is = c.new-source.ensures ∙ ap (kinds_at text) c.up_to.ensures } in
    (text_read c.reading.ensures text tokens c.first_deep-deep.result c.new-source.result r (text_of c.in-Ok.program) c.in-Ok.ensures).0

pub returns-in-Ok-clause-shallow : goal.returns-in-Ok-clause-shallow
returns-in-Ok-clause-shallow c =
    let text = c.args.text.now in
    let tokens = c.args.tokens.now in
    let r : Read text tokens c.first_deep-deep.result c.new-source.result = record { ended = c.requires.ended; first_deep = c.first_deep-deep.ensures.deep; source_is = c.new-source.ensures ∙ ap (kinds_at text) c.up_to.ensures } in
    (text_read c.reading.ensures text tokens c.first_deep-deep.result c.new-source.result r (text_of c.in-Ok.program) c.in-Ok.ensures).1
