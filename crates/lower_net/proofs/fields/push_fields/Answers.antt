use Rattle.std.proofs.Common.{◌++◌, map, sym, ap, ◌∙◌}
use Rattle.std.proofs.lemmas.List.{append-nil, drop_all}
use Rattle.lower_code.specs.Growth.{made_in, made_of}
use Rattle.lowering.specs.SwitchProgram.{fields_in}
use Rattle.p4_ir.specs.Program.{field_of}
use Rattle.lower_net.proofs.Walks.{fields-split, walk-step}
use Rattle.lower_net.proofs.fields.push_fields.Goals as goal

pub loop-part-preserved : goal.loop-part-preserved
loop-part-preserved c = λ d.
    walk-step fields_in fields-split (made_of d) c.args.made.now c.loop-part.part-index c.part-item.result c.loop-part-test.true c.part-item.is
    (map field_of c.loop-part.fields.items) (map field_of c.push_field.new.fields.items) _ (c.in_ok-push_field.ensures d) (c.loop-part.invariant d)

pub returns : goal.returns
returns c = λ d.
    sym (append-nil (map field_of c.loop-part.fields.items))
    ∙ ap (λ xs. map field_of c.loop-part.fields.items ++ fields_in (made_in d xs)) (sym (drop_all c.loop-part.part-index c.args.made.now c.loop-part-test.false))
    ∙ c.loop-part.invariant d
