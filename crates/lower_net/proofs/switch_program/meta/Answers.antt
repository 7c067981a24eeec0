use Rattle.std.proofs.Common.{◌≡◌, [], ◌∷◌, ◌++◌, codes, map, sym, ap, ◌∙◌}
use Rattle.lower_code.specs.Growth.{made_in}
use Rattle.lowering.specs.SwitchProgram.{fields_in}
use Rattle.p4_ir.specs.Program.{field_of}
use Rattle.lower_net.proofs.Walks.{fields-both}
use Rattle.lower_net.proofs.switch_program.meta.Goals as goal

pub returns : goal.returns
returns c = λ d.
    let a = fields_in (made_in d c.args.ingress.now) in
    let b = fields_in (made_in d c.args.egress.now) in
    let first : map field_of c.push.new.self.items ≡ record { name = codes "site"; width = 8 } ∷ [] =
    ap (map field_of) (c.in_ok-push.ensures.items ∙ ap (λ xs. xs ++ c.in_ok-site_field.field-0 ∷ []) c.new-fields.ensures.items) ∙ ap (λ x. x ∷ []) c.in_ok-site_field.ensures in
    c.in_ok-push_fields-2.ensures d ∙ ap (λ xs. xs ++ b) (c.in_ok-push_fields.ensures d ∙ ap (λ xs. xs ++ a) first)
    ∙ ap (λ xs. record { name = codes "site"; width = 8 } ∷ xs) (sym (fields-both (made_in d c.args.ingress.now) (made_in d c.args.egress.now)))
