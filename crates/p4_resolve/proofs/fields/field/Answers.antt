use Rattle.std.proofs.Common.{◌≡◌, codes, ap, ap₂, sym, refl, ◌∙◌}
use Rattle.std.proofs.lemmas.Result.{IfOk-weaker, IfErr-weaker}
use Rattle.p4_ir.specs.P4Tree.{P4Field}
use Rattle.p4_ir.specs.Program as ir
use Rattle.cocoon_num.specs.Tokens.{is_run}
use Rattle.p4_texts.specs.Meant.{field_meant, rest_after}
use Rattle.p4_texts.specs.TreeOf.{field_of}
use Rattle.p4_resolve.specs.FieldForms.{field_fits, field_piece}
use Rattle.p4_resolve.proofs.KeepFacts.{keeps_one, stops_one}
use Rattle.p4_resolve.proofs.fields.field.Goals as goal

pub returns-clause-keeps : goal.returns-clause-keeps
returns-clause-keeps c = λ names seen.
    let f = field_of c.args.field.now in
    let name : c.rest_after-name.result.now ≡ (field_meant f).name = c.rest_after-name.ensures ∙ ap (rest_after (codes "f_")) c.bytes.ensures in
    let named : c.is_run.result ≡ is_run (field_meant f).name = c.is_run.ensures ∙ ap is_run name in
    IfOk-weaker c.declared.result _ _ (λ made d. keeps_one (field_piece names f) (field_meant f) c.args.at names c.rest_after-name.result.now f.width c.is_run.result c.declared.new.before.keys (ir.field_of made.0) made.1
    refl (sym (ap₂ (λ n b. field_fits names n f.width b) name named)) (ap (λ n. let g : P4Field = record { name = n; width = f.width } in g) (sym name)) d) (c.declared.ensures.passes names seen)

pub returns-clause-stops : goal.returns-clause-stops
returns-clause-stops c = λ names seen.
    let f = field_of c.args.field.now in
    let name : c.rest_after-name.result.now ≡ (field_meant f).name = c.rest_after-name.ensures ∙ ap (rest_after (codes "f_")) c.bytes.ensures in
    let named : c.is_run.result ≡ is_run (field_meant f).name = c.is_run.ensures ∙ ap is_run name in
    IfErr-weaker c.declared.result _ _ (λ fault b. stops_one (field_piece names f) c.args.at (field_fits names c.rest_after-name.result.now f.width c.is_run.result) fault
    (sym (ap₂ (λ n b. field_fits names n f.width b) name named)) b) (c.declared.ensures.breaks names seen)
