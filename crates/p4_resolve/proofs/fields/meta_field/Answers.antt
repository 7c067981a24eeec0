use Rattle.std.proofs.Common.{◌≡◌, ap, ap₂, sym, refl, ◌∙◌}
use Rattle.std.proofs.lemmas.Result.{IfOk-weaker, IfErr-weaker}
use Rattle.p4_ir.specs.P4Kinds.{is_meta_name}
use Rattle.p4_ir.specs.P4Tree.{P4Field}
use Rattle.p4_ir.specs.Program as ir
use Rattle.p4_texts.specs.Meant.{meta_meant}
use Rattle.p4_texts.specs.TreeOf.{field_of}
use Rattle.p4_resolve.specs.FieldForms.{field_fits, meta_piece}
use Rattle.p4_resolve.proofs.KeepFacts.{keeps_one, stops_one}
use Rattle.p4_resolve.proofs.fields.meta_field.Goals as goal

pub returns-clause-keeps : goal.returns-clause-keeps
returns-clause-keeps c = λ names seen.
    let f = field_of c.args.field.now in
    let name : c.bytes-name.result.now ≡ (meta_meant f).name = c.bytes-name.ensures in
    let named : c.is_meta_name.result ≡ is_meta_name (meta_meant f).name = c.is_meta_name.ensures ∙ ap is_meta_name name in
    IfOk-weaker c.declared.result _ _ (λ made d. keeps_one (meta_piece names f) (meta_meant f) c.args.at names c.bytes-name.result.now f.width c.is_meta_name.result c.declared.new.before.keys (ir.field_of made.0) made.1
    refl (sym (ap₂ (λ n b. field_fits names n f.width b) name named)) (ap (λ n. let g : P4Field = record { name = n; width = f.width } in g) (sym name)) d) (c.declared.ensures.passes names seen)

pub returns-clause-stops : goal.returns-clause-stops
returns-clause-stops c = λ names seen.
    let f = field_of c.args.field.now in
    let name : c.bytes-name.result.now ≡ (meta_meant f).name = c.bytes-name.ensures in
    let named : c.is_meta_name.result ≡ is_meta_name (meta_meant f).name = c.is_meta_name.ensures ∙ ap is_meta_name name in
    IfErr-weaker c.declared.result _ _ (λ fault b. stops_one (meta_piece names f) c.args.at (field_fits names c.bytes-name.result.now f.width c.is_meta_name.result) fault
    (sym (ap₂ (λ n b. field_fits names n f.width b) name named)) b) (c.declared.ensures.breaks names seen)
