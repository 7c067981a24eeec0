use Rattle.std.proofs.Common.{◌≡◌, ◌∙◌, ◌∷◌, [], ℕ, Bool, false, List, rules, map, ap, ap₂, subst, sym}
use Rattle.std.proofs.lemmas.Result.{IfOk-weaker}
use Rattle.cocoon_syntax.specs.TreeOf.{block_of, header_of, stmt_of}
use Rattle.form_rules.specs.declared.scope.FieldName.{FieldName}
use Rattle.form_rules.specs.declared.steps.Step.{Step}
use Rattle.form_rules.specs.Following.{Names, at_choice, at_start, body_names, is_hidden, names_of}
use Rattle.form_rules.specs.Steps.{is_hidden_by}
use Rattle.form_rules.proofs.LeastHidden.{same_least, body_hidden}
use Rattle.form_rules.proofs.hidden_choice.hidden_among.Goals as goal

pub returns : goal.returns
returns c =
    IfOk-weaker c.least_hidden.result _ _ (λ found least.
    same_least _ _ c.args.choices.now found
    (λ k. body_hidden k (map header_of c.args.headers.now) (block_of (map stmt_of c.args.body.now)) (record { choice = 0; fields = c.in_ok-field_names.field-0.items; vars = c.new.result.items }) _ _ _
    c.in_ok-steps.ensures.steps c.deref-2.ensures.value c.in_ok-field_names.ensures c.new.ensures.items
    (c.deref.ensures.value ∙ ap (λ (n : Names). n.fields) c.in_ok-steps.ensures.names ∙ c.in_ok-field_names.ensures))
    least) c.least_hidden.ensures
