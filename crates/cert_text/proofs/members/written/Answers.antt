use Rattle.std.proofs.Common.{◌≤◌, ◌∙◌, ap, subst, sym, Some}
use Rattle.serde_json.specs.Data.{Data, depth}
use Rattle.serde_json.specs.Read.{max_depth}
use Rattle.serde_json.specs.Written.{compact_text, has_float}
use Rattle.json_forms.proofs.JsonObjects.{object_of}
use Rattle.cert_text.specs.BudgetJson.{budget_members}
use Rattle.cert_text.proofs.BudgetValue.{budget_plain, budget_shallow}
use Rattle.cert_text.proofs.members.written.Goals as goal

pub returns : goal.returns
returns c = λ spent is.
    let value = object_of c.args.object c.in_ok-object.field-0 (budget_members spent) c.in_ok-object.was is in
    record {
      text = c.in_ok-to_vec.ensures.text (ap has_float value ∙ budget_plain spent) ∙ ap compact_text value;
      reads = (
        c.in_ok-to_vec.ensures.utf8,
        c.in_ok-to_vec.ensures.reads_back (subst (λ (d : Data). depth d ≤ max_depth) (sym value) (budget_shallow spent)) ∙ ap Some value,
      );
    }
