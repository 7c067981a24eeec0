-- The object of members that were put in one after another.
use Rattle.std.proofs.Common.{◌≡◌, Result, Ok, IfOk, String, BTreeMap, Global, ap, subst, ◌∙◌}
use Rattle.cocoon_num.specs.declared.NoMemory.{NoMemory}
use Rattle.serde_json.specs.Data.{Members, object}
use Rattle.serde_json.specs.View.{members_view, view}
use Rattle.serde_json.specs.declared.value.Value.{Value, Object}
use Rattle.serde_json.proofs.Views.{view-Object}

pub object_of : (made : Result (BTreeMap (String Global) Value) NoMemory) (o : BTreeMap (String Global) Value) (members : Members) → made ≡ Ok o
    → IfOk made (λ o. members_view o.entries ≡ members) → view (Object o) ≡ object members
object_of made o members e h = view-Object o ∙ ap object (subst (λ x. IfOk x (λ o. members_view o.entries ≡ members)) e h)
