-- Calls that are kept, each with its value.
use Rattle.std.proofs.Common.{◌≡◌, ℕ, Bool, true, false, cond, List, Option, Some, refl, sym, ap, subst, ◌∙◌, Vec, Global, BTreeMap}
use Rattle.std.specs.BTreeMap.{UpdatesBy}
use Rattle.cocoon_num.specs.Names.{same_name}
use Rattle.numbering.proofs.NameFacts.{key_cmp, same-true, value-updated}
use Rattle.cocoon_num.specs.Tree.{Design}
use Rattle.cocoon_num.specs.declared.fun_table.FunTable.{FunTable}
use Rattle.role_values.specs.Kept.{AreValues, IsValueOf, kept_at}
use Rattle.role_values.specs.declared.kept.KeptCalls.{KeptCalls}
use Rattle.role_values.specs.declared.value.Value.{Value}

-- one more value
pub kept-more : (d : Design) (ts : List (Option FunTable)) (old : KeptCalls) (values : BTreeMap (Vec ℕ Global) (Option Value)) (k : Vec ℕ Global) (v : Option Value)
    → AreValues d ts old → IsValueOf d ts k.items v → UpdatesBy key_cmp (key_cmp k) old.values values (Some v)
    → AreValues d ts (record { values = values })
kept-more d ts old values k v h is up = record { are = λ key w e. by key w (same_name key k.items) refl (sym (value-updated old.values values k (Some v) up key) ∙ e) }
  where
    by : (key : List ℕ) (w : Option Value) (b : Bool) → same_name key k.items ≡ b → cond (same_name key k.items) (Some v) (kept_at old key) ≡ Some w → IsValueOf d ts key w
    by key w true e q =
        let same : v ≡ w = cc (ap (λ c. cond c (Some v) (kept_at old key)) e) in
        subst (λ z. IsValueOf d ts z w) (sym (same-true key k.items e)) (subst (IsValueOf d ts k.items) same is)
    by key w false e q = h.are key w (sym (ap (λ c. cond c (Some v) (kept_at old key)) e) ∙ q)
