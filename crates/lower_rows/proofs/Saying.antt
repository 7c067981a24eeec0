-- What first rows say.
use Rattle.std.proofs.Common.{◌≡◌, ℕ, ◌==◌, Bool, List, Some, if◌then◌else◌, ap₂, ◌∙◌, Vec, Global, BTreeMap}
use Rattle.std.specs.BTreeMap.{UpdatesBy}
use Rattle.cocoon_num.specs.Names.{same_name}
use Rattle.cocoon_num.specs.declared.fun_table.FunRow.{FunRow}
use Rattle.declarations.proofs.NameFacts.{key_cmp, value-updated}
use Rattle.lower_rows.specs.FirstRows.{noted, said_by}
use Rattle.lower_rows.specs.declared.first_rows.FirstRows.{FirstRows}

-- a row that is noted decides for its values
pub said-noted : (old : FirstRows) (said : BTreeMap (Vec ℕ Global) Bool) (k : Vec ℕ Global) (row : FunRow) (b : Bool)
    → UpdatesBy key_cmp (key_cmp k) old.said said (Some b) → k.items ≡ row.values → b ≡ (row.result.value == 1)
    → (x : List ℕ) → said_by (record { said = said }) x ≡ noted row x (said_by old x)
said-noted old said k row b up same is x =
    value-updated old.said said k (Some b) up x
    ∙ ap₂ (λ (v : List ℕ) (c : Bool). if same_name x v then Some c else said_by old x) same is
