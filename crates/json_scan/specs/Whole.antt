-- What the bytes of a whole text stand for. The clauses of what reads whole texts cite it.
use Rattle.std.specs.Prelude.{◌≡◌, ℕ, List}
use Rattle.serde_json.specs.Data.{Data}
use Rattle.json_forms.specs.Values.{IsJson}

-- the bytes are JSON of a value for which the form gives this
pub record Stands {A : Type 0} (form : Data → A) (bytes : List ℕ) (a : A) : Type 0 where
  pub found : Data
  pub is_json : IsJson bytes found
  pub is : form found ≡ a
