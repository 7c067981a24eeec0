-- What reading a JSON file of a form answers. The clauses of what reads JSON files cite it.
use Rattle.std.specs.Prelude.{◌≡◌, ℕ, List, Result, Err}
use Rattle.serde_json.specs.Data.{Data}
use Rattle.json_forms.specs.Values.{IsJson}
use Rattle.json_forms.specs.declared.fault.FormFault.{FormFault}
use Rattle.json_forms.specs.declared.fault.FormFault.TheVariants.{NotJson, Shape, NoMemory}

-- the bytes are JSON of a value that the form answers so
pub record Answered {A : Type 0} (form : Data → Result A (List ℕ)) (bytes : List ℕ) (answer : Result A (List ℕ)) : Type 0 where
  pub value : Data
  pub is : IsJson bytes value
  pub answers : form value ≡ answer

-- why bytes are no file of this form
abbrev pub Refused : {A : Type 0} → (Data → Result A (List ℕ)) → List ℕ → FormFault → Type 0
Refused form bytes NotJson = (d : Data) → ¬ IsJson bytes d
Refused form bytes (Shape pointer) = Answered form bytes (Err pointer)
Refused form bytes NoMemory = Unit {0}

-- why bytes have no value
abbrev pub NoValue : List ℕ → FormFault → Type 0
NoValue bytes NotJson = (d : Data) → ¬ IsJson bytes d
NoValue bytes (Shape pointer) = ⊥
NoValue bytes NoMemory = Unit {0}

-- a fault of a value is what its form answers
abbrev pub Shaped : {A : Type 0} → Result A (List ℕ) → FormFault → Type 0
Shaped answer NotJson = ⊥
Shaped answer (Shape pointer) = answer ≡ Err pointer
Shaped answer NoMemory = Unit {0}
