-- Logs and instances with one value are equal.
use Rattle.std.proofs.Common.{◌≡◌, ℕ, ℤ, List, [], ◌∷◌, refl, ap₂, pos, negsuc}
use Rattle.serde_json.specs.Data.{Data}
use Rattle.json_forms.specs.Values.{number_data, integer_data, array_data}
use Rattle.cnf_core.specs.Certificates.{Instance, Step}
use Rattle.cert_text.specs.LogsJson.{step_data, log_data, instance_data, instances_data}
use Rattle.cert_text.proofs.LogsExact.{step_made, instance_made}

-- lists are equal where their values are, if items are
pub all_apart : {A : Type 0} (of : A → Data) → ((x y : A) → of x ≡ of y → x ≡ y) → (xs ys : List A) → array_data of xs ≡ array_data of ys → xs ≡ ys
all_apart of h [] [] e = refl
all_apart of h [] (y ∷ ys) e = absurd cc
all_apart of h (x ∷ xs) [] e = absurd cc
all_apart of h (x ∷ xs) (y ∷ ys) e = ap₂ (λ z zs. z ∷ zs) (h x y cc) (all_apart of h xs ys cc)

numbers_apart : (m n : ℕ) → number_data m ≡ number_data n → m ≡ n
numbers_apart m n e = cc

integers_apart : (y z : ℤ) → integer_data y ≡ integer_data z → y ≡ z
integers_apart (pos m) (pos n) e = cc
integers_apart (pos m) (negsuc n) e = absurd cc
integers_apart (negsuc m) (pos n) e = absurd cc
integers_apart (negsuc m) (negsuc n) e = cc

steps_apart : (s t : Step) → step_data s ≡ step_data t → s ≡ t
steps_apart s t e = ap₂ step_made (all_apart integer_data integers_apart s.clause t.clause cc) (all_apart number_data numbers_apart s.hints t.hints cc)

instances_apart : (i j : Instance) → instance_data i ≡ instance_data j → i ≡ j
instances_apart i j e = ap₂ instance_made (numbers_apart i.number j.number cc) (all_apart number_data numbers_apart i.values j.values cc)

pub logs_apart : (log other : List Step) → log_data log ≡ log_data other → log ≡ other
logs_apart log other e = all_apart step_data steps_apart log other e

pub all_instances_apart : (is js : List Instance) → instances_data is ≡ instances_data js → is ≡ js
all_instances_apart is js e = all_apart instance_data instances_apart is js e
