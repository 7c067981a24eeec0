-- The JSON values of logs and of instances, as the crate serde_json has them. Cited by the clauses of what writes them, by the
-- laws, and by the definitions of files that have them. It follows "Certificates" in docs/FORMATS.md.
use Rattle.std.specs.Prelude.{List, [], ◌∷◌}
use Rattle.serde_json.specs.Data.{Data}
use Rattle.json_forms.specs.Values.{number_data, integer_data, array_data, these}
use Rattle.cnf_core.specs.Certificates.{Instance, Step}

-- [[LIT],[HINT]]
abbrev pub step_data : Step → Data
step_data s = these (array_data integer_data s.clause ∷ array_data number_data s.hints ∷ [])

-- [STEP]
abbrev pub log_data : List Step → Data
log_data steps = array_data step_data steps

-- [ASSUMPTION,[VALUE]]
abbrev pub instance_data : Instance → Data
instance_data i = these (number_data i.number ∷ array_data number_data i.values ∷ [])

-- [INSTANCE]
abbrev pub instances_data : List Instance → Data
instances_data is = array_data instance_data is
