-- The values of logs and of instances: that they have no fraction, and that they are shallow.
use Rattle.std.proofs.Common.{◌≡◌, ◌≤◌, List, false, refl, arith}
use Rattle.serde_json.specs.Data.{depth}
use Rattle.serde_json.specs.Written.{has_float}
use Rattle.json_forms.specs.Values.{number_data, integer_data}
use Rattle.json_forms.proofs.Plain.{no_float, within, number_plain, number_flat, integer_plain, integer_flat}
use Rattle.cnf_core.specs.Certificates.{Instance, Step}
use Rattle.cert_text.specs.LogsJson.{step_data, log_data, instance_data, instances_data}

step_plain : (s : Step) → has_float (step_data s) ≡ false
step_plain s = rw (no_float integer_data integer_plain s.clause, no_float number_data number_plain s.hints) refl

instance_plain : (i : Instance) → has_float (instance_data i) ≡ false
instance_plain i = rw (no_float number_data number_plain i.values) refl

pub log_plain : (log : List Step) → has_float (log_data log) ≡ false
log_plain log = no_float step_data step_plain log

pub instances_plain : (is : List Instance) → has_float (instances_data is) ≡ false
instances_plain is = no_float instance_data instance_plain is

step_shallow : (s : Step) → depth (step_data s) ≤ 3
step_shallow s =
    let a = within integer_data 1 integer_flat s.clause in
    let b = within number_data 1 number_flat s.hints in
    grind (arith, a, b)

instance_shallow : (i : Instance) → depth (instance_data i) ≤ 3
instance_shallow i = let a = within number_data 1 number_flat i.values in grind (arith, a)

pub log_shallow : (log : List Step) → depth (log_data log) ≤ 4
log_shallow log = let a = within step_data 3 step_shallow log in omega (arith, a)

pub instances_shallow : (is : List Instance) → depth (instances_data is) ≤ 4
instances_shallow is = let a = within instance_data 3 instance_shallow is in omega (arith, a)
