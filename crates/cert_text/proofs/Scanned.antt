-- The forms of a file of certificates, by forms of two parts.
use Rattle.std.proofs.Common.{◌≡◌, ℕ, ◌^◌, Bool, true, false, List, [], Option, Some, None, option_and_then, Result, Ok, Err, if◌then◌else◌, codes, refl, ◌∙◌}
use Rattle.serde_json.specs.Data.{Data}
use Rattle.json_forms.specs.Forms.{has_items, has_keys, item_form, member_form, list_form, number_form}
use Rattle.json_forms.specs.Reading.{Refused, Shaped}
use Rattle.json_forms.specs.Values.{IsJson}
use Rattle.json_forms.specs.declared.fault.FormFault.{FormFault}
use Rattle.json_forms.specs.declared.fault.FormFault.TheVariants.{NotJson, Shape, NoMemory}
use Rattle.json_scan.specs.Pairs.{array_form, object_form}
use Rattle.cnf_core.specs.Certificates.{Cert}
use Rattle.cert_text.specs.LogsForm.{literal_form, step_form, instance_form, instances_form, log_form}
use Rattle.cert_text.specs.CertsForm.{cert_keys, cert_form, certs_keys, certs_form, cocoon_of, step_of_two, instance_of_two, cert_of_two, certs_of_two, certs_members}

made : {A B : Type 0} (b : Bool) (x : A) (h : A → Option B) → (if b then h x else None) ≡ option_and_then h (if b then Some x else None)
made true x h = refl
made false x h = refl

pub step_is : (d : Data) → step_form d ≡ option_and_then step_of_two (array_form (list_form literal_form) (list_form (number_form (2 ^ 32))) d)
step_is d = made (has_items 2 d) _ step_of_two

pub instance_is : (d : Data) → instance_form d ≡ option_and_then instance_of_two (array_form (number_form (2 ^ 32)) (list_form (number_form (2 ^ 64))) d)
instance_is d = made (has_items 2 d) _ instance_of_two

pub cert_is : (d : Data) → cert_form d ≡ option_and_then cert_of_two (object_form (list_form instance_form) log_form (codes "instances") (codes "log") d)
cert_is d = made (has_keys cert_keys d) _ cert_of_two

pub certs_are : (d : Data) → certs_form d ≡ certs_of_two (object_form (list_form cert_form) (number_form (2 ^ 64)) (codes "certs") (codes "cocoon") d)
certs_are d = by_keys (has_keys certs_keys d)
  where
    by_keys : (b : Bool) → (if b then certs_members (member_form (list_form cert_form) (codes "certs") d) (cocoon_of d) else Err [])
        ≡ certs_of_two (if b then Some (member_form (list_form cert_form) (codes "certs") d, member_form (number_form (2 ^ 64)) (codes "cocoon") d) else None)
    by_keys true = refl
    by_keys false = refl

-- what is said of the value is said of the bytes
pub shaped_refused : (bytes : List ℕ) (d : Data) → IsJson bytes d → (answer : Result (List Cert) (List ℕ)) → certs_form d ≡ answer → (fault : FormFault) → Shaped answer fault → Refused certs_form bytes fault
shaped_refused bytes d json answer e NotJson h = absurd h
shaped_refused bytes d json answer e (Shape pointer) h = record { value = d; is = json; answers = e ∙ h }
shaped_refused bytes d json answer e NoMemory h = h
