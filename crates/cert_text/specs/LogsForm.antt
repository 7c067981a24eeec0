-- The forms of logs and of instances as JSON values. Cited by the clauses of what reads them, by the laws, and by the forms of
-- files that have them. It follows "Certificates" in docs/FORMATS.md.
use Rattle.std.specs.Prelude.{◌^◌, ◌&&◌, ℤ, unsigned_abs, Bool, nat_le, nat_lt, List, Option, None, if◌then◌else◌}
use Rattle.serde_json.specs.Data.{Data}
use Rattle.cocoon_num.specs.Lists.{each}
use Rattle.json_forms.specs.Forms.{number_form, integer_form, fitting, list_form, has_items, item_form, both_of}
use Rattle.cnf_core.specs.Certificates.{Instance, Step}

-- from -2147483647 to 2147483647, and not 0
abbrev pub is_literal : ℤ → Bool
is_literal z = nat_le 1 (unsigned_abs z) && nat_lt (unsigned_abs z) (2 ^ 31)

abbrev pub literal_form : Data → Option ℤ
literal_form d = fitting is_literal (integer_form d)

-- [[LIT],[HINT]]
abbrev pub step_form : Data → Option Step
step_form d =
    if has_items 2 d
    then both_of (λ ls hs. record { clause = ls; hints = hs }) (item_form (list_form literal_form) 0 d) (item_form (list_form (number_form (2 ^ 32))) 1 d)
    else None

-- [STEP]
abbrev pub log_form : Data → Option (List Step)
log_form d = list_form step_form d

-- [ASSUMPTION,[VALUE]]
abbrev pub instance_form : Data → Option Instance
instance_form d =
    if has_items 2 d
    then both_of (λ a vs. record { number = a; values = vs }) (item_form (number_form (2 ^ 32)) 0 d) (item_form (list_form (number_form (2 ^ 64))) 1 d)
    else None

-- [INSTANCE]
abbrev pub instances_form : Data → Option (List Instance)
instances_form d = list_form instance_form d

-- ---- what is of these forms: each literal is one that may be written so, and each number is in its range

abbrev pub step_fits : Step → Bool
step_fits s = each is_literal s.clause && each (λ h. nat_lt h (2 ^ 32)) s.hints

abbrev pub log_fits : List Step → Bool
log_fits steps = each step_fits steps

abbrev pub instance_fits : Instance → Bool
instance_fits i = nat_lt i.number (2 ^ 32) && each (λ v. nat_lt v (2 ^ 64)) i.values

abbrev pub instances_fit : List Instance → Bool
instances_fit is = each instance_fits is
