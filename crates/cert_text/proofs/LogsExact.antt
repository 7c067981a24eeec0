-- The forms of logs and of instances are exact.
use Rattle.std.proofs.Common.{◌≡◌, ℕ, ◌^◌, ◌<◌, ◌↔◌, ℤ, Bool, true, List, [], ◌∷◌, Option, Some, nat_le, nat_lt, IsTrue, refl, ap, ap₂, subst, ◌∙◌, arith, pos, negsuc}
use Rattle.std.proofs.lemmas.Bool.{and_from, and_parts, lt-ltb, ltb-true}
use Rattle.serde_json.specs.Data.{Data}
use Rattle.cocoon_num.specs.Lists.{each}
use Rattle.json_forms.specs.Forms.{number_form, integer_form, list_form, has_items, item_form, both_of}
use Rattle.json_forms.specs.Values.{number_data, integer_data, array_data, these}
use Rattle.json_forms.proofs.Exact.{Exact, if_parts, both_parts, fitting_parts, fitting_from, number_exact, integer_exact, is_long, list_exact, two_items}
use Rattle.cnf_core.specs.Certificates.{Instance, Step}
use Rattle.cert_text.specs.LogsForm.{is_literal, literal_form, step_form, log_form, instance_form, instances_form, step_fits, log_fits, instance_fits, instances_fit}
use Rattle.cert_text.specs.LogsJson.{step_data, log_data, instance_data, instances_data}

-- ---- literals

literal_sound : (d : Data) (z : ℤ) → literal_form d ≡ Some z → (d ≡ integer_data z) × (is_literal z ≡ true)
literal_sound d z h =
    let parts = fitting_parts is_literal (integer_form d) z h in
    ((integer_exact.sound d z parts.0).0, parts.1)

short_long : (z : ℤ) → is_literal z ≡ true → is_long z ≡ true
short_long (pos n) h =
    let short : n < 2 ^ 31 = ltb-true n (2 ^ 31) (and_parts (nat_le 1 n) (nat_lt n (2 ^ 31)) h).1 in
    lt-ltb n (2 ^ 63) (omega (arith, short))
short_long (negsuc n) h = refl

literal_exact : Exact literal_form integer_data is_literal
literal_exact = record {
  sound = literal_sound;
  complete = λ z h. fitting_from is_literal (integer_form (integer_data z)) z (integer_exact.complete z (short_long z h)) h;
}

literals_exact : Exact (list_form literal_form) (array_data integer_data) (each is_literal)
literals_exact = list_exact _ _ _ literal_exact

-- ---- steps

abbrev small : ℕ → Bool
small n = nat_lt n (2 ^ 32)

abbrev wide : ℕ → Bool
wide n = nat_lt n (2 ^ 64)

hints_exact : Exact (list_form (number_form (2 ^ 32))) (array_data number_data) (each small)
hints_exact = list_exact _ _ _ (number_exact (2 ^ 32))

abbrev pub step_made : List ℤ → List ℕ → Step
step_made ls hs = record { clause = ls; hints = hs }

step_here : (a b : Data) (s : Step) → both_of step_made (list_form literal_form a) (list_form (number_form (2 ^ 32)) b) ≡ Some s
    → (these (a ∷ b ∷ []) ≡ step_data s) × (step_fits s ≡ true)
step_here a b s h =
    let parts = both_parts step_made _ _ s h in
    let clause = literals_exact.sound a parts.0 parts.2 in
    let hints = hints_exact.sound b parts.1 parts.3 in (
      ap₂ (λ x y. these (x ∷ y ∷ [])) clause.0 hints.0 ∙ ap step_data parts.4,
      subst (λ x. step_fits x ≡ true) parts.4 (and_from _ _ clause.1 hints.1),
    )

step_sound : (d : Data) (s : Step) → step_form d ≡ Some s → (d ≡ step_data s) × (step_fits s ≡ true)
step_sound d s h =
    let has = if_parts (has_items 2 d) _ s h in
    let items = two_items d has.0 in
    let inside = subst (λ x. both_of step_made (item_form (list_form literal_form) 0 x) (item_form (list_form (number_form (2 ^ 32))) 1 x) ≡ Some s) items.2 has.1 in
    let found = step_here items.0 items.1 s inside in
    (items.2 ∙ found.0, found.1)

step_complete : (s : Step) → step_fits s ≡ true → step_form (step_data s) ≡ Some s
step_complete s h =
    let parts = and_parts (each is_literal s.clause) (each small s.hints) h in
    rw (literals_exact.complete s.clause parts.0, hints_exact.complete s.hints parts.1) refl

step_exact : Exact step_form step_data step_fits
step_exact = record { sound = step_sound; complete = step_complete }

pub log_exact : Exact log_form log_data log_fits
log_exact = list_exact _ _ _ step_exact

-- ---- instances

values_exact : Exact (list_form (number_form (2 ^ 64))) (array_data number_data) (each wide)
values_exact = list_exact _ _ _ (number_exact (2 ^ 64))

abbrev pub instance_made : ℕ → List ℕ → Instance
instance_made a vs = record { number = a; values = vs }

instance_here : (a b : Data) (i : Instance) → both_of instance_made (number_form (2 ^ 32) a) (list_form (number_form (2 ^ 64)) b) ≡ Some i
    → (these (a ∷ b ∷ []) ≡ instance_data i) × (instance_fits i ≡ true)
instance_here a b i h =
    let parts = both_parts instance_made _ _ i h in
    let number = (number_exact (2 ^ 32)).sound a parts.0 parts.2 in
    let values = values_exact.sound b parts.1 parts.3 in (
      ap₂ (λ x y. these (x ∷ y ∷ [])) number.0 values.0 ∙ ap instance_data parts.4,
      subst (λ x. instance_fits x ≡ true) parts.4 (and_from _ _ number.1 values.1),
    )

instance_sound : (d : Data) (i : Instance) → instance_form d ≡ Some i → (d ≡ instance_data i) × (instance_fits i ≡ true)
instance_sound d i h =
    let has = if_parts (has_items 2 d) _ i h in
    let items = two_items d has.0 in
    let inside = subst (λ x. both_of instance_made (item_form (number_form (2 ^ 32)) 0 x) (item_form (list_form (number_form (2 ^ 64))) 1 x) ≡ Some i) items.2 has.1 in
    let found = instance_here items.0 items.1 i inside in
    (items.2 ∙ found.0, found.1)

instance_complete : (i : Instance) → instance_fits i ≡ true → instance_form (instance_data i) ≡ Some i
instance_complete i h =
    let parts = and_parts (small i.number) (each wide i.values) h in
    rw ((number_exact (2 ^ 32)).complete i.number parts.0, values_exact.complete i.values parts.1) refl

instance_exact : Exact instance_form instance_data instance_fits
instance_exact = record { sound = instance_sound; complete = instance_complete }

pub instances_exact : Exact instances_form instances_data instances_fit
instances_exact = list_exact _ _ _ instance_exact

-- ---- both ways

either : {A : Type 0} (form : Data → Option A) (of : A → Data) (fits : A → Bool) → Exact form of fits → (d : Data) (x : A) → (form d ≡ Some x) ↔ ((d ≡ of x) × IsTrue (fits x))
either form of fits e d x = (e.sound d x, λ h. ap form h.0 ∙ e.complete x h.1)

pub log_is_exact : (d : Data) (log : List Step) → (log_form d ≡ Some log) ↔ ((d ≡ log_data log) × IsTrue (log_fits log))
log_is_exact = either log_form log_data log_fits log_exact

pub instances_is_exact : (d : Data) (is : List Instance) → (instances_form d ≡ Some is) ↔ ((d ≡ instances_data is) × IsTrue (instances_fit is))
instances_is_exact = either instances_form instances_data instances_fit instances_exact
