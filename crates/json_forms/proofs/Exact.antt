-- Forms that are exact: what a form gives is what the value stands for, and nothing else is of the form.
use Rattle.std.proofs.Common.{◌≡◌, ℕ, suc, ◌^◌, ℤ, pos, negsuc, Bool, true, false, List, [], ◌∷◌, map, Option, Some, None, option_map, option_and_then, Result, Ok, Err, if◌then◌else◌, nat_lt, refl, ap, ap₂, subst, ◌∙◌, arith}
use Rattle.std.specs.Str.{bytes_eq}
use Rattle.std.proofs.lemmas.Bool.{and_from, and_parts, eqb-true}
use Rattle.std.proofs.lemmas.Slice.Eq.{bytes_eq-Decides}
use Rattle.serde_json.specs.Data.{unsigned, negative, float, Data, null, boolean, number, string, array, object, Items, no_items, item, Members, no_members, member}
use Rattle.serde_json.specs.Events.{items_len}
use Rattle.serde_json.specs.Find.{as_array, as_str}
use Rattle.serde_json.specs.View.{items_of}
use Rattle.cocoon_num.specs.Lists.{each}
use Rattle.json_forms.specs.Values.{number_data, integer_data, array_data}
use Rattle.json_forms.specs.Forms.{below, number_form, integer_of, integer_form, fitting, all_form, list_form, has_items, are_keys, has_keys, both_of}

-- a form of the values of these things
pub record Exact {A : Type 0} (form : Data → Option A) (of : A → Data) (fits : A → Bool) : Type 0 where
  pub sound : (d : Data) (x : A) → form d ≡ Some x → (d ≡ of x) × (fits x ≡ true)
  pub complete : (x : A) → fits x ≡ true → form (of x) ≡ Some x

-- ---- options

pub some_same : {A : Type 0} (x y : A) → Some x ≡ Some y → x ≡ y
some_same x y h = cc

pub none_some : {A : Type 0} (x : A) → ◌≡◌ {A = Option A} None (Some x) → ⊥
none_some x h = cc

pub if_parts : {A : Type 0} (b : Bool) (o : Option A) (x : A) → (if b then o else None) ≡ Some x → (b ≡ true) × (o ≡ Some x)
if_parts true o x h = (refl, h)
if_parts false o x h = absurd (none_some x h)

pub map_parts : {A B : Type 0} (f : A → B) (o : Option A) (y : B) → option_map f o ≡ Some y → (x : A) × (o ≡ Some x) × (f x ≡ y)
map_parts f None y h = absurd (none_some y h)
map_parts f (Some x) y h = (x, refl, some_same (f x) y h)

fitting_if : {A : Type 0} (b : Bool) (a x : A) → (if b then Some a else None) ≡ Some x → (b ≡ true) × (a ≡ x)
fitting_if true a x h = (refl, some_same a x h)
fitting_if false a x h = absurd (none_some x h)

pub fitting_parts : {A : Type 0} (test : A → Bool) (o : Option A) (x : A) → fitting test o ≡ Some x → (o ≡ Some x) × (test x ≡ true)
fitting_parts test None x h = absurd (none_some x h)
fitting_parts test (Some a) x h = let parts = fitting_if (test a) a x h in (ap Some parts.1, subst (λ y. test y ≡ true) parts.1 parts.0)

if_some : {A : Type 0} (b : Bool) (x : A) → b ≡ true → (if b then Some x else None) ≡ Some x
if_some true x h = refl
if_some false x h = absurd cc

pub fitting_from : {A : Type 0} (test : A → Bool) (o : Option A) (x : A) → o ≡ Some x → test x ≡ true → fitting test o ≡ Some x
fitting_from test o x h t = rw h (if_some (test x) x t)

pub both_parts : {A B C : Type 0} (f : A → B → C) (a : Option A) (b : Option B) (z : C) → both_of f a b ≡ Some z
    → (x : A) × (y : B) × (a ≡ Some x) × (b ≡ Some y) × (f x y ≡ z)
both_parts f None b z h = absurd (none_some z h)
both_parts f (Some x) None z h = absurd (none_some z h)
both_parts f (Some x) (Some y) z h = (x, y, refl, refl, some_same (f x y) z h)

-- ---- numbers

below_sound : (bound m n : ℕ) → below bound m ≡ Some n → (number_data m ≡ number_data n) × (nat_lt n bound ≡ true)
below_sound bound m n h =
    let parts = if_parts (nat_lt m bound) (Some m) n h in
    let same = some_same m n parts.1 in
    (ap number_data same, subst (λ i. nat_lt i bound ≡ true) same parts.0)

number_sound : (bound : ℕ) (d : Data) (n : ℕ) → number_form bound d ≡ Some n → (d ≡ number_data n) × (nat_lt n bound ≡ true)
number_sound bound null n h = absurd (none_some n h)
number_sound bound (boolean b) n h = absurd (none_some n h)
number_sound bound (number (unsigned m)) n h = below_sound bound m n h
number_sound bound (number (negative z)) n h = absurd (none_some n h)
number_sound bound (number (float x)) n h = absurd (none_some n h)
number_sound bound (string s) n h = absurd (none_some n h)
number_sound bound (array ds) n h = absurd (none_some n h)
number_sound bound (object ms) n h = absurd (none_some n h)

pub number_exact : (bound : ℕ) → Exact (number_form bound) number_data (λ n. nat_lt n bound)
number_exact bound = record { sound = number_sound bound; complete = λ n h. if_some (nat_lt n bound) n h }

-- a whole number of 64 bits
abbrev pub is_long : ℤ → Bool
is_long (pos n) = nat_lt n (2 ^ 63)
is_long (negsuc n) = true

unsigned_sound : (n : ℕ) (z : ℤ) → integer_of (unsigned n) ≡ Some z → (number (unsigned n) ≡ integer_data z) × (is_long z ≡ true)
unsigned_sound n z h =
    let parts = if_parts (nat_lt n (2 ^ 63)) (Some (pos n)) z h in
    let same = some_same (pos n) z parts.1 in
    (ap integer_data same, subst (λ i. is_long i ≡ true) same parts.0)

negative_sound : (y z : ℤ) → integer_of (negative y) ≡ Some z → (number (negative y) ≡ integer_data z) × (is_long z ≡ true)
negative_sound (pos n) z h = absurd (none_some z h)
negative_sound (negsuc n) z h =
    let same = some_same (negsuc n) z h in
    (ap integer_data same, subst (λ i. is_long i ≡ true) same refl)

integer_sound : (d : Data) (z : ℤ) → integer_form d ≡ Some z → (d ≡ integer_data z) × (is_long z ≡ true)
integer_sound null z h = absurd (none_some z h)
integer_sound (boolean b) z h = absurd (none_some z h)
integer_sound (number (unsigned m)) z h = unsigned_sound m z h
integer_sound (number (negative y)) z h = negative_sound y z h
integer_sound (number (float x)) z h = absurd (none_some z h)
integer_sound (string s) z h = absurd (none_some z h)
integer_sound (array ds) z h = absurd (none_some z h)
integer_sound (object ms) z h = absurd (none_some z h)

integer_complete : (z : ℤ) → is_long z ≡ true → integer_form (integer_data z) ≡ Some z
integer_complete (pos n) h = if_some (nat_lt n (2 ^ 63)) (pos n) h
integer_complete (negsuc n) h = refl

pub integer_exact : Exact integer_form integer_data is_long
integer_exact = record { sound = integer_sound; complete = integer_complete }

-- ---- texts

pub text_sound : (d : Data) (t : List ℕ) → as_str d ≡ Some t → (d ≡ string t) × (true ≡ true)
text_sound null t h = absurd (none_some t h)
text_sound (boolean b) t h = absurd (none_some t h)
text_sound (number n) t h = absurd (none_some t h)
text_sound (string s) t h = (ap string (some_same s t h), refl)
text_sound (array ds) t h = absurd (none_some t h)
text_sound (object ms) t h = absurd (none_some t h)

pub text_exact : Exact as_str string (λ t. true)
text_exact = record { sound = text_sound; complete = λ t h. refl }

-- ---- arrays

pub array_is : (d : Data) (ds : Items) → as_array d ≡ Some ds → d ≡ array ds
array_is null ds h = absurd (none_some ds h)
array_is (boolean b) ds h = absurd (none_some ds h)
array_is (number n) ds h = absurd (none_some ds h)
array_is (string s) ds h = absurd (none_some ds h)
array_is (array es) ds h = ap array (some_same es ds h)
array_is (object ms) ds h = absurd (none_some ds h)

and_then_parts : {A B : Type 0} (f : A → Option B) (a : Option A) (y : B) → option_and_then f a ≡ Some y → (x : A) × (a ≡ Some x) × (f x ≡ Some y)
and_then_parts f None y h = absurd (none_some y h)
and_then_parts f (Some x) y h = (x, refl, h)

all_sound : {A : Type 0} (form : Data → Option A) (of : A → Data) (fits : A → Bool) → Exact form of fits → (ds : Items) (xs : List A) → all_form form ds ≡ Some xs
    → (ds ≡ items_of (map of xs)) × (each fits xs ≡ true)
all_sound form of fits e no_items xs h =
    let same = some_same [] xs h in (ap (λ ys. items_of (map of ys)) same, subst (λ ys. each fits ys ≡ true) same refl)
all_sound form of fits e (item d ds) xs h =
    let parts = both_parts (λ y ys. y ∷ ys) (form d) (all_form form ds) xs h in
    let here = e.sound d parts.0 parts.2 in
    let more = all_sound form of fits e ds parts.1 parts.3 in (
      ap₂ item here.0 more.0 ∙ ap (λ ys. items_of (map of ys)) parts.4,
      subst (λ ys. each fits ys ≡ true) parts.4 (and_from (fits parts.0) (each fits parts.1) here.1 more.1),
    )

all_complete : {A : Type 0} (form : Data → Option A) (of : A → Data) (fits : A → Bool) → Exact form of fits → (xs : List A) → each fits xs ≡ true → all_form form (items_of (map of xs)) ≡ Some xs
all_complete form of fits e [] h = refl
all_complete form of fits e (x ∷ xs) h =
    let parts = and_parts (fits x) (each fits xs) h in
    rw (e.complete x parts.0, all_complete form of fits e xs parts.1) refl

list_sound : {A : Type 0} (form : Data → Option A) (of : A → Data) (fits : A → Bool) → Exact form of fits → (d : Data) (xs : List A) → list_form form d ≡ Some xs
    → (d ≡ array_data of xs) × (each fits xs ≡ true)
list_sound form of fits e d xs h =
    let parts = and_then_parts (all_form form) (as_array d) xs h in
    let inside = all_sound form of fits e parts.0 xs parts.2 in
    (array_is d parts.0 parts.1 ∙ ap array inside.0, inside.1)

pub list_exact : {A : Type 0} (form : Data → Option A) (of : A → Data) (fits : A → Bool) → Exact form of fits → Exact (list_form form) (array_data of) (each fits)
list_exact form of fits e = record { sound = list_sound form of fits e; complete = all_complete form of fits e }

-- ---- arrays of some items

pub array_has : (d : Data) (n : ℕ) → has_items n d ≡ true → (ds : Items) × (d ≡ array ds) × (items_len ds ≡ n)
array_has null n h = absurd cc
array_has (boolean b) n h = absurd cc
array_has (number m) n h = absurd cc
array_has (string s) n h = absurd cc
array_has (array ds) n h = (ds, refl, eqb-true _ _ h)
array_has (object ms) n h = absurd cc

pub no_more : (ds : Items) → items_len ds ≡ 0 → ds ≡ no_items
no_more no_items h = refl
no_more (item d ds) h = absurd (omega (arith, h))

pub one_more : (ds : Items) (n : ℕ) → items_len ds ≡ suc n → (d : Data) × (rest : Items) × (ds ≡ item d rest) × (items_len rest ≡ n)
one_more no_items n h = absurd (omega (arith, h))
one_more (item d ds) n h = (d, ds, refl, omega (arith, h))

pub two_items : (d : Data) → has_items 2 d ≡ true → (a b : Data) × (d ≡ array (item a (item b no_items)))
two_items d h =
    let all = array_has d 2 h in
    let first = one_more all.0 1 all.2 in
    let second = one_more first.1 0 first.3 in
    (first.0, second.0, all.1 ∙ ap array (first.2 ∙ ap (item first.0) (second.2 ∙ ap (item second.0) (no_more second.1 second.3))))

-- ---- objects

pub object_has : (keys : List (List ℕ)) (d : Data) → has_keys keys d ≡ true → (ms : Members) × (d ≡ object ms) × (are_keys keys ms ≡ true)
object_has keys null h = absurd cc
object_has keys (boolean b) h = absurd cc
object_has keys (number m) h = absurd cc
object_has keys (string s) h = absurd cc
object_has keys (array ds) h = absurd cc
object_has keys (object ms) h = (ms, refl, h)

pub last_key : (ms : Members) → are_keys [] ms ≡ true → ms ≡ no_members
last_key no_members h = refl
last_key (member l d ms) h = absurd cc

pub next_key : (k : List ℕ) (ks : List (List ℕ)) (ms : Members) → are_keys (k ∷ ks) ms ≡ true → (d : Data) × (rest : Members) × (ms ≡ member k d rest) × (are_keys ks rest ≡ true)
next_key k ks no_members h = absurd cc
next_key k ks (member l d ms) h =
    let parts = and_parts (bytes_eq l k) (are_keys ks ms) h in
    (d, ms, ap (λ x. member x d ms) ((bytes_eq-Decides l k).0 parts.0), parts.1)

-- an object of two keys
pub two_members : (k l : List ℕ) (d : Data) → has_keys (k ∷ l ∷ []) d ≡ true → (a b : Data) × (d ≡ object (member k a (member l b no_members)))
two_members k l d h =
    let all = object_has (k ∷ l ∷ []) d h in
    let first = next_key k (l ∷ []) all.0 all.2 in
    let second = next_key l [] first.1 first.3 in
    (first.0, second.0, all.1 ∙ ap object (first.2 ∙ ap (member k first.0) (second.2 ∙ ap (member l second.0) (last_key second.1 second.3))))

-- and one of three
pub three_members : (k l m : List ℕ) (d : Data) → has_keys (k ∷ l ∷ m ∷ []) d ≡ true → (a b c : Data) × (d ≡ object (member k a (member l b (member m c no_members))))
three_members k l m d h =
    let all = object_has (k ∷ l ∷ m ∷ []) d h in
    let first = next_key k (l ∷ m ∷ []) all.0 all.2 in
    let second = next_key l (m ∷ []) first.1 first.3 in
    let third = next_key m [] second.1 second.3 in (
      first.0,
      second.0,
      third.0,
      all.1 ∙ ap object (first.2 ∙ ap (member k first.0) (second.2 ∙ ap (member l second.0) (third.2 ∙ ap (member m third.0) (last_key third.1 third.3)))),
    )

-- ---- files

pub err_ok : {A : Type 0} (p : List ℕ) (x : A) → ◌≡◌ {A = Result A (List ℕ)} (Err p) (Ok x) → ⊥
err_ok p x h = cc

pub ok_same : {A : Type 0} (x y : A) → ◌≡◌ {A = Result A (List ℕ)} (Ok x) (Ok y) → x ≡ y
ok_same x y h = cc

pub ok_parts : {A : Type 0} (b : Bool) (p : List ℕ) (r : Result A (List ℕ)) (x : A) → (if b then r else Err p) ≡ Ok x → (b ≡ true) × (r ≡ Ok x)
ok_parts true p r x h = (refl, h)
ok_parts false p r x h = absurd (err_ok p x h)
