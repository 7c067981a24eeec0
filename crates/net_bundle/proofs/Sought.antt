-- A search of an ascending list tells whether a number is in it.
use Rattle.std.proofs.Common.{◌≡◌, ◌≤◌, ◌<◌, ℕ, zero, suc, Bool, true, false, ◌||◌, List, [], ◌∷◌, length, get_or, nat_lt, nat_cmp, if◌then◌else◌, Option, Some, None, option_map, Result, Ok, Err, is_ok, refl, sym, ap, ap₂, ◌∙◌, codes, inl, inr, arith}
use Rattle.std.specs.Prelude.{◌==◌}
use Rattle.std.specs.List.Sorted.{IsBinarySearchResult}
use Rattle.std.proofs.lemmas.Bool.{and_parts, cases_lt, eq-eqb, ltb-true, ne_eqb, or_from, or_right}
use Rattle.std.proofs.lemmas.List.Sorted.{searched}
use Rattle.cocoon_num.specs.Lists.{ascend, each, has_number}
use Rattle.serde_json.specs.Data.{Data}
use Rattle.p4_ir.specs.NetTree.{HostPort, Link}
use Rattle.p4_ir.specs.Wiring.{host_numbers}
use Rattle.json_forms.specs.Forms.{fitting, list_form, member_form}
use Rattle.net_bundle.specs.NetForm.{where_known, hosts_fit, host_fits, host_form, link_form, links_fit, ports_of, switches_of, hosts_of, links_of}

there : (xs : List ℕ) (n i : ℕ) → i < length xs → get_or xs i 0 ≡ n → has_number n xs ≡ true
there [] n i h e = absurd (omega (arith, h))
there (x ∷ xs) n zero h e = ap (λ b. b || has_number n xs) (eq-eqb n x (sym e))
there (x ∷ xs) n (suc i) h e = or_right (n == x) (has_number n xs) (there xs n i (omega (arith, h)) e)

nowhere : (xs : List ℕ) (n : ℕ) → ((k : ℕ) → k < length xs → get_or xs k 0 ≡ n → ⊥) → has_number n xs ≡ false
nowhere [] n h = refl
nowhere (x ∷ xs) n h = or_from (n == x) (has_number n xs) (ne_eqb n x (λ e. h zero (omega arith) (sym e))) (nowhere xs n (λ k less e. h (suc k) (omega (arith, less)) e))

-- in an ascending list, the first is below all others
first_below : (m : ℕ) (ns : List ℕ) → ascend (m ∷ ns) ≡ true → (j : ℕ) → j < length ns → m < get_or ns j 0
first_below m [] h j less = absurd (omega (arith, less))
first_below m (n ∷ ns) h zero less = ltb-true m n (and_parts (nat_lt m n) (ascend (n ∷ ns)) h).0
first_below m (n ∷ ns) h (suc j) less =
    let parts = and_parts (nat_lt m n) (ascend (n ∷ ns)) h in
    let here = ltb-true m n parts.0 in
    let more = first_below n ns parts.1 j (omega (arith, less)) in
    omega (arith, here, more)

rest_ascends : (m : ℕ) (ns : List ℕ) → ascend (m ∷ ns) ≡ true → ascend ns ≡ true
rest_ascends m [] h = refl
rest_ascends m (n ∷ ns) h = (and_parts (nat_lt m n) (ascend (n ∷ ns)) h).1

rising : (xs : List ℕ) → ascend xs ≡ true → (i j : ℕ) → i ≤ j → j < length xs → get_or xs i 0 ≤ get_or xs j 0
rising [] h i j up less = absurd (omega (arith, less))
rising (x ∷ xs) h zero zero up less = omega arith
rising (x ∷ xs) h zero (suc j) up less = let below = first_below x xs h j (omega (arith, less)) in omega (arith, below)
rising (x ∷ xs) h (suc i) zero up less = absurd (omega (arith, up))
rising (x ∷ xs) h (suc i) (suc j) up less = rising xs (rest_ascends x xs h) i j (omega (arith, up)) (omega (arith, less))

either_side : (i : ℕ) (xs : List ℕ) (n : ℕ) → ((k : ℕ) → k < i → get_or xs k 0 < n) → ((k : ℕ) → i ≤ k → k < length xs → n < get_or xs k 0) → (k : ℕ) → k < length xs → get_or xs k 0 ≡ n → ⊥
either_side i xs n low high k less e = elim (cases_lt k i) [
  | inl below ↦ let here = low k below in omega (arith, here, e)
  | inr above ↦ let here = high k above less in omega (arith, here, e)
]

-- what a search found
pub found_as : (xs : List ℕ) (n : ℕ) (r : Result ℕ ℕ) → IsBinarySearchResult (λ y. nat_cmp y n) xs r → ascend xs ≡ true → is_ok r ≡ has_number n xs
found_as xs n (Ok i) h rises = let at = searched xs n (Ok i) h (rising xs rises) in sym (there xs n i at.0 at.1)
found_as xs n (Err i) h rises = let at = searched xs n (Err i) h (rising xs rises) in sym (nowhere xs n (either_side i xs n at.1 at.2))

-- ---- what is known of lists that passed a test

known_if : {A : Type 0} (test : A → Bool) (a : A) (b : Bool) → test a ≡ b → where_known test (if b then Some a else None) ≡ true
known_if test a true h = h
known_if test a false h = refl

pub fitting_known : {A : Type 0} (test : A → Bool) (o : Option A) → where_known test (fitting test o) ≡ true
fitting_known test None = refl
fitting_known test (Some a) = known_if test a (test a) refl

hosts_if : (ports : Option ℕ) (switches : Option (List ℕ)) (hosts : List HostPort) (b : Bool) → hosts_fit ports switches hosts ≡ b
    → where_known ascend (option_map host_numbers (if b then Some hosts else None)) ≡ true
hosts_if ports switches hosts true h = (and_parts (each (host_fits ports switches) hosts) (ascend (host_numbers hosts)) h).1
hosts_if ports switches hosts false h = refl

-- the numbers of hosts that fit ascend
pub hosts_known : (ports : Option ℕ) (switches : Option (List ℕ)) (o : Option (List HostPort)) → where_known ascend (option_map host_numbers (fitting (hosts_fit ports switches) o)) ≡ true
hosts_known ports switches None = refl
hosts_known ports switches (Some hosts) = hosts_if ports switches hosts (hosts_fit ports switches hosts) refl

-- ---- members that were read by what others are

pub same_option : (o p : Option ℕ) → option_map (λ n. n) o ≡ p → o ≡ p
same_option None p h = h
same_option (Some n) p h = h

pub hosts_from : (d : Data) (ports : Option ℕ) (switches : Option (List ℕ)) (x : Option (List HostPort)) → ports ≡ ports_of d → switches ≡ switches_of d
    → x ≡ fitting (hosts_fit ports switches) (member_form (list_form host_form) (codes "hosts") d) → x ≡ hosts_of d
hosts_from d ports switches x e f i = i ∙ ap₂ (λ p s. fitting (hosts_fit p s) (member_form (list_form host_form) (codes "hosts") d)) e f

pub links_from : (d : Data) (ports : Option ℕ) (switches : Option (List ℕ)) (hosts : Option (List HostPort)) (numbers : Option (List ℕ)) (x : Option (List Link))
    → ports ≡ ports_of d → switches ≡ switches_of d → hosts ≡ hosts_of d → numbers ≡ option_map host_numbers hosts
    → x ≡ fitting (links_fit ports switches numbers) (member_form (list_form link_form) (codes "links") d) → x ≡ links_of d
links_from d ports switches hosts numbers x e f g k i =
    i ∙ ap₂ (λ p s. fitting (links_fit p s numbers) (member_form (list_form link_form) (codes "links") d)) e f
    ∙ ap (λ n. fitting (links_fit (ports_of d) (switches_of d) n) (member_form (list_form link_form) (codes "links") d)) (k ∙ ap (option_map host_numbers) g)
