-- The names of meta fields are of their form, and no two are the same.
use Rattle.std.proofs.Common.{◌≡◌, ◌⊎◌, inl, inr, ℕ, suc, ◌+◌, ◌/◌, ◌%◌, ◌<◌, ◌≤◌, ◌^◌, ◌==◌, ◌&&◌, ◌||◌, not, List, [], ◌∷◌, ◌++◌, length, map, Bool, true, false, Option, Some, None, refl, sym, ap, subst, ◌∙◌, codes, decimal, arith}
use Rattle.std.proofs.lemmas.Bool.Decides.{nat_tests}
use Rattle.std.proofs.lemmas.Fmt.{decimal_by_steps, decimal_injective}
use Rattle.std.proofs.lemmas.List.{append_cancel_left, append_assoc}
use Rattle.cocoon_num.specs.Lists.{all_distinct, each, is_one_of}
use Rattle.cocoon_num.specs.Names.{same_name}
use Rattle.cocoon_num.specs.Tokens.{is_digit, is_run_byte}
use Rattle.p4_ir.specs.P4Kinds.{is_meta_name, last_is_digit}
use Rattle.p4_ir.specs.P4Tree.{P4Field}
use Rattle.lowering.specs.Lower.{FieldName, Made, a_field, a_table, a_group, site_name, key_name, result_name, var_name}
use Rattle.lowering.specs.SwitchProgram.{field_text, fields_in}
use Rattle.sound_types.proofs.Options.{both_true, true_both, same_text}
use Rattle.lowering_fits.proofs.Logged.{Named}

-- ---- digits

record AreDigits (n : ℕ) (ds : List ℕ) : Type 0 where
  all : each is_digit ds ≡ true
  last : last_is_digit ds ≡ true

digit : (m : ℕ) → m < 10 → is_digit (48 + m) ≡ true
digit m h = grind (arith, nat_tests)

each_both : {A : Type 0} (f : A → Bool) (xs ys : List A) → each f xs ≡ true → each f ys ≡ true → each f (xs ++ ys) ≡ true
each_both f [] ys h g = g
each_both f (x ∷ xs) ys h g = let both = both_true (f x) (each f xs) h in true_both (f x) (each f (xs ++ ys)) both.0 (each_both f xs ys both.1 g)

-- the last of what ends so
last_at_end : (xs : List ℕ) (y : ℕ) (ys : List ℕ) → last_is_digit (y ∷ ys) ≡ true → last_is_digit (xs ++ (y ∷ ys)) ≡ true
last_at_end [] y ys h = h
last_at_end (x ∷ []) y ys h = h
last_at_end (x ∷ z ∷ xs) y ys h = last_at_end (z ∷ xs) y ys h

one_digit : (n : ℕ) → n < 10 → AreDigits n ((48 + n) ∷ [])
one_digit n h = record { all = true_both (is_digit (48 + n)) true (digit n h) refl; last = digit n h }

more_digits : (n : ℕ) (ds : List ℕ) → 10 ≤ n → AreDigits (n / 10) ds → AreDigits n (ds ++ ((48 + n % 10) ∷ []))
more_digits n ds h d =
    let small : n % 10 < 10 = omega arith in record {
      all = each_both is_digit ds ((48 + n % 10) ∷ []) d.all (true_both (is_digit (48 + n % 10)) true (digit (n % 10) small) refl);
      last = last_at_end ds (48 + n % 10) [] (digit (n % 10) small);
    }

digits : (n : ℕ) → n < 2 ^ 64 → AreDigits n (decimal n)
digits n h = decimal_by_steps AreDigits one_digit more_digits n h

run_byte : (b : ℕ) → is_digit b ≡ true → is_run_byte b ≡ true
run_byte b h = grind (arith, nat_tests)

each_run : (ds : List ℕ) → each is_digit ds ≡ true → each is_run_byte ds ≡ true
each_run [] h = refl
each_run (b ∷ ds) h = let both = both_true (is_digit b) (each is_digit ds) h in true_both (is_run_byte b) (each is_run_byte ds) (run_byte b both.0) (each_run ds both.1)

ends_digit : (xs ds : List ℕ) → last_is_digit ds ≡ true → last_is_digit (xs ++ ds) ≡ true
ends_digit xs [] h = absurd (cc)
ends_digit xs (d ∷ ds) h = last_at_end xs d ds h

not_low : (b : ℕ) → is_digit b ≡ true → b ≡ 95 → ⊥
not_low b h e = let k : is_digit 95 ≡ true = ap is_digit (sym e) ∙ h in absurd (cc)

-- digits up to a `_`
split : (xs us ys vs : List ℕ) → each is_digit xs ≡ true → each is_digit us ≡ true → xs ++ (95 ∷ ys) ≡ us ++ (95 ∷ vs) → (xs ≡ us) × (ys ≡ vs)
split [] [] ys vs h g e = (refl, cc)
split [] (u ∷ us) ys vs h g e = let k : u ≡ 95 = cc in absurd (not_low u (both_true (is_digit u) (each is_digit us) g).0 k)
split (x ∷ xs) [] ys vs h g e = let k : x ≡ 95 = cc in absurd (not_low x (both_true (is_digit x) (each is_digit xs) h).0 k)
split (x ∷ xs) (u ∷ us) ys vs h g e =
    let first : x ≡ u = cc in
    let rest : xs ++ (95 ∷ ys) ≡ us ++ (95 ∷ vs) = cc in
    let more = split xs us ys vs (both_true (is_digit x) (each is_digit xs) h).1 (both_true (is_digit u) (each is_digit us) g).1 rest in
    ((λ i. first i ∷ more.0 i), more.1)

-- ---- names by their numbers

-- the numbers of a name are below this
abbrev Below : ℕ → FieldName → Type 0
Below m site_name = ⊥
Below m (key_name a i) = (a < m) × (i < m)
Below m (result_name a) = a < m
Below m (var_name j) = j < m

key_text : (a i : ℕ) → field_text (key_name a i) ≡ 107 ∷ (decimal a ++ (95 ∷ decimal i))
key_text a i = append_assoc (codes "k" ++ decimal a) (codes "_") (decimal i)

meta_name : (x : FieldName) → Below (2 ^ 64) x → is_meta_name (field_text x) ≡ true
meta_name site_name h = absurd h
meta_name (key_name a i) h =
    let da = digits a h.0 in
    let di = digits i h.1 in
    let run : each is_run_byte (decimal a ++ (95 ∷ decimal i)) ≡ true = each_both is_run_byte (decimal a) (95 ∷ decimal i) (each_run (decimal a) da.all) (each_run (decimal i) di.all) in
    let last : last_is_digit (107 ∷ (decimal a ++ (95 ∷ decimal i))) ≡ true =
    ap last_is_digit (ap (λ z. 107 ∷ z) (sym (append_assoc (decimal a) (95 ∷ []) (decimal i)))) ∙ ends_digit (107 ∷ (decimal a ++ (95 ∷ []))) (decimal i) di.last in
    ap is_meta_name (key_text a i) ∙ true_both (each is_run_byte (decimal a ++ (95 ∷ decimal i))) (last_is_digit (107 ∷ (decimal a ++ (95 ∷ decimal i)))) run last
meta_name (result_name a) h =
    let da = digits a h in true_both (each is_run_byte (decimal a)) (last_is_digit (114 ∷ decimal a)) (each_run (decimal a) da.all) (ends_digit (114 ∷ []) (decimal a) da.last)
meta_name (var_name j) h =
    let dj = digits j h in true_both (each is_run_byte (decimal j)) (last_is_digit (118 ∷ decimal j)) (each_run (decimal j) dj.all) (ends_digit (118 ∷ []) (decimal j) dj.last)

same_key : (a i b j : ℕ) → a < 2 ^ 64 → i < 2 ^ 64 → b < 2 ^ 64 → j < 2 ^ 64 → field_text (key_name a i) ≡ field_text (key_name b j) → key_name a i ≡ key_name b j
same_key a i b j p q r s e =
    let whole : decimal a ++ (95 ∷ decimal i) ≡ decimal b ++ (95 ∷ decimal j) = append_cancel_left (107 ∷ []) (decimal a ++ (95 ∷ decimal i)) (decimal b ++ (95 ∷ decimal j)) (sym (key_text a i) ∙ e ∙ key_text b j) in
    let parts = split (decimal a) (decimal b) (decimal i) (decimal j) (digits a p).all (digits b r).all whole in
    (λ k. key_name (decimal_injective a b p r parts.0 k) (decimal_injective i j q s parts.1 k))

-- the first byte
abbrev head : List ℕ → ℕ
head [] = 0
head (b ∷ bs) = b

other_head : (m n : ℕ) → (m == n) ≡ false → m ≡ n → ⊥
other_head m n h e = let k : (n == n) ≡ false = ap (λ z. z == n) (sym e) ∙ h in absurd (grind (arith, k))

same_field : (x y : FieldName) → Below (2 ^ 64) x → Below (2 ^ 64) y → field_text x ≡ field_text y → x ≡ y
same_field site_name y h g e = absurd h
same_field (key_name a i) site_name h g e = absurd g
same_field (key_name a i) (key_name b j) h g e = same_key a i b j h.0 h.1 g.0 g.1 e
same_field (key_name a i) (result_name b) h g e = absurd (other_head 107 114 refl (ap head (sym (key_text a i) ∙ e)))
same_field (key_name a i) (var_name j) h g e = absurd (other_head 107 118 refl (ap head (sym (key_text a i) ∙ e)))
same_field (result_name a) site_name h g e = absurd g
same_field (result_name a) (key_name b j) h g e = absurd (other_head 114 107 refl (ap head (e ∙ key_text b j)))
same_field (result_name a) (result_name b) h g e = ap result_name (decimal_injective a b h g (append_cancel_left (codes "r") (decimal a) (decimal b) e))
same_field (result_name a) (var_name j) h g e = absurd (other_head 114 118 refl (ap head e))
same_field (var_name i) site_name h g e = absurd g
same_field (var_name i) (key_name b j) h g e = absurd (other_head 118 107 refl (ap head (e ∙ key_text b j)))
same_field (var_name i) (result_name b) h g e = absurd (other_head 118 114 refl (ap head e))
same_field (var_name i) (var_name j) h g e = ap var_name (decimal_injective i j h g (append_cancel_left (codes "v") (decimal i) (decimal j) e))

-- ---- names that follow

abbrev InNames : FieldName → List Made → Type 0
InNames x [] = ⊥
InNames x (a_field y i w ∷ ms) = (x ≡ y) ⊎ InNames x ms
InNames x (a_table t f ps ∷ ms) = InNames x ms
InNames x (a_group t f ps ∷ ms) = InNames x ms

-- the name is none of those before
abbrev Later : (a v : ℕ) → Option ℕ → FieldName → Type 0
Later a v s site_name = ⊥
Later a v (Some k) (key_name b j) = (a < b) ⊎ ((a ≡ b) × (k ≤ j))
Later a v None (key_name b j) = a < b
Later a v (Some k) (result_name b) = a ≤ b
Later a v None (result_name b) = a < b
Later a v s (var_name j) = v ≤ j

after_key : (a v k : ℕ) (x : FieldName) → Later a v (Some (suc k)) x → Later a v (Some k) x
after_key a v k site_name h = h
after_key a v k (key_name b j) h = elim h [ inl l ↦ inl l | inr m ↦ inr (m.0, omega (arith, m.1)) ]
after_key a v k (result_name b) h = h
after_key a v k (var_name j) h = h

after_result : (a v k : ℕ) (x : FieldName) → Later a v None x → Later a v (Some k) x
after_result a v k site_name h = h
after_result a v k (key_name b j) h = inl h
after_result a v k (result_name b) h = omega (arith, h)
after_result a v k (var_name j) h = h

after_table : (a v : ℕ) (x : FieldName) → Later (suc a) v (Some 0) x → Later a v None x
after_table a v site_name h = h
after_table a v (key_name b j) h = elim h [ inl l ↦ omega (arith, l) | inr m ↦ omega (arith, m.0) ]
after_table a v (result_name b) h = omega (arith, h)
after_table a v (var_name j) h = h

after_var : (a v k : ℕ) (x : FieldName) → Later a (suc v) (Some k) x → Later a v (Some k) x
after_var a v k site_name h = h
after_var a v k (key_name b j) h = h
after_var a v k (result_name b) h = h
after_var a v k (var_name j) h = omega (arith, h)

all_later : (ms : List Made) (a v : ℕ) (s : Option ℕ) (b w : ℕ) → Named a v s ms b w → (x : FieldName) → InNames x ms → Later a v s x
all_later [] a v s b w h x i = absurd i
all_later (a_field site_name n y ∷ ms) a v (Some k) b w h x i = absurd h
all_later (a_field (key_name c j) n y ∷ ms) a v (Some k) b w h x i = elim i [
  | inl e ↦ subst (Later a v (Some k)) (sym e) (inr (sym h.0, omega (arith, h.1)))
  | inr l ↦ after_key a v k x (all_later ms a v (Some (suc k)) b w h.2 x l)
]
all_later (a_field (result_name c) n y ∷ ms) a v (Some k) b w h x i = elim i [
  | inl e ↦ subst (Later a v (Some k)) (sym e) (omega (arith, h.0))
  | inr l ↦ after_result a v k x (all_later ms a v None b w h.1 x l)
]
all_later (a_field (var_name j) n y ∷ ms) a v (Some k) b w h x i = elim i [
  | inl e ↦ subst (Later a v (Some k)) (sym e) (omega (arith, h.1))
  | inr l ↦ after_var a v k x (subst (λ z. Later a (suc v) (Some z) x) (sym h.0) (all_later ms a (suc v) (Some 0) b w h.2 x l))
]
all_later (a_field z n y ∷ ms) a v None b w h x i = absurd h
all_later (a_table t f ps ∷ ms) a v (Some k) b w h x i = absurd h
all_later (a_table t f ps ∷ ms) a v None b w h x i = after_table a v x (all_later ms (suc a) v (Some 0) b w h x i)
all_later (a_group t f ps ∷ ms) a v (Some k) b w h x i = absurd h
all_later (a_group t f ps ∷ ms) a v None b w h x i = after_table a v x (all_later ms (suc a) v (Some 0) b w h x i)

-- so many keys
abbrev keys_in : Option ℕ → ℕ
keys_in None = 0
keys_in (Some k) = k

all_below : (m : ℕ) (ms : List Made) (a v : ℕ) (s : Option ℕ) (b w : ℕ) → Named a v s ms b w → a + length ms ≤ m → v + length ms ≤ m → keys_in s + length ms ≤ m → (x : FieldName) → InNames x ms → Below m x
all_below m [] a v s b w h p q r x i = absurd i
all_below m (a_field site_name n y ∷ ms) a v (Some k) b w h p q r x i = absurd h
all_below m (a_field (key_name c j) n y ∷ ms) a v (Some k) b w h p q r x i = elim i [
  | inl e ↦ subst (Below m) (sym e) (omega (arith, p, h.0), omega (arith, r, h.1))
  | inr l ↦ all_below m ms a v (Some (suc k)) b w h.2 (omega (arith, p)) (omega (arith, q)) (omega (arith, r)) x l
]
all_below m (a_field (result_name c) n y ∷ ms) a v (Some k) b w h p q r x i = elim i [
  | inl e ↦ subst (Below m) (sym e) (omega (arith, p, h.0))
  | inr l ↦ all_below m ms a v None b w h.1 (omega (arith, p)) (omega (arith, q)) (omega (arith, p)) x l
]
all_below m (a_field (var_name j) n y ∷ ms) a v (Some k) b w h p q r x i = elim i [
  | inl e ↦ subst (Below m) (sym e) (omega (arith, q, h.1))
  | inr l ↦ all_below m ms a (suc v) (Some 0) b w h.2 (omega (arith, p)) (omega (arith, q)) (omega (arith, p)) x l
]
all_below m (a_field z n y ∷ ms) a v None b w h p q r x i = absurd h
all_below m (a_table t f ps ∷ ms) a v (Some k) b w h p q r x i = absurd h
all_below m (a_table t f ps ∷ ms) a v None b w h p q r x i = all_below m ms (suc a) v (Some 0) b w h (omega (arith, p)) (omega (arith, q)) (omega (arith, p)) x i
all_below m (a_group t f ps ∷ ms) a v (Some k) b w h p q r x i = absurd h
all_below m (a_group t f ps ∷ ms) a v None b w h p q r x i = all_below m ms (suc a) v (Some 0) b w h (omega (arith, p)) (omega (arith, q)) (omega (arith, p)) x i

-- ---- all names

abbrev pub names_in : List Made → List (List ℕ)
names_in ms = map (λ (f : P4Field). f.name) (fields_in ms)

-- a name that is none of these is written otherwise
unwritten : (x : FieldName) (ms : List Made) → Below (2 ^ 64) x → ((y : FieldName) → InNames y ms → Below (2 ^ 64) y) → ((y : FieldName) → InNames y ms → x ≡ y → ⊥) → is_one_of (names_in ms) (field_text x) ≡ false
unwritten x [] b all differ = refl
unwritten x (a_field y i w ∷ ms) b all differ =
    (λ k. one (same_name (field_text y) (field_text x)) refl k || unwritten x ms b (λ z j. all z (inr j)) (λ z j. differ z (inr j)) k)
  where
    one : (t : Bool) → same_name (field_text y) (field_text x) ≡ t → same_name (field_text y) (field_text x) ≡ false
    one true is = absurd (differ y (inl refl) (sym (same_field y x (all y (inl refl)) b (same_text (field_text y) (field_text x) is))))
    one false is = is
unwritten x (a_table t f ps ∷ ms) b all differ = unwritten x ms b all differ
unwritten x (a_group t f ps ∷ ms) b all differ = unwritten x ms b all differ

apart : (b c : Bool) → b ≡ false → c ≡ true → (not b && c) ≡ true
apart true c p q = absurd (cc)
apart false c p q = q

not_key : (a v k : ℕ) (x : FieldName) → Later a v (Some (suc k)) x → key_name a k ≡ x → ⊥
not_key a v k site_name h e = h
not_key a v k (key_name b j) h e =
    let p : a ≡ b = cc in
    let q : k ≡ j = cc in
    elim h [ inl l ↦ absurd (omega (arith, l, p)) | inr m ↦ absurd (omega (arith, m.1, q)) ]
not_key a v k (result_name b) h e = absurd (cc)
not_key a v k (var_name j) h e = absurd (cc)

not_result : (a v : ℕ) (x : FieldName) → Later a v None x → result_name a ≡ x → ⊥
not_result a v site_name h e = h
not_result a v (key_name b j) h e = absurd (cc)
not_result a v (result_name b) h e = let p : a ≡ b = cc in absurd (omega (arith, h, p))
not_result a v (var_name j) h e = absurd (cc)

not_var : (a v : ℕ) (x : FieldName) → Later a (suc v) (Some 0) x → var_name v ≡ x → ⊥
not_var a v site_name h e = h
not_var a v (key_name b j) h e = absurd (cc)
not_var a v (result_name b) h e = absurd (cc)
not_var a v (var_name j) h e = let p : v ≡ j = cc in absurd (omega (arith, h, p))

names_distinct : (ms : List Made) (a v : ℕ) (s : Option ℕ) (b w : ℕ) → Named a v s ms b w → ((x : FieldName) → InNames x ms → Below (2 ^ 64) x) → all_distinct (names_in ms) ≡ true
names_distinct [] a v s b w h all = refl
names_distinct (a_field site_name n y ∷ ms) a v (Some k) b w h all = absurd h
names_distinct (a_field (key_name c j) n y ∷ ms) a v (Some k) b w h all =
    apart (is_one_of (names_in ms) (field_text (key_name c j))) (all_distinct (names_in ms))
    (unwritten (key_name c j) ms (all (key_name c j) (inl refl)) (λ z i. all z (inr i))
    (λ z i e. not_key a v k z (all_later ms a v (Some (suc k)) b w h.2 z i) ((λ t. key_name (sym h.0 t) (sym h.1 t)) ∙ e))) (names_distinct ms a v (Some (suc k)) b w h.2 (λ z i. all z (inr i)))
names_distinct (a_field (result_name c) n y ∷ ms) a v (Some k) b w h all =
    apart (is_one_of (names_in ms) (field_text (result_name c))) (all_distinct (names_in ms))
    (unwritten (result_name c) ms (all (result_name c) (inl refl)) (λ z i. all z (inr i)) (λ z i e. not_result a v z (all_later ms a v None b w h.1 z i) (ap result_name (sym h.0) ∙ e)))
    (names_distinct ms a v None b w h.1 (λ z i. all z (inr i)))
names_distinct (a_field (var_name j) n y ∷ ms) a v (Some k) b w h all =
    apart (is_one_of (names_in ms) (field_text (var_name j))) (all_distinct (names_in ms))
    (unwritten (var_name j) ms (all (var_name j) (inl refl)) (λ z i. all z (inr i)) (λ z i e. not_var a v z (all_later ms a (suc v) (Some 0) b w h.2 z i) (ap var_name (sym h.1) ∙ e)))
    (names_distinct ms a (suc v) (Some 0) b w h.2 (λ z i. all z (inr i)))
names_distinct (a_field z n y ∷ ms) a v None b w h all = absurd h
names_distinct (a_table t f ps ∷ ms) a v (Some k) b w h all = absurd h
names_distinct (a_table t f ps ∷ ms) a v None b w h all = names_distinct ms (suc a) v (Some 0) b w h all
names_distinct (a_group t f ps ∷ ms) a v (Some k) b w h all = absurd h
names_distinct (a_group t f ps ∷ ms) a v None b w h all = names_distinct ms (suc a) v (Some 0) b w h all

each_meta : (ms : List Made) → ((x : FieldName) → InNames x ms → Below (2 ^ 64) x) → each (λ (f : P4Field). is_meta_name f.name) (fields_in ms) ≡ true
each_meta [] all = refl
each_meta (a_field x i w ∷ ms) all = true_both (is_meta_name (field_text x)) (each (λ (f : P4Field). is_meta_name f.name) (fields_in ms)) (meta_name x (all x (inl refl))) (each_meta ms (λ z j. all z (inr j)))
each_meta (a_table t f ps ∷ ms) all = each_meta ms all
each_meta (a_group t f ps ∷ ms) all = each_meta ms all

-- `site` is none of these
no_site : (ms : List Made) → ((x : FieldName) → InNames x ms → Below (2 ^ 64) x) → is_one_of (names_in ms) (codes "site") ≡ false
no_site [] all = refl
no_site (a_field x i w ∷ ms) all = (λ k. (other x (all x (inl refl)) k) || no_site ms (λ z j. all z (inr j)) k)
  where
    other : (y : FieldName) → Below (2 ^ 64) y → same_name (field_text y) (codes "site") ≡ false
    other site_name h = absurd h
    other (key_name a j) h = ap (λ z. same_name z (codes "site")) (key_text a j)
    other (result_name a) h = refl
    other (var_name j) h = refl
no_site (a_table t f ps ∷ ms) all = no_site ms all
no_site (a_group t f ps ∷ ms) all = no_site ms all

-- the names of a program's meta fields
pub record NamesFit (ms : List Made) : Type 0 where
  pub forms : each (λ (f : P4Field). is_meta_name f.name) (record { name = codes "site"; width = 8 } ∷ fields_in ms) ≡ true
  pub distinct : all_distinct (map (λ (f : P4Field). f.name) (record { name = codes "site"; width = 8 } ∷ fields_in ms)) ≡ true

pub meta_names_fit : (ms : List Made) (b w : ℕ) → Named 0 0 (Some 0) ms b w → length ms ≤ 2 ^ 64 → NamesFit ms
meta_names_fit ms b w h few =
    let below = all_below (2 ^ 64) ms 0 0 (Some 0) b w h (omega (arith, few)) (omega (arith, few)) (omega (arith, few)) in record {
      forms = true_both (is_meta_name (codes "site")) (each (λ (f : P4Field). is_meta_name f.name) (fields_in ms)) refl (each_meta ms below);
      distinct = apart (is_one_of (names_in ms) (codes "site")) (all_distinct (names_in ms)) (no_site ms below) (names_distinct ms 0 0 (Some 0) b w h below);
    }
