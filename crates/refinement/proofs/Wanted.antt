-- The numbers that are wanted of choices: where a choice stands alone in what is sent, its number; where it stands nowhere
-- alone, 0.
use Rattle.std.proofs.Common.{◌≡◌, ◌⊎◌, inl, inr, ℕ, ◌==◌, ◌&&◌, ◌||◌, List, [], ◌∷◌, ◌++◌, map, length, Bool, true, false, Option, Some, None, if◌then◌else◌, refl, sym, ap, subst, ◌∙◌, arith}
use Rattle.std.specs.List.{list_any}
use Rattle.std.proofs.lemmas.List.Folds.{list_any-append}
use Rattle.cocoon_num.specs.Packets.{Packet}
use Rattle.cocoon_num.specs.Tree.{Expr, name, field, lit, true_or_false, call, unary, binary, slice, pick, HeaderDecl, Param}
use Rattle.cocoon_num.specs.Values.{as_number, number, Value}
use Rattle.cocoon_types.specs.ReadBack.{FieldValue, is_choice_at}
use Rattle.refinement.specs.Sending.{flat}
use Rattle.refinement.specs.Trails.{FieldMark, is_same, number_in, wanted}
use Rattle.refinement.proofs.Beside.{HeaderBy, PacketBy, Pairs}
use Rattle.refinement.proofs.Following.{ArgsAre}
use Rattle.refinement.proofs.Marked.{choice_of, field_mark}
use Rattle.refinement.proofs.Same.{Held}

-- the values of some fields
abbrev pub field_values : List FieldValue → List Expr
field_values vs = map (λ (v : FieldValue). v.value) vs

same_test : (e : Expr) (c : ℕ) → is_same (choice_of e) c ≡ is_choice_at c e
same_test (name at x) c = by (length x == 0)
  where
    by : (b : Bool) → is_same (if b then Some at else None) c ≡ ((c == at) && b)
    by true = sym (and_yes (c == at))
      where
        and_yes : (b : Bool) → (b && true) ≡ b
        and_yes true = refl
        and_yes false = refl
    by false = sym (and_no (c == at))
      where
        and_no : (b : Bool) → (b && false) ≡ false
        and_no true = refl
        and_no false = refl
same_test (field at h f) c = refl
same_test (lit at w n) c = refl
same_test (true_or_false at b) c = refl
same_test (call at f es) c = refl
same_test (unary at op a) c = refl
same_test (binary at op a b) c = refl
same_test (slice at a high low) c = refl
same_test (pick at x a b) c = refl

-- a number is that of the choice, or none is found and the choice stands nowhere there
abbrev IsFound : (ℕ → ℕ) → ℕ → List Expr → Option ℕ → Type 0
IsFound s c es None = list_any (is_choice_at c) es ≡ false
IsFound s c es (Some n) = n ≡ s c

found_by : (s : ℕ → ℕ) (c n : ℕ) (e : Expr) (es : List Expr) (o : Option ℕ) (b t : Bool) → b ≡ t → is_choice_at c e ≡ t → (is_choice_at c e ≡ true → n ≡ s c) → IsFound s c es o → IsFound s c (e ∷ es) (if b then Some n else o)
found_by s c n e es o true true p q h k = h q
found_by s c n e es (Some m) false false p q h k = k
found_by s c n e es None false false p q h k = (λ i. q i || k i)
found_by s c n e es o true false p q h k = absurd (cc)
found_by s c n e es o false true p q h k = absurd (cc)

pub args_found : (s : ℕ → ℕ) (c : ℕ) (es : List Expr) (ns : List ℕ) → ArgsAre s es ns → IsFound s c es (number_in c (map choice_of es) ns)
args_found s c [] [] h = refl
args_found s c [] (n ∷ ns) h = absurd h
args_found s c (e ∷ es) [] h = absurd h
args_found s c (e ∷ es) (n ∷ ns) h =
    found_by s c n e es (number_in c (map choice_of es) ns) (is_same (choice_of e) c) (is_choice_at c e) (same_test e c) refl (h.0 c) (args_found s c es ns h.1)

args_append : (s : ℕ → ℕ) (es fs : List Expr) (ns ms : List ℕ) → ArgsAre s es ns → ArgsAre s fs ms → ArgsAre s (es ++ fs) (ns ++ ms)
args_append s [] fs [] ms h k = k
args_append s [] fs (n ∷ ns) ms h k = absurd h
args_append s (e ∷ es) fs [] ms h k = absurd h
args_append s (e ∷ es) fs (n ∷ ns) ms h k = (h.0, args_append s es fs ns ms h.1 k)

header_args : (f : ℕ → Bool) (s : ℕ → ℕ) (h : List ℕ) (ps : List Param) (vs : List FieldValue) (ns ms : List ℕ) → HeaderBy (Held f s) h ps vs ns ms → ArgsAre s (field_values vs) ns
header_args f s h [] [] [] [] k = tt
header_args f s h [] [] [] (m ∷ ms) k = absurd k
header_args f s h [] [] (n ∷ ns) ms k = absurd k
header_args f s h [] (v ∷ vs) ns ms k = absurd k
header_args f s h (p ∷ ps) [] ns ms k = absurd k
header_args f s h (p ∷ ps) (v ∷ vs) [] ms k = absurd k
header_args f s h (p ∷ ps) (v ∷ vs) (n ∷ ns) [] k = absurd k
header_args f s h (p ∷ ps) (v ∷ vs) (n ∷ ns) (m ∷ ms) k = (λ c q. number_is p.width n (s c) (k.2.1 c q), header_args f s h ps vs ns ms k.3)
  where
    number_is : (w n m : ℕ) → as_number (number w n) ≡ Some m → n ≡ m
    number_is w n m e = cc

map_append : (xs ys : List FieldValue) → field_values (xs ++ ys) ≡ field_values xs ++ field_values ys
map_append [] ys = refl
map_append (x ∷ xs) ys = ap (λ zs. x.value ∷ zs) (map_append xs ys)

-- the fields that are sent
pub packet_args : (f : ℕ → Bool) (s : ℕ → ℕ) (hs : List HeaderDecl) (vs : List FieldValue) (packet other : Packet) → PacketBy (Held f s) hs vs packet other → ArgsAre s (field_values vs) (flat packet)
packet_args f s [] [] [] [] k = tt
packet_args f s [] [] [] (m ∷ other) k = absurd k
packet_args f s [] [] (n ∷ packet) other k = absurd k
packet_args f s [] (v ∷ vs) packet other k = absurd k
packet_args f s (h ∷ hs) vs [] other k = absurd k
packet_args f s (h ∷ hs) vs (ns ∷ packet) [] k = absurd k
packet_args f s (h ∷ hs) vs (ns ∷ packet) (ms ∷ other) k =
    subst (λ z. ArgsAre s (field_values z) (ns ++ flat packet)) (sym k.2)
    (subst (λ z. ArgsAre s z (ns ++ flat packet)) (sym (map_append k.0 k.1))
    (args_append s (field_values k.0) (field_values k.1) ns (flat packet) (header_args f s h.name.text h.fields k.0 ns ms k.3) (packet_args f s hs k.1 packet other k.4)))

fields_marked : (vs : List FieldValue) → map (λ (v : FieldMark). v.choice) (map field_mark vs) ≡ map choice_of (field_values vs)
fields_marked [] = refl
fields_marked (v ∷ vs) = ap (λ xs. choice_of v.value ∷ xs) (fields_marked vs)

-- what is wanted is the number of the choice, or it is 0 and the choice stands nowhere alone
wanted_by : (s : ℕ → ℕ) (c : ℕ) (es fs : List Expr) (o q : Option ℕ) → IsFound s c es o → IsFound s c fs q
    → (elim o as (λ _. ℕ) [ Some n ↦ n | None ↦ elim q as (λ _. ℕ) [ Some n ↦ n | None ↦ 0 ] ] ≡ s c)
    ⊎ ((elim o as (λ _. ℕ) [ Some n ↦ n | None ↦ elim q as (λ _. ℕ) [ Some n ↦ n | None ↦ 0 ] ] ≡ 0) × (list_any (is_choice_at c) (es ++ fs) ≡ false))
wanted_by s c es fs (Some n) q h k = inl h
wanted_by s c es fs None (Some n) h k = inl k
wanted_by s c es fs None None h k = inr (refl, list_any-append (is_choice_at c) es fs ∙ (λ i. h i || k i))

pub wanted_is : (s : ℕ → ℕ) (c : ℕ) (es : List Expr) (to : List ℕ) (vs : List FieldValue) (sent : List ℕ) → ArgsAre s es to → ArgsAre s (field_values vs) sent
    → (wanted (map choice_of es) to (map (λ (v : FieldMark). v.choice) (map field_mark vs)) sent c ≡ s c)
    ⊎ ((wanted (map choice_of es) to (map (λ (v : FieldMark). v.choice) (map field_mark vs)) sent c ≡ 0) × (list_any (is_choice_at c) (es ++ field_values vs) ≡ false))
wanted_is s c es to vs sent h k =
    wanted_by s c es (field_values vs) (number_in c (map choice_of es) to) (number_in c (map (λ (v : FieldMark). v.choice) (map field_mark vs)) sent) (args_found s c es to h)
    (subst (λ z. IsFound s c (field_values vs) (number_in c z sent)) (sym (fields_marked vs)) (args_found s c (field_values vs) sent k))
