-- The grammar's turns: a value takes a token at least, so the count of the tokens is enough for items and for members.
use Rattle.std.proofs.Common.{◌≡◌, ℕ, zero, suc, ◌<◌, ◌≤◌, List, [], ◌∷◌, length, Option, Some, None, option_and_then, refl, sym, ap, subst, ◌∙◌, arith}
use Rattle.std.specs.Prelude.{⊤}
use Rattle.json.specs.Token.{Token}
use Rattle.json.specs.Json as json
use Rattle.json.specs.Json.{Parse, parse_map, after_end_array, read_key, items_step, members_step, items, members, value_with, value}
use Rattle.json.proofs.Grammar.{after_end_array-shorter, read_key-shorter}

-- what is left is shorter than this
abbrev Shorter : {A : Type 0} → ℕ → Option (A × List Token) → Type 0
Shorter n None = ⊤
Shorter n (Some p) = length p.1 < n

shorter_map : {A B : Type 0} (f : A → B) (m n : ℕ) → m ≤ n → (o : Option (A × List Token)) → Shorter m o → Shorter n (parse_map f o)
shorter_map f m n le None h = tt
shorter_map f m n le (Some p) h = omega (arith, h, le)

shorter_then : {A B : Type 0} (f : A × List Token → Option (B × List Token)) (m n : ℕ) → m ≤ n → ((p : A × List Token) → length p.1 < m → Shorter n (f p)) → (o : Option (A × List Token)) → Shorter m o
    → Shorter n (option_and_then f o)
shorter_then f m n le h None k = tt
shorter_then f m n le h (Some p) k = h p k

with_shorter : (a : Parse json.Items) (o : Parse json.Members) → ((ts : List Token) → Shorter (suc (length ts)) (a ts)) → ((ts : List Token) → Shorter (suc (length ts)) (o ts)) → (ts : List Token)
    → Shorter (length ts) (value_with a o ts)
with_shorter a o ha ho [] = tt
with_shorter a o ha ho (Token.begin_object ∷ ts) = shorter_map json.object (suc (length ts)) (suc (length ts)) (omega arith) (o ts) (ho ts)
with_shorter a o ha ho (Token.end_object ∷ ts) = tt
with_shorter a o ha ho (Token.begin_array ∷ ts) = shorter_map json.array (suc (length ts)) (suc (length ts)) (omega arith) (a ts) (ha ts)
with_shorter a o ha ho (Token.end_array ∷ ts) = tt
with_shorter a o ha ho (Token.key s ∷ ts) = tt
with_shorter a o ha ho (Token.string s ∷ ts) = omega arith
with_shorter a o ha ho (Token.number s ∷ ts) = omega arith
with_shorter a o ha ho (Token.boolean b ∷ ts) = omega arith
with_shorter a o ha ho (Token.null ∷ ts) = omega arith
with_shorter a o ha ho (Token.bad ∷ ts) = tt

module _ (p : Parse json.Json) (shorter : (ts : List Token) → Shorter (length ts) (p ts)) where
  step_shorter : (more : Parse json.Items) → ((ts : List Token) → Shorter (suc (length ts)) (more ts)) → (ts : List Token) (o : Option (List Token)) → after_end_array ts ≡ o
      → Shorter (suc (length ts)) (items_step p more ts o)
  step_shorter more h ts None e =
      shorter_then (λ q. parse_map (json.item q.0) (more q.1)) (length ts) (suc (length ts)) (omega arith)
      (λ q less. shorter_map (json.item q.0) (suc (length q.1)) (suc (length ts)) (omega (arith, less)) (more q.1) (h q.1)) (p ts) (shorter ts)
  step_shorter more h ts (Some r) e = omega (arith, after_end_array-shorter ts r e)

  items_shorter : (n : ℕ) (ts : List Token) → Shorter (suc (length ts)) (items p n ts)
  unfolding items
  items_shorter zero ts = tt
  items_shorter (suc n) ts = step_shorter (items p n) (items_shorter n) ts (after_end_array ts) refl

  key_shorter : (more : Parse json.Members) → ((ts : List Token) → Shorter (suc (length ts)) (more ts)) → (n : ℕ) (k : Option (List ℕ)) (s : List Token) → length s < n → Shorter (suc n) (members_step p more k s)
  key_shorter more h n None s less = omega (arith, less)
  key_shorter more h n (Some k) s less =
      shorter_then (λ q. parse_map (json.member k q.0) (more q.1)) (length s) (suc n) (omega (arith, less))
      (λ q lesser. shorter_map (json.member k q.0) (suc (length q.1)) (suc n) (omega (arith, less, lesser)) (more q.1) (h q.1)) (p s) (shorter s)

  keys_shorter : (more : Parse json.Members) → ((ts : List Token) → Shorter (suc (length ts)) (more ts)) → (ts : List Token) (o : Option (Option (List ℕ) × List Token)) → read_key ts ≡ o
      → Shorter (suc (length ts)) (option_and_then (λ q. members_step p more q.0 q.1) o)
  keys_shorter more h ts None e = tt
  keys_shorter more h ts (Some q) e = key_shorter more h (length ts) q.0 q.1 (read_key-shorter ts q.0 q.1 e)

  members_shorter : (n : ℕ) (ts : List Token) → Shorter (suc (length ts)) (members p n ts)
  unfolding members
  members_shorter zero ts = tt
  members_shorter (suc n) ts = keys_shorter (members p n) (members_shorter n) ts (read_key ts) refl

  -- ---- more turns than tokens make no difference

  nothing : (o : Option (json.Json × List Token)) → p [] ≡ o → o ≡ None
  nothing None e = refl
  nothing (Some q) e = absurd (omega (arith, subst (Shorter 0) e (shorter [])))

  no_items : (n : ℕ) → items p n [] ≡ None
  unfolding items
  no_items zero = refl
  no_items (suc n) = ap (option_and_then (λ q. parse_map (json.item q.0) (items p n q.1))) (nothing (p []) refl)

  same_rest : (f g : Parse json.Items) (ts : List Token) → ((r : List Token) → length r < length ts → f r ≡ g r) → (o : Option (json.Json × List Token)) → p ts ≡ o
      → option_and_then (λ q. parse_map (json.item q.0) (f q.1)) o ≡ option_and_then (λ q. parse_map (json.item q.0) (g q.1)) o
  same_rest f g ts same None e = refl
  same_rest f g ts same (Some q) e = ap (parse_map (json.item q.0)) (same q.1 (subst (Shorter (length ts)) e (shorter ts)))

  same_step : (f g : Parse json.Items) (ts : List Token) → ((r : List Token) → length r < length ts → f r ≡ g r) → (o : Option (List Token)) → items_step p f ts o ≡ items_step p g ts o
  same_step f g ts same None = same_rest f g ts same (p ts) refl
  same_step f g ts same (Some r) = refl

  pub items_enough : (m n : ℕ) (ts : List Token) → length ts ≤ m → length ts ≤ n → items p m ts ≡ items p n ts
  unfolding items
  items_enough zero zero ts h k = refl
  items_enough zero (suc n) [] h k = no_items 0 ∙ sym (no_items (suc n))
  items_enough zero (suc n) (t ∷ ts) h k = absurd (omega (arith, h))
  items_enough (suc m) zero [] h k = no_items (suc m) ∙ sym (no_items 0)
  items_enough (suc m) zero (t ∷ ts) h k = absurd (omega (arith, k))
  items_enough (suc m) (suc n) ts h k = same_step (items p m) (items p n) ts (λ r less. items_enough m n r (omega (arith, h, less)) (omega (arith, k, less))) (after_end_array ts)

  same_members : (f g : Parse json.Members) (k : Option (List ℕ)) (s : List Token) → ((r : List Token) → length r < length s → f r ≡ g r) → (o : Option (json.Json × List Token)) → p s ≡ o
      → (key : List ℕ) → option_and_then (λ q. parse_map (json.member key q.0) (f q.1)) o ≡ option_and_then (λ q. parse_map (json.member key q.0) (g q.1)) o
  same_members f g k s same None e key = refl
  same_members f g k s same (Some q) e key = ap (parse_map (json.member key q.0)) (same q.1 (subst (Shorter (length s)) e (shorter s)))

  same_key : (f g : Parse json.Members) (k : Option (List ℕ)) (s : List Token) → ((r : List Token) → length r < length s → f r ≡ g r) → members_step p f k s ≡ members_step p g k s
  same_key f g None s same = refl
  same_key f g (Some k) s same = same_members f g None s same (p s) refl k

  same_keys : (f g : Parse json.Members) (ts : List Token) → ((r : List Token) → length r < length ts → f r ≡ g r) → (o : Option (Option (List ℕ) × List Token)) → read_key ts ≡ o
      → option_and_then (λ q. members_step p f q.0 q.1) o ≡ option_and_then (λ q. members_step p g q.0 q.1) o
  same_keys f g ts same None e = refl
  same_keys f g ts same (Some q) e = let less = read_key-shorter ts q.0 q.1 e in same_key f g q.0 q.1 (λ r lesser. same r (omega (arith, less, lesser)))

  pub members_enough : (m n : ℕ) (ts : List Token) → length ts ≤ m → length ts ≤ n → members p m ts ≡ members p n ts
  unfolding members
  members_enough zero zero ts h k = refl
  members_enough zero (suc n) [] h k = refl
  members_enough zero (suc n) (t ∷ ts) h k = absurd (omega (arith, h))
  members_enough (suc m) zero [] h k = refl
  members_enough (suc m) zero (t ∷ ts) h k = absurd (omega (arith, k))
  members_enough (suc m) (suc n) ts h k = same_keys (members p m) (members p n) ts (λ r less. members_enough m n r (omega (arith, h, less)) (omega (arith, k, less))) (read_key ts) refl

-- ---- values

pub shorter_value : (depth : ℕ) (ts : List Token) → Shorter (length ts) (value depth ts)
unfolding value
shorter_value zero ts = with_shorter (λ ts. None) (λ ts. None) (λ ts. tt) (λ ts. tt) ts
shorter_value (suc d) ts =
    with_shorter (λ ts. items (value d) (length ts) ts) (λ ts. members (value d) (length ts) ts)
    (λ ts. items_shorter (value d) (shorter_value d) (length ts) ts) (λ ts. members_shorter (value d) (shorter_value d) (length ts) ts) ts

pub value_shorter : (depth : ℕ) (ts r : List Token) (j : json.Json) → value depth ts ≡ Some (j, r) → length r < length ts
value_shorter depth ts r j e = subst (Shorter (length ts)) e (shorter_value depth ts)
