-- The roles of different names among some declarations, one after the other.
use Rattle.std.specs.Prelude.{◌≡◌, ℕ, ◌+◌, ◌<◌, ◌≤◌, ◌==◌, ◌&&◌, ◌||◌, Bool, true, false, not, List, [], ◌∷◌, ◌++◌, length, map, take, get_or, filter_map, if◌then◌else◌, Option, Some, None, Vec, refl}
use Rattle.std.specs.List.{list_any}
use Rattle.std.specs.declared.alloc.Global.{Global}
use Rattle.std.proofs.Common.{sym, ◌∙◌, ap, subst, arith, Bor}
use Rattle.std.specs.Str.{bytes_eq}
use Rattle.std.specs.Ordering.{nat_cmp, is_eq, match_ordering}
use Rattle.std.specs.declared.cmp.Ordering.{Ordering}
use Rattle.std.specs.declared.cmp.Ordering.TheVariants.{Less, Equal, Greater}
use Rattle.std.specs.Cmp.Lexicographic.{slice_cmp}
use Rattle.std.specs.BTreeMap.{is_at}
use Rattle.std.specs.BTreeSet.{insert_key}
use Rattle.std.proofs.lemmas.Map.Text.{is_eq-slice_cmp}
use Rattle.std.proofs.lemmas.Bool.Decides.{nat_tests}
use Rattle.std.proofs.lemmas.List.{append-nil, take_all}
use Rattle.cocoon_num.specs.Tree.{Name, Role}
use Rattle.cocoon_num.specs.Names.{same_name}
use Rattle.cocoon_syntax.specs.declared.decl.Decl.{Decl as CodeDecl}
use Rattle.cocoon_syntax.specs.TreeOf.{decl_of}
use Rattle.cocoon_types.specs.Design.{as_role}
use Rattle.cocoon_types.specs.Limits.{new_names, reported}
use Rattle.cocoon_types.specs.RuleParts.{has_name, role_names}
use Rattle.cocoon_resolve.specs.Seen.{has_key, SeesName, Sees}
use Rattle.cocoon_resolve.proofs.Saturation.{sum_left}
use Rattle.cocoon_resolve.proofs.Steps.{chosen_more}

-- the names that a test does not hold of, or that stand earlier
abbrev new_by : (List ℕ → Bool) → List Name → ℕ
new_by m [] = 0
new_by m (n ∷ ns) = (if m n.text then 0 else 1) + new_by (λ x. same_name x n.text || m x) ns

-- the test after these names
abbrev after : (List ℕ → Bool) → List Name → List ℕ → Bool
after m [] = m
after m (n ∷ ns) = after (λ x. same_name x n.text || m x) ns

new_is : (seen ns : List Name) → new_names seen ns ≡ new_by (λ x. has_name x seen) ns
new_is seen [] = refl
new_is seen (n ∷ ns) = ap (λ k. (if has_name n.text seen then 0 else 1) + k) (new_is (n ∷ seen) ns)

new_last : (m : List ℕ → Bool) (ns : List Name) (n : Name) → new_by m (ns ++ (n ∷ [])) ≡ new_by m ns + (if after m ns n.text then 0 else 1)
new_last m [] n = omega arith
new_last m (x ∷ ns) n = rw (new_last (λ y. same_name y x.text || m y) ns n) (omega arith)

after_last : (m : List ℕ → Bool) (ns : List Name) (n : Name) (x : List ℕ) → after m (ns ++ (n ∷ [])) x ≡ (same_name x n.text || after m ns x)
after_last m [] n x = refl
after_last m (y ∷ ns) n x = after_last (λ z. same_name z y.text || m z) ns n x

-- none was seen
abbrev pub none : List ℕ → Bool
none x = false

-- the keys and the count after some names
pub record AreSeen (ns : List Name) (keys : List (Vec ℕ Global)) (count : ℕ) : Type 0 where
  pub members : (x : List ℕ) → has_key keys x ≡ after none ns x
  pub counted : count ≡ reported (new_by none ns)

pub none_seen : AreSeen [] [] 0
none_seen = record { members = λ x. refl; counted = refl }

seen_more : (ns : List Name) (n : Name) (old new : List (Vec ℕ Global)) (a k r : ℕ) → AreSeen ns old a → SeesName n.text old new k → r ≡ reported (a + k) → AreSeen (ns ++ (n ∷ [])) new r
seen_more ns n old new a k r s e h = record {
  members = λ x. e.keys x ∙ ap (λ b. same_name x n.text || b) (s.members x) ∙ sym (after_last none ns n x);
  counted =
      h ∙ ap (λ m. reported (a + m)) (e.counted ∙ ap (λ b. if b then 0 else 1) (s.members n.text))
      ∙ ap (λ m. reported (m + (if after none ns n.text then 0 else 1))) s.counted
      ∙ sum_left (new_by none ns) (if after none ns n.text then 0 else 1)
      ∙ ap reported (sym (new_last none ns n));
}

seen_same : (ns : List Name) (old new : List (Vec ℕ Global)) (a k r : ℕ) → AreSeen ns old a → k ≡ 0 → new ≡ old → r ≡ reported (a + k) → AreSeen ns new r
seen_same ns old new a k r s z e h = record {
  members = λ x. ap (λ ks. has_key ks x) e ∙ s.members x;
  counted = h ∙ ap (λ m. reported (a + m)) z ∙ ap (λ m. reported (m + 0)) s.counted ∙ sum_left (new_by none ns) 0 ∙ ap reported (no_more (new_by none ns));
}
  where
    no_more : (n : ℕ) → n + 0 ≡ n
    no_more n = omega arith

-- the names of some declarations, as the code holds them
abbrev pub names_in : List (Bor CodeDecl) → List Name
names_in ds = role_names (map (λ d. decl_of d.now) ds)

names_more : (ns rs : List Role) → map (λ (r : Role). r.name) (ns ++ rs) ≡ map (λ (r : Role). r.name) ns ++ map (λ (r : Role). r.name) rs
names_more [] rs = refl
names_more (n ∷ ns) rs = ap (λ xs. n.name ∷ xs) (names_more ns rs)

pub role_step : (ds : List (Bor CodeDecl)) (i : ℕ) (d : Bor CodeDecl) (old new : List (Vec ℕ Global)) (a k r : ℕ) → i < length ds → d ≡ get_or ds i d
    → AreSeen (names_in (take i ds)) old a → Sees (as_role (decl_of d.now)) old new k → r ≡ reported (a + k) → AreSeen (names_in (take (i + 1) ds)) new r
role_step ds i d old new a k r lt e s g h = by_role (as_role (decl_of d.now)) refl g
  where
    all_names : names_in (take (i + 1) ds) ≡ names_in (take i ds) ++ map (λ (r : Role). r.name) (filter_map as_role (decl_of d.now ∷ []))
    all_names = ap (map (λ (r : Role). r.name)) (chosen_more as_role (λ (d : Bor CodeDecl). decl_of d.now) ds i d lt e) ∙ names_more _ _

    by_role : (o : Option Role) → as_role (decl_of d.now) ≡ o → Sees o old new k → AreSeen (names_in (take (i + 1) ds)) new r
    by_role None f v =
        let same : names_in (take (i + 1) ds) ≡ names_in (take i ds) = all_names ∙ rw f (append-nil (names_in (take i ds))) in
        subst (λ ns. AreSeen ns new r) (sym same) (seen_same (names_in (take i ds)) old new a k r s v.0 v.1 h)
    by_role (Some x) f v =
        let more : names_in (take (i + 1) ds) ≡ names_in (take i ds) ++ (x.name ∷ []) = all_names ∙ rw f refl in
        subst (λ ns. AreSeen ns new r) (sym more) (seen_more (names_in (take i ds)) x.name old new a k r s v h)

pub all_seen : (ds : List (Bor CodeDecl)) (i : ℕ) (keys : List (Vec ℕ Global)) (n : ℕ) → length ds ≤ i → AreSeen (names_in (take i ds)) keys n → n ≡ reported (new_names [] (names_in ds))
all_seen ds i keys n h s = s.counted ∙ ap (λ xs. reported (new_by none (names_in xs))) (take_all i ds h) ∙ ap reported (sym (new_is [] (names_in ds)))

-- ---- the set of the names

-- the order of the set
abbrev pub key_order : Vec ℕ Global → Vec ℕ Global → Ordering
key_order x y = slice_cmp nat_cmp x.items y.items

same_bytes : (xs ys : List ℕ) → bytes_eq xs ys ≡ same_name xs ys
same_bytes [] [] = refl
same_bytes [] (y ∷ ys) = refl
same_bytes (x ∷ xs) [] = refl
same_bytes (x ∷ xs) (y ∷ ys) = ap (λ b. (x == y) && b) (same_bytes xs ys)

-- a key that stands where another does has its name
is_key : (x y : Vec ℕ Global) → is_eq (key_order x y) ≡ same_name x.items y.items
is_key x y = is_eq-slice_cmp x.items y.items ∙ same_bytes x.items y.items

any_same : (f g : Vec ℕ Global → Bool) → ((k : Vec ℕ Global) → f k ≡ g k) → (ks : List (Vec ℕ Global)) → list_any f ks ≡ list_any g ks
any_same f g h [] = refl
any_same f g h (k ∷ ks) = rw (h k, any_same f g h ks) refl

same_true : (xs ys : List ℕ) → same_name xs ys ≡ true → xs ≡ ys
same_true [] [] h = refl
same_true [] (y ∷ ys) h = absurd cc
same_true (x ∷ xs) [] h = absurd cc
same_true (x ∷ xs) (y ∷ ys) h =
    let b : (x == y) ≡ true = first_true (x == y) (same_name xs ys) h in
    let e : x ≡ y = grind (arith, nat_tests) in
    ap (λ z. z ∷ xs) e ∙ ap (λ zs. y ∷ zs) (same_true xs ys (second_true (x == y) (same_name xs ys) h))
  where
    first_true : (a b : Bool) → (a && b) ≡ true → a ≡ true
    first_true true b h = refl
    first_true false b h = absurd cc

    second_true : (a b : Bool) → (a && b) ≡ true → b ≡ true
    second_true true b h = h
    second_true false b h = absurd cc

-- the names after an insertion
joined : (x : List ℕ) (key : Vec ℕ Global) (ks : List (Vec ℕ Global)) → has_key (insert_key key_order ks key) x ≡ (same_name x key.items || has_key ks x)
joined x key [] = refl
joined x key (k ∷ ks) = by_order (key_order key k) (is_key key k) (joined x key ks)
  where
    twice : (a b r : Bool) → a ≡ b → (b || r) ≡ (a || (b || r))
    twice true true r h = refl
    twice false false r h = refl
    twice true false r h = absurd cc
    twice false true r h = absurd cc

    crossed : (a b r : Bool) → (b || (a || r)) ≡ (a || (b || r))
    crossed true true r = refl
    crossed true false r = refl
    crossed false true r = refl
    crossed false false r = refl

    by_order : (o : Ordering) → is_eq o ≡ same_name key.items k.items → has_key (insert_key key_order ks key) x ≡ (same_name x key.items || has_key ks x)
        → has_key (match_ordering o (key ∷ k ∷ ks) (k ∷ ks) (k ∷ insert_key key_order ks key)) x ≡ (same_name x key.items || (same_name x k.items || has_key ks x))
    by_order Less e h = refl
    by_order Equal e h = twice (same_name x key.items) (same_name x k.items) (has_key ks x) (ap (same_name x) (same_true key.items k.items (sym e)))
    by_order Greater e h = ap (λ b. same_name x k.items || b) h ∙ crossed (same_name x key.items) (same_name x k.items) (has_key ks x)

abbrev one_if : Bool → ℕ
one_if b = if b then 1 else 0

abbrev one_unless : Bool → ℕ
one_unless b = if b then 0 else 1

-- a name joins those seen
pub name_joins : (name : List ℕ) (old new : List (Vec ℕ Global)) (key : Vec ℕ Global) (b : Bool) (n : ℕ) → key.items ≡ name → new ≡ insert_key key_order old key
    → b ≡ not (list_any (is_at (key_order key)) old) → n ≡ (if b then 1 else 0) → SeesName name old new n
name_joins name old new key b n e k a c = record {
  counted =
      c ∙ ap one_if (a ∙ ap not (any_same (is_at (key_order key)) (λ y. same_name key.items y.items) (is_key key) old ∙ ap (λ z. has_key old z) e))
      ∙ turned (has_key old name);
  keys = λ x. ap (λ ks. has_key ks x) k ∙ joined x key old ∙ ap (λ z. same_name x z || has_key old x) e;
}
  where
    turned : (t : Bool) → one_if (not t) ≡ one_unless t
    turned true = refl
    turned false = refl
