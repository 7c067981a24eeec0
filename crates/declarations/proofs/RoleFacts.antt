-- What a table of roles holds with one declaration more.
use Rattle.std.proofs.Common.{◌≡◌, ℕ, zero, suc, ◌+◌, ◌<◌, ◌==◌, Bool, true, false, List, [], ◌∷◌, ◌++◌, map, length, slice_get, Option, Some, None, if◌then◌else◌, is_some, refl, sym, ap, ap₂, subst, ◌∙◌, append-nil, arith, length-append, eqb-true, Vec, Global}
use Rattle.std.specs.Prelude.{option_map}
use Rattle.std.specs.Option.{option_or, option_map_or}
use Rattle.std.specs.List.{cons_option}
use Rattle.std.proofs.lemmas.Option.{slice_get_within}
use Rattle.std.proofs.lemmas.List.Sums.{fold-append}
use Rattle.std.proofs.lemmas.Bool.{false_from_ne_true, both_ways}
use Rattle.cocoon_num.specs.Tree.{Role, a_role}
use Rattle.cocoon_num.specs.Names.{same_name}
use Rattle.cocoon_types.specs.Design.{as_role}
use Rattle.declarations.specs.declared.place.Place.{Place}
use Rattle.declarations.specs.declared.role_table.RoleTable.{RoleTable}
use Rattle.numbering.specs.NameNumbers.{index_of, firsts, with_name, Numbers, number_of}
use Rattle.declarations.specs.Places.{Placed, places_by, decls_by}
use Rattle.declarations.specs.Declares.{role_texts, role_called, places_at, HoldsRoles, AddsAt, AddsName}
use Rattle.numbering.proofs.NameFacts.{same-refl, same-true, index-append, index-at}
use Rattle.declarations.proofs.PlaceFacts.{picked-append}

map-push : {A B : Type 0} (f : A → B) (xs : List A) (x : A) → map f (xs ++ x ∷ []) ≡ map f xs ++ f x ∷ []
map-push f [] x = refl
map-push f (y ∷ xs) x = ap (λ l. f y ∷ l) (map-push f xs x)

-- the names with one role more
role-texts : (ps : List Placed) (p : Place) (r : Role) → role_texts (decls_by as_role (ps ++ (p, a_role r) ∷ [])) ≡ role_texts (decls_by as_role ps) ++ r.name.text ∷ []
role-texts ps p r = ap role_texts (picked-append (λ (q : Placed). as_role q.1) ps ((p, a_role r) ∷ [])) ∙ map-push (λ (s : Role). s.name.text) (decls_by as_role ps) r

pub names-more : (ps : List Placed) (p : Place) (r : Role)
    → firsts (role_texts (decls_by as_role (ps ++ (p, a_role r) ∷ []))) ≡ with_name (firsts (role_texts (decls_by as_role ps))) r.name.text
names-more ps p r = ap firsts (role-texts ps p r) ∙ fold-append with_name [] (role_texts (decls_by as_role ps)) (r.name.text ∷ [])

places-more : (x : List ℕ) (ps : List Placed) (p : Place) (r : Role)
    → places_by (role_called x) (ps ++ (p, a_role r) ∷ []) ≡ places_by (role_called x) ps ++ (if same_name x r.name.text then p ∷ [] else [])
places-more x ps p r = picked-append (λ (q : Placed). option_map (λ _. q.0) (role_called x q.1)) ps ((p, a_role r) ∷ [])
    ∙ ap (λ l. places_by (role_called x) ps ++ l) (by (same_name x r.name.text))
  where
    by : (b : Bool) → cons_option (option_map (λ _. p) (if b then Some r else None)) [] ≡ (if b then p ∷ [] else [])
    by true = refl
    by false = refl

-- what stands in a table under a name
abbrev under : RoleTable → List ℕ → List Place
under t x = option_map_or (places_at t) (number_of t.names x) []

-- one place more for a role that is there
pub role-old : (old new : RoleTable) (ps : List Placed) (p : Place) (r : Role) (i : ℕ) → HoldsRoles old ps
    → number_of old.names r.name.text ≡ Some i → new.names ≡ old.names → AddsAt i p old.places.items new.places.items
    → HoldsRoles new (ps ++ (p, a_role r) ∷ [])
role-old old new ps p r i h found names adds = record {
  names = subst (Numbers new.names) (sym texts) (subst (λ t. Numbers t (firsts (role_texts (decls_by as_role ps)))) (sym names) h.names);
  count = adds.count ∙ h.count ∙ sym (ap length texts);
  places = λ x. ap (λ t. option_map_or (places_at new) (number_of t x) []) names ∙ by x (same_name x r.name.text) refl ∙ sym (places-more x ps p r);
}
  where
    there : index_of r.name.text (firsts (role_texts (decls_by as_role ps))) ≡ Some i
    there = sym (h.names.numbers r.name.text) ∙ found

    texts : firsts (role_texts (decls_by as_role (ps ++ (p, a_role r) ∷ []))) ≡ firsts (role_texts (decls_by as_role ps))
    texts = names-more ps p r ∙ ap (λ o. if is_some o then firsts (role_texts (decls_by as_role ps)) else firsts (role_texts (decls_by as_role ps)) ++ r.name.text ∷ []) there

    apart : (x : List ℕ) (j : ℕ) → same_name x r.name.text ≡ false → number_of old.names x ≡ Some j → (j == i) ≡ false
    apart x j e n = false_from_ne_true (j == i) (λ q.
        let level = eqb-true j i q in
        let one = index-at x (firsts (role_texts (decls_by as_role ps))) j (sym (h.names.numbers x) ∙ n) in
        let two = index-at r.name.text (firsts (role_texts (decls_by as_role ps))) i there in
        let same : x ≡ r.name.text = cc in
        both_ways (same_name x r.name.text) e (ap (same_name x) (sym same) ∙ same-refl x))

    other : (x : List ℕ) → same_name x r.name.text ≡ false → (o : Option ℕ) → number_of old.names x ≡ o → option_map_or (places_at new) o [] ≡ option_map_or (places_at old) o []
    other x e None n = refl
    other x e (Some j) n = ap (λ o. option_map_or (λ (v : Vec Place Global). v.items) o []) (adds.others j (apart x j e n))

    by : (x : List ℕ) (b : Bool) → same_name x r.name.text ≡ b
        → option_map_or (places_at new) (number_of old.names x) [] ≡ places_by (role_called x) ps ++ (if same_name x r.name.text then p ∷ [] else [])
    by x true e =
        let same = same-true x r.name.text e in
        let at : number_of old.names x ≡ Some i = ap (number_of old.names) same ∙ found in
        ap (λ o. option_map_or (places_at new) o []) at ∙ adds.there
        ∙ ap₂ (◌++◌) (ap (λ o. option_map_or (places_at old) o []) (sym at) ∙ h.places x) (ap (λ c. if c then p ∷ [] else []) (sym e))
    by x false e = other x e (number_of old.names x) refl ∙ h.places x ∙ sym (append-nil (places_by (role_called x) ps)) ∙ ap (λ c. places_by (role_called x) ps ++ (if c then p ∷ [] else [])) (sym e)

last : {X : Type 0} (xs : List X) (x : X) → slice_get (xs ++ x ∷ []) (length xs) ≡ Some x
last [] x = refl
last (y ∷ xs) x = last xs x

in_prefix : {X : Type 0} (xs : List X) (x : X) (i : ℕ) → i < length xs → slice_get (xs ++ x ∷ []) i ≡ slice_get xs i
in_prefix [] x i l = absurd (omega arith)
in_prefix (y ∷ xs) x zero l = refl
in_prefix (y ∷ xs) x (suc i) l = in_prefix xs x i (omega arith)

-- a role that is not there
pub role-new : (old new : RoleTable) (ps : List Placed) (p : Place) (r : Role) → HoldsRoles old ps
    → number_of old.names r.name.text ≡ None → AddsName old new p r.name.text
    → HoldsRoles new (ps ++ (p, a_role r) ∷ [])
role-new old new ps p r h none adds = record {
  names = subst (Numbers new.names) (sym texts) (adds.names (firsts (role_texts (decls_by as_role ps))) h.names);
  count = ap length adds.places ∙ length-append old.places.items (adds.list ∷ []) ∙ ap (λ n. n + 1) h.count ∙ sym (length-append (firsts (role_texts (decls_by as_role ps))) (r.name.text ∷ [])) ∙ sym (ap length texts);
  places = λ x. by x (same_name x r.name.text) refl ∙ sym (places-more x ps p r);
}
  where
    absent : index_of r.name.text (firsts (role_texts (decls_by as_role ps))) ≡ None
    absent = sym (h.names.numbers r.name.text) ∙ none

    texts : firsts (role_texts (decls_by as_role (ps ++ (p, a_role r) ∷ []))) ≡ firsts (role_texts (decls_by as_role ps)) ++ r.name.text ∷ []
    texts = names-more ps p r ∙ ap (λ o. if is_some o then firsts (role_texts (decls_by as_role ps)) else firsts (role_texts (decls_by as_role ps)) ++ r.name.text ∷ []) absent

    number : (x : List ℕ) → number_of new.names x ≡ option_or (index_of x (firsts (role_texts (decls_by as_role ps)))) (if same_name x r.name.text then Some (length (firsts (role_texts (decls_by as_role ps)))) else None)
    number x = (adds.names (firsts (role_texts (decls_by as_role ps))) h.names).numbers x ∙ index-append x (firsts (role_texts (decls_by as_role ps))) r.name.text

    other : (x : List ℕ) (o : Option ℕ) → index_of x (firsts (role_texts (decls_by as_role ps))) ≡ o → option_map_or (places_at new) (option_or o None) [] ≡ option_map_or (places_at old) o []
    other x None n = refl
    other x (Some j) n =
        let within : j < length (firsts (role_texts (decls_by as_role ps))) = slice_get_within _ j x (index-at x _ j n) in
        ap (λ o. option_map_or (λ (v : Vec Place Global). v.items) o []) (ap (λ l. slice_get l j) adds.places ∙ in_prefix old.places.items adds.list j (omega (arith, h.count)))

    by : (x : List ℕ) (b : Bool) → same_name x r.name.text ≡ b
        → option_map_or (places_at new) (number_of new.names x) [] ≡ places_by (role_called x) ps ++ (if same_name x r.name.text then p ∷ [] else [])
    by x true e =
        let same = same-true x r.name.text e in
        let empty : places_by (role_called x) ps ≡ [] = sym (h.places x) ∙ ap (λ o. option_map_or (places_at old) o []) (ap (number_of old.names) same ∙ none) in
        let at : number_of new.names x ≡ Some (length old.places.items) = number x ∙ ap₂ option_or (ap (λ y. index_of y (firsts (role_texts (decls_by as_role ps)))) same ∙ absent) (ap (λ c. if c then Some (length (firsts (role_texts (decls_by as_role ps)))) else None) e) ∙ ap Some (sym h.count) in
        ap (λ o. option_map_or (places_at new) o []) at
        ∙ ap (λ o. option_map_or (λ (v : Vec Place Global). v.items) o []) (ap (λ l. slice_get l (length old.places.items)) adds.places ∙ last old.places.items adds.list)
        ∙ adds.only ∙ ap₂ (◌++◌) (sym empty) (ap (λ c. if c then p ∷ [] else []) (sym e))
    by x false e =
        ap (λ o. option_map_or (places_at new) o []) (number x ∙ ap (λ c. option_or (index_of x (firsts (role_texts (decls_by as_role ps)))) (if c then Some (length (firsts (role_texts (decls_by as_role ps)))) else None)) e)
        ∙ other x (index_of x (firsts (role_texts (decls_by as_role ps)))) refl
        ∙ ap (λ o. option_map_or (places_at old) o []) (sym (h.names.numbers x)) ∙ h.places x
        ∙ sym (append-nil (places_by (role_called x) ps)) ∙ ap (λ c. places_by (role_called x) ps ++ (if c then p ∷ [] else [])) (sym e)

-- the number of a role has a place in the table
pub role-within : (t : RoleTable) (ps : List Placed) (x : List ℕ) (i : ℕ) → HoldsRoles t ps → number_of t.names x ≡ Some i → i < length t.places.items
role-within t ps x i h e =
    let within : i < length (firsts (role_texts (decls_by as_role ps))) = slice_get_within _ i x (index-at x _ i (sym (h.names.numbers x) ∙ e)) in
    omega (arith, h.count)
