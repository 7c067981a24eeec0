-- The names of a scope.
use Rattle.std.proofs.Common.{◌≡◌, ℕ, zero, suc, ◌+◌, ◌<◌, Bool, true, false, List, [], ◌∷◌, ◌++◌, length, map, take, get_or, slice_get, Option, Some, None, if◌then◌else◌, refl, sym, ap, subst, ◌∙◌}
use Rattle.std.specs.Prelude.{option_map, unwrap_or}
use Rattle.std.proofs.lemmas.List.{map-append, take_more}
use Rattle.cocoon_num.specs.Names.{same_name}
use Rattle.numbering.specs.declared.name_table.NameTable.{NameTable}
use Rattle.numbering.specs.NameNumbers.{index_of, Numbers}
use Rattle.numbering.proofs.NameFacts.{same-symm}
use Rattle.p4_texts.specs.Meant.{field_at, names_of, place_in}
use Rattle.p4_texts.specs.Written.{HeaderText, ProgramText}
use Rattle.p4_texts.specs.TreeOf.{header_of}
use Rattle.p4_texts.specs.declared.written.WrittenHeader.{WrittenHeader}
use Rattle.p4_resolve.specs.Scopes.{EachNumbers}

pub place_is : (names : List (List ℕ)) (x : List ℕ) → unwrap_or (index_of x names) (length names) ≡ place_in names x
place_is [] x = refl
place_is (y ∷ names) x = by (same_name x y) (same_name y x) (same-symm x y) (place_is names x)
  where
    later : (o : Option ℕ) (k : ℕ) → unwrap_or (option_map suc o) (suc k) ≡ suc (unwrap_or o k)
    later None k = refl
    later (Some n) k = refl

    by : (a b : Bool) → a ≡ b → unwrap_or (index_of x names) (length names) ≡ place_in names x → unwrap_or (if a then Some 0 else option_map suc (index_of x names)) (suc (length names)) ≡ (if b then 0 else suc (place_in names x))
    by true true h e = refl
    by false false h e = later (index_of x names) (length names) ∙ ap suc e
    by true false h e = absurd cc
    by false true h e = absurd cc

-- ---- the names of the fields of each header

-- one item more of those that are read
pub taken : {A B : Type 0} (f : A → B) (xs : List A) (i : ℕ) (x : A) → i < length xs → x ≡ get_or xs i x → map f (take (i + 1) xs) ≡ map f (take i xs) ++ f x ∷ []
taken f xs i x h e = ap (map f) (take_more xs i x h ∙ ap (λ y. take i xs ++ y ∷ []) (sym e)) ∙ map-append f (take i xs) (x ∷ [])

pub each_push : (ns : List NameTable) (hs : List HeaderText) (n : NameTable) (h : HeaderText) → EachNumbers ns hs → Numbers n (names_of h.fields) → EachNumbers (ns ++ n ∷ []) (hs ++ h ∷ [])
each_push [] [] n h e k = (k, tt)
each_push [] (x ∷ hs) n h e k = absurd e
each_push (x ∷ ns) [] n h e k = absurd e
each_push (x ∷ ns) (y ∷ hs) n h e k = (e.0, each_push ns hs n h e.1 k)

pub each_taken : (ns new : List NameTable) (hs : List WrittenHeader) (i : ℕ) (h : WrittenHeader) (n : NameTable) → i < length hs → h ≡ get_or hs i h → new ≡ ns ++ n ∷ [] → EachNumbers ns (map header_of (take i hs)) → Numbers n (names_of (header_of h).fields)
    → EachNumbers new (map header_of (take (i + 1) hs))
each_taken ns new hs i h n l e m k x =
    subst (λ ms. EachNumbers ms (map header_of (take (i + 1) hs))) (sym m)
    (subst (EachNumbers (ns ++ n ∷ [])) (sym (taken header_of hs i h l e)) (each_push ns (map header_of (take i hs)) n (header_of h) k x))

pub some_field : (ns : List NameTable) (t : ProgramText) (i : ℕ) (n : NameTable) (x : List ℕ) (r : ℕ) → EachNumbers ns t.headers → Some n ≡ slice_get ns i → ((names : List (List ℕ)) → Numbers n names → r ≡ place_in names x) → r ≡ field_at t i x
some_field ns t i n x r e g p = by ns t.headers i e g
  where
    by : (ns : List NameTable) (hs : List HeaderText) (i : ℕ) → EachNumbers ns hs → Some n ≡ slice_get ns i → r ≡ (elim (slice_get hs i) [ Some h ↦ place_in (names_of h.fields) x | None ↦ 0 ])
    by [] hs i e g = absurd cc
    by (m ∷ ns) [] i e g = absurd e
    by (m ∷ ns) (h ∷ hs) zero e g = p (names_of h.fields) (subst (λ m. Numbers m (names_of h.fields)) (let s : m ≡ n = cc in s) e.0)
    by (m ∷ ns) (h ∷ hs) (suc i) e g = by ns hs i e.1 g

pub no_field : (ns : List NameTable) (t : ProgramText) (i : ℕ) (x : List ℕ) → EachNumbers ns t.headers → None ≡ slice_get ns i → (let n : ℕ = 0 in n) ≡ field_at t i x
no_field ns t i x e g = by ns t.headers i e g
  where
    by : (ns : List NameTable) (hs : List HeaderText) (i : ℕ) → EachNumbers ns hs → None ≡ slice_get ns i → (let n : ℕ = 0 in n) ≡ (elim (slice_get hs i) [ Some h ↦ place_in (names_of h.fields) x | None ↦ 0 ])
    by [] [] i e g = refl
    by [] (h ∷ hs) i e g = absurd e
    by (m ∷ ns) [] i e g = refl
    by (m ∷ ns) (h ∷ hs) zero e g = absurd cc
    by (m ∷ ns) (h ∷ hs) (suc i) e g = by ns hs i e.1 g
