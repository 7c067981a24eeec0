-- What the look-ups in the tables of a design give.
use Rattle.std.proofs.Common.{◌≡◌, ℕ, zero, suc, List, [], ◌∷◌, map, slice_get, Option, Some, None, refl, sym, ap, subst, ◌∙◌, Bor}
use Rattle.std.specs.Prelude.{option_map, option_and_then, filter_map}
use Rattle.std.specs.Option.{option_map_or}
use Rattle.std.proofs.lemmas.Option.{slice_get-map}
use Rattle.std.specs.List.Sorted.{IsNonDecreasingBy}
use Rattle.cocoon_num.specs.Tree.{Name, Param, Decl, FunctionDecl, HeaderDecl, Design}
use Rattle.cocoon_num.specs.Names.{named}
use Rattle.cocoon_num.specs.Lists.{first_of}
use Rattle.cocoon_types.specs.Design.{as_role, as_function, all_decls, functions, role_at, field_width}
use Rattle.cocoon_types.specs.TypeRules.{first_role}
use Rattle.declarations.specs.declared.place.Place.{Place}
use Rattle.numbering.specs.declared.name_table.NameTable.{NameTable}
use Rattle.declarations.specs.declared.header_table.HeaderTable.{HeaderTable}
use Rattle.declarations.specs.declared.function_table.FunctionTable.{FunctionTable}
use Rattle.declarations.specs.declared.role_table.RoleTable.{RoleTable}
use Rattle.numbering.specs.NameNumbers.{index_of, firsts, number_of}
use Rattle.declarations.specs.Places.{placed, places_by}
use Rattle.declarations.specs.Declares.{function_texts, role_texts, function_number, role_number, role_called, places_at, fetch, latest_of, width_in, HoldsFields, HoldsHeaders, HoldsFunctions, HoldsRoles}
use Rattle.numbering.proofs.NameFacts.{named-index}
use Rattle.declarations.proofs.PlaceFacts.{sound-placed, fetch-at, decls-placed, levels-rise}
use Rattle.declarations.proofs.LatestFacts.{latest-role, first-fetch, first-stands, role_name}

-- ---- functions

pub function-number : (t : FunctionTable) (d : Design) → HoldsFunctions t (placed d) → (x : List ℕ) → number_of t.names x ≡ function_number d x
function-number t d h x = h.names.numbers x ∙ ap (λ fs. index_of x (function_texts fs)) (decls-placed as_function d)

pub function-read : (t : FunctionTable) (d : Design) → HoldsFunctions t (placed d) → (n : ℕ)
    → option_and_then (fetch as_function d) (slice_get t.places.items n) ≡ slice_get (functions d) n
function-read t d h n = ap (λ ps. option_and_then (fetch as_function d) (slice_get ps n)) h.places ∙ fetch-at as_function d (placed d) (sound-placed d) n ∙ ap (λ fs. slice_get fs n) (decls-placed as_function d)

pub function-named : (d : Design) (x : List ℕ) → option_and_then (slice_get (functions d)) (function_number d x) ≡ named (λ (f : FunctionDecl). f.name) x (functions d)
function-named d x = sym (named-index (λ (f : FunctionDecl). f.name) x (functions d))

-- ---- roles

pub role-numbers : (t : RoleTable) (d : Design) → HoldsRoles t (placed d) → (x : List ℕ) → number_of t.names x ≡ role_number d x
role-numbers t d h x = h.names.numbers x ∙ ap (λ rs. index_of x (firsts (role_texts rs))) (decls-placed as_role d)

role-places : (t : RoleTable) (d : Design) → HoldsRoles t (placed d) → (x : List ℕ) → option_map_or (places_at t) (role_number d x) [] ≡ places_by (role_called x) (placed d)
role-places t d h x = ap (λ o. option_map_or (places_at t) o []) (sym (role-numbers t d h x)) ∙ h.places x

pub role-places-at : (t : RoleTable) (d : Design) → HoldsRoles t (placed d) → (x : List ℕ) (n : ℕ) → role_number d x ≡ Some n → places_at t n ≡ places_by (role_called x) (placed d)
role-places-at t d h x n e = ap (λ o. option_map_or (places_at t) o []) (sym e) ∙ role-places t d h x

pub role-levels : (t : RoleTable) (d : Design) → HoldsRoles t (placed d) → (x : List ℕ) (n : ℕ) → role_number d x ≡ Some n → IsNonDecreasingBy (λ (p : Place). p.level) (places_at t n)
role-levels t d h x n e = subst (IsNonDecreasingBy (λ (p : Place). p.level)) (sym (role-places-at t d h x n e)) (levels-rise (role_called x) d)

pub role-latest : (t : RoleTable) (d : Design) → HoldsRoles t (placed d) → (level : ℕ) (x : List ℕ) (n : ℕ) → role_number d x ≡ Some n
    → option_and_then (fetch as_role d) (latest_of level (places_at t n)) ≡ role_at level d x
role-latest t d h level x n e = ap (λ ps. option_and_then (fetch as_role d) (latest_of level ps)) (role-places-at t d h x n e) ∙ latest-role level d x

pub role-none : (t : RoleTable) (d : Design) → HoldsRoles t (placed d) → (level : ℕ) (x : List ℕ) → role_number d x ≡ None → role_at level d x ≡ None
role-none t d h level x e = sym (latest-role level d x) ∙ ap (λ ps. option_and_then (fetch as_role d) (latest_of level ps)) (sym (role-places t d h x) ∙ ap (λ o. option_map_or (places_at t) o []) e)

pub first-read : (t : RoleTable) (d : Design) → HoldsRoles t (placed d) → (x : List ℕ) (n : ℕ) → role_number d x ≡ Some n
    → option_and_then (fetch as_role d) (first_of (places_at t n)) ≡ first_role d x
first-read t d h x n e = ap (λ ps. option_and_then (fetch as_role d) (first_of ps)) (role-places-at t d h x n e) ∙ first-stands d x (placed d) (sound-placed d) ∙ ap (named role_name x) (decls-placed as_role d)

pub first-none : (t : RoleTable) (d : Design) → HoldsRoles t (placed d) → (x : List ℕ) → role_number d x ≡ None → first_role d x ≡ None
first-none t d h x e = sym (first-stands d x (placed d) (sound-placed d) ∙ ap (named role_name x) (decls-placed as_role d)) ∙ ap (λ ps. option_and_then (fetch as_role d) (first_of ps)) (sym (role-places t d h x) ∙ ap (λ o. option_map_or (places_at t) o []) e)

-- ---- the first of a kind

pub kind-read : {A : Type 0} (pick : Decl → Option A) (d : Design) (o : Option Place) → o ≡ first_of (places_by pick (placed d))
    → option_and_then (fetch pick d) o ≡ first_of (filter_map pick (all_decls d))
kind-read pick d o e = ap (option_and_then (fetch pick d)) e ∙ first-fetch pick d (placed d) (sound-placed d) ∙ ap first_of (decls-placed pick d)

-- ---- headers

abbrev pub header_name : HeaderDecl → Name
header_name h = h.name

abbrev pub field_name : Param → Name
field_name p = p.name

abbrev pub width : Param → ℕ
width p = p.width

pub header-read : (t : HeaderTable) (hs : List HeaderDecl) → HoldsHeaders t hs → (x : List ℕ) → option_and_then (slice_get hs) (number_of t.headers x) ≡ named header_name x hs
header-read t hs h x = ap (option_and_then (slice_get hs)) (h.headers.numbers x) ∙ sym (named-index header_name x hs)

width-at : (ts : List NameTable) (hs : List HeaderDecl) → HoldsFields ts hs → (f : List ℕ) (n : ℕ)
    → width_in ts hs f n ≡ option_and_then (λ (d : HeaderDecl). option_map width (named field_name f d.fields)) (slice_get hs n)
width-at [] [] h f n = refl
width-at [] (d ∷ hs) h f n = absurd h
width-at (t ∷ ts) [] h f n = absurd h
width-at (t ∷ ts) (d ∷ hs) h f (suc n) = width-at ts hs h.1 f n
width-at (t ∷ ts) (d ∷ hs) h f zero = by (number_of t f) refl
  where
    by : (o : Option ℕ) → number_of t f ≡ o → option_and_then (λ i. option_map width (slice_get d.fields i)) o ≡ option_map width (named field_name f d.fields)
    by None e = ap (option_map width) (sym (named-index field_name f d.fields ∙ ap (option_and_then (slice_get d.fields)) (sym (h.0.numbers f) ∙ e)))
    by (Some i) e = ap (option_map width) (sym (named-index field_name f d.fields ∙ ap (option_and_then (slice_get d.fields)) (sym (h.0.numbers f) ∙ e)))

pub width-read : (t : HeaderTable) (hs : List HeaderDecl) → HoldsHeaders t hs → (x f : List ℕ) → option_and_then (width_in t.fields.items hs f) (number_of t.headers x) ≡ field_width hs x f
width-read t hs h x f = by (number_of t.headers x) refl
  where
    by : (o : Option ℕ) → number_of t.headers x ≡ o → option_and_then (width_in t.fields.items hs f) o ≡ field_width hs x f
    by None e = sym (ap (option_and_then (λ (d : HeaderDecl). option_map width (named field_name f d.fields))) (sym (header-read t hs h x) ∙ ap (option_and_then (slice_get hs)) e))
    by (Some n) e = width-at t.fields.items hs h.fields f n ∙ sym (ap (option_and_then (λ (d : HeaderDecl). option_map width (named field_name f d.fields))) (sym (header-read t hs h x) ∙ ap (option_and_then (slice_get hs)) e))

-- what an item that was looked up stands for
pub map-item : {X Y : Type 0} (f : X → Y) (r : Option (Bor X)) (xs : List X) (i : ℕ) → option_map (λ (b : Bor X). b.now) r ≡ slice_get xs i → option_map (λ (b : Bor X). f b.now) r ≡ slice_get (map f xs) i
map-item {X = X} f r xs i e = by r ∙ ap (option_map f) e ∙ sym (slice_get-map f xs i)
  where
    by : (r : Option (Bor X)) → option_map (λ (b : Bor X). f b.now) r ≡ option_map f (option_map (λ (b : Bor X). b.now) r)
    by None = refl
    by (Some b) = refl

pub none-at : {X : Type 0} (r : Option (Bor X)) (xs : List X) (i : ℕ) → option_map (λ (b : Bor X). b.now) r ≡ slice_get xs i → r ≡ None → None ≡ slice_get xs i
none-at r xs i e h = ap (option_map (λ (b : Bor _). b.now)) (sym h) ∙ e

pub some-at : {X : Type 0} (r : Option (Bor X)) (xs : List X) (i : ℕ) (b : Bor X) → option_map (λ (b : Bor X). b.now) r ≡ slice_get xs i → r ≡ Some b → Some b.now ≡ slice_get xs i
some-at r xs i b e h = ap (option_map (λ (b : Bor _). b.now)) (sym h) ∙ e
