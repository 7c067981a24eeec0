-- What the tables hold with one declaration more.
use Rattle.std.proofs.Common.{◌≡◌, ℕ, suc, ◌+◌, if◌then◌else◌, List, [], ◌∷◌, ◌++◌, map, length, slice_get, Option, Some, None, refl, sym, ap, ap₂, subst, ◌∙◌, append-nil, append_assoc, add-one, arith, get_or, take, length-take, ◌<◌, subst₂, Bor, unwrap_or}
use Rattle.std.proofs.lemmas.List.{take_more}
use Rattle.std.proofs.lemmas.Option.{slice_get-map}
use Rattle.std.specs.Prelude.{option_map, option_and_then}
use Rattle.std.specs.Option.{option_or}
use Rattle.std.specs.List.{cons_option}
use Rattle.cocoon_num.specs.Tree.{Role, Decl, FunctionDecl, a_function, HeaderDecl, Refine}
use Rattle.cocoon_num.specs.Names.{same_name}
use Rattle.cocoon_num.specs.Lists.{first_of}
use Rattle.cocoon_types.specs.Design.{as_role, as_function, as_host, as_switch, functions}
use Rattle.cocoon_syntax.specs.TreeOf.{decl_of, refine_of, design_of}
use Rattle.cocoon_syntax.specs.declared.decl.Decl.{Decl as CodeDecl}
use Rattle.cocoon_syntax.specs.declared.decl.Refine.{Refine as CodeRefine}
use Rattle.cocoon_syntax.specs.declared.decl.Design.{Design as CodeDesign}
use Rattle.declarations.specs.declared.place.Place.{Place}
use Rattle.numbering.specs.declared.name_table.NameTable.{NameTable}
use Rattle.declarations.specs.declared.function_table.FunctionTable.{FunctionTable}
use Rattle.declarations.specs.declared.role_table.RoleTable.{RoleTable}
use Rattle.declarations.specs.declared.decl_table.DeclTable.{DeclTable}
use Rattle.numbering.specs.NameNumbers.{firsts, Numbers}
use Rattle.declarations.specs.Places.{Placed, level_decls, placed_from, placed_blocks, placed, places_by, decls_by}
use Rattle.declarations.specs.Declares.{function_texts, role_texts, role_called, field_texts, HoldsFields, HoldsFunctions, HoldsRoles, Holds}
use Rattle.declarations.proofs.PlaceFacts.{picked-append}

pub decls-more : {A : Type 0} (pick : Decl → Option A) (ps : List Placed) (q : Placed) → decls_by pick (ps ++ q ∷ []) ≡ decls_by pick ps ++ cons_option (pick q.1) []
decls-more pick ps q = picked-append (λ (p : Placed). pick p.1) ps (q ∷ [])

pub places-more : {A : Type 0} (pick : Decl → Option A) (ps : List Placed) (q : Placed) → places_by pick (ps ++ q ∷ []) ≡ places_by pick ps ++ cons_option (option_map (λ _. q.0) (pick q.1)) []
places-more pick ps q = picked-append (λ (p : Placed). option_map (λ _. p.0) (pick p.1)) ps (q ∷ [])

pub decls-same : {A : Type 0} (pick : Decl → Option A) (ps : List Placed) (q : Placed) → pick q.1 ≡ None → decls_by pick (ps ++ q ∷ []) ≡ decls_by pick ps
decls-same pick ps q e = decls-more pick ps q ∙ ap (λ o. decls_by pick ps ++ cons_option o []) e ∙ append-nil (decls_by pick ps)

pub places-same : {A : Type 0} (pick : Decl → Option A) (ps : List Placed) (q : Placed) → pick q.1 ≡ None → places_by pick (ps ++ q ∷ []) ≡ places_by pick ps
places-same pick ps q e = places-more pick ps q ∙ ap (λ o. places_by pick ps ++ cons_option (option_map (λ _. q.0) o) []) e ∙ append-nil (places_by pick ps)

map-append : {A B : Type 0} (f : A → B) (xs ys : List A) → map f (xs ++ ys) ≡ map f xs ++ map f ys
map-append f [] ys = refl
map-append f (x ∷ xs) ys = ap (λ l. f x ∷ l) (map-append f xs ys)

-- ---- functions

pub functions-more : (old new : FunctionTable) (ps : List Placed) (p : Place) (f : FunctionDecl) → HoldsFunctions old ps
    → ((ns : List (List ℕ)) → Numbers old.names ns → Numbers new.names (ns ++ f.name.text ∷ []))
    → new.places.items ≡ old.places.items ++ p ∷ []
    → HoldsFunctions new (ps ++ (p, a_function f) ∷ [])
functions-more old new ps p f h names places = record {
  names = subst (Numbers new.names) (sym (ap function_texts (decls-more as_function ps (p, a_function f)) ∙ map-append (λ (g : FunctionDecl). g.name.text) (decls_by as_function ps) (f ∷ []))) (names (function_texts (decls_by as_function ps)) h.names);
  places = places ∙ ap (λ l. l ++ p ∷ []) h.places ∙ sym (places-more as_function ps (p, a_function f));
}

pub functions-same : (t : FunctionTable) (ps : List Placed) (q : Placed) → as_function q.1 ≡ None → HoldsFunctions t ps → HoldsFunctions t (ps ++ q ∷ [])
functions-same t ps q e h = record {
  names = subst (λ fs. Numbers t.names (function_texts fs)) (sym (decls-same as_function ps q e)) h.names;
  places = h.places ∙ sym (places-same as_function ps q e);
}

pub roles-same : (t : RoleTable) (ps : List Placed) (q : Placed) → as_role q.1 ≡ None → HoldsRoles t ps → HoldsRoles t (ps ++ q ∷ [])
roles-same t ps q e h = record {
  names = subst (λ rs. Numbers t.names (firsts (role_texts rs))) (sym (decls-same as_role ps q e)) h.names;
  count = h.count ∙ ap (λ rs. length (firsts (role_texts rs))) (sym (decls-same as_role ps q e));
  places = λ x. h.places x ∙ sym (places-same (role_called x) ps q (ap (option_and_then (λ (r : Role). if same_name x r.name.text then Some r else None)) e));
}

-- ---- the first of a kind

first-append : {A : Type 0} (xs ys : List A) → first_of (xs ++ ys) ≡ option_or (first_of xs) (first_of ys)
first-append [] ys = refl
first-append (x ∷ xs) ys = refl

first-cons : {A : Type 0} (o : Option A) → first_of (cons_option o []) ≡ o
first-cons None = refl
first-cons (Some a) = refl

pub first-more : {A : Type 0} (pick : Decl → Option A) (ps : List Placed) (q : Placed)
    → first_of (places_by pick (ps ++ q ∷ [])) ≡ option_or (first_of (places_by pick ps)) (option_map (λ _. q.0) (pick q.1))
first-more pick ps q = ap first_of (places-more pick ps q) ∙ first-append (places_by pick ps) (cons_option (option_map (λ _. q.0) (pick q.1)) []) ∙ ap (option_or (first_of (places_by pick ps))) (first-cons (option_map (λ _. q.0) (pick q.1)))

pub holds-more : (old new : DeclTable) (ps : List Placed) (q : Placed) → Holds old ps
    → HoldsFunctions new.functions (ps ++ q ∷ []) → HoldsRoles new.roles (ps ++ q ∷ [])
    → new.host ≡ option_or old.host (option_map (λ _. q.0) (as_host q.1))
    → new.switch ≡ option_or old.switch (option_map (λ _. q.0) (as_switch q.1))
    → Holds new (ps ++ q ∷ [])
holds-more old new ps q h functions roles host switch = record {
  functions = functions;
  roles = roles;
  host = host ∙ ap (λ o. option_or o (option_map (λ _. q.0) (as_host q.1))) h.host ∙ sym (first-more as_host ps q);
  switch = switch ∙ ap (λ o. option_or o (option_map (λ _. q.0) (as_switch q.1))) h.switch ∙ sym (first-more as_switch ps q);
}

-- ---- places of a level

pub from-more : (level index : ℕ) (ds : List Decl) (d : Decl) → placed_from level index (ds ++ d ∷ []) ≡ placed_from level index ds ++ (record { level = level; index = index + length ds }, d) ∷ []
from-more level index [] d = ap (λ i. (record { level = level; index = i }, d) ∷ []) (omega arith)
from-more level index (c ∷ ds) d = ap (λ l. (record { level = level; index = index }, c) ∷ l) (from-more level (suc index) ds d ∙ ap (λ i. placed_from level (suc index) ds ++ (record { level = level; index = i }, d) ∷ []) (omega arith))

-- ---- steps of the loops

pub or-some : {A : Type 0} (o : Option A) (p : A) → Some (unwrap_or o p) ≡ option_or o (Some p)
or-some None p = refl
or-some (Some a) p = refl

pub or-same : {A : Type 0} (o : Option A) → o ≡ option_or o None
or-same None = refl
or-same (Some a) = refl

pub taken : {A B : Type 0} (f : A → B) (xs : List A) (i : ℕ) (x : A) → i < length xs → x ≡ get_or xs i x → map f (take (i + 1) xs) ≡ map f (take i xs) ++ f x ∷ []
taken f xs i x h e = ap (map f) (take_more xs i x h ∙ ap (λ y. take i xs ++ y ∷ []) (sym e)) ∙ map-append f (take i xs) (x ∷ [])

length-map : {A B : Type 0} (f : A → B) (xs : List A) → length (map f xs) ≡ length xs
length-map f [] = refl
length-map f (x ∷ xs) = ap suc (length-map f xs)

pub HoldsFields-push : (ts : List NameTable) (hs : List HeaderDecl) (t : NameTable) (h : HeaderDecl) → HoldsFields ts hs → Numbers t (field_texts h.fields) → HoldsFields (ts ++ t ∷ []) (hs ++ h ∷ [])
HoldsFields-push [] [] t h a n = (n, tt)
HoldsFields-push [] (g ∷ hs) t h a n = absurd a
HoldsFields-push (s ∷ ts) [] t h a n = absurd a
HoldsFields-push (s ∷ ts) (g ∷ hs) t h a n = (a.0, HoldsFields-push ts hs t h a.1 n)

pub level-step : (placed : List Placed) (level index i : ℕ) (decls : List CodeDecl) (d : CodeDecl) → i < length decls → d ≡ get_or decls i d → index ≡ i
    → (placed ++ placed_from level 0 (map decl_of (take i decls))) ++ (record { level = level; index = index }, decl_of d) ∷ []
    ≡ placed ++ placed_from level 0 (map decl_of (take (i + 1) decls))
level-step placed level index i decls d h e k =
    append_assoc placed (placed_from level 0 (map decl_of (take i decls))) _
    ∙ ap (λ l. placed ++ l) (ap (λ n. placed_from level 0 (map decl_of (take i decls)) ++ (record { level = level; index = n }, decl_of d) ∷ []) here
    ∙ sym (from-more level 0 (map decl_of (take i decls)) (decl_of d)) ∙ ap (placed_from level 0) (sym (taken decl_of decls i d h e)))
  where
    here : index ≡ 0 + length (map decl_of (take i decls))
    here = omega (arith, length-map decl_of (take i decls), length-take i decls)

blocks-more : (level : ℕ) (bs : List Refine) (b : Refine) → placed_blocks level (bs ++ b ∷ []) ≡ placed_blocks level bs ++ placed_from (level + length bs) 0 b.decls
blocks-more level [] b = append-nil (placed_from level 0 b.decls) ∙ ap (λ l. placed_from l 0 b.decls) (omega arith)
blocks-more level (c ∷ bs) b =
    ap (λ l. placed_from level 0 c.decls ++ l) (blocks-more (suc level) bs b ∙ ap (λ l. placed_blocks (suc level) bs ++ placed_from l 0 b.decls) (omega arith))
    ∙ sym (append_assoc (placed_from level 0 c.decls) (placed_blocks (suc level) bs) (placed_from (level + suc (length bs)) 0 b.decls))

pub blocks-step : (placed : List Placed) (level i : ℕ) (blocks : List CodeRefine) (b : CodeRefine) (ds : List CodeDecl) → i < length blocks → b ≡ get_or blocks i b → level ≡ i + 1 → ds ≡ b.decls.items
    → (placed ++ placed_blocks 1 (map refine_of (take i blocks))) ++ placed_from level 0 (map decl_of ds)
    ≡ placed ++ placed_blocks 1 (map refine_of (take (i + 1) blocks))
blocks-step placed level i blocks b ds h e k same =
    append_assoc placed (placed_blocks 1 (map refine_of (take i blocks))) _
    ∙ ap (λ l. placed ++ l) (ap₂ (λ n l. placed_blocks 1 (map refine_of (take i blocks)) ++ placed_from n 0 (map decl_of l)) here same
    ∙ sym (blocks-more 1 (map refine_of (take i blocks)) (refine_of b)) ∙ ap (placed_blocks 1) (sym (taken refine_of blocks i b h e)))
  where
    here : level ≡ 1 + length (map refine_of (take i blocks))
    here = omega (arith, length-map refine_of (take i blocks), length-take i blocks)

pub holds-placed : (t : DeclTable) (d : CodeDesign) (ds : List CodeDecl) (bs : List CodeRefine) → ds ≡ d.decls.items → bs ≡ d.refines.items
    → Holds t (placed_from 0 0 (map decl_of ds) ++ placed_blocks 1 (map refine_of bs)) → Holds t (placed (design_of d))
holds-placed t d ds bs e f h = subst₂ (λ l r. Holds t (placed_from 0 0 (map decl_of l) ++ placed_blocks 1 (map refine_of r))) e f h

pub level-read : (d : CodeDesign) (level block : ℕ) (r : Option (Bor CodeRefine)) (b : Bor CodeRefine) (ds : List CodeDecl) → level ≡ block + 1
    → option_map (λ (x : Bor CodeRefine). x.now) r ≡ slice_get d.refines.items block → r ≡ Some b → ds ≡ b.now.decls.items
    → Some (map decl_of ds) ≡ level_decls (design_of d) level
level-read d level block r b ds k e h same =
    ap (λ l. Some (map decl_of l)) same
    ∙ ap (option_map (λ (x : CodeRefine). (refine_of x).decls)) (ap (option_map (λ (x : Bor CodeRefine). x.now)) (sym h) ∙ e)
    ∙ by (slice_get d.refines.items block)
    ∙ ap (option_map (λ (x : Refine). x.decls)) (sym (slice_get-map refine_of d.refines.items block))
    ∙ ap (level_decls (design_of d)) (sym (k ∙ add-one block))
  where
    by : (o : Option CodeRefine) → option_map (λ (x : CodeRefine). (refine_of x).decls) o ≡ option_map (λ (x : Refine). x.decls) (option_map refine_of o)
    by None = refl
    by (Some x) = refl
