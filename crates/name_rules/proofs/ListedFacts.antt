-- Names in the lists of blocks.
use Rattle.std.proofs.Common.{◌≡◌, ℕ, ◌+◌, ◌<◌, List, [], ◌∷◌, ◌++◌, map, take, length, get_or, Option, Some, None, refl, sym, ap, subst, ◌∙◌, append_assoc, append-nil, suc, arith, length-take}
use Rattle.std.specs.Prelude.{filter_map}
use Rattle.std.specs.List.{cons_option}
use Rattle.cocoon_num.specs.Tree.{Name, Role, Decl, Refine}
use Rattle.cocoon_types.specs.Design.{as_role}
use Rattle.cocoon_types.specs.RuleParts.{role_names, blocks_from}
use Rattle.declarations.specs.NameNumbers.{Numbers}
use Rattle.numbering.specs.declared.name_table.NameTable.{NameTable}
use Rattle.name_rules.specs.Among.{Seen}
use Rattle.name_rules.proofs.AmongFacts.{taken}

abbrev pub called : Role → Name
called r = r.name

pub one-role : (d : Decl) (r : Role) → as_role d ≡ Some r → role_names (d ∷ []) ≡ r.name ∷ []
one-role d r e = ap (λ o. map called (cons_option o [])) e

pub no-role : (d : Decl) → as_role d ≡ None → role_names (d ∷ []) ≡ []
no-role d e = ap (λ o. map called (cons_option o [])) e

pub picked-append : (xs ys : List Decl) → role_names (xs ++ ys) ≡ role_names xs ++ role_names ys
picked-append [] ys = refl
picked-append (x ∷ xs) ys = by (as_role x) (picked-append xs ys)
  where
    by : (o : Option Role) → role_names (xs ++ ys) ≡ role_names xs ++ role_names ys
        → map called (cons_option o (filter_map as_role (xs ++ ys))) ≡ map called (cons_option o (filter_map as_role xs)) ++ role_names ys
    by None ih = ih
    by (Some r) ih = ap (λ l. r.name ∷ l) ih

pub roles-more : {A : Type 0} (f : A → Decl) (xs : List A) (i : ℕ) (x : A) → i < length xs → x ≡ get_or xs i x → role_names (map f (take i xs)) ++ role_names (f x ∷ []) ≡ role_names (map f (take (i + 1) xs))
roles-more f xs i x h e = sym (ap role_names (taken f xs i x h e) ∙ picked-append (map f (take i xs)) (f x ∷ []))

map-push : {A B : Type 0} (f : A → B) (xs : List A) (x : A) → map f (xs ++ x ∷ []) ≡ map f xs ++ f x ∷ []
map-push f [] x = refl
map-push f (y ∷ xs) x = ap (λ l. f y ∷ l) (map-push f xs x)

pub put-name : (t : NameTable) (names : List Name) (n : Name) → Numbers t (map (λ (m : Name). m.text) names ++ n.text ∷ []) → Seen t (names ++ n ∷ [])
put-name t names n h = subst (Numbers t) (sym (map-push (λ (m : Name). m.text) names n)) h

blocks-push : (rule : ℕ → Refine → List ℕ) (k : ℕ) (bs : List Refine) (b : Refine) → blocks_from rule k (bs ++ b ∷ []) ≡ blocks_from rule k bs ++ rule (k + length bs) b
blocks-push rule k [] b = append-nil (rule k b) ∙ ap (λ j. rule j b) (omega arith)
blocks-push rule k (c ∷ bs) b = ap (λ l. rule k c ++ l) (blocks-push rule (suc k) bs b ∙ ap (λ j. blocks_from rule (suc k) bs ++ rule j b) (omega arith)) ∙ sym (append_assoc (rule k c) (blocks_from rule (suc k) bs) (rule (k + suc (length bs)) b))

length-map : {A B : Type 0} (f : A → B) (xs : List A) → length (map f xs) ≡ length xs
length-map f [] = refl
length-map f (x ∷ xs) = ap suc (length-map f xs)

pub blocks-more : {A : Type 0} (rule : ℕ → Refine → List ℕ) (k : ℕ) (f : A → Refine) (xs : List A) (i level : ℕ) (x : A) → i < length xs → x ≡ get_or xs i x → level ≡ k + i
    → blocks_from rule k (map f (take (i + 1) xs)) ≡ blocks_from rule k (map f (take i xs)) ++ rule level (f x)
blocks-more rule k f xs i level x h e m = ap (blocks_from rule k) (taken f xs i x h e) ∙ blocks-push rule k (map f (take i xs)) (f x) ∙ ap (λ j. blocks_from rule k (map f (take i xs)) ++ rule j (f x)) here
  where
    here : k + length (map f (take i xs)) ≡ level
    here = omega (arith, m, length-map f (take i xs), length-take i xs)
