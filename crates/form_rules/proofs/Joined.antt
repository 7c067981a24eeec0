-- What is noted of lists of token indices, item by item.
use Rattle.std.proofs.Common.{◌≡◌, ℕ, suc, ◌+◌, ◌<◌, Bool, true, false, List, [], ◌∷◌, ◌++◌, map, take, length, get_or, not, Option, Some, None, is_some, if◌then◌else◌, refl, sym, ap, subst, ◌∙◌, append_assoc, append-nil, arith, length-take}
use Rattle.std.specs.Prelude.{flat_map, filter_map, filter, option_to_list, option_map}
use Rattle.std.specs.Option.{is_none}
use Rattle.std.specs.List.{cons_option}
use Rattle.std.proofs.lemmas.List.{take_more, map-append}
use Rattle.std.proofs.lemmas.List.Concat.{flat_map-append}
use Rattle.std.proofs.lemmas.List.Elements.{filter_map-append}
use Rattle.cocoon_num.specs.Tree.{Decl, Refine}
use Rattle.cocoon_types.specs.Rules.{Rule}
use Rattle.cocoon_types.specs.RuleParts.{unless, blocks_from}
use Rattle.cocoon_types.specs.FirstFault.{Fault}
use Rattle.cocoon_types.specs.Noting.{Notes}
use Rattle.cocoon_types.specs.Among.{among, AmongLaws}

-- one item more
pub taken : {A B : Type 0} (f : A → B) (xs : List A) (i : ℕ) (x : A) → i < length xs → x ≡ get_or xs i x → map f (take (i + 1) xs) ≡ map f (take i xs) ++ f x ∷ []
taken f xs i x h e = ap (map f) (take_more xs i x h ∙ ap (λ y. take i xs ++ y ∷ []) (sym e)) ∙ map-append f (take i xs) (x ∷ [])

taken-all : {A B : Type 0} (g : B → List ℕ) (f : A → B) (xs : List A) (i : ℕ) (x : A) → i < length xs → x ≡ get_or xs i x → flat_map g (map f (take (i + 1) xs)) ≡ flat_map g (map f (take i xs)) ++ g (f x)
taken-all g f xs i x h e = ap (flat_map g) (taken f xs i x h e) ∙ flat_map-append g (map f (take i xs)) (f x ∷ []) ∙ ap (λ l. flat_map g (map f (take i xs)) ++ l) (append-nil (g (f x)))

decls-more : {A : Type 0} (f : A → Refine) (xs : List A) (i : ℕ) (x : A) → i < length xs → x ≡ get_or xs i x
    → flat_map (λ (b : Refine). b.decls) (map f (take (i + 1) xs)) ≡ flat_map (λ (b : Refine). b.decls) (map f (take i xs)) ++ (f x).decls
decls-more f xs i x h e =
    ap (flat_map (λ (b : Refine). b.decls)) (taken f xs i x h e) ∙ flat_map-append (λ (b : Refine). b.decls) (map f (take i xs)) (f x ∷ [])
    ∙ ap (λ l. flat_map (λ (b : Refine). b.decls) (map f (take i xs)) ++ l) (append-nil (f x).decls)

-- one more turn of a loop that notes what a rule gives of each item
pub notes-more : {A B : Type 0} → AmongLaws → (rule : Rule) (g : B → List ℕ) (f : A → B) (xs : List A) (i : ℕ) (x : A) (a b c : Option Fault) → i < length xs → x ≡ get_or xs i x
    → Notes (among rule (flat_map g (map f (take i xs)))) a b → Notes (among rule (g (f x))) b c → Notes (among rule (flat_map g (map f (take (i + 1) xs)))) a c
notes-more laws rule g f xs i x a b c h e m n = subst (λ l. Notes (among rule l) a c) (sym (taken-all g f xs i x h e)) (laws.append rule (flat_map g (map f (take i xs))) (g (f x)) a b c m n)

-- what a rule gives of the items that pass a test
pub flat-filtered : {A : Type 0} (g : A → List ℕ) (p : A → Bool) (xs : List A) → flat_map (λ x. if p x then g x else []) xs ≡ flat_map g (filter p xs)
flat-filtered g p [] = refl
flat-filtered {A} g p (x ∷ xs) = by (p x) (flat-filtered g p xs)
  where
    by : (b : Bool) → flat_map (λ x. if p x then g x else []) xs ≡ flat_map g (filter p xs)
        → (if b then g x else []) ++ flat_map (λ x. if p x then g x else []) xs ≡ flat_map g (if b then x ∷ filter p xs else filter p xs)
    by true ih = ap (λ l. g x ++ l) ih
    by false ih = ih

-- and of those that are of a kind
pub flat-picked : {A B : Type 0} (g : B → List ℕ) (h : A → Option B) (xs : List A) → flat_map (λ x. flat_map g (option_to_list (h x))) xs ≡ flat_map g (filter_map h xs)
flat-picked g h [] = refl
flat-picked {A} {B} g h (x ∷ xs) = by (h x) (flat-picked g h xs)
  where
    by : (o : Option B) → flat_map (λ x. flat_map g (option_to_list (h x))) xs ≡ flat_map g (filter_map h xs)
        → flat_map g (option_to_list o) ++ flat_map (λ x. flat_map g (option_to_list (h x))) xs ≡ flat_map g (cons_option o (filter_map h xs))
    by None ih = ih
    by (Some y) ih = λ i. append-nil (g y) i ++ ih i

-- ---- blocks

blocks-push : (rule : ℕ → Refine → List ℕ) (k : ℕ) (bs : List Refine) (b : Refine) → blocks_from rule k (bs ++ b ∷ []) ≡ blocks_from rule k bs ++ rule (k + length bs) b
blocks-push rule k [] b = append-nil (rule k b) ∙ ap (λ j. rule j b) (omega arith)
blocks-push rule k (c ∷ bs) b = ap (λ l. rule k c ++ l) (blocks-push rule (suc k) bs b ∙ ap (λ j. blocks_from rule (suc k) bs ++ rule j b) (omega arith)) ∙ sym (append_assoc (rule k c) (blocks_from rule (suc k) bs) (rule (k + suc (length bs)) b))

length-map : {A B : Type 0} (f : A → B) (xs : List A) → length (map f xs) ≡ length xs
length-map f [] = refl
length-map f (x ∷ xs) = ap suc (length-map f xs)

blocks-more : {A : Type 0} (rule : ℕ → Refine → List ℕ) (f : A → Refine) (xs : List A) (i above : ℕ) (x : A) → i < length xs → x ≡ get_or xs i x → above ≡ i
    → blocks_from rule 0 (map f (take (i + 1) xs)) ≡ blocks_from rule 0 (map f (take i xs)) ++ rule above (f x)
blocks-more rule f xs i above x h e k = ap (blocks_from rule 0) (taken f xs i x h e) ∙ blocks-push rule 0 (map f (take i xs)) (f x) ∙ ap (λ j. blocks_from rule 0 (map f (take i xs)) ++ rule j (f x)) here
  where
    here : 0 + length (map f (take i xs)) ≡ above
    here = omega (arith, length-map f (take i xs), length-take i xs)

-- one more turn of a loop that notes what a rule gives of each block
pub blocks-noted : {A : Type 0} → AmongLaws → (rule : Rule) (g : ℕ → Refine → List ℕ) (f : A → Refine) (xs : List A) (i above : ℕ) (x : A) (a b c : Option Fault) → i < length xs → x ≡ get_or xs i x → above ≡ i
    → Notes (among rule (blocks_from g 0 (map f (take i xs)))) a b → Notes (among rule (g above (f x))) b c → Notes (among rule (blocks_from g 0 (map f (take (i + 1) xs)))) a c
blocks-noted laws rule g f xs i above x a b c h e k m n = subst (λ l. Notes (among rule l) a c) (sym (blocks-more g f xs i above x h e k)) (laws.append rule (blocks_from g 0 (map f (take i xs))) (g above (f x)) a b c m n)

-- the test is another one of the same value
pub noted-as : (rule : Rule) (at : ℕ) (a b : Option Fault) {s t : Bool} → s ≡ t → Notes (among rule (unless s at)) a b → Notes (among rule (unless t at)) a b
noted-as rule at a b e h = subst (λ t. Notes (among rule (unless t at)) a b) e h

-- ---- more turns of such loops

-- where the rule gives something of the items that pass a test
pub filtered-noted : {A B : Type 0} → AmongLaws → (rule : Rule) (g : B → List ℕ) (p : B → Bool) (f : A → B) (xs : List A) (i : ℕ) (x : A) (a b c : Option Fault) → i < length xs → x ≡ get_or xs i x
    → Notes (among rule (flat_map g (filter p (map f (take i xs))))) a b → Notes (among rule (if p (f x) then g (f x) else [])) b c → Notes (among rule (flat_map g (filter p (map f (take (i + 1) xs))))) a c
filtered-noted laws rule g p f xs i x a b c h e m n =
    subst (λ l. Notes (among rule l) a c) (flat-filtered g p (map f (take (i + 1) xs)))
    (notes-more laws rule (λ y. if p y then g y else []) f xs i x a b c h e (subst (λ l. Notes (among rule l) a b) (sym (flat-filtered g p (map f (take i xs)))) m) n)

-- where it does of those that are of a kind
pub picked-noted : {A B C : Type 0} → AmongLaws → (rule : Rule) (g : C → List ℕ) (k : B → Option C) (f : A → B) (xs : List A) (i : ℕ) (x : A) (a b c : Option Fault) → i < length xs → x ≡ get_or xs i x
    → Notes (among rule (flat_map g (filter_map k (map f (take i xs))))) a b → Notes (among rule (flat_map g (option_to_list (k (f x))))) b c → Notes (among rule (flat_map g (filter_map k (map f (take (i + 1) xs))))) a c
picked-noted laws rule g k f xs i x a b c h e m n =
    subst (λ l. Notes (among rule l) a c) (flat-picked g k (map f (take (i + 1) xs)))
    (notes-more laws rule (λ y. flat_map g (option_to_list (k y))) f xs i x a b c h e (subst (λ l. Notes (among rule l) a b) (sym (flat-picked g k (map f (take i xs)))) m) n)

-- ---- roles that are pushed

one-kind : {B : Type 0} (o : Option B) → option_to_list o ≡ cons_option o []
one-kind None = refl
one-kind (Some y) = refl

-- one item more of those that are of a kind
picked-more : {A B C : Type 0} (k : B → Option C) (f : A → B) (xs : List A) (i : ℕ) (x : A) → i < length xs → x ≡ get_or xs i x → filter_map k (map f (take i xs)) ++ option_to_list (k (f x)) ≡ filter_map k (map f (take (i + 1) xs))
picked-more k f xs i x h e =
    ap (λ l. filter_map k (map f (take i xs)) ++ l) (one-kind (k (f x))) ∙ sym (ap (filter_map k) (taken f xs i x h e) ∙ filter_map-append k (map f (take i xs)) (f x ∷ []))

pub pushed : {A B C : Type 0} (k : B → Option C) (f : A → B) (xs : List A) (i : ℕ) (x : A) (first now next : List C) → i < length xs → x ≡ get_or xs i x
    → now ≡ first ++ filter_map k (map f (take i xs)) → next ≡ now ++ option_to_list (k (f x)) → next ≡ first ++ filter_map k (map f (take (i + 1) xs))
pushed k f xs i x first now next h e m n =
    n ∙ ap (λ l. l ++ option_to_list (k (f x))) m ∙ append_assoc first (filter_map k (map f (take i xs))) (option_to_list (k (f x))) ∙ ap (λ l. first ++ l) (picked-more k f xs i x h e)

-- one block more
pub block_pushed : {A C : Type 0} (k : Decl → Option C) (f : A → Refine) (ds : List Decl) (xs : List A) (i : ℕ) (x : A) (now next : List C) → i < length xs → x ≡ get_or xs i x
    → now ≡ filter_map k (ds ++ flat_map (λ (b : Refine). b.decls) (map f (take i xs))) → next ≡ now ++ filter_map k (f x).decls
    → next ≡ filter_map k (ds ++ flat_map (λ (b : Refine). b.decls) (map f (take (i + 1) xs)))
block_pushed k f ds xs i x now next h e m n =
    n ∙ ap (λ l. l ++ filter_map k (f x).decls) m ∙ sym (filter_map-append k (ds ++ flat_map (λ (b : Refine). b.decls) (map f (take i xs))) (f x).decls)
    ∙ ap (filter_map k) (append_assoc ds (flat_map (λ (b : Refine). b.decls) (map f (take i xs))) (f x).decls ∙ ap (λ l. ds ++ l) (sym (decls-more f xs i x h e)))

-- there is none exactly where there is none of what is made of it
pub none-mapped : {A B : Type 0} (f : A → B) (o : Option A) (b : Bool) → is_some o ≡ not b → b ≡ is_none (option_map f o)
none-mapped f None true h = refl
none-mapped f None false h = absurd cc
none-mapped f (Some x) true h = absurd cc
none-mapped f (Some x) false h = refl
