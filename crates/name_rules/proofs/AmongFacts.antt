-- What is noted of lists that grow by one item.
use Rattle.std.proofs.Common.{◌≡◌, ℕ, ◌+◌, ◌<◌, List, [], ◌∷◌, ◌++◌, map, take, length, get_or, Option, Some, None, is_some, refl, sym, ap, subst, ◌∙◌}
use Rattle.std.specs.Prelude.{option_map, flat_map}
use Rattle.std.proofs.lemmas.List.{append-nil, map-append, take_more}
use Rattle.std.proofs.lemmas.List.Concat.{flat_map-append}
use Rattle.cocoon_types.specs.Rules.{Rule}
use Rattle.cocoon_types.specs.FirstFault.{Fault}
use Rattle.cocoon_types.specs.Noting.{Notes}
use Rattle.cocoon_types.specs.Among.{among, AmongLaws}

-- one item more
pub taken : {A B : Type 0} (f : A → B) (xs : List A) (i : ℕ) (x : A) → i < length xs → x ≡ get_or xs i x → map f (take (i + 1) xs) ≡ map f (take i xs) ++ f x ∷ []
taken f xs i x h e = ap (map f) (take_more xs i x h ∙ ap (λ y. take i xs ++ y ∷ []) (sym e)) ∙ map-append f (take i xs) (x ∷ [])

pub taken-twice : {A B C : Type 0} (g : B → C) (f : A → B) (xs : List A) (i : ℕ) (x : A) → i < length xs → x ≡ get_or xs i x → map g (map f (take (i + 1) xs)) ≡ map g (map f (take i xs)) ++ g (f x) ∷ []
taken-twice g f xs i x h e = ap (map g) (taken f xs i x h e) ∙ map-append g (map f (take i xs)) (f x ∷ [])

-- what a rule gives of one item more
pub taken-all : {A B : Type 0} (g : B → List ℕ) (f : A → B) (xs : List A) (i : ℕ) (x : A) → i < length xs → x ≡ get_or xs i x → flat_map g (map f (take (i + 1) xs)) ≡ flat_map g (map f (take i xs)) ++ g (f x)
taken-all g f xs i x h e = ap (flat_map g) (taken f xs i x h e) ∙ flat_map-append g (map f (take i xs)) (f x ∷ []) ∙ ap (λ l. flat_map g (map f (take i xs)) ++ l) (append-nil (g (f x)))

-- one more turn of a loop that notes what a rule gives of each item
pub notes-more : {A B : Type 0} → AmongLaws → (rule : Rule) (g : B → List ℕ) (f : A → B) (xs : List A) (i : ℕ) (x : A) (a b c : Option Fault) → i < length xs → x ≡ get_or xs i x
    → Notes (among rule (flat_map g (map f (take i xs)))) a b → Notes (among rule (g (f x))) b c → Notes (among rule (flat_map g (map f (take (i + 1) xs)))) a c
notes-more laws rule g f xs i x a b c h e m n = subst (λ l. Notes (among rule l) a c) (sym (taken-all g f xs i x h e)) (laws.append rule (flat_map g (map f (take i xs))) (g (f x)) a b c m n)

pub some-map : {A B : Type 0} (f : A → B) (o : Option A) (p : Option B) → option_map f o ≡ p → is_some o ≡ is_some p
some-map {A = A} f o p e = by o ∙ ap is_some e
  where
    by : (o : Option A) → is_some o ≡ is_some (option_map f o)
    by None = refl
    by (Some a) = refl
