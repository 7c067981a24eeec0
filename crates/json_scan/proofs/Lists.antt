-- Lists of values of one form, and one item more.
use Rattle.std.proofs.Common.{◌≡◌, Bool, true, false, List, [], ◌∷◌, ◌++◌, Option, Some, None, option_map, option_and_then, map, Vec, Global, if◌then◌else◌, refl, sym, ap, ap₂, ◌∙◌, append_assoc, append-nil}
use Rattle.std.specs.Prelude.{MatchOption}
use Rattle.serde_json.specs.Data.{Data, Items, item}
use Rattle.json_forms.specs.Forms.{all_form}

-- these and those that come, where all are of the form
abbrev pub joined : {A : Type 0} → Bool → List A → Option (List A) → Option (List A)
joined true xs rest = option_map (λ ys. xs ++ ys) rest
joined false xs rest = None

pub joined_first : {A : Type 0} (rest : Option (List A)) → rest ≡ joined true [] rest
joined_first None = refl
joined_first (Some ys) = refl

one_after : {A : Type 0} (all : Bool) (xs : List A) (x : A) (rest : Option (List A)) → joined all xs (option_map (λ ys. x ∷ ys) rest) ≡ joined all (xs ++ x ∷ []) rest
one_after true xs x None = refl
one_after true xs x (Some ys) = ap Some (simp append_assoc)
one_after false xs x rest = refl

none_after : {A : Type 0} (all : Bool) (xs : List A) → joined all xs None ≡ None
none_after true xs = refl
none_after false xs = refl

module _ {A : Type 0} (form : Data → Option A) (all : Bool) (xs : List A) (d : Data) (rest : Items) where
  pub joined_some : (x : A) → form d ≡ Some x → joined all xs (all_form form (item d rest)) ≡ joined all (xs ++ x ∷ []) (all_form form rest)
  joined_some x e = ap (λ o. joined all xs (option_and_then (λ y. option_map (λ ys. y ∷ ys) (all_form form rest)) o)) e ∙ one_after all xs x (all_form form rest)

  pub joined_none : form d ≡ None → joined all xs (all_form form (item d rest)) ≡ None
  joined_none e = ap (λ o. joined all xs (option_and_then (λ y. option_map (λ ys. y ∷ ys) (all_form form rest)) o)) e ∙ none_after all xs

map_last : {T A : Type 0} (m : T → A) (xs : List T) (x : T) → map m (xs ++ x ∷ []) ≡ map m xs ++ m x ∷ []
map_last m [] x = refl
map_last m (y ∷ ys) x = ap (λ zs. m y ∷ zs) (map_last m ys x)

-- one item more, where it is of the form
pub added : {T A : Type 0} (form : Data → Option A) (m : T → A) (all more : Bool) (xs ys : List T) (d : Data) (rest : Items) (o : Option T) → form d ≡ option_map m o
    → MatchOption o (more ≡ false) (λ x. (ys ≡ xs ++ x ∷ []) × (more ≡ all))
    → joined all (map m xs) (all_form form (item d rest)) ≡ joined more (map m ys) (all_form form rest)
added form m all more xs ys d rest None e h = joined_none form all (map m xs) d rest e ∙ ap (λ b. joined b (map m ys) (all_form form rest)) (sym h)
added form m all more xs ys d rest (Some x) e h =
    joined_some form all (map m xs) d rest (m x) e
    ∙ ap₂ (λ b zs. joined b zs (all_form form rest)) (sym h.1) (sym (map_last m xs x) ∙ ap (map m) (sym h.0))

-- the list at its end
pub listed : {T A : Type 0} (m : T → A) (all : Bool) (v : Vec T Global) → joined all (map m v.items) (Some []) ≡ option_map (λ list. map m list.items) (if all then Some v else None)
listed m true v = ap Some (append-nil (map m v.items))
listed m false v = refl
