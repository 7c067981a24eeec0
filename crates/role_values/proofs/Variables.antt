-- Variables, and parameters with numbers, one by one.
use Rattle.std.proofs.Common.{◌≡◌, ℕ, zero, suc, ◌+◌, ◌<◌, ◌≤◌, List, [], ◌∷◌, ◌++◌, map, take, drop, length, get_or, Bool, Option, None, option_map, if◌then◌else◌, true, false, refl, sym, ap, subst, ◌∙◌, arith}
use Rattle.std.proofs.lemmas.List.{take_more, drop_more, reverse-append}
use Rattle.cocoon_num.specs.Tree.{Param}
use Rattle.cocoon_num.specs.Values.{fits_width, number}
use Rattle.cocoon_types.specs.Design.{widths_of}
use Rattle.cocoon_types.specs.Val as val
use Rattle.role_values.specs.DeclaredWidths.{AllDeclared}
use Rattle.role_values.specs.Bound.{binding_of, env_of}
use Rattle.role_values.specs.declared.bindings.Binding.{Binding}

-- one more binding is the first of the variables
pub env_push : (bs : List Binding) (b : Binding) → env_of (bs ++ b ∷ []) ≡ binding_of b ∷ env_of bs
env_push bs b = ap (map binding_of) (reverse-append bs (b ∷ []))

pub env_more : (bs : List Binding) (i : ℕ) (b : Binding) → i < length bs → b ≡ get_or bs i b → env_of (take (i + 1) bs) ≡ binding_of b ∷ env_of (take i bs)
env_more bs i b l e = ap env_of (take_more bs i b l) ∙ (λ k. env_of (take i bs ++ sym e k ∷ [])) ∙ env_push (take i bs) b

either_none : {A : Type 0} (b : Bool) (x : Option A) → x ≡ None → (if b then x else None) ≡ None
either_none true x h = h
either_none false x h = refl

-- numbers that are not as many have no variables
pub bind_uneven : (ps : List Param) (ns : List ℕ) → (length ps ≡ length ns → ⊥) → val.bind ps ns ≡ None
bind_uneven [] [] h = absurd (h refl)
bind_uneven [] (n ∷ ns) h = refl
bind_uneven (p ∷ ps) [] h = refl
bind_uneven (p ∷ ps) (n ∷ ns) h =
    either_none (fits_width p.width n) (option_map (val.bound p.name.text (number p.width n)) (val.bind ps ns))
    (ap (option_map (val.bound p.name.text (number p.width n))) (bind_uneven ps ns (λ e. h (ap suc e))))

-- where a later one does not fit, there are none
pub bind_none : {A : Type 0} (f : A → Param) (k : ℕ) (xs : List A) (ns : List ℕ) → k < length xs → length xs ≡ length ns
    → val.bind (map f (drop k xs)) (drop k ns) ≡ None → val.bind (map f xs) ns ≡ None
bind_none f zero xs ns l e h = h
bind_none f (suc k) [] ns l e h = absurd (omega arith)
bind_none f (suc k) (x ∷ xs) [] l e h = refl
bind_none f (suc k) (x ∷ xs) (n ∷ ns) l e h =
    either_none (fits_width (f x).width n) (option_map (val.bound (f x).name.text (number (f x).width n)) (val.bind (map f xs) ns))
    (ap (option_map (val.bound (f x).name.text (number (f x).width n))) (bind_none f k xs ns (omega arith) (omega arith) h))

-- the widths of parameters, one by one
pub declared_at : {A : Type 0} (f : A → Param) (xs : List A) (i : ℕ) (x : A) → AllDeclared (widths_of (map f xs)) → i < length xs → x ≡ get_or xs i x
    → (1 ≤ (f x).width) × ((f x).width ≤ 64)
declared_at f [] i x h l e = absurd (omega arith)
declared_at f (y ∷ ys) zero x h l e = subst (λ z. (1 ≤ (f z).width) × ((f z).width ≤ 64)) (sym e) (h.0, h.1)
declared_at f (y ∷ ys) (suc i) x h l e = declared_at f ys i x h.2 (omega arith) e

pub bind_step : {A : Type 0} (f : A → Param) (xs : List A) (ns : List ℕ) (k : ℕ) (x : A) → k < length xs → k < length ns → x ≡ get_or xs k x
    → val.bind (map f (drop k xs)) (drop k ns)
    ≡ (if fits_width (f x).width (get_or ns k 0) then option_map (val.bound (f x).name.text (number (f x).width (get_or ns k 0))) (val.bind (map f (drop (k + 1) xs)) (drop (k + 1) ns)) else None)
bind_step f xs ns k x l m e =
    let a : drop k xs ≡ x ∷ drop (k + 1) xs = drop_more xs k x l ∙ ap (λ y. y ∷ drop (k + 1) xs) (sym e) in
    let b : drop k ns ≡ get_or ns k 0 ∷ drop (k + 1) ns = drop_more ns k 0 m in
    (λ i. val.bind (map f (a i)) (b i))
