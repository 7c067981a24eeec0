-- Functions have values of their types: those with a body by the functions before them, and the others by what is given of
-- them. It holds of any way to give those.
use Rattle.std.proofs.Common.{◌≡◌, inl, inr, ℕ, zero, suc, List, [], ◌∷◌, ◌++◌, reverse, take, Bool, true, false, Option, Some, None, if◌then◌else◌, option_and_then, refl, sym, ap, subst, ◌∙◌}
use Rattle.std.specs.Prelude.{slice_get}
use Rattle.std.proofs.lemmas.List.{append-nil, append_assoc, reverse-append}
use Rattle.cocoon_num.specs.Names.{same_name, named}
use Rattle.cocoon_num.specs.PacketForms.{FieldsFit}
use Rattle.cocoon_num.specs.Sorts.{Sort}
use Rattle.cocoon_num.specs.Tree.{Expr, FunctionDecl, HeaderDecl, Design}
use Rattle.cocoon_num.specs.Values.{Value}
use Rattle.cocoon_types.specs.Design.{functions, widths_of}
use Rattle.cocoon_types.specs.Parts.{parts}
use Rattle.cocoon_types.specs.Typing.{result_sort, sort_of}
use Rattle.cocoon_types.specs.Val.{Context, bind, value}
use Rattle.sound_types.specs.Matching.{HasValue}
use Rattle.sound_types.specs.WellTyped.{scope_at}
use Rattle.sound_types.proofs.Members.{In, in_left, in_right, in_either, named_there}
use Rattle.sound_types.proofs.Options.{same_text, text_self}
use Rattle.sound_types.proofs.Values.{AllFine, sound}
use Rattle.sound_types.proofs.Variables.{variable_value, bind_value}

-- the name is that of one of these
abbrev pub IsNameOf : List FunctionDecl → List ℕ → Type 0
IsNameOf fs f = (g : FunctionDecl) × In g fs × (f ≡ g.name.text)

-- no two functions have one name
abbrev pub NamesDiffer : Design → Type 0
NamesDiffer d = (g h : FunctionDecl) → In g (functions d) → In h (functions d) → g.name.text ≡ h.name.text → g ≡ h

-- a function's body has the type of its result, and calls functions before it alone
abbrev pub IsTypedBody : Design → List FunctionDecl → FunctionDecl → Type 0
IsTypedBody d before f = (e : Expr) → f.body ≡ Some e → (sort_of (scope_at d 0 f.params false) e ≡ Some (result_sort f.result)) × AllFine (IsNameOf before) (parts e)

-- so have all of these, which stand after some
abbrev pub AreTypedBodies : Design → List FunctionDecl → List FunctionDecl → Type 0
AreTypedBodies d before [] = Unit {0}
AreTypedBodies d before (f ∷ fs) = IsTypedBody d before f × AreTypedBodies d (before ++ f ∷ []) fs

-- The value of functions by name, the last first: of a body what it is, where it sees the functions before; of the others
-- what is given.
abbrev pub Given : Type 0
Given = FunctionDecl → List FunctionDecl → List ℕ → List ℕ → Option Value

abbrev pub by_body : (List ℕ → List ℕ → Option Value) → List HeaderDecl → FunctionDecl → List ℕ → Option Value → Option Expr → Option Value
by_body before hs f ns given None = given
by_body before hs f ns given (Some e) = option_and_then (λ env. value (record { headers = hs; apply = before }) env [] e) (bind f.params ns)

pub record Applies (hs : List HeaderDecl) (given : Given) (a : List FunctionDecl → List ℕ → List ℕ → Option Value) : Type 0 where
  pub step : (g : FunctionDecl) (earlier : List FunctionDecl) (f ns : List ℕ)
      → a (g ∷ earlier) f ns ≡ (if same_name f g.name.text then by_body (a earlier) hs g ns (given g earlier f ns) g.body else a earlier f ns)

-- what is given of functions without a body is of their types
abbrev pub GivenFits : Design → Given → Type 0
GivenFits d given = (before : List FunctionDecl) (g : FunctionDecl) (rest : List FunctionDecl) → before ++ g ∷ rest ≡ functions d → g.body ≡ None
    → (ns : List ℕ) → FieldsFit (widths_of g.params) ns → HasValue (result_sort g.result) (given g (reverse before) g.name.text ns)

-- these functions have values of their types
abbrev pub HaveValues : List FunctionDecl → (List ℕ → List ℕ → Option Value) → Type 0
HaveValues fs a = (g : FunctionDecl) → In g fs → (ns : List ℕ) → FieldsFit (widths_of g.params) ns → HasValue (result_sort g.result) (a g.name.text ns)

by_test : (t : Sort) (b : Bool) (x y : Option Value) → (b ≡ true → HasValue t x) → (b ≡ false → HasValue t y) → HasValue t (if b then x else y)
by_test t true x y p q = p refl
by_test t false x y p q = q refl

abbrev calls_of : (d : Design) (fs : List FunctionDecl) (a : List ℕ → List ℕ → Option Value) → Type 0
calls_of d fs a = (f : List ℕ) (g : FunctionDecl) → IsNameOf fs f → named (λ (x : FunctionDecl). x.name) f (functions d) ≡ Some g
    → (ns : List ℕ) → FieldsFit (widths_of g.params) ns → HasValue (result_sort g.result) (a f ns)

-- so have calls of them
pub calls_value : (d : Design) (fs : List FunctionDecl) (a : List ℕ → List ℕ → Option Value) → NamesDiffer d → ((g : FunctionDecl) → In g fs → In g (functions d)) → HaveValues fs a → calls_of d fs a
calls_value d fs a differ within have f g is h ns fit =
    let t = named_there (λ (x : FunctionDecl). x.name) f (functions d) g h in
    let same : is.0 ≡ g = differ is.0 g (within is.0 is.1) t.0 (sym is.2 ∙ t.1) in
    subst (λ x. HasValue (result_sort g.result) (a x ns)) (sym t.1) (have g (subst (λ x. In x fs) same is.1) ns fit)

pub body_value : (d : Design) (hs : List HeaderDecl) (before : List FunctionDecl) (a : List ℕ → List ℕ → Option Value) (g : FunctionDecl) → calls_of d before a → IsTypedBody d before g
    → (e : Expr) → g.body ≡ Some e → (ns : List ℕ) → FieldsFit (widths_of g.params) ns
    → HasValue (result_sort g.result) (option_and_then (λ env. value (record { headers = hs; apply = a }) env [] e) (bind g.params ns))
body_value d hs before a g calls typed e is ns fit =
    let t = bind_value g.params ns fit in
    let k = typed e is in
    let s = scope_at d 0 g.params false in
    let c : Context = record { headers = hs; apply = a } in
    subst (λ o. HasValue (result_sort g.result) (option_and_then (λ env. value c env [] e) o)) (sym t.1)
    (sound (IsNameOf before) s c t.0 [] (record { variables = variable_value g.params t.0 t.2; fields = λ h f w no. absurd (cc); calls = calls }) e (result_sort g.result) k.1 k.0)

-- one more function
one_more : (d : Design) (hs : List HeaderDecl) (given : Given) (a : List FunctionDecl → List ℕ → List ℕ → Option Value) → Applies hs given a → NamesDiffer d → GivenFits d given
    → (before : List FunctionDecl) (g : FunctionDecl) (rest : List FunctionDecl) → before ++ g ∷ rest ≡ functions d → IsTypedBody d before g → HaveValues before (a (reverse before))
    → HaveValues (before ++ g ∷ []) (a (g ∷ reverse before))
one_more d hs given a applies differ fits before g rest all typed have x at ns fit = elim (in_either x before (g ∷ []) at) [
  | inl k ↦
      subst (HasValue (result_sort x.result)) (sym (applies.step g (reverse before) x.name.text ns))
      (by_test (result_sort x.result) (same_name x.name.text g.name.text) (by_body (a (reverse before)) hs g ns (given g (reverse before) x.name.text ns) g.body) (a (reverse before) x.name.text ns)
      (λ e. subst (λ z. FieldsFit (widths_of z.params) ns → HasValue (result_sort z.result) (by_body (a (reverse before)) hs g ns (given g (reverse before) z.name.text ns) g.body))
      (sym (differ x g (first x k) (subst (In g) all (in_right g before (g ∷ rest) (inl refl))) (same_text x.name.text g.name.text e))) (of_body g.body refl) fit)
      (λ e. have x k ns fit))
  | inr k ↦ elim k [
    | inl e ↦ subst (λ z. FieldsFit (widths_of z.params) ns → HasValue (result_sort z.result) (a (g ∷ reverse before) z.name.text ns)) (sym e) here fit
    | inr n ↦ absurd n
  ]
]
  where
    first : (y : FunctionDecl) → In y before → In y (functions d)
    first y i = subst (In y) all (in_left y before (g ∷ rest) i)

    calls : calls_of d before (a (reverse before))
    calls = calls_value d before (a (reverse before)) differ first have

    of_body : (b : Option Expr) → g.body ≡ b → FieldsFit (widths_of g.params) ns → HasValue (result_sort g.result) (by_body (a (reverse before)) hs g ns (given g (reverse before) g.name.text ns) b)
    of_body None is fit' = fits before g rest all is ns fit'
    of_body (Some e) is fit' = body_value d hs before (a (reverse before)) g calls typed e is ns fit'

    here : FieldsFit (widths_of g.params) ns → HasValue (result_sort g.result) (a (g ∷ reverse before) g.name.text ns)
    here fit' =
        subst (HasValue (result_sort g.result)) (sym (applies.step g (reverse before) g.name.text ns))
        (subst (λ b. HasValue (result_sort g.result) (if b then by_body (a (reverse before)) hs g ns (given g (reverse before) g.name.text ns) g.body else a (reverse before) g.name.text ns))
        (sym (text_self g.name.text)) (of_body g.body refl fit'))

-- some functions after some, and before some
pub functions_value : (d : Design) (hs : List HeaderDecl) (given : Given) (a : List FunctionDecl → List ℕ → List ℕ → Option Value) → Applies hs given a → NamesDiffer d → GivenFits d given
    → (before fs later : List FunctionDecl) → (before ++ fs) ++ later ≡ functions d → AreTypedBodies d before fs → HaveValues before (a (reverse before)) → HaveValues (before ++ fs) (a (reverse (before ++ fs)))
functions_value d hs given a applies differ fits before [] later all typed have = subst (λ fs. HaveValues fs (a (reverse fs))) (sym (append-nil before)) have
functions_value d hs given a applies differ fits before (g ∷ rest) later all typed have =
    let more = one_more d hs given a applies differ fits before g (rest ++ later) (sym (append_assoc before (g ∷ rest) later) ∙ all) typed.0 have in
    let turned : reverse (before ++ g ∷ []) ≡ g ∷ reverse before = reverse-append before (g ∷ []) in
    let same : (before ++ g ∷ []) ++ rest ≡ before ++ g ∷ rest = append_assoc before (g ∷ []) rest in
    subst (λ fs. HaveValues fs (a (reverse fs))) same
    (functions_value d hs given a applies differ fits (before ++ g ∷ []) rest later (ap (λ fs. fs ++ later) same ∙ all) typed.1
    (subst (λ fs. HaveValues (before ++ g ∷ []) (a fs)) (sym turned) more))

-- the first functions are typed, so many
pub first_typed : (d : Design) (before fs : List FunctionDecl) (n : ℕ) → AreTypedBodies d before fs → AreTypedBodies d before (take n fs)
first_typed d before [] zero h = tt
first_typed d before [] (suc n) h = tt
first_typed d before (f ∷ fs) zero h = tt
first_typed d before (f ∷ fs) (suc n) h = (h.0, first_typed d (before ++ f ∷ []) fs n h.1)

-- and each is
pub typed_at : (d : Design) (before fs : List FunctionDecl) (n : ℕ) (f : FunctionDecl) → AreTypedBodies d before fs → slice_get fs n ≡ Some f → IsTypedBody d (before ++ take n fs) f
typed_at d before [] n f h e = absurd (cc)
typed_at d before (g ∷ fs) zero f h e =
    let same : g ≡ f = cc in subst (λ bs. IsTypedBody d bs f) (sym (append-nil before)) (subst (IsTypedBody d before) same h.0)
typed_at d before (g ∷ fs) (suc n) f h e =
    subst (λ bs. IsTypedBody d bs f) (append_assoc before (g ∷ []) (take n fs)) (typed_at d (before ++ g ∷ []) fs n f h.1 e)
