-- Functions of a design with definitions give what they declare, and their bodies pass numbers that fit.
use Rattle.std.proofs.Common.{◌≡◌, inl, inr, ℕ, List, [], ◌∷◌, ◌++◌, reverse, Bool, true, false, Option, Some, None, if◌then◌else◌, option_and_then, refl, sym, ap, subst, ◌∙◌}
use Rattle.std.proofs.lemmas.List.{append-nil, append_assoc, reverse-append}
use Rattle.cocoon_num.specs.Names.{same_name}
use Rattle.cocoon_num.specs.Tree.{Expr, DefsText, Design, FunctionDecl, HeaderDecl, ResultKind, of_width, of_truth}
use Rattle.cocoon_num.specs.Values.{Value, number, truth}
use Rattle.cocoon_types.specs.Design.{functions}
use Rattle.cocoon_types.specs.Tables.{Defs, defs_of, look_up}
use Rattle.cocoon_types.specs.Typing.{result_sort}
use Rattle.cocoon_types.specs.Val.{apply_in, bind, value}
use Rattle.lowering.specs.Agrees.{BodyFits, FitAll, FunctionsFit, IsOf, TakesIn, inner_context}
use Rattle.sound_types.specs.Defined.{HasDefinitions}
use Rattle.sound_types.specs.Matching.{Binds, HasValue, IsOfSort}
use Rattle.sound_types.specs.WellTyped.{scope_at}
use Rattle.sound_types.proofs.Declared.{names_differ, typed_bodies}
use Rattle.sound_types.proofs.Definitions.{under_definitions}
use Rattle.sound_types.proofs.Functions.{Applies, AreTypedBodies, Given, GivenFits, HaveValues, IsNameOf, IsTypedBody, NamesDiffer, calls_value, functions_value}
use Rattle.sound_types.proofs.Members.{In, in_left, in_right, reverse_in, in_reverse, named_there}
use Rattle.sound_types.proofs.Options.{text_self, same_text}
use Rattle.sound_types.proofs.Values.{Sees, sound}
use Rattle.sound_types.proofs.Variables.{bind_value, variable_value}
use Rattle.lowering_correct.proofs.Taking.{Accepts, arguments_fit, some_same, takes, takes_in}

-- a value of a type is one that a function of that result gives
pub of_kind : (k : ResultKind) (v : Value) → IsOfSort (result_sort k) v → IsOf k v
of_kind (of_width w) (number x n) h = (n, ap (λ y. number y n) h.0)
of_kind (of_width w) (truth b) h = absurd h
of_kind of_truth (number x n) h = absurd h
of_kind of_truth (truth b) h = (b, refl)

value_of_kind : (k : ResultKind) (o : Option Value) (v : Value) → o ≡ Some v → HasValue (result_sort k) o → IsOf k v
value_of_kind k None v e h = absurd h
value_of_kind k (Some u) v e h = let same : u ≡ v = cc in of_kind k v (subst (IsOfSort (result_sort k)) same h)

-- ---- functions without a body

if_same : (b : Bool) (o u : Option Value) → b ≡ true → (if b then o else u) ≡ o
if_same true o u h = refl
if_same false o u h = absurd (cc)

-- the first of the functions is meant
here : (hs : List HeaderDecl) (defs : Defs) (g : FunctionDecl) (earlier : List FunctionDecl) (o : Option Expr) → g.body ≡ o → (ns : List ℕ)
    → apply_in hs defs (g ∷ earlier) g.name.text ns
    ≡ elim o as (λ x. Option Value) [ None ↦ look_up defs g.name.text ns | Some e ↦ option_and_then (λ env. value (inner_context hs defs earlier) env [] e) (bind g.params ns) ]
here hs defs g earlier o is ns =
    if_same (same_name g.name.text g.name.text) _ (apply_in hs defs earlier g.name.text ns) (text_self g.name.text)
    ∙ ap (λ b. elim b as (λ x. Option Value) [ None ↦ look_up defs g.name.text ns | Some e ↦ option_and_then (λ env. value (inner_context hs defs earlier) env [] e) (bind g.params ns) ]) is

-- no other function than the one of a name is meant
looked_up : (d : Design) (hs : List HeaderDecl) (defs : Defs) → NamesDiffer d → (fs : List FunctionDecl) → ((h : FunctionDecl) → In h fs → In h (functions d)) → (g : FunctionDecl) → In g fs → g.body ≡ None
    → (ns : List ℕ) → apply_in hs defs fs g.name.text ns ≡ look_up defs g.name.text ns
looked_up d hs defs differ [] within g i none ns = absurd i
looked_up d hs defs differ (h ∷ fs) within g i none ns = by_test (λ k. looked_up d hs defs differ fs (λ x j. within x (inr j)) g k none ns) (same_name g.name.text h.name.text) refl
  where
    own : g ≡ h → apply_in hs defs (h ∷ fs) g.name.text ns ≡ look_up defs g.name.text ns
    own same = ap (λ (x : FunctionDecl). apply_in hs defs (x ∷ fs) g.name.text ns) (sym same) ∙ here hs defs g fs None none ns

    later : same_name g.name.text h.name.text ≡ false → apply_in hs defs fs g.name.text ns ≡ look_up defs g.name.text ns → apply_in hs defs (h ∷ fs) g.name.text ns ≡ look_up defs g.name.text ns
    later other rest =
        ap (λ b. if b then elim h.body as (λ x. Option Value) [ None ↦ look_up defs g.name.text ns | Some e ↦ option_and_then (λ env. value (inner_context hs defs fs) env [] e) (bind h.params ns) ] else apply_in hs defs fs g.name.text ns) other
        ∙ rest

    by_test : (In g fs → apply_in hs defs fs g.name.text ns ≡ look_up defs g.name.text ns) → (b : Bool) → same_name g.name.text h.name.text ≡ b → apply_in hs defs (h ∷ fs) g.name.text ns ≡ look_up defs g.name.text ns
    by_test rest true is = own (differ g h (within g i) (within h (inl refl)) (same_text g.name.text h.name.text is))
    by_test rest false is = elim i [ inl e ↦ own e | inr k ↦ later is (rest k) ]

-- ---- one function

abbrev pub given_by : Defs → Given
given_by defs g before f ns = look_up defs f ns

pub definitions_apply : (d : Design) (defs : Defs) → Applies d.headers (given_by defs) (apply_in d.headers defs)
definitions_apply d defs = record { step = λ g before f ns. refl }

pub given_fits : (d : Design) (defs : Defs) → NamesDiffer d → HaveValues (functions d) (apply_in d.headers defs (reverse (functions d))) → GivenFits d (given_by defs)
given_fits d defs differ have before g rest all none ns fit =
    let at : In g (functions d) = subst (In g) all (in_right g before (g ∷ rest) (inl refl)) in
    subst (HasValue (result_sort g.result)) (looked_up d d.headers defs differ (reverse (functions d)) (λ x i. in_reverse x (functions d) i) g (reverse_in g (functions d) at) none ns) (have g at ns fit)

-- a value of the function is of its kind
value_of : (d : Design) (defs : Defs) (g : FunctionDecl) (earlier : List FunctionDecl) → HaveValues (g ∷ []) (apply_in d.headers defs (g ∷ earlier)) → (o : Option Expr) → g.body ≡ o → (ns : List ℕ) → FitAll g.params ns
    → HasValue (result_sort g.result) (elim o as (λ x. Option Value) [ None ↦ look_up defs g.name.text ns | Some e ↦ option_and_then (λ env. value (inner_context d.headers defs earlier) env [] e) (bind g.params ns) ])
value_of d defs g earlier have o is ns fit = subst (HasValue (result_sort g.result)) (here d.headers defs g earlier o is ns) (have g (inl refl) ns (arguments_fit g.params ns fit))

body_fits : (d : Design) (defs : Defs) → NamesDiffer d → (before : List FunctionDecl) (g : FunctionDecl) → ((h : FunctionDecl) → In h before → In h (functions d)) → IsTypedBody d before g
    → HaveValues before (apply_in d.headers defs (reverse before)) → HaveValues (g ∷ []) (apply_in d.headers defs (g ∷ reverse before)) → (o : Option Expr) → g.body ≡ o → BodyFits d.headers defs g (reverse before) o
body_fits d defs differ before g within typed have own None is = λ ns v fit e. value_of_kind g.result (look_up defs g.name.text ns) v e (value_of d defs g (reverse before) own None is ns fit)
body_fits d defs differ before g within typed have own (Some e) is = λ ns env fit bound.
    let c = inner_context d.headers defs (reverse before) in
    let t = bind_value g.params ns (arguments_fit g.params ns fit) in
    let same : t.0 ≡ env = some_same t.0 env (sym t.1 ∙ bound) in
    let b : Binds g.params env = subst (Binds g.params) same t.2 in
    let s = scope_at d 0 g.params false in
    let k = typed e is in
    let calls = calls_value d before (apply_in d.headers defs (reverse before)) differ within have in
    let sees : Sees (IsNameOf before) s c env [] = record { variables = variable_value g.params env b; fields = λ h f w no there. absurd (cc); calls = calls } in
    let accepts : Accepts (IsNameOf before) s (TakesIn (reverse before)) =
    λ f h at found ms fits.
    let n = named_there (λ (x : FunctionDecl). x.name) f (functions d) h found in
    let one : at.0 ≡ h = differ at.0 h (within at.0 at.1) n.0 (sym at.2 ∙ n.1) in
    takes_in d (reverse before) f h differ (λ x i. within x (in_reverse x before i)) (reverse_in h before (subst (λ x. In x before) one at.1)) n.1 ms fits in (
      takes (TakesIn (reverse before)) (λ x. Unit {0}) (IsNameOf before) s c env [] sees accepts e (result_sort g.result) k.1 k.0 (λ x i. tt),
      λ v given. value_of_kind g.result (value c env [] e) v given (sound (IsNameOf before) s c env [] sees e (result_sort g.result) k.1 k.0),
    )

-- ---- all functions

fits_more : (d : Design) (defs : Defs) → NamesDiffer d → GivenFits d (given_by defs) → (before fs : List FunctionDecl) → before ++ fs ≡ functions d → AreTypedBodies d before fs
    → HaveValues before (apply_in d.headers defs (reverse before)) → FunctionsFit d.headers defs (reverse before) → FunctionsFit d.headers defs (reverse (before ++ fs))
fits_more d defs differ given before [] all typed have fits = subst (λ fs. FunctionsFit d.headers defs (reverse fs)) (sym (append-nil before)) fits
fits_more d defs differ given before (g ∷ rest) all typed have fits =
    let a = apply_in d.headers defs in
    let same : (before ++ g ∷ []) ++ rest ≡ before ++ g ∷ rest = append_assoc before (g ∷ []) rest in
    let turned : reverse (before ++ g ∷ []) ≡ g ∷ reverse before = reverse-append before (g ∷ []) in
    let more = functions_value d d.headers (given_by defs) a (definitions_apply d defs) differ given before (g ∷ []) rest (same ∙ all) (typed.0, tt) have in
    let own : HaveValues (g ∷ []) (a (g ∷ reverse before)) =
    λ h i ns fit. subst (λ fs. HasValue (result_sort h.result) (a fs h.name.text ns)) turned (more h (in_right h before (g ∷ []) i) ns fit) in
    let within : (h : FunctionDecl) → In h before → In h (functions d) = λ h i. subst (In h) all (in_left h before (g ∷ rest) i) in
    let first : FunctionsFit d.headers defs (g ∷ reverse before) = (body_fits d defs differ before g within typed.0 have own g.body refl, fits) in
    subst (λ fs. FunctionsFit d.headers defs (reverse fs)) same
    (fits_more d defs differ given (before ++ g ∷ []) rest (same ∙ all) typed.1 more (subst (FunctionsFit d.headers defs) (sym turned) first))

pub functions_fit : (d : Design) (es : DefsText) → HasDefinitions d es → FunctionsFit d.headers (defs_of d es) (reverse (functions d))
functions_fit d es h =
    let differ = names_differ d h.rules in
    fits_more d (defs_of d es) differ (given_fits d (defs_of d es) differ (under_definitions d es h)) [] (functions d) refl (typed_bodies d h.rules h.literals) (λ g none. absurd none) tt
