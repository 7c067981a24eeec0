-- Expressions that are well typed have values of their types, wherever all functions of the design have.
use Rattle.std.proofs.Common.{◌≡◌, ℕ, ◌^◌, List, [], take, drop, true, Option, Some, is_some, refl, sym, ap, subst, ◌∙◌}
use Rattle.std.proofs.lemmas.Bool.{lt-ltb, ltb-true}
use Rattle.std.proofs.lemmas.List.{take-append-drop}
use Rattle.cocoon_num.specs.Names.{named}
use Rattle.cocoon_num.specs.Packets.{Packet}
use Rattle.cocoon_num.specs.Sorts.{Sort}
use Rattle.cocoon_num.specs.Tree.{Expr, name, field, lit, true_or_false, call, unary, binary, slice, pick, Param, FunctionDecl, HeaderDecl, Design}
use Rattle.cocoon_num.specs.Values.{Value}
use Rattle.cocoon_types.specs.Design.{functions}
use Rattle.cocoon_types.specs.Parts.{parts}
use Rattle.cocoon_types.specs.Typing.{Scope, result_sort}
use Rattle.cocoon_types.specs.Val.{Context, Env, value}
use Rattle.sound_types.specs.Literals.{literal_fits}
use Rattle.sound_types.specs.Matching.{Binds, HasValue, Matches}
use Rattle.sound_types.specs.WellTyped.{HasType, HasTypeBefore, calls_before, scope_in}
use Rattle.sound_types.proofs.Bodies.{sort_same}
use Rattle.sound_types.proofs.Fields.{field_value}
use Rattle.sound_types.proofs.Functions.{HaveValues, IsNameOf, IsTypedBody, NamesDiffer, calls_value}
use Rattle.sound_types.proofs.Members.{In, all_at, at_all, in_left, named_some, named_there}
use Rattle.sound_types.proofs.Options.{some_there}
use Rattle.sound_types.proofs.Values.{Fine, Sees, sound}
use Rattle.sound_types.proofs.Variables.{variable_value}

-- any name
abbrev pub Any : List ℕ → Type 0
Any f = Unit {0}

pub fine : (a : Expr) → literal_fits a ≡ true → Fine Any a
fine (name at x) h = tt
fine (field at x f) h = tt
fine (lit at w n) h = ltb-true n (2 ^ w) h
fine (true_or_false at b) h = tt
fine (call at f es) h = tt
fine (unary at op a) h = tt
fine (binary at op a b) h = tt
fine (slice at a high low) h = tt
fine (pick at c a b) h = tt

-- what expressions of a design are evaluated in, where its functions have these values
abbrev pub context_with : Scope → (List ℕ → List ℕ → Option Value) → Context
context_with s a = record { headers = s.design.headers; apply = a }

sees : (s : Scope) (a : List ℕ → List ℕ → Option Value) → HaveValues (functions s.design) a → (env : Env) (packet : Packet) → Matches s env packet → Sees Any s (context_with s a) env packet
sees s a have env packet m = record {
  variables = variable_value s.vars env m.variables;
  fields = λ h f w there e. field_value s.design.headers packet (m.packet_fits there) h f w e;
  calls = λ f g any e ns fit.
      let t = named_there (λ (x : FunctionDecl). x.name) f (functions s.design) g e in
      subst (λ x. HasValue (result_sort g.result) (a x ns)) (sym t.1) (have g t.0 ns fit);
}

pub expression_value : (s : Scope) (a : List ℕ → List ℕ → Option Value) → HaveValues (functions s.design) a → (env : Env) (packet : Packet) → Matches s env packet → (t : Sort) (e : Expr) → HasType s t e
    → HasValue t (value (context_with s a) env packet e)
expression_value s a have env packet m t e h = sound Any s (context_with s a) env packet (sees s a have env packet m) e t (λ x i. fine x (all_at literal_fits (parts e) h.1 x i)) h.0

-- ---- in bodies of functions

-- a literal that fits, and a call of a function before
before_fine : (s : Scope) (a : Expr) → literal_fits a ≡ true → calls_before s a ≡ true → Fine (IsNameOf s.before) a
before_fine s (name at x) h k = tt
before_fine s (field at x f) h k = tt
before_fine s (lit at w n) h k = ltb-true n (2 ^ w) h
before_fine s (true_or_false at b) h k = tt
before_fine s (call at f es) h k =
    let g = some_there (named (λ (d : FunctionDecl). d.name) f.text s.before) k in
    let at = named_there (λ (d : FunctionDecl). d.name) f.text s.before g.0 g.1 in
    (g.0, at.0, at.1)
before_fine s (unary at op a) h k = tt
before_fine s (binary at op a b) h k = tt
before_fine s (slice at a high low) h k = tt
before_fine s (pick at c a b) h k = tt

pub body_values : (d : Design) (n : ℕ) (hs : List HeaderDecl) (a : List ℕ → List ℕ → Option Value) → NamesDiffer d → HaveValues (take n (functions d)) a → (vars : List Param) (env : Env) → Binds vars env
    → (t : Sort) (e : Expr) → HasTypeBefore (scope_in d n vars) t e → HasValue t (value (record { headers = hs; apply = a }) env [] e)
body_values d n hs a differ have vars env b t e h =
    let s = scope_in d n vars in
    let first : (g : FunctionDecl) → In g (take n (functions d)) → In g (functions d) =
    λ g i. subst (In g) (take-append-drop n (functions d)) (in_left g (take n (functions d)) (drop n (functions d)) i) in
    sound (IsNameOf s.before) s (record { headers = hs; apply = a }) env []
    (record { variables = variable_value vars env b; fields = λ x f w there k. absurd (cc); calls = calls_value d (take n (functions d)) a differ first have }) e t
    (λ x i. before_fine s x (all_at literal_fits (parts e) h.0.1 x i) (all_at (calls_before s) (parts e) h.1 x i)) h.0.0

fine_literal : (s : Scope) (a : Expr) → Fine (IsNameOf s.before) a → (literal_fits a ≡ true) × (calls_before s a ≡ true)
fine_literal s (name at x) h = (refl, refl)
fine_literal s (field at x f) h = (refl, refl)
fine_literal s (lit at w n) h = (lt-ltb n (2 ^ w) h, refl)
fine_literal s (true_or_false at b) h = (refl, refl)
fine_literal s (call at f es) h =
    let t = named_some (λ (d : FunctionDecl). d.name) f.text s.before h.0 h.1 h.2 in (refl, ap is_some t.1)
fine_literal s (unary at op a) h = (refl, refl)
fine_literal s (binary at op a b) h = (refl, refl)
fine_literal s (slice at a high low) h = (refl, refl)
fine_literal s (pick at c a b) h = (refl, refl)

pub body_typed : (d : Design) (n : ℕ) (f : FunctionDecl) (e : Expr) → IsTypedBody d (take n (functions d)) f → f.body ≡ Some e → HasTypeBefore (scope_in d n f.params) (result_sort f.result) e
body_typed d n f e h is =
    let s = scope_in d n f.params in
    let t = h e is in
    ((sym (sort_same s 0 e) ∙ t.0, at_all literal_fits (parts e) (λ a i. (fine_literal s a (t.1 a i)).0)), at_all (calls_before s) (parts e) (λ a i. (fine_literal s a (t.1 a i)).1))
