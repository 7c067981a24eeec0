-- What the tables answer about a name decides whether it is unknown or late.
use Rattle.std.proofs.Common.{◌≡◌, ℕ, zero, suc, ◌&&◌, ◌||◌, Bool, true, false, not, List, [], ◌∷◌, take, Option, Some, None, is_some, if◌then◌else◌, refl, sym, ap, subst, ◌∙◌}
use Rattle.std.specs.Prelude.{option_map, option_and_then}
use Rattle.std.proofs.Math.Dec.{leb-zero, leb-suc-zero, leb-suc-suc}
use Rattle.cocoon_num.specs.Tree.{Name, Param, Exprs, call, FunctionDecl, HeaderDecl, Design}
use Rattle.cocoon_num.specs.Names.{same_name, named}
use Rattle.cocoon_types.specs.Design.{functions, field_width}
use Rattle.cocoon_types.specs.Rules.{unknown_name, late_function}
use Rattle.cocoon_types.specs.RuleParts.{unless, unless_named, has_name, param_names}
use Rattle.cocoon_types.specs.NameRules.{unknown_field, is_late}
use Rattle.cocoon_types.specs.Typing.{Scope, function_named}
use Rattle.cocoon_types.specs.FirstFault.{Fault}
use Rattle.cocoon_types.specs.Noting.{Notes, NotingLaws}
use Rattle.declarations.specs.NameNumbers.{index_of}
use Rattle.declarations.specs.Declares.{function_texts, function_number}
use Rattle.cocoon_types.specs.Among.{among}
use Rattle.name_rules.specs.declared.point.Point.{Point}
use Rattle.name_rules.specs.Tests.{scope_at, is_from, at_expr}

pub some_mapped : {A B : Type 0} (g : A → B) (o : Option A) → is_some o ≡ is_some (option_map g o)
some_mapped g None = refl
some_mapped g (Some a) = refl

-- ---- functions by their numbers

and_true : (a : Bool) → (a && true) ≡ a
and_true true = refl
and_true false = refl

abbrev called : List ℕ → List FunctionDecl → Option FunctionDecl
called x fs = named (λ (f : FunctionDecl). f.name) x fs

-- a function is declared where its name has a number
has_number_if : (x : List ℕ) (fs : List FunctionDecl) → is_some (called x fs) ≡ is_some (index_of x (function_texts fs))
has_number_if x [] = refl
has_number_if x (f ∷ fs) = by (same_name x f.name.text) (index_of x (function_texts fs)) (has_number_if x fs)
  where
    by : (b : Bool) (o : Option ℕ) → is_some (called x fs) ≡ is_some o → is_some (if b then Some f else called x fs) ≡ is_some (if b then Some 0 else option_map suc o)
    by true o h = refl
    by false None h = h
    by false (Some i) h = h

from_zero : (o : Option ℕ) → is_some o ≡ is_from zero (option_map suc o)
from_zero None = refl
from_zero (Some i) = sym (leb-zero (suc i))

from_suc : (n : ℕ) (o : Option ℕ) → is_from n o ≡ is_from (suc n) (option_map suc o)
from_suc n None = refl
from_suc n (Some i) = sym (leb-suc-suc n i)

-- and it is not among the first n where this number is n or more
not_among : (x : List ℕ) (n : ℕ) (fs : List FunctionDecl) → (is_some (called x fs) && not (is_some (called x (take n fs)))) ≡ is_from n (index_of x (function_texts fs))
not_among x zero [] = refl
not_among x (suc n) [] = refl
not_among x zero (f ∷ fs) = by (same_name x f.name.text)
  where
    by : (b : Bool) → (is_some (if b then Some f else called x fs) && true) ≡ is_from zero (if b then Some 0 else option_map suc (index_of x (function_texts fs)))
    by true = sym (leb-zero zero)
    by false = and_true (is_some (called x fs)) ∙ has_number_if x fs ∙ from_zero (index_of x (function_texts fs))
not_among x (suc n) (f ∷ fs) = by (same_name x f.name.text) (not_among x n fs)
  where
    by : (b : Bool) → (is_some (called x fs) && not (is_some (called x (take n fs)))) ≡ is_from n (index_of x (function_texts fs))
        → (is_some (if b then Some f else called x fs) && not (is_some (if b then Some f else called x (take n fs)))) ≡ is_from (suc n) (if b then Some 0 else option_map suc (index_of x (function_texts fs)))
    by true h = sym (leb-suc-zero n)
    by false h = h ∙ from_suc n (index_of x (function_texts fs))

known : (d : Design) (p : Point) (vars : List Param) (packet : Bool) (x : List ℕ) → is_some (function_number d x) ≡ is_some (function_named (scope_at d p vars packet) x)
known d p vars packet x = sym (has_number_if x (functions d))

late : (d : Design) (p : Point) (vars : List Param) (packet : Bool) (x : List ℕ) → is_from p.functions (function_number d x) ≡ is_late (scope_at d p vars packet) x
late d p vars packet x = sym (not_among x p.functions (functions d))

-- what is noted of a call, but for its values
pub call_at : NotingLaws → (d : Design) (p : Point) (vars : List Param) (packet : Bool) (at : ℕ) (g : Name) (es : Exprs) {is_known is_later : Bool} {o q r : Option Fault}
    → is_known ≡ is_some (function_number d g.text) → is_later ≡ is_from p.functions (function_number d g.text)
    → Notes (among unknown_name (unless is_known g.at)) o q → Notes (among late_function (unless (not is_later) g.at)) q r
    → Notes (at_expr (record { scope = scope_at d p vars packet; e = call at g es })) o r
call_at laws d p vars packet at g es {is_known} {is_later} {o} {q} {r} hk hl m n =
    laws.alike (λ f. among unknown_name (unless is_known g.at) f || among late_function (unless (not is_later) g.at) f)
    (at_expr (record { scope = scope_at d p vars packet; e = call at g es })) o r
    (λ f. (λ i. among unknown_name (unless ((hk ∙ known d p vars packet g.text) i) g.at) f || among late_function (unless (not ((hl ∙ late d p vars packet g.text) i)) g.at) f))
    (laws.in_turn _ _ o q r m n)

-- ---- fields

-- a field is one of its header where it has a width there
has_width : (x : List ℕ) (ps : List Param) → is_some (option_map (λ (p : Param). p.width) (named (λ (p : Param). p.name) x ps)) ≡ has_name x (param_names ps)
has_width x [] = refl
has_width x (p ∷ ps) = by (same_name x p.name.text) (has_width x ps)
  where
    by : (b : Bool) → is_some (option_map (λ (p : Param). p.width) (named (λ (p : Param). p.name) x ps)) ≡ has_name x (param_names ps)
        → is_some (option_map (λ (p : Param). p.width) (if b then Some p else named (λ (p : Param). p.name) x ps)) ≡ (b || has_name x (param_names ps))
    by true h = refl
    by false h = h

abbrev header : Scope → List ℕ → Option HeaderDecl
header s h = named (λ (d : HeaderDecl). d.name) h s.design.headers

-- of a header that is found
pub field_of : (s : Scope) (h f : Name) (d : HeaderDecl) {b : Bool} {o p : Option Fault} → header s h.text ≡ Some d → b ≡ is_some (field_width s.design.headers h.text f.text)
    → Notes (among unknown_name (unless b f.at)) o p → Notes (among unknown_name (unknown_field s h f)) o p
field_of s h f d {b} {o} {p} there hb m =
    let width : is_some (field_width s.design.headers h.text f.text) ≡ has_name f.text (param_names d.fields) =
    ap (λ (x : Option HeaderDecl). is_some (option_and_then (λ (e : HeaderDecl). option_map (λ (q : Param). q.width) (named (λ (q : Param). q.name) f.text e.fields)) x)) there ∙ has_width f.text d.fields in
    subst (λ (xs : List ℕ). Notes (among unknown_name xs) o p)
    (ap (λ (c : Bool). unless c f.at) (hb ∙ width)
    ∙ sym (ap (λ (x : Option HeaderDecl). elim x [ None ↦ h.at ∷ [] | Some e ↦ unless_named (has_name f.text (param_names e.fields)) f ]) there)) m

-- and of one that is not
pub no_header : (s : Scope) (h f : Name) {o p : Option Fault} → header s h.text ≡ None
    → Notes (among unknown_name (unless false h.at)) o p → Notes (among unknown_name (unknown_field s h f)) o p
no_header s h f {o} {p} there m =
    subst (λ (xs : List ℕ). Notes (among unknown_name xs) o p)
    (sym (ap (λ (x : Option HeaderDecl). elim x [ None ↦ h.at ∷ [] | Some e ↦ unless_named (has_name f.text (param_names e.fields)) f ]) there)) m
