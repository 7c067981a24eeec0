-- The functions and the roles of a design that keeps the rules are well typed, and no two functions have one name.
use Rattle.std.proofs.Common.{◌≡◌, inl, inr, ℕ, suc, ◌^◌, ◌&&◌, List, [], ◌∷◌, ◌++◌, length, take, not, Bool, true, false, Option, Some, None, is_some, refl, sym, ap, subst, ◌∙◌, arith}
use Rattle.std.specs.Prelude.{flat_map, filter_map, option_to_list, slice_get}
use Rattle.std.proofs.lemmas.Bool.{ltb-true}
use Rattle.std.proofs.lemmas.List.{append-nil, append_assoc, take_all}
use Rattle.std.proofs.lemmas.List.Elements.{filter_map-append}
use Rattle.cocoon_num.specs.Names.{named}
use Rattle.cocoon_num.specs.Sorts.{Sort, truth_sort}
use Rattle.cocoon_num.specs.Tree.{Expr, name, field, lit, true_or_false, call, unary, binary, slice, pick, Block, FunctionDecl, AssumeDecl, Role, Decl, a_function, an_assumption, a_role, a_host, a_switch, Refine, Design}
use Rattle.cocoon_types.specs.Design.{as_function, decls_to, functions}
use Rattle.cocoon_types.specs.Limits.{as_assumption}
use Rattle.cocoon_types.specs.Parts.{parts}
use Rattle.cocoon_types.specs.RuleParts.{unless}
use Rattle.cocoon_types.specs.Rules.{WellFormed, twice, header_changed}
use Rattle.cocoon_types.specs.Sites.{ExprSite, StmtSite, DeclSite, inner, sites_of, sites_from, parts_at, stmts_in}
use Rattle.cocoon_types.specs.TypeRules.{unless_is}
use Rattle.cocoon_types.specs.Typing.{Scope, function_named, result_sort, sort_of}
use Rattle.sound_types.specs.Literals.{DesignLiteralsFit}
use Rattle.sound_types.specs.WellTyped.{HasType, IsTyped, IsTypedRole, scope_at}
use Rattle.sound_types.proofs.Bodies.{Faultless, at_parts, block_typed, has_type}
use Rattle.sound_types.proofs.Distinct.{repeated_differ}
use Rattle.sound_types.proofs.Faultless.{IsFaultlessDecl, faultless_decl}
use Rattle.sound_types.proofs.Functions.{AreTypedBodies, IsNameOf, IsTypedBody, NamesDiffer}
use Rattle.sound_types.proofs.Levels.{KeepsRoles, block_decls, role_stands, roles_to, site_at, stands}
use Rattle.sound_types.proofs.Members.{In, at_place, in_filter, in_left, in_right, named_there}
use Rattle.sound_types.proofs.Options.{nil_left, nil_right, passes, some_there}
use Rattle.sound_types.proofs.Typing.{AreFaultless, IsFaultless}
use Rattle.sound_types.proofs.Values.{Fine}

-- ---- names

pub names_differ : (d : Design) → WellFormed d → NamesDiffer d
names_differ d w = repeated_differ (λ (f : FunctionDecl). f.name) [] (functions d) (nil_right _ _ (nil_left _ _ (nil_left _ _ (nil_left _ _ (nil_left _ _ (nil_left _ _ (nil_left _ _ (nil_left _ _ (w twice)))))))))

pub keeps_roles : (d : Design) → WellFormed d → KeepsRoles d
keeps_roles d w = record {
  first = nil_right _ _ (nil_left _ _ (nil_left _ _ (nil_left _ _ (nil_left _ _ (w twice)))));
  later = nil_right _ _ (nil_left _ _ (nil_left _ _ (nil_left _ _ (w twice))));
  unchanged = w header_changed;
}

-- ---- functions

not_late : (known found : Bool) (at : ℕ) → known ≡ true → unless (not (known && not found)) at ≡ [] → found ≡ true
not_late known true at e h = refl
not_late true false at e h = absurd (cc)
not_late false false at e h = absurd (cc)

fine_part : (s : Scope) (a : Expr) → IsFaultless (record { scope = s; e = a }) → Fine (IsNameOf s.before) a
fine_part s (name at x) h = tt
fine_part s (field at x f) h = tt
fine_part s (lit at w n) h = ltb-true n (2 ^ w) h.literal
fine_part s (true_or_false at b) h = tt
fine_part s (call at f es) h =
    let found = is_some (named (λ (d : FunctionDecl). d.name) f.text s.before) in
    let g = some_there (named (λ (d : FunctionDecl). d.name) f.text s.before)
    (not_late (is_some (function_named s f.text)) found f.at (passes (is_some (function_named s f.text)) f.at h.known) h.before) in
    let at = named_there (λ (d : FunctionDecl). d.name) f.text s.before g.0 g.1 in
    (g.0, at.0, at.1)
fine_part s (unary at op a) h = tt
fine_part s (binary at op a b) h = tt
fine_part s (slice at a high low) h = tt
fine_part s (pick at c a b) h = tt

of_body : (s : Scope) (t : Sort) (o : Option Expr) (e : Expr) → o ≡ Some e → (elim o as (λ x. List ℕ) [ None ↦ [] | Some x ↦ unless_is s t x ]) ≡ []
    → ((x : ExprSite) → In x (flat_map (parts_at s) (option_to_list o)) → IsFaultless x) → (unless_is s t e ≡ []) × AreFaultless s (parts e)
of_body s t None e is h k = absurd (cc)
of_body s t (Some x) e is h k =
    let same : x ≡ e = cc in
    subst (λ y. (unless_is s t y ≡ []) × AreFaultless s (parts y)) same (h, at_parts s x (λ y i. k y (in_left y (parts_at s x) [] i)))

body_typed : (d : Design) (level : ℕ) (before : List FunctionDecl) (f : FunctionDecl) → IsFaultlessDecl (site_at d level before (a_function f)) → IsTypedBody d before f
body_typed d level before f h e is =
    let s = inner (site_at d level before (a_function f)) in
    let t = of_body s (result_sort f.result) f.body e is h.result h.exprs in
    (subst (λ ps. sort_of (scope_at d 0 ps false) e ≡ Some (result_sort f.result)) (append-nil f.params) (has_type s 0 (result_sort f.result) e t.1 t.0).0, λ a i. fine_part s a (t.1 a i))

-- no rule fails at these declarations
abbrev AreFaultlessDecls : List DeclSite → Type 0
AreFaultlessDecls sites = (x : DeclSite) → In x sites → IsFaultlessDecl x

none_before : (d : Design) (before fs : List FunctionDecl) → AreTypedBodies d (before ++ []) fs → AreTypedBodies d before fs
none_before d before fs h = subst (λ xs. AreTypedBodies d xs fs) (append-nil before) h

bodies_of : (d : Design) (level : ℕ) (before : List FunctionDecl) (ds : List Decl) → AreFaultlessDecls (sites_of d level before ds) → AreTypedBodies d before (filter_map as_function ds)
bodies_of d level before [] h = tt
bodies_of d level before (a_function f ∷ ds) h = (body_typed d level before f (h (site_at d level before (a_function f)) (inl refl)), bodies_of d level (before ++ f ∷ []) ds (λ x i. h x (inr i)))
bodies_of d level before (an_assumption a ∷ ds) h = none_before d before (filter_map as_function ds) (bodies_of d level (before ++ []) ds (λ x i. h x (inr i)))
bodies_of d level before (a_role r ∷ ds) h = none_before d before (filter_map as_function ds) (bodies_of d level (before ++ []) ds (λ x i. h x (inr i)))
bodies_of d level before (a_host x ∷ ds) h = none_before d before (filter_map as_function ds) (bodies_of d level (before ++ []) ds (λ y i. h y (inr i)))
bodies_of d level before (a_switch x ∷ ds) h = none_before d before (filter_map as_function ds) (bodies_of d level (before ++ []) ds (λ y i. h y (inr i)))

bodies_append : (d : Design) (before xs ys : List FunctionDecl) → AreTypedBodies d before xs → AreTypedBodies d (before ++ xs) ys → AreTypedBodies d before (xs ++ ys)
bodies_append d before [] ys h k = none_before d before ys k
bodies_append d before (x ∷ xs) ys h k = (h.0, bodies_append d (before ++ x ∷ []) xs ys h.1 (subst (λ fs. AreTypedBodies d fs ys) (sym (append_assoc before (x ∷ []) xs)) k))

bodies_from : (d : Design) (level : ℕ) (before : List FunctionDecl) (bs : List Refine) → AreFaultlessDecls (sites_from d level before bs) → AreTypedBodies d before (filter_map as_function (block_decls bs))
bodies_from d level before [] h = tt
bodies_from d level before (b ∷ bs) h =
    let first = filter_map as_function b.decls in
    let rest = filter_map as_function (block_decls bs) in
    let here = sites_of d level before b.decls in
    let later = sites_from d (suc level) (before ++ first) bs in
    subst (AreTypedBodies d before) (sym (filter_map-append as_function b.decls (block_decls bs)))
    (bodies_append d before first rest (bodies_of d level before b.decls (λ x i. h x (in_left x here later i))) (bodies_from d (suc level) (before ++ first) bs (λ x i. h x (in_right x here later i))))

pub typed_bodies : (d : Design) → WellFormed d → DesignLiteralsFit d → AreTypedBodies d [] (functions d)
typed_bodies d w l =
    let none = faultless_decl d w l in
    let here = sites_of d 0 [] d.decls in
    let first = filter_map as_function d.decls in
    let later = sites_from d 1 first d.refines in
    let all : take (length d.refines) d.refines ≡ d.refines = take_all (length d.refines) d.refines (omega arith) in
    let apart : functions d ≡ first ++ filter_map as_function (block_decls d.refines) =
    ap (λ bs. filter_map as_function (d.decls ++ block_decls bs)) all ∙ filter_map-append as_function d.decls (block_decls d.refines) in
    subst (AreTypedBodies d []) (sym apart)
    (bodies_append d [] first (filter_map as_function (block_decls d.refines)) (bodies_of d 0 [] d.decls (λ x i. none x (in_left x here later i)))
    (bodies_from d 1 first d.refines (λ x i. none x (in_right x here later i))))

-- ---- roles

of_block : (s : Scope) (o : Option Block) (b : Block) → o ≡ Some b → Faultless (elim o as (λ x. List StmtSite) [ None ↦ [] | Some x ↦ stmts_in s false x ]) → Faultless (stmts_in s false b)
of_block s None b e h = absurd (cc)
of_block s (Some x) b e h = let same : x ≡ b = cc in subst (λ y. Faultless (stmts_in s false y)) same h

pub role_typed : (d : Design) → WellFormed d → DesignLiteralsFit d → (i : ℕ) (r : Role) → In r (roles_to i d) → IsTypedRole d i r
role_typed d w l i r h =
    let at = role_stands i d r h in
    let site = site_at d at.level at.before (a_role r) in
    let none = faultless_decl d w l site at.at in
    let s = inner site in
    let t = record s { packet = true } in
    record {
      guard = subst (λ ps. HasType (scope_at d i ps false) truth_sort r.guard) (append-nil r.params) (has_type s i truth_sort r.guard (at_parts s r.guard none.exprs) none.truths);
      body = λ b is. subst (λ ps. IsTyped (scope_at d i ps true) b) (append-nil r.params) (block_typed b t i false at.within (keeps_roles d w) (of_block t r.body b is none.stmts));
    }

-- ---- assumptions

is_assumption : (x : Decl) (a : AssumeDecl) → as_assumption x ≡ Some a → x ≡ an_assumption a
is_assumption (a_function f) a h = absurd (cc)
is_assumption (an_assumption b) a h = let e : b ≡ a = cc in ap an_assumption e
is_assumption (a_role r) a h = absurd (cc)
is_assumption (a_host x) a h = absurd (cc)
is_assumption (a_switch x) a h = absurd (cc)

pub assumption_typed : (d : Design) → WellFormed d → DesignLiteralsFit d → (i n : ℕ) (a : AssumeDecl) → slice_get (filter_map as_assumption (decls_to i d)) n ≡ Some a → HasType (scope_at d i a.params false) truth_sort a.body
assumption_typed d w l i n a h =
    let t = in_filter as_assumption (decls_to i d) a (at_place (filter_map as_assumption (decls_to i d)) n a h) in
    let at = stands d i (an_assumption a) (subst (λ x. In x (decls_to i d)) (is_assumption t.0 a t.2) t.1) in
    let site = site_at d at.level at.before (an_assumption a) in
    let none = faultless_decl d w l site at.at in
    subst (λ ps. HasType (scope_at d i ps false) truth_sort a.body) (append-nil a.params) (has_type (inner site) i truth_sort a.body (at_parts (inner site) a.body none.exprs) none.truths)
