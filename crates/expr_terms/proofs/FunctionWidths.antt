-- The widths of parameters and results of functions of designs that keep the rules.
use Rattle.std.proofs.Common.{◌≡◌, ℕ, zero, suc, ◌≤◌, List, [], ◌∷◌, All, true, Some, ap, subst, arith}
use Rattle.std.specs.List.{AllZip}
use Rattle.cocoon_num.specs.Sorts.{is_declared_width}
use Rattle.cocoon_num.specs.Tree.{Name, Param, ResultKind, of_width, of_truth, FunctionDecl, Decl, a_function, an_assumption, a_role, a_host, a_switch, Design}
use Rattle.cocoon_types.specs.Design.{all_decls, as_function, functions, last_level, widths_of}
use Rattle.cocoon_types.specs.RuleParts.{unless_named}
use Rattle.cocoon_types.specs.Rules.{WellFormed, too_wide}
use Rattle.cocoon_types.specs.Sites.{DeclSite, decl_sites, params_of}
use Rattle.cocoon_types.specs.TypeRules.{wide_params, wide_result}
use Rattle.bv_terms.specs.declared.node.Node.{Node}
use Rattle.bv_terms.specs.Arenas.{width_at}
use Rattle.bv_terms.specs.TermTrees.{IsWidth}
use Rattle.sound_types.proofs.Levels.{site_at, stands}
use Rattle.sound_types.proofs.Members.{In, in_filter, none_at}
use Rattle.sound_types.proofs.Options.{nil_left, nil_right, passes}
use Rattle.obligation_laws.specs.Shown.{HasWidth}
use Rattle.obligation_laws.specs.TermOf.{result_width}
use Rattle.expr_terms.specs.Variables.{terms_at}

is_function : (x : Decl) (g : FunctionDecl) → as_function x ≡ Some g → x ≡ a_function g
is_function (a_function f) g h = let e : f ≡ g = cc in ap a_function e
is_function (an_assumption a) g h = absurd (cc)
is_function (a_role r) g h = absurd (cc)
is_function (a_host x) g h = absurd (cc)
is_function (a_switch x) g h = absurd (cc)

function_in : (d : Design) (g : FunctionDecl) → In g (functions d) → In (a_function g) (all_decls d)
function_in d g i = let t = in_filter as_function (all_decls d) g i in subst (λ x. In x (all_decls d)) (is_function t.0 g t.2) t.1

wide_to : (w : ℕ) → is_declared_width w ≡ true → (1 ≤ w) × (w ≤ 64)
wide_to w h = grind (arith, h)

result_wide : (x : Name) (k : ResultKind) → (elim k as (λ y. List ℕ) [ of_width w ↦ unless_named (is_declared_width w) x | of_truth ↦ [] ]) ≡ [] → IsWidth (result_width k)
result_wide x (of_width w) h =
    let r = wide_to w (passes (is_declared_width w) x.at h) in
    (r.0, omega (arith, r.1))
result_wide x of_truth h = (omega arith, omega arith)

pub result_is_wide : (d : Design) → WellFormed d → (g : FunctionDecl) → In g (functions d) → IsWidth (result_width g.result)
result_is_wide d w g i =
    let at = stands d (last_level d) (a_function g) (function_in d g i) in
    result_wide g.name g.result (none_at wide_result (decl_sites d) (nil_right _ _ (nil_left _ _ (nil_left _ _ (w too_wide)))) (site_at d at.level at.before (a_function g)) at.at)

narrow_args : (n : List Node) (ps : List Param) (ids : List ℕ) → wide_params ps ≡ [] → AllZip HasWidth (widths_of ps) (terms_at n ids) → All (λ k. width_at n k ≤ 64) ids
narrow_args n [] [] w h k d l = absurd (omega (arith, l))
narrow_args n [] (i ∷ ids) w h k d l = absurd h
narrow_args n (p ∷ ps) [] w h k d l = absurd h
narrow_args n (p ∷ ps) (i ∷ ids) w h zero d l =
    let e = h.0 in
    let r = wide_to p.width (passes (is_declared_width p.width) p.name.at (nil_left (unless_named (is_declared_width p.width) p.name) (wide_params ps) w)) in
    omega (arith, e, r.1)
narrow_args n (p ∷ ps) (i ∷ ids) w h (suc k) d l = narrow_args n ps ids (nil_right (unless_named (is_declared_width p.width) p.name) (wide_params ps) w) h.1 k d (omega (arith, l))

-- arguments of a function are narrow
pub args_are_narrow : (d : Design) → WellFormed d → (g : FunctionDecl) → In g (functions d) → (n : List Node) (ids : List ℕ) → AllZip HasWidth (widths_of g.params) (terms_at n ids) → All (λ k. width_at n k ≤ 64) ids
args_are_narrow d w g i n ids =
    let at = stands d (last_level d) (a_function g) (function_in d g i) in
    narrow_args n g.params ids
    (none_at (λ (x : DeclSite). wide_params (params_of x.decl)) (decl_sites d) (nil_right _ _ (nil_left _ _ (nil_left _ _ (nil_left _ _ (w too_wide))))) (site_at d at.level at.before (a_function g)) at.at)
