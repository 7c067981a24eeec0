-- The role that the switches of a design run has literals of 1 to 128 bits, where the design has.
use Rattle.std.proofs.Common.{◌≡◌, Some, true, reverse, sym, ap, subst, ◌∙◌}
use Rattle.std.specs.Prelude.{filter_map}
use Rattle.std.specs.List.{list_all}
use Rattle.cocoon_num.specs.Tree.{Block, FunctionDecl, Role, a_function, a_role, Decl, Design}
use Rattle.cocoon_types.specs.Design.{all_decls, as_function, as_role, functions, last_level}
use Rattle.cocoon_types.specs.Rules.{WellFormed}
use Rattle.lowering.specs.Roles.{NetParts, net_parts}
use Rattle.lowering_fits.proofs.Programs.{is_function}
use Rattle.lowering_fits.specs.WideLiterals.{has_wide_literals, if_some, wide_block, wide_decl, wide_expr}
use Rattle.lowering_correct.proofs.NetParts.{parts_ingress}
use Rattle.sound_types.proofs.Levels.{is_role, role_in}
use Rattle.sound_types.proofs.Members.{In, all_at, at_all, in_filter, in_reverse}
use Rattle.lowering_fits.specs.Filling.{HasWideLiterals}

function_wide : (d : Design) → has_wide_literals d ≡ true → (f : FunctionDecl) → In f (functions d) → if_some wide_expr f.body ≡ true
function_wide d wide f i =
    let t = in_filter as_function (all_decls d) f i in
    all_at wide_decl (all_decls d) wide (a_function f) (subst (λ (x : Decl). In x (all_decls d)) (is_function t.0 f t.2) t.1)

functions_wide : (d : Design) → has_wide_literals d ≡ true → list_all (λ (f : FunctionDecl). if_some wide_expr f.body) (reverse (functions d)) ≡ true
functions_wide d wide = at_all (λ (f : FunctionDecl). if_some wide_expr f.body) (reverse (functions d)) (λ f i. function_wide d wide f (in_reverse f (functions d) i))

body_wide : (d : Design) → has_wide_literals d ≡ true → (r : Role) (b : Block) → In r (filter_map as_role (all_decls d)) → r.body ≡ Some b → wide_block b ≡ true
body_wide d wide r b i is =
    let t = in_filter as_role (all_decls d) r i in
    let at : In (a_role r) (all_decls d) = subst (λ (x : Decl). In x (all_decls d)) (is_role t.0 r t.2) t.1 in
    ap (if_some wide_block) (sym is) ∙ all_at wide_decl (all_decls d) wide (a_role r) at

pub role_wide : (d : Design) → has_wide_literals d ≡ true → WellFormed d → (parts : NetParts) → net_parts d ≡ Some parts → HasWideLiterals parts.role
role_wide d wide w parts is =
    let g = parts_ingress d w parts is in
    let at = role_in (last_level d) d parts.switches.into.text g.role g.role_is in
    subst HasWideLiterals (sym g.role_with_is) (record { functions = functions_wide d wide; body = body_wide d wide g.role g.body at.0 g.body_is })
