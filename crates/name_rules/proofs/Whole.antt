-- The faults that stand in the declarations of a design are those of names that are used, and of variables.
use Rattle.std.proofs.Common.{◌≡◌, ◌||◌, Bool, true, false, List, [], ◌++◌, Option, refl, sym, ap, ◌∙◌}
use Rattle.std.specs.Prelude.{filter_map}
use Rattle.std.specs.List.{list_any, flat_map}
use Rattle.cocoon_num.specs.Tree.{Design}
use Rattle.cocoon_types.specs.Design.{as_function}
use Rattle.cocoon_types.specs.Rules.{twice, unknown_name, late_function, unknown_role}
use Rattle.cocoon_types.specs.NameRules.{bound_again, unknown_in_expr, unknown_in_stmt, late_in_expr, unknown_role_in_stmt}
use Rattle.cocoon_types.specs.Sites.{ExprSite, StmtSite, DeclSite, sites_of, sites_from, decl_sites, stmts_of_decl, all_stmts, exprs_of_stmt, exprs_of_decl, all_exprs}
use Rattle.cocoon_types.specs.FirstFault.{Fault}
use Rattle.cocoon_types.specs.Noting.{Notes, NotingLaws}
use Rattle.cocoon_types.specs.Among.{among}
use Rattle.name_rules.specs.Tests.{at_expr, at_stmt, with_exprs, in_decl, in_decls}
use Rattle.name_rules.specs.Uses.{is_use_fault}
use Rattle.name_rules.proofs.Membership.{any-append, any-flat_map, any-or, among-append, among-flat_map}

-- ---- truth values

with_middle : (e s t : Bool) → (e || (s || t)) ≡ ((e || t) || s)
with_middle true s t = refl
with_middle false true true = refl
with_middle false true false = refl
with_middle false false true = refl
with_middle false false false = refl

-- t: bound again, u and v: unknown in expressions and statements, l: late, r: unknown roles
regroup : (t u v l r : Bool) → ((u || l) || ((t || v) || r)) ≡ (((t || (u || v)) || l) || r)
regroup true true v l r = refl
regroup true false v true r = refl
regroup true false v false r = refl
regroup false true v l r = refl
regroup false false true true r = refl
regroup false false true false r = refl
regroup false false false true r = refl
regroup false false false false r = refl

-- ---- expressions, statements, declarations

exprs_have : (f : Fault) (xs : List ExprSite) → list_any (λ x. at_expr x f) xs ≡ (among unknown_name (flat_map unknown_in_expr xs) f || among late_function (flat_map late_in_expr xs) f)
exprs_have f xs =
    any-or (λ x. among unknown_name (unknown_in_expr x) f) (λ x. among late_function (late_in_expr x) f) xs
    ∙ (λ i. sym (among-flat_map unknown_name unknown_in_expr xs f) i || sym (among-flat_map late_function late_in_expr xs f) i)

stmts_have : (f : Fault) (ys : List StmtSite) → list_any (λ y. at_stmt y f) ys
    ≡ ((among twice (flat_map bound_again ys) f || among unknown_name (flat_map unknown_in_stmt ys) f) || among unknown_role (flat_map unknown_role_in_stmt ys) f)
stmts_have f ys =
    any-or (λ y. among twice (bound_again y) f || among unknown_name (unknown_in_stmt y) f) (λ y. among unknown_role (unknown_role_in_stmt y) f) ys
    ∙ (λ i. any-or (λ y. among twice (bound_again y) f) (λ y. among unknown_name (unknown_in_stmt y) f) ys i || sym (among-flat_map unknown_role unknown_role_in_stmt ys f) i)
    ∙ (λ i. (sym (among-flat_map twice bound_again ys f) i || sym (among-flat_map unknown_name unknown_in_stmt ys f) i) || among unknown_role (flat_map unknown_role_in_stmt ys) f)

-- statements, with their expressions
bodies_have : (f : Fault) (ys : List StmtSite) → list_any (λ y. with_exprs y f) ys ≡ (list_any (λ y. at_stmt y f) ys || list_any (λ x. at_expr x f) (flat_map exprs_of_stmt ys))
bodies_have f ys =
    any-or (λ y. at_stmt y f) (λ y. list_any (λ x. at_expr x f) (exprs_of_stmt y)) ys
    ∙ ap (λ b. list_any (λ y. at_stmt y f) ys || b) (sym (any-flat_map (λ x. at_expr x f) exprs_of_stmt ys))

decls_have : (f : Fault) (sites : List DeclSite) → in_decls sites f
    ≡ (list_any (λ x. at_expr x f) (flat_map exprs_of_decl sites ++ flat_map exprs_of_stmt (flat_map stmts_of_decl sites)) || list_any (λ y. at_stmt y f) (flat_map stmts_of_decl sites))
decls_have f sites =
    any-or (λ s. list_any (λ x. at_expr x f) (exprs_of_decl s)) (λ s. list_any (λ x. with_exprs x f) (stmts_of_decl s)) sites
    ∙ (λ i. sym (any-flat_map (λ x. at_expr x f) exprs_of_decl sites) i || sym (any-flat_map (λ x. with_exprs x f) stmts_of_decl sites) i)
    ∙ ap (λ b. list_any (λ x. at_expr x f) (flat_map exprs_of_decl sites) || b) (bodies_have f (flat_map stmts_of_decl sites))
    ∙ with_middle (list_any (λ x. at_expr x f) (flat_map exprs_of_decl sites)) (list_any (λ y. at_stmt y f) (flat_map stmts_of_decl sites)) (list_any (λ x. at_expr x f) (flat_map exprs_of_stmt (flat_map stmts_of_decl sites)))
    ∙ ap (λ b. b || list_any (λ y. at_stmt y f) (flat_map stmts_of_decl sites)) (sym (any-append (λ x. at_expr x f) (flat_map exprs_of_decl sites) (flat_map exprs_of_stmt (flat_map stmts_of_decl sites))))

-- ---- a design

whole : (d : Design) (f : Fault) → in_decls (decl_sites d) f ≡ is_use_fault d f
whole d f =
    decls_have f (decl_sites d)
    ∙ (λ i. exprs_have f (all_exprs d) i || stmts_have f (all_stmts d) i)
    ∙ regroup (among twice (flat_map bound_again (all_stmts d)) f) (among unknown_name (flat_map unknown_in_expr (all_exprs d)) f) (among unknown_name (flat_map unknown_in_stmt (all_stmts d)) f)
    (among late_function (flat_map late_in_expr (all_exprs d)) f) (among unknown_role (flat_map unknown_role_in_stmt (all_stmts d)) f)
    ∙ ap (λ b. ((among twice (flat_map bound_again (all_stmts d)) f || b) || among late_function (flat_map late_in_expr (all_exprs d)) f) || among unknown_role (flat_map unknown_role_in_stmt (all_stmts d)) f)
    (sym (among-append unknown_name (flat_map unknown_in_expr (all_exprs d)) (flat_map unknown_in_stmt (all_stmts d)) f))

pub design_notes : NotingLaws → (d : Design) {o p q : Option Fault} → Notes (in_decls (sites_of d 0 [] d.decls)) o p
    → Notes (in_decls (sites_from d 1 (filter_map as_function d.decls) d.refines)) p q → Notes (is_use_fault d) o q
design_notes laws d {o} {p} {q} m n =
    laws.alike _ (is_use_fault d) o q
    (λ f. sym (any-append (λ s. in_decl s f) (sites_of d 0 [] d.decls) (sites_from d 1 (filter_map as_function d.decls) d.refines)) ∙ whole d f)
    (laws.in_turn _ _ o p q m n)
