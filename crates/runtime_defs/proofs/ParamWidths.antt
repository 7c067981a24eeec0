-- The widths of parameters and fields of designs that keep the rules.
use Rattle.std.proofs.Common.{◌≡◌, ℕ, zero, suc, ◌<◌, ◌≤◌, List, [], ◌∷◌, ◌++◌, length, take, get_or, All, Bool, true, false, refl, sym, subst, ◌∙◌, arith}
use Rattle.std.specs.Prelude.{flat_map, filter_map, option_to_list}
use Rattle.std.proofs.lemmas.List.{take_all}
use Rattle.std.proofs.lemmas.List.Concat.{flat_map-append}
use Rattle.cocoon_num.specs.Sorts.{is_declared_width}
use Rattle.cocoon_num.specs.Tree.{Param, FunctionDecl, Decl, a_function, an_assumption, a_role, a_host, a_switch, Refine, Design}
use Rattle.cocoon_types.specs.Design.{as_function, all_decls, functions, widths_of}
use Rattle.cocoon_types.specs.RuleParts.{unless_named}
use Rattle.cocoon_types.specs.Rules.{too_wide}
use Rattle.cocoon_types.specs.Sites.{DeclSite, params_of, sites_of, sites_from}
use Rattle.cocoon_types.specs.TypeRules.{wide_params}
use Rattle.cocoon_resolve.specs.Resolved.{Resolves}
use Rattle.runtime_defs.specs.Places.{AllDeclared}

pub nil_left : {A : Type 0} (xs ys : List A) → xs ++ ys ≡ [] → xs ≡ []
nil_left [] ys h = refl
nil_left (x ∷ xs) ys h = absurd (cc)

pub nil_right : {A : Type 0} (xs ys : List A) → xs ++ ys ≡ [] → ys ≡ []
nil_right [] ys h = h
nil_right (x ∷ xs) ys h = absurd (cc)

declared_of : (w : ℕ) → is_declared_width w ≡ true → (1 ≤ w) × (w ≤ 64)
declared_of w h = grind (arith, h)

one_width : (p : Param) (b : Bool) → is_declared_width p.width ≡ b → unless_named b p.name ≡ [] → (1 ≤ p.width) × (p.width ≤ 64)
one_width p true e h = declared_of p.width e
one_width p false e h = absurd (cc)

pub declared_params : (ps : List Param) → wide_params ps ≡ [] → AllDeclared (widths_of ps)
declared_params [] h = tt
declared_params (p ∷ ps) h =
    let rest = flat_map (λ (q : Param). unless_named (is_declared_width q.width) q.name) ps in
    let one = one_width p (is_declared_width p.width) refl (nil_left (unless_named (is_declared_width p.width) p.name) rest h) in
    (one.0, one.1, declared_params ps (nil_right (unless_named (is_declared_width p.width) p.name) rest h))

-- none of these declarations has a parameter of another width
abbrev pub Clean : List Decl → Type 0
Clean [] = Unit {0}
Clean (d ∷ ds) = (wide_params (params_of d) ≡ []) × Clean ds

pub clean_append : (ds es : List Decl) → Clean ds → Clean es → Clean (ds ++ es)
clean_append [] es h k = k
clean_append (d ∷ ds) es h k = (h.0, clean_append ds es h.1 k)

clean_sites : (design : Design) (level : ℕ) (before : List FunctionDecl) (ds : List Decl)
    → flat_map (λ (s : DeclSite). wide_params (params_of s.decl)) (sites_of design level before ds) ≡ [] → Clean ds
clean_sites design level before [] h = tt
clean_sites design level before (d ∷ ds) h =
    let next = before ++ option_to_list (as_function d) in
    let rest = flat_map (λ (s : DeclSite). wide_params (params_of s.decl)) (sites_of design level next ds) in
    (nil_left (wide_params (params_of d)) rest h, clean_sites design level next ds (nil_right (wide_params (params_of d)) rest h))

clean_from : (design : Design) (level : ℕ) (before : List FunctionDecl) (bs : List Refine)
    → flat_map (λ (s : DeclSite). wide_params (params_of s.decl)) (sites_from design level before bs) ≡ [] → Clean (flat_map (λ (b : Refine). b.decls) bs)
clean_from design level before [] h = tt
clean_from design level before (b ∷ bs) h =
    let F = λ (s : DeclSite). wide_params (params_of s.decl) in
    let xs = sites_of design level before b.decls in
    let next = before ++ filter_map as_function b.decls in
    let ys = sites_from design (suc level) next bs in
    let both : flat_map F xs ++ flat_map F ys ≡ [] = sym (flat_map-append F xs ys) ∙ h in
    clean_append b.decls (flat_map (λ (c : Refine). c.decls) bs)
    (clean_sites design level before b.decls (nil_left (flat_map F xs) (flat_map F ys) both))
    (clean_from design (suc level) next bs (nil_right (flat_map F xs) (flat_map F ys) both))

-- the declarations of a design that keeps the rules
pub clean : (design : Design) → Resolves design → Clean (design.decls ++ flat_map (λ (b : Refine). b.decls) design.refines)
clean design r =
    let F = λ (s : DeclSite). wide_params (params_of s.decl) in
    let xs = sites_of design 0 [] design.decls in
    let ys = sites_from design 1 (filter_map as_function design.decls) design.refines in
    let sites : flat_map F (xs ++ ys) ≡ [] = nil_right _ _ (nil_left _ _ (nil_left _ _ (nil_left _ _ (r.rules too_wide)))) in
    let both : flat_map F xs ++ flat_map F ys ≡ [] = sym (flat_map-append F xs ys) ∙ sites in
    clean_append design.decls (flat_map (λ (b : Refine). b.decls) design.refines)
    (clean_sites design 0 [] design.decls (nil_left (flat_map F xs) (flat_map F ys) both))
    (clean_from design 1 (filter_map as_function design.decls) design.refines (nil_right (flat_map F xs) (flat_map F ys) both))

functions_declared : (ds : List Decl) → Clean ds → (k : ℕ) (d : FunctionDecl) → k < length (filter_map as_function ds) → AllDeclared (widths_of (get_or (filter_map as_function ds) k d).params)
functions_declared [] h k d l = absurd (omega arith)
functions_declared (a_function f ∷ ds) h zero d l = declared_params f.params h.0
functions_declared (a_function f ∷ ds) h (suc k) d l = functions_declared ds h.1 k d (omega arith)
functions_declared (an_assumption a ∷ ds) h k d l = functions_declared ds h.1 k d l
functions_declared (a_role r ∷ ds) h k d l = functions_declared ds h.1 k d l
functions_declared (a_host x ∷ ds) h k d l = functions_declared ds h.1 k d l
functions_declared (a_switch s ∷ ds) h k d l = functions_declared ds h.1 k d l

pub params_declared : (design : Design) → Resolves design → All (λ (d : FunctionDecl). AllDeclared (widths_of d.params)) (functions design)
params_declared design r =
    let all : take (length design.refines) design.refines ≡ design.refines = take_all (length design.refines) design.refines (omega arith) in
    functions_declared (all_decls design) (subst (λ bs. Clean (design.decls ++ flat_map (λ (b : Refine). b.decls) bs)) (sym all) (clean design r))
