-- What a rule on declarations gives of their sites.
use Rattle.std.proofs.Common.{◌≡◌, ℕ, suc, List, [], ◌∷◌, ◌++◌, refl, sym, ap, ap₂, ◌∙◌}
use Rattle.std.specs.Prelude.{flat_map, filter_map, option_to_list}
use Rattle.std.proofs.lemmas.List.Concat.{flat_map-append}
use Rattle.cocoon_num.specs.Tree.{Decl, FunctionDecl, Refine, Design}
use Rattle.cocoon_types.specs.Design.{as_function}
use Rattle.cocoon_types.specs.Sites.{DeclSite, sites_of, sites_from, decl_sites}
use Rattle.cocoon_types.specs.NameRules.{unknown_role_in_decl}
use Rattle.cocoon_types.specs.RuleParts.{blocks_from}
use Rattle.name_rules.specs.Among.{repeated_params, repeated_in_block, params_twice, unknown_named, unknown_in_block}

abbrev params_at : DeclSite → List ℕ
params_at s = repeated_params s.decl

of-level : (d : Design) (level : ℕ) (before : List FunctionDecl) (ds : List Decl) → flat_map params_at (sites_of d level before ds) ≡ flat_map repeated_params ds
of-level d level before [] = refl
of-level d level before (x ∷ ds) = ap (λ l. repeated_params x ++ l) (of-level d level (before ++ option_to_list (as_function x)) ds)

of-blocks : (d : Design) (level : ℕ) (before : List FunctionDecl) (bs : List Refine) → flat_map params_at (sites_from d level before bs) ≡ flat_map repeated_in_block bs
of-blocks d level before [] = refl
of-blocks d level before (b ∷ bs) =
    flat_map-append params_at (sites_of d level before b.decls) (sites_from d (suc level) (before ++ filter_map as_function b.decls) bs)
    ∙ ap₂ (◌++◌) (of-level d level before b.decls) (of-blocks d (suc level) (before ++ filter_map as_function b.decls) bs)

pub of-design : (d : Design) → flat_map repeated_params d.decls ++ flat_map repeated_in_block d.refines ≡ params_twice d
of-design d = sym (flat_map-append params_at (sites_of d 0 [] d.decls) (sites_from d 1 (filter_map as_function d.decls) d.refines)
    ∙ ap₂ (◌++◌) (of-level d 0 [] d.decls) (of-blocks d 1 (filter_map as_function d.decls) d.refines))

-- ---- roles that declarations name

unknown-of-level : (d : Design) (level : ℕ) (before : List FunctionDecl) (ds : List Decl) → flat_map unknown_role_in_decl (sites_of d level before ds) ≡ flat_map (unknown_named d level) ds
unknown-of-level d level before [] = refl
unknown-of-level d level before (x ∷ ds) = ap (λ l. unknown_named d level x ++ l) (unknown-of-level d level (before ++ option_to_list (as_function x)) ds)

unknown-of-blocks : (d : Design) (level : ℕ) (before : List FunctionDecl) (bs : List Refine) → flat_map unknown_role_in_decl (sites_from d level before bs) ≡ blocks_from (unknown_in_block d) level bs
unknown-of-blocks d level before [] = refl
unknown-of-blocks d level before (b ∷ bs) =
    flat_map-append unknown_role_in_decl (sites_of d level before b.decls) (sites_from d (suc level) (before ++ filter_map as_function b.decls) bs)
    ∙ ap₂ (◌++◌) (unknown-of-level d level before b.decls) (unknown-of-blocks d (suc level) (before ++ filter_map as_function b.decls) bs)

pub unknown-of-design : (d : Design) → flat_map (unknown_named d 0) d.decls ++ blocks_from (unknown_in_block d) 1 d.refines ≡ flat_map unknown_role_in_decl (decl_sites d)
unknown-of-design d = sym (flat_map-append unknown_role_in_decl (sites_of d 0 [] d.decls) (sites_from d 1 (filter_map as_function d.decls) d.refines)
    ∙ ap₂ (◌++◌) (unknown-of-level d 0 [] d.decls) (unknown-of-blocks d 1 (filter_map as_function d.decls) d.refines))
