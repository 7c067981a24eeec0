-- The functions of a design that keeps the rules have widths of declarations.
use Rattle.std.proofs.Common.{◌≡◌, ℕ, suc, ◌≤◌, List, [], ◌∷◌, ◌++◌, ◌&&◌, length, take, get_or, All, Bool, true, false, refl, ap₂, sym, subst, ◌∙◌, arith}
use Rattle.std.specs.Prelude.{flat_map, filter_map, option_to_list}
use Rattle.std.proofs.lemmas.List.{take_all}
use Rattle.std.proofs.lemmas.List.Concat.{flat_map-append}
use Rattle.std.proofs.lemmas.List.Elements.{All-cons}
use Rattle.cocoon_num.specs.Lists.{each}
use Rattle.cocoon_num.specs.Sorts.{is_declared_width}
use Rattle.cocoon_num.specs.Tree.{Name, Param, ResultKind, of_width, of_truth, FunctionDecl, Decl, a_function, Refine, Design}
use Rattle.cocoon_types.specs.Design.{as_function, all_decls, functions, widths_of}
use Rattle.cocoon_types.specs.RuleParts.{unless_named}
use Rattle.cocoon_types.specs.Rules.{too_wide, WellFormed}
use Rattle.cocoon_types.specs.Sites.{DeclSite, decl_sites, params_of, sites_of, sites_from}
use Rattle.cocoon_types.specs.TypeRules.{wide_params}
use Rattle.runtime_defs.proofs.OwnNames.{nil_left, nil_right}
use Rattle.cocoon_types.specs.Names.{is_name, IsNamed}
use Rattle.cocoon_types.proofs.Functions.{functions_of_decls}

-- the widths are those of one or more declarations
abbrev pub AreWidths : List ℕ → Type 0
AreWidths [] = ⊥
AreWidths (w ∷ ws) = each is_declared_width (w ∷ ws) ≡ true

-- a number has the width of a declaration
abbrev pub IsResult : ResultKind → Type 0
IsResult (of_width w) = is_declared_width w ≡ true
IsResult of_truth = Unit {0}

-- a function as it is declared in a text that keeps the rules
pub record IsDeclared (f : FunctionDecl) : Type 0 where
  pub name : is_name f.name.text ≡ true
  pub params : AreWidths (widths_of f.params)
  pub result : IsResult f.result

-- ---- what holds at each declaration

-- a test on declarations finds nothing
abbrev Clean : (Decl → List ℕ) → Decl → Type 0
Clean F d = F d ≡ []

abbrev AllClean : (Decl → List ℕ) → List Decl → Type 0
AllClean F [] = Unit {0}
AllClean F (d ∷ ds) = Clean F d × AllClean F ds

both_clean : (F : Decl → List ℕ) (ds es : List Decl) → AllClean F ds → AllClean F es → AllClean F (ds ++ es)
both_clean F [] es h k = k
both_clean F (d ∷ ds) es h k = (h.0, both_clean F ds es h.1 k)

as_all : (F : Decl → List ℕ) (ds : List Decl) → AllClean F ds → All (Clean F) ds
as_all F [] h = λ k d l. absurd (omega (arith, l))
as_all F (d ∷ ds) h = All-cons (Clean F) d ds h.0 (as_all F ds h.1)

abbrev at_sites : (Decl → List ℕ) → List DeclSite → List ℕ
at_sites F sites = flat_map (λ (s : DeclSite). F s.decl) sites

clean_sites : (F : Decl → List ℕ) (design : Design) (level : ℕ) (before : List FunctionDecl) (ds : List Decl) → at_sites F (sites_of design level before ds) ≡ [] → AllClean F ds
clean_sites F design level before [] h = tt
clean_sites F design level before (d ∷ ds) h =
    let next = before ++ option_to_list (as_function d) in
    let rest = at_sites F (sites_of design level next ds) in
    (nil_left (F d) rest h, clean_sites F design level next ds (nil_right (F d) rest h))

clean_from : (F : Decl → List ℕ) (design : Design) (level : ℕ) (before : List FunctionDecl) (bs : List Refine) → at_sites F (sites_from design level before bs) ≡ []
    → AllClean F (flat_map (λ (b : Refine). b.decls) bs)
clean_from F design level before [] h = tt
clean_from F design level before (b ∷ bs) h =
    let xs = sites_of design level before b.decls in
    let next = before ++ filter_map as_function b.decls in
    let ys = sites_from design (suc level) next bs in
    let both : at_sites F xs ++ at_sites F ys ≡ [] = sym (flat_map-append (λ (s : DeclSite). F s.decl) xs ys) ∙ h in
    both_clean F b.decls (flat_map (λ (c : Refine). c.decls) bs)
    (clean_sites F design level before b.decls (nil_left (at_sites F xs) (at_sites F ys) both))
    (clean_from F design (suc level) next bs (nil_right (at_sites F xs) (at_sites F ys) both))

clean_decls : (F : Decl → List ℕ) (design : Design) → at_sites F (decl_sites design) ≡ [] → All (Clean F) (all_decls design)
clean_decls F design h =
    let all : take (length design.refines) design.refines ≡ design.refines = take_all (length design.refines) design.refines (omega arith) in
    let xs = sites_of design 0 [] design.decls in
    let ys = sites_from design 1 (filter_map as_function design.decls) design.refines in
    let both : at_sites F xs ++ at_sites F ys ≡ [] = sym (flat_map-append (λ (s : DeclSite). F s.decl) xs ys) ∙ h in
    let clean : AllClean F (design.decls ++ flat_map (λ (b : Refine). b.decls) design.refines) =
    both_clean F design.decls (flat_map (λ (b : Refine). b.decls) design.refines)
    (clean_sites F design 0 [] design.decls (nil_left (at_sites F xs) (at_sites F ys) both))
    (clean_from F design 1 (filter_map as_function design.decls) design.refines (nil_right (at_sites F xs) (at_sites F ys) both)) in
    as_all F (all_decls design) (subst (λ bs. AllClean F (design.decls ++ flat_map (λ (b : Refine). b.decls) bs)) (sym all) clean)

-- ---- widths

good_width : (b : Bool) (n : Name) → unless_named b n ≡ [] → b ≡ true
good_width true n h = refl
good_width false n h = absurd cc

good_params : (ps : List Param) → wide_params ps ≡ [] → each is_declared_width (widths_of ps) ≡ true
good_params [] h = refl
good_params (p ∷ ps) h =
    let one = unless_named (is_declared_width p.width) p.name in
    let rest = flat_map (λ (q : Param). unless_named (is_declared_width q.width) q.name) ps in
    ap₂ (λ a b. a && b) (good_width (is_declared_width p.width) p.name (nil_left one rest h)) (good_params ps (nil_right one rest h))

abbrev wide_of : Decl → List ℕ
wide_of d = elim d [
  | a_function f ↦ elim f.result [ of_width w ↦ unless_named (is_declared_width w) f.name | of_truth ↦ [] ]
  | _ ↦ []
]

good_result : (kind : ResultKind) (n : Name) → (elim kind as (λ _. List ℕ) [ of_width w ↦ unless_named (is_declared_width w) n | of_truth ↦ [] ]) ≡ [] → IsResult kind
good_result (of_width w) n h = good_width (is_declared_width w) n h
good_result of_truth n h = tt

good_widths : (ps : List Param) → 1 ≤ length ps → each is_declared_width (widths_of ps) ≡ true → AreWidths (widths_of ps)
good_widths [] h k = absurd (omega (arith, h))
good_widths (p ∷ ps) h k = k

-- ---- functions

pub functions_declared : (d : Design) → All IsNamed (functions d) → WellFormed d → All IsDeclared (functions d)
functions_declared d names rules =
    let wide = rules too_wide in
    let params = functions_of_decls (λ f. wide_params f.params ≡ []) (Clean (λ x. wide_params (params_of x))) (λ f h. h) (all_decls d)
    (clean_decls (λ x. wide_params (params_of x)) d (nil_right _ _ (nil_left _ _ (nil_left _ _ (nil_left _ _ wide))))) in
    let results = functions_of_decls (λ f. IsResult f.result) (Clean wide_of) (λ f h. good_result f.result f.name h) (all_decls d)
    (clean_decls wide_of d (nil_right _ _ (nil_left _ _ (nil_left _ _ wide)))) in
    λ k f l. record {
      name = (names k f l).name;
      params = good_widths (get_or (functions d) k f).params (names k f l).params (good_params (get_or (functions d) k f).params (params k f l));
      result = results k f l;
    }
