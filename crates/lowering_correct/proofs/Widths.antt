-- The widths of parameters and results of functions, in designs that keep the rules.
use Rattle.std.proofs.Common.{◌≡◌, ℕ, zero, suc, ◌<◌, ◌≤◌, ◌^◌, ◌&&◌, nat_lt, List, [], ◌∷◌, ◌++◌, length, slice_get, Bool, true, false, Some, arith, pow_mono, refl, sym, ap, ap₂, subst, ◌∙◌}
use Rattle.std.specs.Prelude.{flat_map, filter_map, option_to_list}
use Rattle.std.proofs.lemmas.Bool.Decides.{nat_tests}
use Rattle.std.proofs.lemmas.List.{take_all}
use Rattle.std.proofs.lemmas.List.Concat.{flat_map-append}
use Rattle.cocoon_num.specs.Lists.{each}
use Rattle.cocoon_num.specs.Sorts.{is_declared_width}
use Rattle.cocoon_num.specs.Tree.{Param, ResultKind, of_width, of_truth, FunctionDecl, Decl, a_function, an_assumption, a_role, a_host, a_switch, Refine, Design}
use Rattle.cocoon_num.specs.Values.{fits_width}
use Rattle.cocoon_types.specs.Design.{as_function, all_decls, functions, widths_of}
use Rattle.cocoon_types.specs.RuleParts.{unless_named}
use Rattle.cocoon_types.specs.Rules.{WellFormed, too_wide}
use Rattle.cocoon_types.specs.Sites.{DeclSite, params_of, sites_of, sites_from}
use Rattle.cocoon_types.specs.TypeRules.{wide_params}
use Rattle.lowering_correct.proofs.Found.{below-width, both-true, number-fits}
use Rattle.runtime_defs.proofs.Distinct.{nil-both}
use Rattle.runtime_defs.specs.Fitting.{result_width}
use Rattle.runtime_defs.specs.Places.{all_fit_widths}

-- each width is at most 64
abbrev pub AllNarrow : List ℕ → Type 0
AllNarrow [] = Unit {0}
AllNarrow (w ∷ ws) = (w ≤ 64) × AllNarrow ws

-- the widths of a function
pub record IsNarrow (f : FunctionDecl) : Type 0 where
  pub params : AllNarrow (widths_of f.params)
  pub result : result_width f.result ≤ 64

-- ---- declarations

-- none of these declarations breaks a rule
abbrev Clean : (Decl → List ℕ) → List Decl → Type 0
Clean k [] = Unit {0}
Clean k (d ∷ ds) = (k d ≡ []) × Clean k ds

clean-both : (k : Decl → List ℕ) (ds es : List Decl) → Clean k ds → Clean k es → Clean k (ds ++ es)
clean-both k [] es h g = g
clean-both k (d ∷ ds) es h g = (h.0, clean-both k ds es h.1 g)

clean-sites : (k : Decl → List ℕ) (design : Design) (level : ℕ) (before : List FunctionDecl) (ds : List Decl) → flat_map (λ (s : DeclSite). k s.decl) (sites_of design level before ds) ≡ [] → Clean k ds
clean-sites k design level before [] h = tt
clean-sites k design level before (d ∷ ds) h =
    let next = before ++ option_to_list (as_function d) in
    let both = nil-both (k d) (flat_map (λ (s : DeclSite). k s.decl) (sites_of design level next ds)) h in
    (both.0, clean-sites k design level next ds both.1)

clean-from : (k : Decl → List ℕ) (design : Design) (level : ℕ) (before : List FunctionDecl) (bs : List Refine)
    → flat_map (λ (s : DeclSite). k s.decl) (sites_from design level before bs) ≡ [] → Clean k (flat_map (λ (b : Refine). b.decls) bs)
clean-from k design level before [] h = tt
clean-from k design level before (b ∷ bs) h =
    let xs = sites_of design level before b.decls in
    let next = before ++ filter_map as_function b.decls in
    let ys = sites_from design (suc level) next bs in
    let both = nil-both (flat_map (λ (s : DeclSite). k s.decl) xs) (flat_map (λ (s : DeclSite). k s.decl) ys) (sym (flat_map-append (λ (s : DeclSite). k s.decl) xs ys) ∙ h) in
    clean-both k b.decls (flat_map (λ (c : Refine). c.decls) bs) (clean-sites k design level before b.decls both.0) (clean-from k design (suc level) next bs both.1)

clean-all : (k : Decl → List ℕ) (d : Design) → flat_map (λ (s : DeclSite). k s.decl) (sites_of d 0 [] d.decls ++ sites_from d 1 (filter_map as_function d.decls) d.refines) ≡ [] → Clean k (all_decls d)
clean-all k d h =
    let xs = sites_of d 0 [] d.decls in
    let ys = sites_from d 1 (filter_map as_function d.decls) d.refines in
    let both = nil-both (flat_map (λ (s : DeclSite). k s.decl) xs) (flat_map (λ (s : DeclSite). k s.decl) ys) (sym (flat_map-append (λ (s : DeclSite). k s.decl) xs ys) ∙ h) in
    subst (λ bs. Clean k (d.decls ++ flat_map (λ (b : Refine). b.decls) bs)) (sym (take_all (length d.refines) d.refines (omega arith)))
    (clean-both k d.decls (flat_map (λ (b : Refine). b.decls) d.refines) (clean-sites k d 0 [] d.decls both.0) (clean-from k d 1 (filter_map as_function d.decls) d.refines both.1))

clean-function : (k : Decl → List ℕ) (ds : List Decl) → Clean k ds → (n : ℕ) (f : FunctionDecl) → slice_get (filter_map as_function ds) n ≡ Some f → k (a_function f) ≡ []
clean-function k [] h n f g = absurd cc
clean-function k (a_function e ∷ ds) h zero f g = let same : e ≡ f = cc in ap (λ x. k (a_function x)) (sym same) ∙ h.0
clean-function k (a_function e ∷ ds) h (suc n) f g = clean-function k ds h.1 n f g
clean-function k (an_assumption a ∷ ds) h n f g = clean-function k ds h.1 n f g
clean-function k (a_role r ∷ ds) h n f g = clean-function k ds h.1 n f g
clean-function k (a_host x ∷ ds) h n f g = clean-function k ds h.1 n f g
clean-function k (a_switch s ∷ ds) h n f g = clean-function k ds h.1 n f g

-- ---- widths

narrow-of : (w : ℕ) → is_declared_width w ≡ true → w ≤ 64
narrow-of w h = grind (arith, nat_tests, h)

one-width : (p : Param) (b : Bool) → is_declared_width p.width ≡ b → unless_named b p.name ≡ [] → p.width ≤ 64
one-width p true e h = narrow-of p.width e
one-width p false e h = absurd cc

narrow-params : (ps : List Param) → wide_params ps ≡ [] → AllNarrow (widths_of ps)
narrow-params [] h = tt
narrow-params (p ∷ ps) h =
    let both = nil-both (unless_named (is_declared_width p.width) p.name) (flat_map (λ (q : Param). unless_named (is_declared_width q.width) q.name) ps) h in
    (one-width p (is_declared_width p.width) refl both.0, narrow-params ps both.1)

abbrev wide-result-of : Decl → List ℕ
wide-result-of d = elim d [
  | a_function f ↦ elim f.result [ of_width w ↦ unless_named (is_declared_width w) f.name | of_truth ↦ [] ]
  | _ ↦ []
]

narrow-result : (f : FunctionDecl) (kind : ResultKind) → ◌≡◌ {A = List ℕ} (elim kind [ of_width w ↦ unless_named (is_declared_width w) f.name | of_truth ↦ [] ]) [] → result_width kind ≤ 64
narrow-result f (of_width w) h = by (is_declared_width w) refl h
  where
    by : (b : Bool) → is_declared_width w ≡ b → unless_named b f.name ≡ [] → w ≤ 64
    by true e k = narrow-of w e
    by false e k = absurd cc
narrow-result f of_truth h = omega arith

pub narrow-function : (d : Design) → WellFormed d → (n : ℕ) (f : FunctionDecl) → slice_get (functions d) n ≡ Some f → IsNarrow f
narrow-function d w n f there =
    let first = (nil-both _ _ (nil-both _ _ (w too_wide)).0).0 in
    let both = nil-both _ _ first in
    record {
      params = narrow-params f.params (clean-function (λ x. wide_params (params_of x)) (all_decls d) (clean-all (λ x. wide_params (params_of x)) d (nil-both _ _ both.0).1) n f there);
      result = narrow-result f f.result (clean-function wide-result-of (all_decls d) (clean-all wide-result-of d both.1) n f there);
    }

-- ---- numbers of 64 bits

pub narrow-number : (w n : ℕ) → w ≤ 64 → n < 2 ^ w → nat_lt n (2 ^ 64) ≡ true
narrow-number w n l h =
    let b : 2 ^ w ≤ 2 ^ 64 = pow_mono l in
    number-fits 64 n (omega (arith, h, b))

pub narrow-numbers : (ws ns : List ℕ) → AllNarrow ws → all_fit_widths ws ns ≡ true → each (λ n. nat_lt n (2 ^ 64)) ns ≡ true
narrow-numbers [] [] h f = refl
narrow-numbers [] (n ∷ ns) h f = absurd cc
narrow-numbers (w ∷ ws) [] h f = absurd cc
narrow-numbers (w ∷ ws) (n ∷ ns) h f =
    let both = both-true (fits_width w n) (all_fit_widths ws ns) f in
    ap₂ (◌&&◌) (narrow-number w n h.0 (below-width w n both.0)) (narrow-numbers ws ns h.1 both.1)
