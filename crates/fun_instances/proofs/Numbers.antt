-- Numbers as terms, one by one.
use Rattle.std.proofs.Common.{◌≡◌, ℕ, zero, suc, ◌+◌, ◌<◌, ◌≤◌, ◌^◌, List, [], ◌∷◌, ◌++◌, map, drop, length, get_or, true, Some, refl, sym, ap, subst, ◌∙◌, arith}
use Rattle.std.specs.Prelude.{slice_get}
use Rattle.std.specs.List.{AllByRecursion, AllZip}
use Rattle.std.proofs.lemmas.List.{append_assoc, append-nil, map-append}
use Rattle.cocoon_num.specs.PacketForms.{FieldsFit}
use Rattle.cocoon_num.specs.Sorts.{is_declared_width}
use Rattle.cocoon_num.specs.Tree.{Param, AssumeDecl, Decl, a_function, an_assumption, a_role, a_host, a_switch, Design}
use Rattle.cocoon_resolve.specs.Readers.{all_assumptions}
use Rattle.cocoon_types.specs.Design.{all_decls, last_level, widths_of}
use Rattle.cocoon_types.specs.Limits.{as_assumption}
use Rattle.cocoon_types.specs.RuleParts.{unless_named}
use Rattle.cocoon_types.specs.Rules.{WellFormed, too_wide}
use Rattle.cocoon_types.specs.Sites.{DeclSite, decl_sites, params_of}
use Rattle.cocoon_types.specs.TypeRules.{wide_params}
use Rattle.bv_terms.specs.declared.node.Node.{Node}
use Rattle.bv_terms.specs.Arenas.{term_at}
use Rattle.bv_terms.specs.TermTrees.{Term, IsWidth, constant}
use Rattle.sound_types.proofs.Levels.{site_at, stands}
use Rattle.sound_types.proofs.Members.{In, at_place, in_filter, none_at}
use Rattle.sound_types.proofs.Options.{nil_left, nil_right, passes}
use Rattle.obligation_laws.specs.Shown.{HasWidth}
use Rattle.expr_terms.specs.Variables.{AreThere, Keeps, Makes, terms_at}
use Rattle.expr_terms.proofs.Lists.{from, from_any}
use Rattle.expr_terms.proofs.Making.{terms_on}
use Rattle.fun_instances.specs.AssumptionTerms.{number_terms}
use Rattle.fun_instances.specs.Numbers.{AreConstants}
use Rattle.fun_instances.specs.Taking.{NumbersFit}

-- ---- numbers that fit an assumption

is_assumption : (x : Decl) (a : AssumeDecl) → as_assumption x ≡ Some a → x ≡ an_assumption a
is_assumption (a_function f) a h = absurd (cc)
is_assumption (an_assumption b) a h = let e : b ≡ a = cc in ap an_assumption e
is_assumption (a_role r) a h = absurd (cc)
is_assumption (a_host x) a h = absurd (cc)
is_assumption (a_switch x) a h = absurd (cc)

wide_to : (w : ℕ) → is_declared_width w ≡ true → (1 ≤ w) × (w ≤ 128)
wide_to w h = grind (arith, h)

-- the parameters of an assumption have widths of declarations
no_wide : (d : Design) → WellFormed d → (i : ℕ) (a : AssumeDecl) → slice_get (all_assumptions d) i ≡ Some a → wide_params a.params ≡ []
no_wide d w i a is =
    let t = in_filter as_assumption (all_decls d) a (at_place (all_assumptions d) i a is) in
    let declared : In (an_assumption a) (all_decls d) = subst (λ x. In x (all_decls d)) (is_assumption t.0 a t.2) t.1 in
    let at = stands d (last_level d) (an_assumption a) declared in
    none_at (λ (x : DeclSite). wide_params (params_of x.decl)) (decl_sites d) (nil_right _ _ (nil_left _ _ (nil_left _ _ (nil_left _ _ (w too_wide))))) (site_at d at.level at.before (an_assumption a)) at.at

widths_to : (ps : List Param) → wide_params ps ≡ [] → AllByRecursion IsWidth (widths_of ps)
widths_to [] h = tt
widths_to (p ∷ ps) h = (
  wide_to p.width (passes (is_declared_width p.width) p.name.at (nil_left (unless_named (is_declared_width p.width) p.name) (wide_params ps) h)),
  widths_to ps (nil_right (unless_named (is_declared_width p.width) p.name) (wide_params ps) h),
)

-- which are those of terms
pub params_wide : (d : Design) → WellFormed d → (i : ℕ) (a : AssumeDecl) → slice_get (all_assumptions d) i ≡ Some a → AllByRecursion IsWidth (widths_of a.params)
params_wide d w i a is = widths_to a.params (no_wide d w i a is)

constants : (ws ns : List ℕ) → AllByRecursion IsWidth ws → FieldsFit ws ns → AreConstants ws ns
constants [] [] w h = tt
constants [] (n ∷ ns) w h = absurd h
constants (v ∷ ws) [] w h = absurd h
constants (v ∷ ws) (n ∷ ns) w h = ((w.0, h.0), constants ws ns w.1 h.1)

pub are_constants : (d : Design) → WellFormed d → (i : ℕ) (a : AssumeDecl) → slice_get (all_assumptions d) i ≡ Some a → (ns : List ℕ) → NumbersFit a ns → AreConstants (widths_of a.params) ns
are_constants d w i a is ns fit = constants (widths_of a.params) ns (params_wide d w i a is) fit

-- ---- their terms

pub numbers_wide : (ws ns : List ℕ) → FieldsFit ws ns → AllZip HasWidth ws (number_terms ws ns)
numbers_wide [] [] h = tt
numbers_wide [] (n ∷ ns) h = absurd h
numbers_wide (w ∷ ws) [] h = absurd h
numbers_wide (w ∷ ws) (n ∷ ns) h = (refl, numbers_wide ws ns h.1)

as_many : {A : Type 0} (g : A → Param) (ps : List A) (ns : List ℕ) → AreConstants (widths_of (map g ps)) ns → length ps ≡ length ns
as_many g [] [] h = refl
as_many g [] (n ∷ ns) h = absurd h
as_many g (p ∷ ps) [] h = absurd h
as_many g (p ∷ ps) (n ∷ ns) h = let e = as_many g ps ns h.1 in omega (arith, e)

-- there is a parameter for each number
pub within : {A : Type 0} (g : A → Param) (ps : List A) (ns : List ℕ) (i : ℕ) → AreConstants (widths_of (map g ps)) ns → i < length ns → i < length ps
within g ps ns i h l = let e = as_many g ps ns h in omega (arith, e, l)

-- the numbers from one on are that of the parameter there and those after it
pub next : {A : Type 0} (g : A → Param) (ps : List A) (ns : List ℕ) (i : ℕ) (p : A) → i < length ps → p ≡ get_or ps i p → i < length ns
    → number_terms (widths_of (map g (drop i ps))) (drop i ns) ≡ constant (g p).width (get_or ns i 0) ∷ number_terms (widths_of (map g (drop (i + 1) ps))) (drop (i + 1) ns)
next g ps ns i p l e m = λ j. number_terms (widths_of (map g (from ps i p l e j))) (from_any ns i 0 m j)

pub is_constant : {A : Type 0} (g : A → Param) (ps : List A) (ns : List ℕ) → AreConstants (widths_of (map g ps)) ns → (i : ℕ) (p : A) → i < length ns → p ≡ get_or ps i p
    → IsWidth (g p).width × (get_or ns i 0 < 2 ^ (g p).width)
is_constant g [] [] h i p l e = absurd (omega (arith, l))
is_constant g [] (n ∷ ns) h i p l e = absurd h
is_constant g (q ∷ ps) [] h i p l e = absurd h
is_constant g (q ∷ ps) (n ∷ ns) h zero p l e = subst (λ x. IsWidth (g x).width × (n < 2 ^ (g x).width)) (sym e) h.0
is_constant g (q ∷ ps) (n ∷ ns) h (suc i) p l e = is_constant g ps ns h.1 i p (omega (arith, l)) e

pub all_made : (n : List Node) (ids ws ns : List ℕ) (all : List Term) → ns ≡ [] → terms_at n ids ++ number_terms ws ns ≡ all → terms_at n ids ≡ all
all_made n ids ws ns all e is = sym (append-nil (terms_at n ids)) ∙ ap (λ ts. terms_at n ids ++ ts) (none ws) ∙ ap (λ xs. terms_at n ids ++ number_terms ws xs) (sym e) ∙ is
  where
    none : (vs : List ℕ) → [] ≡ number_terms vs []
    none [] = refl
    none (v ∷ vs) = refl

-- one term more
pub one_more : (n m : List Node) (ids : List ℕ) (id w v : ℕ) (ws vs : List ℕ) (rest all : List Term) → rest ≡ constant w v ∷ number_terms ws vs → Keeps n m → AreThere n ids → Makes m id (constant w v)
    → terms_at n ids ++ rest ≡ all → terms_at m (ids ++ id ∷ []) ++ number_terms ws vs ≡ all
one_more n m ids id w v ws vs rest all e h there made is =
    ap (λ ts. ts ++ number_terms ws vs) (map-append (term_at m) ids (id ∷ []) ∙ (λ j. terms_on n m ids h there j ++ made.term j ∷ []))
    ∙ append_assoc (terms_at n ids) (constant w v ∷ []) (number_terms ws vs) ∙ ap (λ ts. terms_at n ids ++ ts) (sym e) ∙ is
