-- What instances are made of, and that they hold.
use Rattle.std.proofs.Common.{◌≡◌, ℕ, ◌≤◌, Bool, false, List, [], ◌∷◌, ◌++◌, drop, length, take, Some, refl, ap, sym, ◌∙◌, arith}
use Rattle.std.specs.Prelude.{filter_map, flat_map, slice_get}
use Rattle.std.specs.List.{AllByRecursion, AllZip}
use Rattle.std.proofs.lemmas.Grind.{flat_map-append}
use Rattle.std.proofs.lemmas.List.{append_assoc, take-append-drop, take_all}
use Rattle.std.proofs.lemmas.List.Elements.{filter_map-append}
use Rattle.cocoon_num.specs.PacketForms.{FieldsFit}
use Rattle.cocoon_num.specs.Sorts.{truth_sort}
use Rattle.cocoon_num.specs.Tree.{Param, AssumeDecl, Refine, Design}
use Rattle.cocoon_resolve.specs.Readers.{all_assumptions, assumptions_to}
use Rattle.cocoon_types.specs.Design.{all_decls, decls_to, widths_of}
use Rattle.cocoon_types.specs.Limits.{as_assumption}
use Rattle.bv_terms.specs.TermTrees.{Term, Args, constant, input, apply, not_, binary, slice, pick, no_args, arg, IsTerm, AreArgs}
use Rattle.bv_terms.proofs.Subterms.{Each, EachArg}
use Rattle.sound_types.specs.WellTyped.{HasType, scope_at}
use Rattle.obligation_laws.specs.Shown.{HasWidth}
use Rattle.obligation_laws.specs.TermOf.{bind_terms}
use Rattle.obligation_laws.proofs.ExprWidths.{params_are}
use Rattle.query_laws.specs.Over.{AllOver, IsOver, TermsAreOver, VariablesOver}
use Rattle.fun_instances.specs.AssumptionTerms.{assumption_term, inputs_from, number_terms, own_term}
use Rattle.query_laws.proofs.Lists.{in-front}
use Rattle.query_laws.proofs.PatternFits.{own-over, own-wide, own_inputs}

-- ---- two facts of each part

module _ (P Q S : Term → Type 0) (join : (t : Term) → P t → Q t → S t) where
  mutual
    pub each-joined : (t : Term) → Each P t → Each Q t → Each S t
    each-joined (constant w n) h k = join (constant w n) h k
    each-joined (input i w) h k = join (input i w) h k
    each-joined (apply f args w) h k = (each-args-joined args h.0 k.0, join (apply f args w) h.1 k.1)
    each-joined (not_ a) h k = (each-joined a h.0 k.0, join (not_ a) h.1 k.1)
    each-joined (binary op a b) h k = (each-joined a h.0 k.0, each-joined b h.1 k.1, join (binary op a b) h.2 k.2)
    each-joined (slice a high low) h k = (each-joined a h.0 k.0, join (slice a high low) h.1 k.1)
    each-joined (pick c a b) h k = (each-joined c h.0 k.0, each-joined a h.1 k.1, each-joined b h.2 k.2, join (pick c a b) h.3 k.3)

    each-args-joined : (ts : Args) → EachArg P ts → EachArg Q ts → EachArg S ts
    each-args-joined no_args h k = tt
    each-args-joined (arg t ts) h k = (each-joined t h.0 k.0, each-args-joined ts h.1 k.1)

mutual
  pub each-term : (t : Term) → IsTerm t → Each IsTerm t
  each-term (constant w n) h = h
  each-term (input i w) h = h
  each-term (apply f args w) h = (each-args-term args h.0, h)
  each-term (not_ a) h = (each-term a h, h)
  each-term (binary op a b) h = (each-term a h.0, each-term b h.1, h)
  each-term (slice a high low) h = (each-term a h.0, h)
  each-term (pick c a b) h = (each-term c h.0, each-term a h.1, each-term b h.2, h)

  each-args-term : (ts : Args) → AreArgs ts → EachArg IsTerm ts
  each-args-term no_args h = tt
  each-args-term (arg t ts) h = (each-term t h.0, each-args-term ts h.2)

-- ---- assumptions of some levels are the first of all

decls-first : (d : Design) (level : ℕ) → decls_to level d ++ flat_map (λ (b : Refine). b.decls) (drop level d.refines) ≡ all_decls d
decls-first d level =
    append_assoc d.decls (flat_map (λ (b : Refine). b.decls) (take level d.refines)) (flat_map (λ (b : Refine). b.decls) (drop level d.refines))
    ∙ ap (λ xs. d.decls ++ xs)
    (sym (flat_map-append (λ (b : Refine). b.decls) (take level d.refines) (drop level d.refines))
    ∙ ap (flat_map (λ (b : Refine). b.decls)) (take-append-drop level d.refines ∙ sym (take_all (length d.refines) d.refines (let e : length d.refines ≤ length d.refines = omega arith in e))))

pub among-all : (d : Design) (level n : ℕ) (a : AssumeDecl) → slice_get (assumptions_to level d) n ≡ Some a → slice_get (all_assumptions d) n ≡ Some a
among-all d level n a is =
    let rest = flat_map (λ (b : Refine). b.decls) (drop level d.refines) in
    let all : assumptions_to level d ++ filter_map as_assumption rest ≡ all_assumptions d =
    sym (filter_map-append as_assumption (decls_to level d) rest) ∙ ap (filter_map as_assumption) (decls-first d level) in
    ap (λ xs. slice_get xs n) (sym all) ∙ in-front (assumptions_to level d) (filter_map as_assumption rest) n a is

-- ---- terms of assumptions are over the design

bound-over : (d : Design) (inputs : ℕ → ℕ → Bool) (ps : List Param) (ts : List Term) → AllOver d inputs ts → VariablesOver d inputs (bind_terms ps ts)
bound-over d inputs [] [] h = tt
bound-over d inputs [] (t ∷ ts) h = tt
bound-over d inputs (p ∷ ps) [] h = tt
bound-over d inputs (p ∷ ps) (t ∷ ts) h = (h.0, bound-over d inputs ps ts h.1)

pub assumption-over : (d : Design) → TermsAreOver d → (level : ℕ) (a : AssumeDecl) → HasType (scope_at d level a.params false) truth_sort a.body → (ts : List Term) → AllZip HasWidth (widths_of a.params) ts
    → (inputs : ℕ → ℕ → Bool) → AllOver d inputs ts → IsOver d inputs (assumption_term d a ts)
assumption-over d over level a typed ts wide inputs h =
    over (scope_at d level a.params false) (bind_terms a.params ts) [] refl (record { variables = params_are a.params ts wide; fields_fit = λ no. absurd (cc) })
    inputs (bound-over d inputs a.params ts h) tt truth_sort a.body typed

pub own-term-over : (d : Design) → TermsAreOver d → (level : ℕ) (a : AssumeDecl) → HasType (scope_at d level a.params false) truth_sort a.body → IsOver d (own_inputs (widths_of a.params)) (own_term d a)
own-term-over d over level a typed =
    let ws = widths_of a.params in
    assumption-over d over level a typed (inputs_from 0 ws) (own-wide 0 ws) (own_inputs ws) (own-over d ws)

-- ---- numbers

pub numbers-wide : (ws ns : List ℕ) → FieldsFit ws ns → AllZip HasWidth ws (number_terms ws ns)
numbers-wide [] [] h = tt
numbers-wide [] (n ∷ ns) h = absurd h
numbers-wide (w ∷ ws) [] h = absurd h
numbers-wide (w ∷ ws) (n ∷ ns) h = (refl, numbers-wide ws ns h.1)

pub numbers-over : (d : Design) (inputs : ℕ → ℕ → Bool) (ws ns : List ℕ) → AllOver d inputs (number_terms ws ns)
numbers-over d inputs [] ns = tt
numbers-over d inputs (w ∷ ws) [] = tt
numbers-over d inputs (w ∷ ws) (n ∷ ns) = (tt, numbers-over d inputs ws ns)

-- ---- lists side by side

pub all-wide : (R : Term → Type 0) (ws : List ℕ) (ts : List Term) → AllZip (λ w t. HasWidth w t × R t) ws ts → AllZip HasWidth ws ts × AllByRecursion R ts
all-wide R [] [] h = (tt, tt)
all-wide R [] (t ∷ ts) h = absurd h
all-wide R (w ∷ ws) [] h = absurd h
all-wide R (w ∷ ws) (t ∷ ts) h = let r = all-wide R ws ts h.1 in ((h.0.0, r.0), (h.0.1, r.1))
