use Rattle.std.proofs.Common.{◌≡◌, ℕ, ◌^◌, Bool, Some, refl, ap, sym, ◌∙◌, subst}
use Rattle.std.specs.List.{AllByRecursion}
use Rattle.std.proofs.lemmas.Bool.{lt-ltb, ltb-true}
use Rattle.cocoon_num.specs.Sorts.{bits_sort}
use Rattle.cocoon_num.specs.Tree.{Design}
use Rattle.cocoon_num.specs.Values.{FitsWidth, Value, number}
use Rattle.cocoon_resolve.specs.Readers.{assumptions_to}
use Rattle.cocoon_types.specs.Rules.{WellFormed}
use Rattle.cocoon_types.specs.Tables.{Defs, defs_of}
use Rattle.bv_terms.specs.Inputs.{InputsFit}
use Rattle.bv_terms.specs.TermTrees.{IsTerm, Term, width}
use Rattle.bv_terms.specs.TermValues.{Inputs, term_value}
use Rattle.bv_terms.proofs.Subterms.{Each}
use Rattle.refinement.specs.Assumptions.{AreDefinitions, IsMet}
use Rattle.sound_types.specs.Defined.{HasDefinitions}
use Rattle.sound_types.specs.Literals.{DesignLiteralsFit}
use Rattle.sound_types.specs.Matching.{IsOfSort}
use Rattle.obligation_laws.specs.Shown.{HasNumber, functions_by}
use Rattle.query_laws.specs.Over.{IsOver, fit_input}
use Rattle.fun_instances.specs.AssumptionTerms.{value_term}
use Rattle.fun_instances.specs.Saying.{IsTrueUnder}
use Rattle.query_laws.specs.Tuples.{instance_term, pattern_terms, pattern_tuples}
use Rattle.query_laws.proofs.Instances.{among-all, each-joined, each-term, own-term-over}
use Rattle.query_laws.proofs.Lists.{all-mapped, at-place, has-place}
use Rattle.query_laws.proofs.OverParts.{OverHere, each-over, mentioned-is, over-others, over-parts}
use Rattle.query_laws.proofs.TakenFits.{TakenFits, taken-fit}
use Rattle.query_laws.proofs.instance_laws.instances_hold.Goals as goal

definitions : (d : Design) (defs : Defs) → WellFormed d → DesignLiteralsFit d → (are : AreDefinitions d defs) → HasDefinitions d are.entries
definitions d defs w l are = record { rules = w; literals = l; fits = are.fit; values_fit = are.values_fit }

-- the inputs fit, as what the term is over
fitting : (d : Design) (inputs : ℕ → ℕ → Bool) (goal : Term) → IsOver d inputs goal → (ins : Inputs) → InputsFit goal ins → IsOver d (fit_input ins) goal
fitting d inputs goal over ins fit = over-others d inputs goal over (fit_input ins) (λ i w m. lt-ltb (ins i) (2 ^ w) (fit i w m))

inputs-fit : (d : Design) (ins : Inputs) (t : Term) → IsOver d (fit_input ins) t → InputsFit t ins
inputs-fit d ins t over = λ i w m. ltb-true (ins i) (2 ^ w) (mentioned-is d (fit_input ins) t over i w m)

sorted : (w n : ℕ) (v : Value) → v ≡ number w n → FitsWidth w n → IsOfSort (bits_sort w) v
sorted w n v e h = subst (IsOfSort (bits_sort w)) (sym e) (refl, h)

pub returns-clause-patterns : goal.returns-clause-patterns
returns-clause-patterns c = λ d w l level defs are meets inputs goal term over ins fit.
    let es = are.entries in
    let F = functions_by d (defs_of d es) in
    let has = definitions d defs w l are in
    let fits = fitting d inputs goal over ins fit in
    let value : (t : Term) → IsTerm t → IsOver d (fit_input ins) t → HasNumber F ins (width t) t =
    (λ t i h.
    let v = c.values_fit.ensures t i F ins (c.definitions_fit_design_terms.ensures d w l (defs_of d es) (record { entries = es; fit = are.fit; values_fit = are.values_fit; are = refl }) (fit_input ins) t h) (inputs-fit d ins t h) in
    sorted (width t) v.0 (term_value F ins t) v.1 v.2) in
    let good : Each (λ u. OverHere d (fit_input ins) u × HasNumber F ins (width u) u) goal =
    each-joined (OverHere d (fit_input ins)) (λ u. HasNumber F ins (width u) u) (λ u. OverHere d (fit_input ins) u × HasNumber F ins (width u) u) (λ t h k. (h, k)) goal (each-over d (fit_input ins) goal fits)
    (each-joined IsTerm (IsOver d (fit_input ins)) (λ u. HasNumber F ins (width u) u) value goal (each-term goal term) (over-parts d (fit_input ins) goal fits)) in
    let taken = taken-fit d (HasNumber F ins) (fit_input ins) goal good level
    (λ n a is. own-term-over d (c.terms_apply_declared_functions.ensures d w l) level a (c.declarations_are_typed.ensures.assumptions d w l level n a is)) in
    subst (λ (x : Defs). AllByRecursion (IsTrueUnder d x ins) (pattern_terms d level goal)) (sym are.are)
    (all-mapped (TakenFits d (HasNumber F ins) (fit_input ins) goal good level) (IsTrueUnder d (defs_of d es) ins) (instance_term d)
    (λ x h. c.met_assumptions_are_true.ensures.terms d es has h.number x.assumption (among-all d level h.number x.assumption h.is)
    (subst (λ (y : Defs). IsMet d y x.assumption) are.are (at-place (IsMet d defs) (assumptions_to level d) h.number x.assumption meets h.is)) ins x.terms h.fits)
    (pattern_tuples d level goal) taken)

pub returns-clause-values : goal.returns-clause-values
returns-clause-values c = λ d w l level defs are meets i below a is ns fit ins.
    let es = are.entries in
    let at = has-place (assumptions_to level d) i below in
    let same : at.0 ≡ a = (let e = among-all d level i at.0 at.1 in cc) in
    subst (λ (x : Defs). IsTrueUnder d x ins (value_term d a ns)) (sym are.are)
    (c.met_assumptions_are_true.ensures.numbers d es (definitions d defs w l are) i a is
    (subst (λ (y : Defs). IsMet d y a) are.are (at-place (IsMet d defs) (assumptions_to level d) i a meets (at.1 ∙ ap Some same))) ins ns fit)
