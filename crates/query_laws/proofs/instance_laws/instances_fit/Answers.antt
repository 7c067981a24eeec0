use Rattle.std.proofs.Common.{ℕ, Bool, refl}
use Rattle.cocoon_num.specs.Tree.{Design}
use Rattle.cocoon_types.specs.Design.{last_level, widths_of}
use Rattle.bv_terms.specs.TermTrees.{Term, width}
use Rattle.bv_terms.proofs.Subterms.{Each}
use Rattle.obligation_laws.specs.Shown.{HasWidth}
use Rattle.query_laws.specs.Over.{IsOver}
use Rattle.fun_instances.specs.AssumptionTerms.{number_terms}
use Rattle.query_laws.specs.Tuples.{instance_term, pattern_tuples}
use Rattle.query_laws.proofs.Instances.{all-wide, among-all, assumption-over, each-joined, numbers-over, numbers-wide, own-term-over}
use Rattle.query_laws.proofs.Lists.{all-mapped}
use Rattle.query_laws.proofs.OverParts.{OverHere, each-over, over-parts}
use Rattle.query_laws.proofs.TakenFits.{TakenFits, taken-fit}
use Rattle.query_laws.proofs.instance_laws.instances_fit.Goals as goal

-- an argument at its width, over the same inputs
abbrev IsArg : Design → (ℕ → ℕ → Bool) → ℕ → Term → Type 0
IsArg d inputs w t = HasWidth w t × IsOver d inputs t

good : (d : Design) (inputs : ℕ → ℕ → Bool) (goal : Term) → IsOver d inputs goal → Each (λ u. OverHere d inputs u × IsArg d inputs (width u) u) goal
good d inputs goal over =
    each-joined (OverHere d inputs) (IsOver d inputs) (λ u. OverHere d inputs u × IsArg d inputs (width u) u) (λ t h k. (h, (refl, k))) goal
    (each-over d inputs goal over) (over-parts d inputs goal over)

pub returns-clause-pattern_widths : goal.returns-clause-pattern_widths
returns-clause-pattern_widths c = λ d w l level inputs goal over.
    let taken = taken-fit d (IsArg d inputs) inputs goal (good d inputs goal over) level
    (λ n a is. own-term-over d (c.terms_apply_declared_functions.ensures d w l) level a (c.declarations_are_typed.ensures.assumptions d w l level n a is)) in
    all-mapped (TakenFits d (IsArg d inputs) inputs goal (good d inputs goal over) level) (HasWidth 1) (instance_term d)
    (λ x h. c.assumptions_have_width_1.ensures.terms d w l h.number x.assumption (among-all d level h.number x.assumption h.is) x.terms
    (all-wide (IsOver d inputs) (widths_of x.assumption.params) x.terms h.fits).0)
    (pattern_tuples d level goal) taken

pub returns-clause-patterns_over : goal.returns-clause-patterns_over
returns-clause-patterns_over c = λ d w l level inputs goal over.
    let terms = c.terms_apply_declared_functions.ensures d w l in
    let taken = taken-fit d (IsArg d inputs) inputs goal (good d inputs goal over) level
    (λ n a is. own-term-over d terms level a (c.declarations_are_typed.ensures.assumptions d w l level n a is)) in
    all-mapped (TakenFits d (IsArg d inputs) inputs goal (good d inputs goal over) level) (IsOver d inputs) (instance_term d)
    (λ x h.
    let wide = all-wide (IsOver d inputs) (widths_of x.assumption.params) x.terms h.fits in
    assumption-over d terms level x.assumption (c.declarations_are_typed.ensures.assumptions d w l level h.number x.assumption h.is) x.terms wide.0 inputs wide.1)
    (pattern_tuples d level goal) taken

pub returns-clause-value_widths : goal.returns-clause-value_widths
returns-clause-value_widths c = c.assumptions_have_width_1.ensures.numbers

pub returns-clause-values_over : goal.returns-clause-values_over
returns-clause-values_over c = λ d w l i a is ns fit inputs.
    assumption-over d (c.terms_apply_declared_functions.ensures d w l) (last_level d) a (c.declarations_are_typed.ensures.assumptions d w l (last_level d) i a is)
    (number_terms (widths_of a.params) ns) (numbers-wide (widths_of a.params) ns fit) inputs (numbers-over d inputs (widths_of a.params) ns)
