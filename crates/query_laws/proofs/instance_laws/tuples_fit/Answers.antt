use Rattle.std.proofs.Common.{refl}
use Rattle.cocoon_types.specs.Design.{last_level, widths_of}
use Rattle.bv_terms.specs.TermTrees.{width}
use Rattle.bv_terms.specs.Walks.{applications}
use Rattle.bv_terms.proofs.Subterms.{Each, each-itself, each-weaker}
use Rattle.obligation_laws.specs.Shown.{HasWidth}
use Rattle.query_laws.specs.Over.{IsOver}
use Rattle.query_laws.specs.Patterns.{patterns}
use Rattle.query_laws.specs.TupleFits.{HasAllPlaces, HasPlaces}
use Rattle.query_laws.proofs.Instances.{own-term-over}
use Rattle.query_laws.proofs.Lists.{all-weaker}
use Rattle.query_laws.proofs.OverParts.{OverHere, each-over, over-parts}
use Rattle.query_laws.proofs.PatternFits.{PatternFits, has-places}
use Rattle.query_laws.proofs.TakenFits.{each-applied, patterns-fit, tuples-fit}
use Rattle.query_laws.proofs.instance_laws.tuples_fit.Goals as goal

pub returns-clause-places : goal.returns-clause-places
returns-clause-places c = λ d w l i a is inputs goal over.
    let own = own-term-over d (c.terms_apply_declared_functions.ensures d w l) (last_level d) a (c.declarations_are_typed.ensures.assumptions d w l (last_level d) i a is) in
    all-weaker (Each (IsOver d inputs)) (HasAllPlaces (patterns d a))
    (λ t h. all-weaker (PatternFits d (widths_of a.params)) (HasPlaces t) (λ p fit. has-places d (widths_of a.params) p fit inputs t (each-itself (IsOver d inputs) t h)) (patterns d a) (patterns-fit d a own))
    (applications goal) (each-applied (IsOver d inputs) goal (over-parts d inputs goal over))

pub returns-clause-widths : goal.returns-clause-widths
returns-clause-widths c = λ d w l i a is inputs goal over.
    let own = own-term-over d (c.terms_apply_declared_functions.ensures d w l) (last_level d) a (c.declarations_are_typed.ensures.assumptions d w l (last_level d) i a is) in
    tuples-fit d HasWidth inputs goal
    (each-weaker (OverHere d inputs) (λ u. OverHere d inputs u × HasWidth (width u) u) (λ u h. (h, refl)) goal (each-over d inputs goal over)) a own
