use Rattle.std.proofs.Common.{suc, false}
use Rattle.cocoon_resolve.specs.Readers.{all_widths}
use Rattle.refinement.specs.Segments.{is_new}
use Rattle.obligation_laws.specs.States.{term_world}
use Rattle.obligation_laws.proofs.Ascending.{tree_ends}
use Rattle.obligation_laws.proofs.tree_laws.leaves_end_by_role.Goals as goal

pub returns : goal.returns
returns c = record {
  inlined = λ d above role within first n leaf there. tree_ends (term_world (suc above) d) (all_widths d.headers) (is_new above d) within role first n leaf there;
  one_body = λ d level role first n leaf there. tree_ends (term_world level d) (all_widths d.headers) (λ r. false) 1 role first n leaf there;
}
