use Rattle.std.proofs.Common.{suc, false}
use Rattle.refinement.specs.Segments.{is_new}
use Rattle.obligation_laws.proofs.Made.{made_fit}
use Rattle.obligation_laws.proofs.Together.{tree_made}
use Rattle.obligation_laws.proofs.leaf_laws.leaves_name_their_inputs.Goals as goal

pub returns : goal.returns
returns c = record {
  inlined = λ d above role within. tree_made d (suc above) (is_new above d) within role;
  one_body = λ d level role. tree_made d level (λ r. false) 1 role;
  fit = made_fit;
}
