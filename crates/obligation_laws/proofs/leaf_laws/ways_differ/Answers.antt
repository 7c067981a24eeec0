use Rattle.std.proofs.Common.{suc, false}
use Rattle.cocoon_resolve.specs.Readers.{all_widths}
use Rattle.refinement.specs.Segments.{is_new}
use Rattle.obligation_laws.specs.States.{term_world}
use Rattle.obligation_laws.proofs.Together.{ways_part}
use Rattle.obligation_laws.proofs.leaf_laws.ways_differ.Goals as goal

pub returns : goal.returns
returns c = record {
  inlined = λ d above role within. ways_part (term_world (suc above) d) (all_widths d.headers) (is_new above d) within role;
  one_body = λ d level role. ways_part (term_world level d) (all_widths d.headers) (λ r. false) 1 role;
}
