use Rattle.std.specs.Prelude.{◌≡◌, true}
use Rattle.lowering.proofs.Links as links
use Rattle.lowering.specs.Agrees.{GroupTakesIn, TakesIn}
use Rattle.lowering.specs.LowerBlock.{in_block}
use Rattle.lowering.proofs.bodies.runs_are_visits.Goals as goal

pub returns-clause-bodies : goal.returns-clause-bodies
returns-clause-bodies c fs w b env packet cs fits = links.all_runs_as (TakesIn fs) (GroupTakesIn fs) (λ x. Unit {0}) w b env packet cs fits

pub returns-clause-copies : goal.returns-clause-copies
returns-clause-copies c fs w b env packet cs fits = links.all_runs_as (TakesIn fs) (λ g ns. ⊥) (λ y. in_block y b ≡ true) w b env packet cs fits
