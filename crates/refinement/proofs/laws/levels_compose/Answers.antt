use Rattle.refinement.proofs.Together.{all_down, deliver}
use Rattle.refinement.proofs.laws.levels_compose.Goals as goal

pub returns : goal.returns
returns c = record {
  walks = all_down c.runs_are_taken.ensures c.declarations_are_typed.ensures.roles c.runs_keep_types.ensures.by_definitions;
  deliveries = deliver c.runs_are_taken.ensures c.declarations_are_typed.ensures.roles c.runs_keep_types.ensures.by_definitions c.starts_fit.ensures.packets;
}
