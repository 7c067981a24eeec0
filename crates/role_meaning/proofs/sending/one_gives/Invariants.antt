use Rattle.std.proofs.Common.{◌≡◌, All, Some, take, Vec, Global, ℕ}
use Rattle.cocoon_syntax.specs.TreeOf.{design_of}
use Rattle.cocoon_types.specs.Taken.{go}
use Rattle.role_meaning.specs.Goings.{all_taken}
use Rattle.role_meaning.specs.Located.{loc_of, sent_of}
use Rattle.role_values.specs.Worlds.{world_by}
use Rattle.role_meaning.proofs.sending.one_gives.Given as goal

abbrev pub invariant-loop-choices : goal.invariant-loop-choices
invariant-loop-choices l =
    let d = design_of l.checked in
    All (λ (v : Vec ℕ Global). Some (loc_of d l.to, sent_of d l.sent) ≡ all_taken (go (world_by l.defs l.level d) (loc_of d l.from) (sent_of d l.packet) v.items) → ⊥)
    (take l.choices-index l.tried)
