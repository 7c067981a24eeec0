use Rattle.std.proofs.Common.{◌≡◌, map, take}
use Rattle.p4_texts.specs.Meant.{meta_at}
use Rattle.p4_texts.specs.Written.{ProgramText}
use Rattle.p4_resolve.specs.Controls.{KnowsText}
use Rattle.p4_resolve.proofs.table_rules.key_indices.Given as goal

abbrev pub invariant-loop-key : goal.invariant-loop-key
invariant-loop-key l = (t : ProgramText) → KnowsText l.scope t → l.made.items ≡ map (meta_at t) (take l.key-index l.keys)
