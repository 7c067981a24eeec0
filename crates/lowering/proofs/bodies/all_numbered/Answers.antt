use Rattle.lowering.proofs.Numbers as numbers
use Rattle.lowering.specs.Lower.{callees}
use Rattle.lowering.proofs.bodies.all_numbered.Goals as goal

pub returns-clause-placed : goal.returns-clause-placed
returns-clause-placed c headers fs port b vars n = (numbers.block_grows (callees headers fs port) (numbers.calls_grow headers fs port) b vars n).0

pub returns-clause-forks : goal.returns-clause-forks
returns-clause-forks c headers fs port b vars n = (numbers.block_grows (callees headers fs port) (numbers.calls_grow headers fs port) b vars n).1

pub returns-clause-copies : goal.returns-clause-copies
returns-clause-copies c headers fs port sites n = numbers.sites_grow (callees headers fs port) (numbers.calls_grow headers fs port) sites n

pub returns-clause-fields : goal.returns-clause-fields
returns-clause-fields c a j b ms p = numbers.fields_at a j b ms p
