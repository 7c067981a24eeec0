use Rattle.std.proofs.Common.{◌+◌, refl, rules}
use Rattle.numbering.proofs.NameFacts.{names-new, names-old}
use Rattle.numbering.proofs.name_table.NameTable.add.Goals.{then-is_none+in_ok-to_vec+in_ok-insert, else-is_none}
use Rattle.numbering.proofs.name_table.NameTable.add.Goals as goal

pub returns : goal.returns
returns c = λ names h. elim c.if-is_none.branch [
  | then-is_none+in_ok-to_vec+in_ok-insert w ↦ rw w.self-is (names-new c.args.self.now w.insert.new.self (c.args.self.now.count + 1) w.in_ok-to_vec.field-0 c.args.name.now names h (search rules) (search rules) w.in_ok-insert.ensures.updates refl)
  | else-is_none w ↦ rw w.self-is (names-old c.args.self.now (c.args.self.now.count + 1) c.args.name.now names h (search rules) refl)
]
