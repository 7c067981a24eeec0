use Rattle.std.proofs.Common.{rules}
use Rattle.numbering.proofs.KeyFacts.{keys-new, keys-old}
use Rattle.numbering.proofs.key_table.KeyTable.append.Goals.{then-is_none+in_ok-to_vec+in_ok-insert, else-is_none}
use Rattle.numbering.proofs.key_table.KeyTable.append.Goals as goal

pub returns : goal.returns
returns c = λ keys h. elim c.if-is_none.branch [
  | then-is_none+in_ok-to_vec+in_ok-insert w ↦ rw w.self-is (keys-new c.args.self.now w.insert.new.self c.in_ok-next.next w.in_ok-to_vec.field-0 c.args.key.now keys h (search rules) (search rules) w.in_ok-insert.ensures.updates c.in_ok-next.ensures)
  | else-is_none w ↦ rw w.self-is (keys-old c.args.self.now c.in_ok-next.next c.args.key.now keys h (search rules) c.in_ok-next.ensures)
]
