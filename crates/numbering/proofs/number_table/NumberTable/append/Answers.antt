use Rattle.std.proofs.Common.{rules}
use Rattle.numbering.proofs.NumberFacts.{place_new, place_old}
use Rattle.numbering.proofs.number_table.NumberTable.append.Goals.{then-is_none+in_ok-insert, else-is_none}
use Rattle.numbering.proofs.number_table.NumberTable.append.Goals as goal

pub returns : goal.returns
returns c = λ numbers h. elim c.if-is_none.branch [
  | then-is_none+in_ok-insert w ↦ rw w.self-is (place_new c.args.self.now w.insert.new.self c.in_ok-next.next c.args.number numbers h (search rules) w.in_ok-insert.ensures.updates c.in_ok-next.ensures)
  | else-is_none w ↦ rw w.self-is (place_old c.args.self.now c.in_ok-next.next c.args.number numbers h (search rules) c.in_ok-next.ensures)
]
