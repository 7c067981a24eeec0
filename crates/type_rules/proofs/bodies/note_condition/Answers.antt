use Rattle.type_rules.proofs.StmtTests.{if_notes, filter_notes, assume_notes}
use Rattle.type_rules.proofs.bodies.note_condition.Goals as goal

pub returns : goal.returns
returns c = record {
  branch = λ s x a b h. if_notes c.noting_laws.ensures s c.args.ended c.args.at x a b h.at h.sort c.is_other.ensures c.note_if.ensures c.note_if-2.ensures;
  filter = λ s x h. filter_notes c.noting_laws.ensures s c.args.ended c.args.at x h.at h.sort c.is_other.ensures c.note_if.ensures c.note_if-2.ensures;
  assume = λ s x h. assume_notes c.noting_laws.ensures s c.args.ended c.args.at x h.at h.sort c.is_other.ensures c.note_if.ensures c.note_if-2.ensures;
}
