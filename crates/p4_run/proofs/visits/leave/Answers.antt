use Rattle.std.proofs.Common.{◌%◌, IsTrue, sym, subst, ap, ◌∙◌}
use Rattle.cocoon_num.specs.Lists.{each}
use Rattle.cocoon_num.specs.Packets.{total}
use Rattle.cocoon_num.specs.Sorts.{is_declared_width}
use Rattle.p4_run.specs.Running.{program_in}
use Rattle.p4_run.proofs.FitFacts.{declared_at}
use Rattle.p4_run.proofs.visits.leave.Goals as goal

pub join_into-requires-clause-declared : goal.join_into-requires-clause-declared
join_into-requires-clause-declared c =
    let l = c.args.loaded.now in
    subst (λ xs. IsTrue (each is_declared_width xs)) (sym (c.deref.ensures.value ∙ l.widths_are)) (declared_at (program_in l) l.kinds).fields

pub join_into-requires-clause-whole : goal.join_into-requires-clause-whole
join_into-requires-clause-whole c =
    let l = c.args.loaded.now in
    ap (λ xs. total xs % 8) (c.deref.ensures.value ∙ l.widths_are) ∙ (declared_at (program_in l) l.kinds).bytes
