use Rattle.std.proofs.Common.{None, rules, refl}
use Rattle.symbolic_runs.proofs.Changes.{copy_reads}
use Rattle.symbolic_runs.specs.declared.states.State.{State}
use Rattle.symbolic_runs.proofs.states.State.copy.Goals as goal

pub returns-clause-reads : goal.returns-clause-reads
returns-clause-reads c = λ a t r.
    let made : State = record {
      variables = c.in_ok-to_vec.field-0;
      fields = c.in_ok-to_vec-2.field-0;
      condition = c.args.self.now.condition;
      choices = c.in_ok-to_vec-3.field-0;
      way = c.in_ok-to_vec-4.field-0;
      sent = None;
    } in
    copy_reads a c.args.self.now made t c.requires (search rules) (search rules) refl (search rules) (search rules) refl r
