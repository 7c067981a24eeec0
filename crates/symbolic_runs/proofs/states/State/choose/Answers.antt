use Rattle.std.proofs.Common.{◌≡◌, rules, sym, subst}
use Rattle.bv_terms.specs.declared.node.Node.TheVariants.{Input}
use Rattle.bv_terms.specs.Arenas.{IsPut, inputs_in}
use Rattle.obligation_laws.specs.States.{with_choice}
use Rattle.obligation_laws.specs.Following.{next_input}
use Rattle.symbolic_runs.specs.Reading.{Reads}
use Rattle.symbolic_runs.specs.declared.states.Choice.{Choice}
use Rattle.symbolic_runs.specs.declared.states.State.{State}
use Rattle.symbolic_runs.proofs.Changes.{chosen_reads}
use Rattle.symbolic_runs.proofs.states.State.choose.Goals as goal

pub returns-clause-made : goal.returns-clause-made
returns-clause-made c = record { there = c.in_ok-term.ensures.put.there; term = c.in_ok-term.ensures.put.term }

pub returns-clause-reads : goal.returns-clause-reads
returns-clause-reads c = λ t r.
    let a = c.args.terms.now in
    let b = c.input.new.self in
    let choice : Choice = record { input = c.input_count-input.result; width = c.args.width } in
    let is : c.input_count-input.result ≡ inputs_in a = c.input_count-input.ensures in
    let s = c.args.self.now in
    let made : State = record { variables = s.variables; fields = s.fields; condition = s.condition; choices = c.push.new.self; way = s.way; sent = s.sent } in
    subst (λ n. Reads b made (with_choice (next_input n c.args.width) t)) is
    (chosen_reads a b c.args.self.now c.push.new.self choice c.in_ok-term.term t c.input.ensures.kept (subst (λ n. IsPut a b (Input n c.args.width) c.in_ok-term.term) (sym is) c.in_ok-term.ensures.put) (search rules) r)
