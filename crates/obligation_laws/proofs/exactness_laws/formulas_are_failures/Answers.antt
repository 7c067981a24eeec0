use Rattle.obligation_laws.proofs.Exact.{exactly}
use Rattle.obligation_laws.proofs.exactness_laws.formulas_are_failures.Goals as goal

pub returns : goal.returns
returns c = λ text d reads es h.
    exactly d (record {
      known = record {
        rules = h.rules;
        literals = h.literals;
        taken = c.runs_are_taken.ensures;
        roles = c.declarations_are_typed.ensures.roles d h.rules h.literals;
        sound = c.expressions_have_values.ensures.by_definitions d;
        have = c.runs_have_leaves.ensures.inlined d;
        are = c.leaves_are_runs.ensures.one_body d;
        wide = c.leaves_have_widths.ensures.one_body d h.rules h.literals;
      };
      have_one = c.runs_have_leaves.ensures.one_body d;
      reads = c.leaves_read_back.ensures text d reads h.rules h.literals;
    }) (c.leaves_are_runs.ensures.inlined d) es h
