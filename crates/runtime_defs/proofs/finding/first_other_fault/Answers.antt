use Rattle.std.proofs.Common.{map, sym, ◌∙◌}
use Rattle.cocoon_syntax.specs.TreeOf.{design_of, entry_of}
use Rattle.runtime_defs.specs.Faults.{IsFirst}
use Rattle.runtime_defs.specs.Sets.{guard_faults, fork_faults}
use Rattle.runtime_defs.proofs.Firsts.{first-after, first-given, if-ok}
use Rattle.runtime_defs.proofs.finding.first_other_fault.Goals as goal

pub returns-then-is_some : goal.returns-then-is_some
returns-then-is_some c =
    let d = design_of c.args.checked.now in
    let es = map entry_of c.args.entries.now in
    first-given d (guard_faults d es) (fork_faults d es) c.in_ok-fault.fault (sym c.is_some.ensures ∙ c.if-is_some.true) c.in_ok-fault.ensures

pub returns : goal.returns
returns c =
    let d = design_of c.args.checked.now in
    let es = map entry_of c.args.entries.now in
    if-ok (IsFirst d (fork_faults d es)) _ c.first_fork_fault.result
    (λ r h. first-after d (guard_faults d es) (fork_faults d es) c.in_ok-fault.fault r (sym c.is_some.ensures ∙ c.if-is_some.false) c.in_ok-fault.ensures h)
    c.first_fork_fault.ensures
