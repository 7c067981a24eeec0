use Rattle.std.proofs.Common.{◌++◌, map, sym, ◌∙◌}
use Rattle.cocoon_syntax.specs.TreeOf.{design_of, entry_of}
use Rattle.cocoon_types.specs.DefsRules.{defaulted, missing_defaults}
use Rattle.runtime_defs.specs.Faults.{IsFirst}
use Rattle.runtime_defs.specs.Sets.{guard_faults, fork_faults}
use Rattle.runtime_defs.proofs.Firsts.{first-after, first-given, if-ok}
use Rattle.runtime_defs.proofs.finding.first_later_fault.Goals as goal

pub returns-then-is_some : goal.returns-then-is_some
returns-then-is_some c =
    let d = design_of c.args.checked.now in
    let es = map entry_of c.args.entries.now in
    first-given d (missing_defaults d es) (guard_faults d es ++ fork_faults d es) c.first_missing-fault.result (sym c.is_some.ensures ∙ c.if-is_some.true)
    (c.first_missing-fault.ensures (defaulted es) c.requires.defaults)

pub returns : goal.returns
returns c =
    let d = design_of c.args.checked.now in
    let es = map entry_of c.args.entries.now in
    if-ok (IsFirst d (guard_faults d es ++ fork_faults d es)) _ c.first_other_fault.result
    (λ r h. first-after d (missing_defaults d es) (guard_faults d es ++ fork_faults d es) c.first_missing-fault.result r (sym c.is_some.ensures ∙ c.if-is_some.false)
    (c.first_missing-fault.ensures (defaulted es) c.requires.defaults) h)
    c.first_other_fault.ensures
