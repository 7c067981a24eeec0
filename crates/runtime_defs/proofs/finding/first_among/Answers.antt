use Rattle.std.proofs.Common.{◌≡◌, ◌++◌, [], map, is_some, false, sym, ◌∙◌}
use Rattle.cocoon_syntax.specs.TreeOf.{design_of, entry_of}
use Rattle.cocoon_types.specs.DefsRules.{entries_faults, missing_defaults}
use Rattle.runtime_defs.specs.Faults.{FirstFault, IsFirst}
use Rattle.runtime_defs.specs.Sets.{guard_faults, fork_faults}
use Rattle.runtime_defs.proofs.Firsts.{first-after, first-given, if-ok, in-order, none-given}
use Rattle.runtime_defs.proofs.Reading.{all-known, no-fault}
use Rattle.runtime_defs.proofs.finding.first_among.Goals as goal

pub returns-then-is_some : goal.returns-then-is_some
returns-then-is_some c =
    let d = design_of c.args.checked.now in
    let es = map entry_of c.args.entries.now in
    in-order d (entries_faults d [] es) (missing_defaults d es) (guard_faults d es) (fork_faults d es) c.in_ok-fault.fault
    (first-given d (entries_faults d [] es) (missing_defaults d es ++ (guard_faults d es ++ fork_faults d es)) c.in_ok-fault.fault (sym c.is_some.ensures ∙ c.if-is_some.true) c.in_ok-fault.ensures.first)

pub first_later_fault-requires : goal.first_later_fault-requires
first_later_fault-requires c =
    let d = design_of c.args.checked.now in
    let es = map entry_of c.args.entries.now in
    let none : is_some c.in_ok-fault.fault ≡ false = sym c.is_some.ensures ∙ c.if-is_some.false in
    record {
      known = all-known d [] es (none-given d (entries_faults d [] es) c.in_ok-fault.fault none c.in_ok-fault.ensures.first);
      defaults = c.in_ok-fault.ensures.defaults (no-fault c.in_ok-fault.fault none);
    }

pub returns : goal.returns
returns c =
    let d = design_of c.args.checked.now in
    let es = map entry_of c.args.entries.now in
    if-ok (IsFirst d (missing_defaults d es ++ (guard_faults d es ++ fork_faults d es))) (FirstFault d es) c.first_later_fault.result
    (λ r h. in-order d (entries_faults d [] es) (missing_defaults d es) (guard_faults d es) (fork_faults d es) r
    (first-after d (entries_faults d [] es) (missing_defaults d es ++ (guard_faults d es ++ fork_faults d es)) c.in_ok-fault.fault r (sym c.is_some.ensures ∙ c.if-is_some.false) c.in_ok-fault.ensures.first h))
    c.first_later_fault.ensures

pub first_entry_fault-requires : goal.first_entry_fault-requires
first_entry_fault-requires c = c.new-defaulted.ensures (design_of c.args.checked.now)
