use Rattle.std.proofs.Common.{◌≡◌, ◌+◌, [], map, drop, rules, is_some, true, false, ap, subst}
use Rattle.std.proofs.lemmas.List.{drop_all}
use Rattle.cocoon_syntax.specs.TreeOf.{design_of, entry_of}
use Rattle.cocoon_types.specs.DefsRules.{entry_faults}
use Rattle.runtime_defs.specs.Faults.{IsFirst}
use Rattle.runtime_defs.proofs.Reading.{next-is, no-fault, one-more, read-through, stopped-at}
use Rattle.runtime_defs.proofs.finding.first_entry_fault.Goals as goal

pub returns-then-is_some : goal.returns-then-is_some
returns-then-is_some c =
    let some : is_some c.entry_fault-fault.result ≡ true = search rules in
    stopped-at (design_of c.args.checked.now) (map entry_of c.args.entries.now) (map entry_of (drop c.loop-entry.entry-index c.args.entries.now)) (map entry_of (drop (c.loop-entry.entry-index + 1) c.args.entries.now))
    (entry_of c.entry-item.result) c.loop-entry.defaulted c.loop-entry.invariant c.entry_fault-fault.result
    (next-is entry_of c.args.entries.now c.loop-entry.entry-index c.entry-item.result c.loop-entry-test.true c.entry-item.is) some
    (c.entry_fault-fault.ensures c.loop-entry.invariant.seen c.loop-entry.invariant.holds)

pub loop-entry-preserved : goal.loop-entry-preserved
loop-entry-preserved c =
    let none : is_some c.entry_fault-fault.result ≡ false = search rules in
    one-more (design_of c.args.checked.now) (map entry_of c.args.entries.now) (map entry_of (drop c.loop-entry.entry-index c.args.entries.now)) (map entry_of (drop (c.loop-entry.entry-index + 1) c.args.entries.now))
    (entry_of c.entry-item.result) c.loop-entry.defaulted c.add_default.new.defaulted c.loop-entry.invariant
    (next-is entry_of c.args.entries.now c.loop-entry.entry-index c.entry-item.result c.loop-entry-test.true c.entry-item.is)
    (subst (IsFirst (design_of c.args.checked.now) (entry_faults (design_of c.args.checked.now) c.loop-entry.invariant.seen (entry_of c.entry-item.result))) (no-fault c.entry_fault-fault.result none)
    (c.entry_fault-fault.ensures c.loop-entry.invariant.seen c.loop-entry.invariant.holds))
    (c.in_ok-add_default.ensures c.loop-entry.invariant.seen c.loop-entry.invariant.holds)

pub returns : goal.returns
returns c =
    let none : map entry_of (drop c.loop-entry.entry-index c.args.entries.now) ≡ [] = ap (map entry_of) (drop_all c.loop-entry.entry-index c.args.entries.now c.loop-entry-test.false) in
    read-through (design_of c.args.checked.now) (map entry_of c.args.entries.now) (map entry_of (drop c.loop-entry.entry-index c.args.entries.now)) c.loop-entry.defaulted c.loop-entry.invariant none
