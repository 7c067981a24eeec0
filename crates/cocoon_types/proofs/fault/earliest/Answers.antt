use Rattle.std.proofs.Common.{rules, ◌≡◌, true, false, Some, option_map, subst, sym}
use Rattle.cocoon_types.specs.FirstFault.{comes_before as is_before}
use Rattle.cocoon_types.specs.Noting.{Notes, same_fault}
use Rattle.cocoon_types.specs.RuleNames.{fault_at, fault_of}
use Rattle.cocoon_types.proofs.NotesLaws.{note_earlier, note_later}
use Rattle.cocoon_types.proofs.fault.earliest.Goals as goal

pub returns-then-comes_before : goal.returns-then-comes_before
returns-then-comes_before c =
    let held : c.args.held ≡ Some (c.in-Some.first, c.in-Some.first_at) = search rules in
    let before : is_before (fault_at c.args.rule c.args.at) (fault_at c.in-Some.first c.in-Some.first_at) ≡ true = search rules in
    subst (λ o. Notes (same_fault (fault_at c.args.rule c.args.at)) (option_map fault_of o) (Some (fault_at c.args.rule c.args.at))) (sym held)
    (note_earlier (fault_at c.args.rule c.args.at) (fault_at c.in-Some.first c.in-Some.first_at) before)

pub returns-else-comes_before : goal.returns-else-comes_before
returns-else-comes_before c =
    let held : c.args.held ≡ Some (c.in-Some.first, c.in-Some.first_at) = search rules in
    let late : is_before (fault_at c.args.rule c.args.at) (fault_at c.in-Some.first c.in-Some.first_at) ≡ false = search rules in
    subst (λ o. Notes (same_fault (fault_at c.args.rule c.args.at)) (option_map fault_of o) (Some (fault_at c.in-Some.first c.in-Some.first_at))) (sym held)
    (note_later (fault_at c.args.rule c.args.at) (fault_at c.in-Some.first c.in-Some.first_at) late)
