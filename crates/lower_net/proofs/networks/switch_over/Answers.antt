use Rattle.std.proofs.Common.{◌≡◌, ◌++◌, Some, None, rules, sym, ap, ◌∙◌}
use Rattle.std.specs.Option.{option_or}
use Rattle.cocoon_syntax.specs.TreeOf.{design_of}
use Rattle.lowering_correct.specs.Counts.{first_over}
use Rattle.lowering_correct.specs.Groups.{fork_groups}
use Rattle.lower_net.specs.Limits.{of_groups, of_program}
use Rattle.lower_net.proofs.Over.{over_both}
use Rattle.lower_net.proofs.networks.switch_over.Goals as goal

pub returns-in-Some : goal.returns-in-Some
returns-in-Some c = λ places h s.
    let d = design_of c.args.checked.now in
    let n = c.in_ok-counts.counts in
    let over : first_over (of_program n.tables n.forks) ≡ Some c.in-Some.over = search rules in
    let counts = c.in_ok-counts.ensures in
    sym ((λ i. first_over (of_program (sym (counts.tables s) i) (sym (counts.forks s) i) ++ of_groups (fork_groups d places)))
    ∙ over_both (of_program n.tables n.forks) (of_groups (fork_groups d places))
    ∙ ap (λ o. option_or o (first_over (of_groups (fork_groups d places)))) over)

pub returns-in-None : goal.returns-in-None
returns-in-None c = λ places h s.
    let d = design_of c.args.checked.now in
    let n = c.in_ok-counts.counts in
    let none : first_over (of_program n.tables n.forks) ≡ None = search rules in
    let counts = c.in_ok-counts.ensures in
    c.groups_over.ensures ∙ ap (λ gs. first_over (of_groups gs)) h
    ∙ sym ((λ i. first_over (of_program (sym (counts.tables s) i) (sym (counts.forks s) i) ++ of_groups (fork_groups d places)))
    ∙ over_both (of_program n.tables n.forks) (of_groups (fork_groups d places))
    ∙ ap (λ o. option_or o (first_over (of_groups (fork_groups d places)))) none)
