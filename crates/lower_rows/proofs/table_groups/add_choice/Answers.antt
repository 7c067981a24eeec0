use Rattle.std.proofs.Common.{◌≡◌, ◌<◌, ◌≤◌, true, Some, get_or, length, rules, sym, ap, ap₂, ◌∙◌, arith}
use Rattle.std.proofs.lemmas.List.{length-map}
use Rattle.lowering_correct.specs.Groups.{before_last, last_of}
use Rattle.lower_rows.specs.Grouping.{keys_of, put_at, said_true, with_choice}
use Rattle.lower_rows.specs.Numbered.{held_index}
use Rattle.lower_rows.proofs.Filling.{put-past, set-put}
use Rattle.lower_rows.proofs.table_groups.add_choice.Goals as goal

pub returns-in_ok-insert : goal.returns-in_ok-insert
returns-in_ok-insert c =
    let sets = c.args.sets.now.items in
    let row = c.args.row.now in
    let there : held_index c.args.args.now (before_last row.values) ≡ Some c.in-Some.number = search rules in
    let said : said_true c.args.first.now row.values ≡ true = search rules in
    let is : c.last.result ≡ last_of row.values = search rules in
    let within : c.in-Some.number < length sets = search rules in
    let old : c.index_mut.result.now ≡ get_or sets c.in-Some.number c.index_mut.result.now = search rules in
    set-put sets c.in-Some.number c.last.result c.index_mut.result.now c.insert.new.self within old c.in_ok-insert.ensures.keys
    ∙ ap (λ x. put_at c.in-Some.number x (keys_of sets)) is
    ∙ sym (ap₂ (λ o b. with_choice o b (last_of row.values) (keys_of sets)) there said)

pub returns-else-number-len : goal.returns-else-number-len
returns-else-number-len c =
    let sets = c.args.sets.now.items in
    let row = c.args.row.now in
    let there : held_index c.args.args.now (before_last row.values) ≡ Some c.in-Some.number = search rules in
    let said : said_true c.args.first.now row.values ≡ true = search rules in
    let count : length (keys_of sets) ≡ length sets = length-map sets _ in
    let past : length sets ≤ c.in-Some.number = search rules in
    sym (put-past c.in-Some.number (last_of row.values) (keys_of sets) (omega arith))
    ∙ sym (ap₂ (λ o b. with_choice o b (last_of row.values) (keys_of sets)) there said)
