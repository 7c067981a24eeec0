use Rattle.std.proofs.Common.{◌≡◌, None, rules}
use Rattle.lower_rows.specs.Numbered.{held_index}
use Rattle.lower_rows.proofs.Numbering.{args-new}
use Rattle.lower_rows.proofs.args_table.ArgsTable.add.Goals as goal

pub returns-in_ok-push : goal.returns-in_ok-push
returns-in_ok-push c = λ ns h.
    let none : held_index c.args.self.now c.args.args.now ≡ None = search rules in
    args-new c.args.self.now c.insert.new.self c.push.new.self c.in_ok-to_vec.field-0 c.in_ok-to_vec-2.field-0 c.args.args.now c.len.result ns h none (search rules) (search rules) (search rules) c.in_ok-insert.ensures.updates c.in_ok-push.ensures.items
