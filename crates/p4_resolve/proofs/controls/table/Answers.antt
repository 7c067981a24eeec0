use Rattle.std.proofs.Common.{◌≡◌, ◌+◌, ◌*◌, ◌∙◌, sym, ap, subst, length, true}
use Rattle.p4_ir.specs.Program as ir
use Rattle.p4_texts.specs.KindFaults.{action_keeps}
use Rattle.p4_ir.specs.P4Tree.{P4Table}
use Rattle.p4_resolve.specs.Controls.{action_names}
use Rattle.p4_resolve.specs.Judged.{index}
use Rattle.p4_resolve.specs.Numbered.{is_small}
use Rattle.p4_resolve.specs.TableForms.{own_keeps}
use Rattle.p4_resolve.specs.declared.controls.Before.{Before}
use Rattle.p4_texts.specs.TreeOf.{table_of}
use Rattle.p4_resolve.proofs.TableFacts.{Found, least_is, named_of, one_table, own_stops, small_of}
use Rattle.p4_resolve.proofs.controls.table.Goals as goal

pub returns-in-Some-clause-keeps : goal.returns-in-Some-clause-keeps
returns-in-Some-clause-keeps c = λ t done known before.
    let k = c.args.table.now in
    let names = action_names done in
    let keeps : action_keeps t names (table_of k) ≡ true = sym (c.in_ok-fits.ensures.keeps t names known before.actions) ∙ c.in_ok-middle.ensures.passed.0 in
    let found = subst (Found t c.args.before.now.least (table_of k)) c.in-Some.is (c.in_ok-made.ensures t known (named_of t names (table_of k) keeps)) in
    let new : Before = record { actions = c.action_fits.new.actions; least = c.after-before.result } in
    one_table t done k new (ir.table_of c.in-Some.made) c.args.at c.in_ok-middle.middle c.after.result c.after_keys-end.result keeps c.in_ok-middle.ensures.passed.1
    (sym (ap (λ n. own_keeps t n (table_of k)) before.least) ∙ found.0) found.1 c.after.ensures (c.after_keys-end.ensures ∙ ap (λ xs. index (c.after.result + length xs * 6)) c.items.ensures)
    (c.in_ok-fits.ensures.seen names before.actions)
    (least_is (ir.table_of c.in-Some.made).number c.after-before.result (ap (λ (m : P4Table). is_small m.number) found.1 ∙ small_of t c.args.before.now.least (table_of k) found.0) c.after-before.ensures)

pub returns-in-None-clause-stops : goal.returns-in-None-clause-stops
returns-in-None-clause-stops c = λ t done known before.
    let k = c.args.table.now in
    let names = action_names done in
    let keeps : action_keeps t names (table_of k) ≡ true = sym (c.in_ok-fits.ensures.keeps t names known before.actions) ∙ c.in_ok-middle.ensures.passed.0 in
    let found = subst (Found t c.args.before.now.least (table_of k)) c.in-None.is (c.in_ok-made.ensures t known (named_of t names (table_of k) keeps)) in
    own_stops t done k c.args.at c.in_ok-middle.middle keeps c.in_ok-middle.ensures.passed.1 (sym (ap (λ n. own_keeps t n (table_of k)) before.least) ∙ found)
