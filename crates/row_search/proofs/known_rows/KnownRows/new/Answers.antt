use Rattle.std.proofs.Common.{◌≡◌, ◌<◌, ap, map, subst, sym, ◌∙◌}
use Rattle.p4_ir.specs.NetOf.{key_row_of}
use Rattle.p4_ir.specs.Switch.{table_result}
use Rattle.row_search.specs.Matching.{matching}
use Rattle.row_search.proofs.MatchFacts.{known_is, matching_keyed}
use Rattle.row_search.proofs.known_rows.KnownRows.new.Goals as goal

pub new-requires : goal.new-requires
new-requires c =
    let p = c.args.hint.place in
    let n = c.args.hint.number in
    matching_keyed c.args.count p n c.args.rows.now.rows c.in_ok-chosen.chosen.rows (c.in_ok-chosen.ensures.rows ∙ ap (λ rs. matching p n (map key_row_of rs)) c.items.ensures) c.requires.rows

pub returns-clause-answers : goal.returns-clause-answers
returns-clause-answers c = λ xs l.
    let p = c.args.hint.place in
    let n = c.args.hint.number in
    let rows = map key_row_of c.args.rows.now.rows in
    let otherwise = c.args.rows.now.default in
    let kept : map key_row_of c.in_ok-chosen.chosen.rows ≡ matching p n rows = c.in_ok-chosen.ensures.rows ∙ ap (λ rs. matching p n (map key_row_of rs)) c.items.ensures in
    known_is p n otherwise rows xs _ _ (subst (λ k. p < k) (sym l) c.requires.place)
    (c.in_ok-matching.ensures.answers xs l ∙ (λ k. table_result (kept k) (c.in_ok-chosen.ensures.default k) xs))
    (c.in_ok-all.ensures.answers xs l)
