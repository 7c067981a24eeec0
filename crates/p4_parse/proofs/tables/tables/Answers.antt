use Rattle.std.proofs.Common.{rules, ◌≡◌, ◌∷◌, [], true, false, codes, slice_get, Err}
use Rattle.p4_texts.specs.Machine as machine
use Rattle.p4_parse.specs.Phrases.{is_word}
use Rattle.p4_parse.specs.Tables.{declaration_goals, declaration_tokens, tables_tokens}
use Rattle.p4_parse.proofs.Compose.{phrase_fails}
use Rattle.p4_parse.proofs.TablePhrases.{all_tables, one_table_more, table_stopped}
use Rattle.p4_parse.proofs.tables.tables.Goals as goal

pub returns-in_err-table : goal.returns-in_err-table
returns-in_err-table c =
    let ts = c.args.source.now in
    let m : is_word (codes "apply") (slice_get ts c.tables.next) ≡ false = search rules in
    let e : c.from_residual.result ≡ Err c.in_err-table.field-0.0 = search rules in
    phrase_fails declaration_goals (machine.tables ∷ []) declaration_tokens tables_tokens ts c.args.pos c.tables.next _ c.in_err-table.field-0.0 e
    (λ i r. table_stopped ts c.args.pos c.tables.next i c.tables.tables.items c.tables.invariant.is m r) c.in_err-table.ensures

pub tables-preserved : goal.tables-preserved
tables-preserved c =
    let m : is_word (codes "apply") (slice_get c.args.source.now c.tables.next) ≡ false = search rules in
    record { is = one_table_more c.args.source.now c.args.pos c.tables.next c.in_ok-table.after c.tables.tables.items _ c.in_ok-table.table c.tables.invariant.is m c.in_ok-table.ensures (search rules) }

pub returns : goal.returns
returns c =
    let m : is_word (codes "apply") (slice_get c.args.source.now c.tables.next) ≡ true = search rules in
    all_tables c.args.source.now c.args.pos c.tables.next c.tables.tables c.tables.invariant.is m
