use Rattle.std.proofs.Common.{rules, ◌≡◌, ◌∷◌, [], map, codes, refl, Err}
use Rattle.cocoon_num.specs.Tokens.{mark}
use Rattle.p4_texts.specs.Machine.{fixed, stmts, the_mark}
use Rattle.p4_texts.specs.Machine as machine
use Rattle.p4_texts.specs.TreeOf.{body_of, control_of, table_of}
use Rattle.p4_texts.specs.declared.written.WrittenControl.{WrittenControl}
use Rattle.p4_parse.specs.Lines.{control_goals, control_tokens}
use Rattle.p4_parse.specs.Pieces.{piece_tokens}
use Rattle.p4_parse.specs.Tables.{tables_tokens}
use Rattle.p4_parse.specs.Tails.{block_ended}
use Rattle.p4_parse.proofs.ProgramPhrases.{control_read, no_begin, no_body, no_brace, no_close, no_control, no_tables}
use Rattle.p4_parse.proofs.Stopping.{of_fixed, of_phrase, to_phrase}
use Rattle.p4_parse.proofs.program.control.Goals as goal

pub returns-in_err-first : goal.returns-in_err-first
returns-in_err-first c =
    let ts = c.args.source.now in
    let head = c.args.head in
    let begin = c.args.begin in
    let stop = c.in_err-first.field-0.0 in
    let e : c.from_residual.result ≡ Err stop = search rules in
    to_phrase (fixed (piece_tokens head)) (control_goals head begin) (control_tokens head begin) ts c.args.pos c.args.pos _ stop e
    (λ i r. no_control head begin ts c.args.pos i r)
    (of_fixed (fixed (piece_tokens head)) (piece_tokens head) ts c.args.pos stop c.in_err-first.ensures)

pub returns-in_err-tables : goal.returns-in_err-tables
returns-in_err-tables c =
    let ts = c.args.source.now in
    let head = c.args.head in
    let begin = c.args.begin in
    let stop = c.in_err-tables.field-0.0 in
    let e : c.from_residual-in_err-tables.result ≡ Err stop = search rules in
    to_phrase (machine.tables ∷ []) (control_goals head begin) (control_tokens head begin) ts c.args.pos c.in_ok-first.first _ stop e
    (λ i r. no_tables head begin ts c.args.pos c.in_ok-first.first i c.in_ok-first.ensures r)
    (of_phrase (machine.tables ∷ []) tables_tokens ts c.in_ok-first.first stop c.in_err-tables.ensures)

pub returns-in_err-open : goal.returns-in_err-open
returns-in_err-open c =
    let ts = c.args.source.now in
    let head = c.args.head in
    let begin = c.args.begin in
    let stop = c.in_err-open.field-0.0 in
    let e : c.from_residual-in_err-open.result ≡ Err stop = search rules in
    to_phrase (the_mark (codes "{") ∷ []) (control_goals head begin) (control_tokens head begin) ts c.args.pos c.in_ok-tables.brace _ stop e
    (λ i r. no_brace head begin ts c.args.pos c.in_ok-first.first c.in_ok-tables.brace i c.in_ok-tables.tables c.in_ok-first.ensures c.in_ok-tables.ensures r)
    (of_fixed (the_mark (codes "{") ∷ []) (mark (codes "{") ∷ []) ts c.in_ok-tables.brace stop c.in_err-open.ensures)

pub returns-in_err-start : goal.returns-in_err-start
returns-in_err-start c =
    let ts = c.args.source.now in
    let head = c.args.head in
    let begin = c.args.begin in
    let stop = c.in_err-start.field-0.0 in
    let e : c.from_residual-in_err-start.result ≡ Err stop = search rules in
    to_phrase (fixed (piece_tokens begin)) (control_goals head begin) (control_tokens head begin) ts c.args.pos c.in_ok-open.open _ stop e
    (λ i r. no_begin head begin ts c.args.pos c.in_ok-first.first c.in_ok-tables.brace c.in_ok-open.open i c.in_ok-tables.tables c.in_ok-first.ensures c.in_ok-tables.ensures c.in_ok-open.ensures r)
    (of_fixed (fixed (piece_tokens begin)) (piece_tokens begin) ts c.in_ok-open.open stop c.in_err-start.ensures)

pub returns-in_err-body : goal.returns-in_err-body
returns-in_err-body c =
    let ts = c.args.source.now in
    let head = c.args.head in
    let begin = c.args.begin in
    let stop = c.in_err-body.field-0.0 in
    let e : c.from_residual-in_err-body.result ≡ Err stop = search rules in
    to_phrase (stmts ∷ []) (control_goals head begin) (control_tokens head begin) ts c.args.pos c.in_ok-start.start _ stop e
    (λ i r. no_body head begin ts c.args.pos c.in_ok-first.first c.in_ok-tables.brace c.in_ok-open.open c.in_ok-start.start i c.in_ok-tables.tables c.in_ok-first.ensures c.in_ok-tables.ensures c.in_ok-open.ensures c.in_ok-start.ensures r)
    (of_phrase (stmts ∷ []) block_ended ts c.in_ok-start.start stop c.in_err-body.ensures)

pub returns-in_err-end : goal.returns-in_err-end
returns-in_err-end c =
    let ts = c.args.source.now in
    let head = c.args.head in
    let begin = c.args.begin in
    let stop = c.in_err-end.field-0.0 in
    let e : c.from_residual-in_err-end.result ≡ Err stop = search rules in
    to_phrase (the_mark (codes "}") ∷ []) (control_goals head begin) (control_tokens head begin) ts c.args.pos c.in_ok-body.close _ stop e
    (λ i r. no_close head begin ts c.args.pos c.in_ok-first.first c.in_ok-tables.brace c.in_ok-open.open c.in_ok-start.start c.in_ok-body.close i c.in_ok-tables.tables c.in_ok-body.body c.in_ok-first.ensures c.in_ok-tables.ensures c.in_ok-open.ensures c.in_ok-start.ensures c.in_ok-body.ensures r)
    (of_fixed (the_mark (codes "}") ∷ []) (mark (codes "}") ∷ []) ts c.in_ok-body.close stop c.in_err-end.ensures)

pub returns : goal.returns
returns c =
    let made : WrittenControl = record { tables = c.from-tables.result; body = c.from-body.result } in
    let g : control_of made ≡ record { tables = map table_of c.in_ok-tables.tables.items; body = body_of c.in_ok-body.body.items } = rw (c.from-tables.ensures, c.from-body.ensures) refl in
    control_read c.args.head c.args.begin c.args.source.now c.args.pos c.in_ok-first.first c.in_ok-tables.brace c.in_ok-open.open c.in_ok-start.start c.in_ok-body.close c.in_ok-end.end c.in_ok-tables.tables c.in_ok-body.body made c.in_ok-first.ensures c.in_ok-tables.ensures c.in_ok-open.ensures c.in_ok-start.ensures c.in_ok-body.ensures c.in_ok-end.ensures g
