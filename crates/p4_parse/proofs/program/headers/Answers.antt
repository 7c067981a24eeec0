use Rattle.std.proofs.Common.{rules, ◌≡◌, ◌∷◌, [], true, false, codes, slice_get, Err}
use Rattle.p4_texts.specs.Machine as machine
use Rattle.p4_parse.specs.Fields.{header_goals, header_tokens}
use Rattle.p4_parse.specs.Lines.{after_headers, headers_tokens}
use Rattle.p4_parse.specs.Phrases.{is_word}
use Rattle.p4_parse.proofs.ProgramPhrases.{all_headers, header_stopped, one_header_more}
use Rattle.p4_parse.proofs.Stopping.{of_phrase, to_onwards}
use Rattle.p4_parse.proofs.program.headers.Goals as goal

pub returns-in_err-header : goal.returns-in_err-header
returns-in_err-header c =
    let ts = c.args.source.now in
    let m : is_word (codes "header") (slice_get ts c.headers.next) ≡ true = search rules in
    let e : c.from_residual.result ≡ Err c.in_err-header.field-0.0 = search rules in
    to_onwards header_goals (machine.headers 0 ∷ []) after_headers headers_tokens ts c.args.pos c.headers.next _ c.in_err-header.field-0.0 e
    (λ i r. header_stopped ts c.args.pos c.headers.next i c.headers.headers.items c.headers.invariant.is m r) (of_phrase header_goals header_tokens ts c.headers.next c.in_err-header.field-0.0 c.in_err-header.ensures)

pub headers-preserved : goal.headers-preserved
headers-preserved c =
    let m : is_word (codes "header") (slice_get c.args.source.now c.headers.next) ≡ true = search rules in
    record { is = one_header_more c.args.source.now c.args.pos c.headers.next c.in_ok-header.after c.headers.headers.items _ c.in_ok-header.header c.headers.invariant.is m c.in_ok-header.ensures (search rules) }

pub returns : goal.returns
returns c =
    let m : is_word (codes "header") (slice_get c.args.source.now c.headers.next) ≡ false = search rules in
    all_headers c.args.source.now c.args.pos c.headers.next c.headers.headers c.headers.invariant.is m
