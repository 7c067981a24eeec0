use Rattle.std.proofs.Common.{rules, ◌≡◌, true, false, codes, slice_get, Err}
use Rattle.p4_texts.specs.Written.{key_then}
use Rattle.p4_parse.specs.Phrases.{is_mark}
use Rattle.p4_parse.specs.Tables.{first_key_goals, key_goals, keys_tokens}
use Rattle.p4_parse.proofs.Compose.{phrase_fails}
use Rattle.p4_parse.proofs.TablePhrases.{all_keys, key_stopped, one_key_more}
use Rattle.p4_parse.proofs.tables.some_keys.Goals as goal

pub returns-in_err-name : goal.returns-in_err-name
returns-in_err-name c =
    let b = c.in_ok-first.exact in
    let ts = c.args.source.now in
    let m : is_mark (codes "}") (slice_get ts c.keys.next) ≡ false = search rules in
    let e : c.from_residual-in_err-name.result ≡ Err c.in_err-name.field-0.0 = search rules in
    phrase_fails (key_goals b) first_key_goals (key_then b) keys_tokens ts c.args.pos c.keys.next _ c.in_err-name.field-0.0 e
    (λ i r. key_stopped b ts c.args.pos c.keys.next i c.keys.keys.items c.keys.invariant.is m r) c.in_err-name.ensures

pub keys-preserved : goal.keys-preserved
keys-preserved c =
    let m : is_mark (codes "}") (slice_get c.args.source.now c.keys.next) ≡ false = search rules in
    record { is = one_key_more c.in_ok-first.exact c.args.source.now c.args.pos c.keys.next c.in_ok-name.after c.keys.keys.items _ c.in_ok-name.name c.keys.invariant.is m c.in_ok-name.ensures (search rules) }

pub returns : goal.returns
returns c =
    let m : is_mark (codes "}") (slice_get c.args.source.now c.keys.next) ≡ true = search rules in
    all_keys c.in_ok-first.exact c.args.source.now c.args.pos c.keys.next c.keys.keys c.keys.invariant.is m
