use Rattle.std.proofs.Common.{rules, ◌≡◌, true, false, codes, slice_get, refl, Err}
use Rattle.p4_texts.specs.Written.{w_truth, w_meta, w_field, w_port, w_rid}
use Rattle.p4_parse.specs.Phrases.{dotted_goals, dotted_then, is_word, path_goals, path_then}
use Rattle.p4_parse.proofs.Compose.{expr_fails, reads_as}
use Rattle.p4_parse.proofs.ExprPhrases.{field_read, field_refused, leaf_read, meta_read, meta_refused, none_read}
use Rattle.p4_parse.proofs.TreeForms.{field_is, meta_is, port_is, rid_is, truth_is}
use Rattle.p4_parse.proofs.exprs.leaf.Goals as goal

pub returns-then-is_word : goal.returns-then-is_word
returns-then-is_word c = let e : is_word (codes "true") (slice_get c.args.source.now c.args.pos) ≡ true = search rules in reads_as _ _ (w_truth true) _ _ (truth_is true) (leaf_read c.args.source.now c.args.pos (codes "true") (w_truth true) e (λ ks. refl))

pub returns-then-is_word-2 : goal.returns-then-is_word-2
returns-then-is_word-2 c = let e : is_word (codes "false") (slice_get c.args.source.now c.args.pos) ≡ true = search rules in reads_as _ _ (w_truth false) _ _ (truth_is false) (leaf_read c.args.source.now c.args.pos (codes "false") (w_truth false) e (λ ks. refl))

pub returns-then-is_word-3 : goal.returns-then-is_word-3
returns-then-is_word-3 c = let e : is_word (codes "port") (slice_get c.args.source.now c.args.pos) ≡ true = search rules in reads_as _ _ w_port _ _ port_is (leaf_read c.args.source.now c.args.pos (codes "port") w_port e (λ ks. refl))

pub returns-then-is_word-4 : goal.returns-then-is_word-4
returns-then-is_word-4 c = let e : is_word (codes "rid") (slice_get c.args.source.now c.args.pos) ≡ true = search rules in reads_as _ _ w_rid _ _ rid_is (leaf_read c.args.source.now c.args.pos (codes "rid") w_rid e (λ ks. refl))

pub returns-in_err-name : goal.returns-in_err-name
returns-in_err-name c =
    let m : is_word (codes "m") (slice_get c.args.source.now c.args.pos) ≡ true = search rules in
    let e : c.from_residual.result ≡ Err c.in_err-name.field-0.0 = search rules in
    expr_fails dotted_goals dotted_then c.args.source.now c.args.pos _ _ c.in_err-name.field-0.0 e (λ i r. meta_refused c.args.source.now c.args.pos i m r) c.in_err-name.ensures

pub returns-then-is_word-5 : goal.returns-then-is_word-5
returns-then-is_word-5 c =
    let m : is_word (codes "m") (slice_get c.args.source.now c.args.pos) ≡ true = search rules in
    reads_as _ _ (w_meta c.in_ok-name.name) _ _ (meta_is c.in_ok-name.name) (meta_read c.args.source.now c.args.pos c.in_ok-name.name c.in_ok-name.end m c.in_ok-name.ensures)

pub returns-in_err-header : goal.returns-in_err-header
returns-in_err-header c =
    let m : is_word (codes "h") (slice_get c.args.source.now c.args.pos) ≡ true = search rules in
    let e : c.from_residual-in_err-header.result ≡ Err c.in_err-header.field-0.0 = search rules in
    expr_fails path_goals path_then c.args.source.now c.args.pos _ _ c.in_err-header.field-0.0 e (λ i r. field_refused c.args.source.now c.args.pos i m r) c.in_err-header.ensures

pub returns-then-is_word-6 : goal.returns-then-is_word-6
returns-then-is_word-6 c =
    let m : is_word (codes "h") (slice_get c.args.source.now c.args.pos) ≡ true = search rules in
    reads_as _ _ (w_field c.in_ok-header.header c.in_ok-header.field) _ _ (field_is c.in_ok-header.header c.in_ok-header.field) (field_read c.args.source.now c.args.pos c.in_ok-header.header c.in_ok-header.field c.in_ok-header.end m c.in_ok-header.ensures)

pub returns : goal.returns
returns c =
    let ts = c.args.source.now in
    let p = c.args.pos in
    let a : is_word (codes "true") (slice_get ts p) ≡ false = search rules in
    let b : is_word (codes "false") (slice_get ts p) ≡ false = search rules in
    let d : is_word (codes "port") (slice_get ts p) ≡ false = search rules in
    let e : is_word (codes "rid") (slice_get ts p) ≡ false = search rules in
    let f : is_word (codes "m") (slice_get ts p) ≡ false = search rules in
    let g : is_word (codes "h") (slice_get ts p) ≡ false = search rules in
    none_read ts p c.requires.within c.requires.no_literal c.requires.no_bracket a b d e f g
