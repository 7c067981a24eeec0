use Rattle.std.specs.Prelude.{⊤}
use Rattle.cocoon_num.specs.Tokens.{a_name, mark}
use Rattle.std.proofs.Common.{rules, sym, ap, ◌≡◌, ◌&&◌, ◌∷◌, [], ◌++◌, true, false, codes, slice_get, refl, Err}
use Rattle.std.proofs.lemmas.Bool.{and_parts}
use Rattle.cocoon_num.specs.Names.{same_name}
use Rattle.p4_texts.specs.Machine as machine
use Rattle.p4_texts.specs.Written as written
use Rattle.p4_texts.specs.TreeOf.{expr_of, stmt_of}
use Rattle.p4_parse.specs.Phrases.{is_mark}
use Rattle.p4_parse.specs.Tails.{after_names, call_goals, call_tokens, setting_goals, setting_then}
use Rattle.p4_parse.proofs.TreeForms as forms
use Rattle.p4_parse.proofs.StmtPhrases as phrases
use Rattle.std.proofs.Common.{subst}
use Rattle.p4_parse.specs.Tails.{ReadTail}
use Rattle.p4_parse.proofs.Tokens.{same_text}
use Rattle.p4_texts.specs.declared.written.WrittenStmt.TheVariants as s
use Rattle.p4_parse.proofs.stmts.after_header.Goals as goal

pub returns-in_err-end : goal.returns-in_err-end
returns-in_err-end c =
    let ts = c.args.source.now in
    let p = c.args.pos in
    let y = c.args.second in
    let m : (is_mark (codes "(") (slice_get ts p) && same_name (codes "apply") y) ≡ true = search rules in
    let b = and_parts (is_mark (codes "(") (slice_get ts p)) (same_name (codes "apply") y) m in
    let e : c.from_residual.result ≡ Err c.in_err-end.field-0.0 = search rules in
    phrases.tail_fixed_fails call_tokens ts p p (machine.after_header y ∷ []) call_goals (after_names c.args.name y) _ c.in_err-end.field-0.0 e (λ i r. phrases.tail_refused ts p (machine.after_header y ∷ []) call_goals i (phrases.header_called ts p y b.0 b.1) r) c.in_err-end.ensures

pub returns-in_err-field : goal.returns-in_err-field
returns-in_err-field c =
    let ts = c.args.source.now in
    let p = c.args.pos in
    let y = c.args.second in
    let m : (is_mark (codes "(") (slice_get ts p) && same_name (codes "apply") y) ≡ false = search rules in
    let e : c.from_residual-in_err-field.result ≡ Err c.in_err-field.field-0.0 = search rules in
    phrases.tail_fails setting_then ts p p (machine.after_header y ∷ []) setting_goals (after_names c.args.name y) _ c.in_err-field.field-0.0 e (λ i r. phrases.tail_refused ts p (machine.after_header y ∷ []) setting_goals i (phrases.header_set ts p y m) r) c.in_err-field.ensures

pub returns : goal.returns
returns c =
    let ts = c.args.source.now in
    let p = c.args.pos in
    let x = c.args.name in
    let y = c.args.second in
    let m : (is_mark (codes "(") (slice_get ts p) && same_name (codes "apply") y) ≡ false = search rules in
    let same : codes "h" ≡ x = same_text (codes "h") x c.requires.header in
    subst (λ z. ReadTail (machine.after_header y ∷ []) (after_names z y) ts p (stmt_of (s.SetField y c.in_ok-field.field c.in_ok-field.new)) c.in_ok-field.end) same
    (phrases.tail_read setting_then ts p (machine.after_header y ∷ []) setting_goals (after_names (codes "h") y) (c.in_ok-field.field, c.in_ok-field.new) c.in_ok-field.end (written.w_set_field y c.in_ok-field.field (expr_of c.in_ok-field.new)) _ (phrases.header_set ts p y m) c.in_ok-field.ensures (forms.set_field_is y c.in_ok-field.field c.in_ok-field.new) (λ ks. refl))

pub returns-then-stands_after : goal.returns-then-stands_after
returns-then-stands_after c =
    let ts = c.args.source.now in
    let p = c.args.pos in
    let x = c.args.name in
    let y = c.args.second in
    let m : (is_mark (codes "(") (slice_get ts p) && same_name (codes "apply") y) ≡ true = search rules in
    let b = and_parts (is_mark (codes "(") (slice_get ts p)) (same_name (codes "apply") y) m in
    let same = sym (same_text (codes "apply") y b.1) in
    phrases.tail_read (λ (u : ⊤) rest. call_tokens ++ rest) ts p (machine.after_header y ∷ []) call_goals (after_names x y) tt c.in_ok-end.end (written.w_apply x) _ (phrases.header_called ts p y b.0 b.1) c.in_ok-end.ensures (forms.apply_is x)
    (λ ks. ap (λ z. a_name x ∷ mark (codes ".") ∷ a_name z ∷ (call_tokens ++ ks)) same)
