use Rattle.std.proofs.Common.{rules, ◌≡◌, ◌∷◌, [], true, false, codes, refl, Err}
use Rattle.cocoon_num.specs.Names.{same_name}
use Rattle.p4_texts.specs.Machine as machine
use Rattle.p4_texts.specs.Written as written
use Rattle.p4_texts.specs.TreeOf.{expr_of, stmt_of}
use Rattle.p4_parse.specs.Tails.{after_name, assignment_goals, assignment_then, verdict_goals, verdict_then}
use Rattle.p4_parse.proofs.TreeForms as forms
use Rattle.p4_parse.proofs.StmtPhrases as phrases
use Rattle.std.proofs.Common.{subst}
use Rattle.p4_parse.specs.Tails.{ReadTail}
use Rattle.p4_parse.proofs.Tokens.{same_text}
use Rattle.p4_texts.specs.declared.written.WrittenStmt.TheVariants as s
use Rattle.p4_parse.proofs.stmts.assigned.Goals as goal

pub returns-in_err-bits : goal.returns-in_err-bits
returns-in_err-bits c =
    let ts = c.args.source.now in
    let p = c.args.pos in
    let x = c.args.name in
    let w : same_name (codes "verdict") x ≡ true = search rules in
    let e : c.from_residual.result ≡ Err c.in_err-bits.field-0.0 = search rules in
    phrases.tail_fails verdict_then ts p p (machine.after_first x ∷ []) verdict_goals (after_name x) _ c.in_err-bits.field-0.0 e (λ i r. phrases.tail_refused ts p (machine.after_first x ∷ []) verdict_goals i (phrases.verdict_same ts p x c.requires.assigns w) r) c.in_err-bits.ensures

pub returns-then-is : goal.returns-then-is
returns-then-is c =
    let ts = c.args.source.now in
    let p = c.args.pos in
    let x = c.args.name in
    let w : same_name (codes "verdict") x ≡ true = search rules in
    let same : codes "verdict" ≡ x = same_text (codes "verdict") x w in
    subst (λ z. ReadTail (machine.after_first x ∷ []) (after_name z) ts p (stmt_of (s.Verdict c.in_ok-bits.bits)) c.in_ok-bits.end) same
    (phrases.tail_read verdict_then ts p (machine.after_first x ∷ []) verdict_goals (after_name (codes "verdict")) c.in_ok-bits.bits c.in_ok-bits.end (written.w_verdict c.in_ok-bits.bits.width c.in_ok-bits.bits.value) _ (phrases.verdict_same ts p x c.requires.assigns w) c.in_ok-bits.ensures (forms.verdict_is c.in_ok-bits.bits) (λ ks. refl))

pub returns-in_err-port : goal.returns-in_err-port
returns-in_err-port c =
    let ts = c.args.source.now in
    let p = c.args.pos in
    let x = c.args.name in
    let w : same_name (codes "egress_port") x ≡ true = search rules in
    let e : c.from_residual-in_err-port.result ≡ Err c.in_err-port.field-0.0 = search rules in
    phrases.tail_fails assignment_then ts p p (machine.after_first x ∷ []) assignment_goals (after_name x) _ c.in_err-port.field-0.0 e (λ i r. phrases.tail_refused ts p (machine.after_first x ∷ []) assignment_goals i (phrases.egress_port_same ts p x c.requires.assigns w) r) c.in_err-port.ensures

pub returns-then-is-2 : goal.returns-then-is-2
returns-then-is-2 c =
    let ts = c.args.source.now in
    let p = c.args.pos in
    let x = c.args.name in
    let w : same_name (codes "egress_port") x ≡ true = search rules in
    let same : codes "egress_port" ≡ x = same_text (codes "egress_port") x w in
    subst (λ z. ReadTail (machine.after_first x ∷ []) (after_name z) ts p (stmt_of (s.EgressPort c.in_ok-port.port)) c.in_ok-port.end) same
    (phrases.tail_read assignment_then ts p (machine.after_first x ∷ []) assignment_goals (after_name (codes "egress_port")) c.in_ok-port.port c.in_ok-port.end (written.w_egress_port (expr_of c.in_ok-port.port)) _ (phrases.egress_port_same ts p x c.requires.assigns w) c.in_ok-port.ensures (forms.egress_port_is c.in_ok-port.port) (λ ks. refl))

pub returns-in_err-group : goal.returns-in_err-group
returns-in_err-group c =
    let ts = c.args.source.now in
    let p = c.args.pos in
    let x = c.args.name in
    let w : same_name (codes "group") x ≡ true = search rules in
    let e : c.from_residual-in_err-group.result ≡ Err c.in_err-group.field-0.0 = search rules in
    phrases.tail_fails assignment_then ts p p (machine.after_first x ∷ []) assignment_goals (after_name x) _ c.in_err-group.field-0.0 e (λ i r. phrases.tail_refused ts p (machine.after_first x ∷ []) assignment_goals i (phrases.group_same ts p x c.requires.assigns w) r) c.in_err-group.ensures

pub returns-then-is-3 : goal.returns-then-is-3
returns-then-is-3 c =
    let ts = c.args.source.now in
    let p = c.args.pos in
    let x = c.args.name in
    let w : same_name (codes "group") x ≡ true = search rules in
    let same : codes "group" ≡ x = same_text (codes "group") x w in
    subst (λ z. ReadTail (machine.after_first x ∷ []) (after_name z) ts p (stmt_of (s.Group c.in_ok-group.group)) c.in_ok-group.end) same
    (phrases.tail_read assignment_then ts p (machine.after_first x ∷ []) assignment_goals (after_name (codes "group")) c.in_ok-group.group c.in_ok-group.end (written.w_group (expr_of c.in_ok-group.group)) _ (phrases.group_same ts p x c.requires.assigns w) c.in_ok-group.ensures (forms.group_is c.in_ok-group.group) (λ ks. refl))

pub returns : goal.returns
returns c =
    let x = c.args.name in
    let a : same_name (codes "verdict") x ≡ false = search rules in
    let b : same_name (codes "egress_port") x ≡ false = search rules in
    let d : same_name (codes "group") x ≡ false = search rules in
    phrases.assigned_refused c.args.source.now c.args.pos x c.requires.within c.requires.assigns a b d
