use Rattle.std.proofs.Common.{◌≡◌, [], ◌∷◌, ◌∙◌, ap, subst, rules, map, Err}
use Rattle.p4_ir.specs.P4Text.{said}
use Rattle.p4_ir.specs.Program as ir
use Rattle.p4_texts.specs.KindFaults.{fixed, line_pieces, pieces}
use Rattle.p4_texts.specs.Meant.{program_of_text}
use Rattle.p4_texts.specs.Written.{emit_then}
use Rattle.p4_texts.specs.TreeOf.{text_of}
use Rattle.p4_resolve.specs.FirstKind.{IsFirstKind}
use Rattle.p4_resolve.specs.Judged.{Passes, StopsBy}
use Rattle.p4_resolve.proofs.PartFacts as parts
use Rattle.p4_resolve.proofs.PieceFacts.{handed_on, one_stopped}
use Rattle.std.proofs.Common.{◌++◌}
use Rattle.cocoon_num.specs.Tokens.{finish}
use Rattle.p4_texts.specs.Written.{text_end}
use Rattle.p4_resolve.proofs.whole_text.resolve.Goals as goal

pub returns-clause-keeps : goal.returns-clause-keeps
returns-clause-keeps c =
    let t = text_of c.args.text.now in
    let dec = c.in_ok-scope.ensures.keeps in
    let k = c.in_ok-ingress.ensures.keeps dec in
    let known = c.in_ok-ingress.ensures.known dec in
    let named = ap (map ir.header_of) c.headers.ensures ∙ known.program_headers in
    let at_emits = parts.at_emits t c.in_ok-ingress.deparser_at c.after-first_emit.result k.rest c.after-first_emit.ensures in
    let emits = subst (λ hs. Passes c.after-first_emit.result (line_pieces emit_then hs t.rest.emits) c.in_ok-_end._end) named
    (subst (λ xs. Passes c.after-first_emit.result (line_pieces emit_then (map ir.header_of c.headers.result.now) xs) c.in_ok-_end._end) c.items.ensures (c.in_ok-_end.ensures.passes emit_then parts.emit_count)) in
    parts.all_keep t c.after-first_emit.result c.in_ok-_end._end at_emits emits

pub returns-clause-stands : goal.returns-clause-stands
returns-clause-stands c =
    let t = text_of c.args.text.now in
    let dec = c.in_ok-scope.ensures.keeps in
    let k = c.in_ok-ingress.ensures.keeps dec in
    let known = c.in_ok-ingress.ensures.known dec in
    let named = ap (map ir.header_of) c.headers.ensures ∙ known.program_headers in
    let at_emits = parts.at_emits t c.in_ok-ingress.deparser_at c.after-first_emit.result k.rest c.after-first_emit.ensures in
    c.into_program.ensures t known k.ingress_is k.egress_is

pub returns-in_err-scope-clause-fault : goal.returns-in_err-scope-clause-fault
returns-in_err-scope-clause-fault c =
    let t = text_of c.args.text.now in
    let fault = c.in_err-scope.field-0.0 in
    let same : c.from_residual.result ≡ Err c.in_err-scope.field-0.0 = search rules in
    handed_on c.from_residual.result fault (IsFirstKind t) same (parts.first_kind t fault c.requires.few (c.faults_are_tokens.ensures t) c.in_err-scope.ensures.stops)

pub returns-in_err-ingress-clause-fault : goal.returns-in_err-ingress-clause-fault
returns-in_err-ingress-clause-fault c =
    let t = text_of c.args.text.now in
    let fault = c.in_err-ingress.field-0.0 in
    let same : c.from_residual-in_err-ingress.result ≡ Err c.in_err-ingress.field-0.0 = search rules in
    handed_on c.from_residual-in_err-ingress.result fault (IsFirstKind t) same (parts.first_kind t fault c.requires.few (c.faults_are_tokens.ensures t) (c.in_err-ingress.ensures.stops c.in_ok-scope.ensures.keeps))

pub returns-in_err-_end-clause-fault : goal.returns-in_err-_end-clause-fault
returns-in_err-_end-clause-fault c =
    let t = text_of c.args.text.now in
    let dec = c.in_ok-scope.ensures.keeps in
    let k = c.in_ok-ingress.ensures.keeps dec in
    let known = c.in_ok-ingress.ensures.known dec in
    let named = ap (map ir.header_of) c.headers.ensures ∙ known.program_headers in
    let at_emits = parts.at_emits t c.in_ok-ingress.deparser_at c.after-first_emit.result k.rest c.after-first_emit.ensures in
    let fault = c.in_err-_end.field-0.0 in
    let same : c.from_residual-in_err-_end.result ≡ Err c.in_err-_end.field-0.0 = search rules in
    handed_on c.from_residual-in_err-_end.result fault (IsFirstKind t) same
    (parts.first_kind t fault c.requires.few (c.faults_are_tokens.ensures t) (one_stopped 0 (pieces t) c.after-first_emit.result (line_pieces emit_then (program_of_text t).headers t.rest.emits) (fixed (said text_end ++ (finish ∷ [])) ∷ []) fault at_emits
    (subst (λ hs. StopsBy c.after-first_emit.result (line_pieces emit_then hs t.rest.emits) fault) named
    (subst (λ xs. StopsBy c.after-first_emit.result (line_pieces emit_then (map ir.header_of c.headers.result.now) xs) fault) c.items.ensures (c.in_err-_end.ensures.stops emit_then parts.emit_count)))))
