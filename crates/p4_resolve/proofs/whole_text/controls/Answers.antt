use Rattle.std.proofs.Common.{◌≡◌, [], ◌∷◌, subst, refl, rules, true, false, Err}
use Rattle.p4_ir.specs.P4Text.{said}
use Rattle.p4_texts.specs.KindFaults.{control_pieces, fixed, pieces}
use Rattle.p4_texts.specs.Written.{deparser_head, egress_begins, egress_head, ingress_begins}
use Rattle.p4_texts.specs.TreeOf.{text_of}
use Rattle.p4_resolve.specs.Judged.{Passes, StopsBy}
use Rattle.p4_resolve.specs.Parts.{from_egress, from_emits}
use Rattle.p4_resolve.proofs.PartFacts as parts
use Rattle.p4_resolve.proofs.PieceFacts.{handed_on, one_stopped}
use Rattle.p4_resolve.proofs.whole_text.controls.Goals as goal

pub returns-in_err-ingress-clause-stops : goal.returns-in_err-ingress-clause-stops
returns-in_err-ingress-clause-stops c = λ dec.
    let t = text_of c.args.text.now in
    let fault = c.in_err-ingress.field-0.0 in
    let same : c.from_residual.result ≡ Err c.in_err-ingress.field-0.0 = search rules in
    handed_on c.from_residual.result fault (StopsBy 0 (pieces t)) same
    (one_stopped 0 (pieces t) c.args.at (control_pieces t [] true ingress_begins t.rest.ingress) (fixed (said egress_head) ∷ from_egress t) fault dec.rest
    (subst (λ b. StopsBy c.args.at (control_pieces t [] b ingress_begins t.rest.ingress) fault) dec.in_ingress (c.in_err-ingress.ensures.stops t [] ingress_begins refl dec.known (c.none-before.ensures t))))

pub returns-in_err-egress-clause-stops : goal.returns-in_err-egress-clause-stops
returns-in_err-egress-clause-stops c = λ dec.
    let t = text_of c.args.text.now in
    let i = c.in_ok-ingress.ensures.keeps t [] ingress_begins refl dec.known (c.none-before.ensures t) in
    let ingress = subst (λ b. Passes c.args.at (control_pieces t [] b ingress_begins t.rest.ingress) c.in_ok-ingress.egress_at) dec.in_ingress i.passes in
    let known = c.in_ok-ingress.ensures.known t dec.known in
    let at_egress = parts.at_egress t c.args.at c.in_ok-ingress.egress_at c.after-first.result dec.rest ingress c.after-first.ensures in
    let fault = c.in_err-egress.field-0.0 in
    let same : c.from_residual-in_err-egress.result ≡ Err c.in_err-egress.field-0.0 = search rules in
    handed_on c.from_residual-in_err-egress.result fault (StopsBy 0 (pieces t)) same
    (one_stopped 0 (pieces t) c.after-first.result (control_pieces t t.rest.ingress.tables false egress_begins t.rest.egress) (fixed (said deparser_head) ∷ from_emits t) fault at_egress
    (c.in_err-egress.ensures.stops t t.rest.ingress.tables egress_begins refl (record { program_headers = known.program_headers; program_meta = known.program_meta; meta = known.meta; headers = known.headers; fields = known.fields }) i.before))

pub returns-clause-keeps : goal.returns-clause-keeps
returns-clause-keeps c = λ dec.
    let t = text_of c.args.text.now in
    let i = c.in_ok-ingress.ensures.keeps t [] ingress_begins refl dec.known (c.none-before.ensures t) in
    let ingress = subst (λ b. Passes c.args.at (control_pieces t [] b ingress_begins t.rest.ingress) c.in_ok-ingress.egress_at) dec.in_ingress i.passes in
    let known = c.in_ok-ingress.ensures.known t dec.known in
    let at_egress = parts.at_egress t c.args.at c.in_ok-ingress.egress_at c.after-first.result dec.rest ingress c.after-first.ensures in
    let e = c.in_ok-egress.ensures.keeps t t.rest.ingress.tables egress_begins refl (record { program_headers = known.program_headers; program_meta = known.program_meta; meta = known.meta; headers = known.headers; fields = known.fields }) i.before in
    record {
      ingress_is = i.is;
      egress_is = e.is;
      rest = parts.at_deparser t c.after-first.result c.in_ok-egress.deparser_at at_egress e.passes;
    }

pub returns-clause-known : goal.returns-clause-known
returns-clause-known c = λ dec.
    let t = text_of c.args.text.now in
    let i = c.in_ok-ingress.ensures.keeps t [] ingress_begins refl dec.known (c.none-before.ensures t) in
    let ingress = subst (λ b. Passes c.args.at (control_pieces t [] b ingress_begins t.rest.ingress) c.in_ok-ingress.egress_at) dec.in_ingress i.passes in
    let known = c.in_ok-ingress.ensures.known t dec.known in
    let at_egress = parts.at_egress t c.args.at c.in_ok-ingress.egress_at c.after-first.result dec.rest ingress c.after-first.ensures in
    c.in_ok-egress.ensures.known t (record { program_headers = known.program_headers; program_meta = known.program_meta; meta = known.meta; headers = known.headers; fields = known.fields })
