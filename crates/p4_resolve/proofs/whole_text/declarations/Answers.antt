use Rattle.std.proofs.Common.{◌≡◌, [], ◌∙◌, ap, subst, rules, map, Err}
use Rattle.p4_ir.specs.P4Text.{said}
use Rattle.p4_ir.specs.Program as ir
use Rattle.p4_texts.specs.KindFaults.{header_pieces, line_pieces, member_pieces, meta_pieces, pieces}
use Rattle.p4_texts.specs.Meant.{header_meant, meta_meant, program_of_text}
use Rattle.p4_texts.specs.Written.{extract_then}
use Rattle.p4_texts.specs.TreeOf.{field_of, header_of, member_of, text_of}
use Rattle.p4_resolve.specs.Judged.{Passes, StopsBy}
use Rattle.p4_resolve.specs.Parts.{from_extracts, from_ingress, from_members, from_meta}
use Rattle.p4_resolve.proofs.PartFacts as parts
use Rattle.p4_resolve.proofs.PieceFacts.{handed_on, one_stopped}
use Rattle.std.proofs.Common.{◌∷◌, codes}
use Rattle.cocoon_num.specs.Tokens.{mark}
use Rattle.p4_texts.specs.KindFaults.{fixed}
use Rattle.p4_texts.specs.Written.{ingress_head, parser_head}
use Rattle.p4_resolve.proofs.whole_text.declarations.Goals as goal

pub returns-in_err-headers-clause-stops : goal.returns-in_err-headers-clause-stops
returns-in_err-headers-clause-stops c =
    let t = text_of c.args.text.now in
    let fault = c.in_err-headers.field-0.0 in
    let same : c.from_residual.result ≡ Err c.in_err-headers.field-0.0 = search rules in
    handed_on c.from_residual.result fault (StopsBy 0 (pieces t)) same
    (one_stopped 0 (pieces t) 157 (header_pieces [] t.headers) (fixed (said (codes "struct Headers {")) ∷ from_members t) fault (parts.at_headers t)
    (subst (λ hs. StopsBy 157 (header_pieces [] (map header_of hs)) fault) c.items.ensures c.in_err-headers.ensures.stops))

pub returns-in_err-meta_at-clause-stops : goal.returns-in_err-meta_at-clause-stops
returns-in_err-meta_at-clause-stops c =
    let t = text_of c.args.text.now in
    let heads : map ir.header_of c.in_ok-headers.headers.items ≡ (program_of_text t).headers = c.in_ok-headers.ensures.headers ∙ ap (λ hs. map header_meant (map header_of hs)) c.items.ensures in
    let headers = subst (λ hs. Passes 157 (header_pieces [] (map header_of hs)) c.in_ok-headers.members_at) c.items.ensures c.in_ok-headers.ensures.passes in
    let at_members = parts.at_members t c.in_ok-headers.members_at c.after-first_member.result headers c.after-first_member.ensures in
    let named = ap (map ir.header_of) c.deref.ensures.value ∙ heads in
    let fault = c.in_err-meta_at.field-0.0 in
    let same : c.from_residual-in_err-meta_at.result ≡ Err c.in_err-meta_at.field-0.0 = search rules in
    handed_on c.from_residual-in_err-meta_at.result fault (StopsBy 0 (pieces t)) same
    (one_stopped 0 (pieces t) c.after-first_member.result (member_pieces (program_of_text t).headers t.rest.members) (fixed (said (codes "} struct Meta {")) ∷ from_meta t) fault (at_members)
    (subst (λ hs. StopsBy c.after-first_member.result (member_pieces hs t.rest.members) fault) named (subst (λ ms. StopsBy c.after-first_member.result (member_pieces (map ir.header_of c.deref.result.now) (map member_of ms)) fault) c.items-2.ensures c.in_err-meta_at.ensures.stops)))

pub returns-in_err-meta-clause-stops : goal.returns-in_err-meta-clause-stops
returns-in_err-meta-clause-stops c =
    let t = text_of c.args.text.now in
    let heads : map ir.header_of c.in_ok-headers.headers.items ≡ (program_of_text t).headers = c.in_ok-headers.ensures.headers ∙ ap (λ hs. map header_meant (map header_of hs)) c.items.ensures in
    let headers = subst (λ hs. Passes 157 (header_pieces [] (map header_of hs)) c.in_ok-headers.members_at) c.items.ensures c.in_ok-headers.ensures.passes in
    let at_members = parts.at_members t c.in_ok-headers.members_at c.after-first_member.result headers c.after-first_member.ensures in
    let named = ap (map ir.header_of) c.deref.ensures.value ∙ heads in
    let members = subst (λ hs. Passes c.after-first_member.result (member_pieces hs t.rest.members) c.in_ok-meta_at.meta_at) named
    (subst (λ ms. Passes c.after-first_member.result (member_pieces (map ir.header_of c.deref.result.now) (map member_of ms)) c.in_ok-meta_at.meta_at) c.items-2.ensures c.in_ok-meta_at.ensures.passes) in
    let at_meta = parts.at_meta t c.after-first_member.result c.in_ok-meta_at.meta_at c.after-first_meta.result at_members members c.after-first_meta.ensures in
    let fault = c.in_err-meta.field-0.0 in
    let same : c.from_residual-in_err-meta.result ≡ Err c.in_err-meta.field-0.0 = search rules in
    handed_on c.from_residual-in_err-meta.result fault (StopsBy 0 (pieces t)) same
    (one_stopped 0 (pieces t) c.after-first_meta.result (meta_pieces [] t.rest.meta) (fixed (mark (codes "}") ∷ said parser_head) ∷ from_extracts t) fault (at_meta)
    (subst (λ fs. StopsBy c.after-first_meta.result (meta_pieces [] (map field_of fs)) fault) c.items-3.ensures c.in_err-meta.ensures.stops))

pub returns-in_err-ingress_at-clause-stops : goal.returns-in_err-ingress_at-clause-stops
returns-in_err-ingress_at-clause-stops c =
    let t = text_of c.args.text.now in
    let heads : map ir.header_of c.in_ok-headers.headers.items ≡ (program_of_text t).headers = c.in_ok-headers.ensures.headers ∙ ap (λ hs. map header_meant (map header_of hs)) c.items.ensures in
    let headers = subst (λ hs. Passes 157 (header_pieces [] (map header_of hs)) c.in_ok-headers.members_at) c.items.ensures c.in_ok-headers.ensures.passes in
    let at_members = parts.at_members t c.in_ok-headers.members_at c.after-first_member.result headers c.after-first_member.ensures in
    let named = ap (map ir.header_of) c.deref.ensures.value ∙ heads in
    let members = subst (λ hs. Passes c.after-first_member.result (member_pieces hs t.rest.members) c.in_ok-meta_at.meta_at) named
    (subst (λ ms. Passes c.after-first_member.result (member_pieces (map ir.header_of c.deref.result.now) (map member_of ms)) c.in_ok-meta_at.meta_at) c.items-2.ensures c.in_ok-meta_at.ensures.passes) in
    let at_meta = parts.at_meta t c.after-first_member.result c.in_ok-meta_at.meta_at c.after-first_meta.result at_members members c.after-first_meta.ensures in
    let meta = subst (λ fs. Passes c.after-first_meta.result (meta_pieces [] (map field_of fs)) c.in_ok-meta.parser_at) c.items-3.ensures c.in_ok-meta.ensures.passes in
    let at_extracts = parts.at_extracts t c.after-first_meta.result c.in_ok-meta.parser_at c.after-first_extract.result at_meta meta c.after-first_extract.ensures in
    let named_again = ap (map ir.header_of) c.deref-2.ensures.value ∙ heads in
    let fault = c.in_err-ingress_at.field-0.0 in
    let same : c.from_residual-in_err-ingress_at.result ≡ Err c.in_err-ingress_at.field-0.0 = search rules in
    handed_on c.from_residual-in_err-ingress_at.result fault (StopsBy 0 (pieces t)) same
    (one_stopped 0 (pieces t) c.after-first_extract.result (line_pieces extract_then (program_of_text t).headers t.rest.extracts) (fixed (said ingress_head) ∷ from_ingress t) fault (at_extracts)
    (subst (λ hs. StopsBy c.after-first_extract.result (line_pieces extract_then hs t.rest.extracts) fault) named_again (subst (λ xs. StopsBy c.after-first_extract.result (line_pieces extract_then (map ir.header_of c.deref-2.result.now) xs) fault) c.items-4.ensures (c.in_err-ingress_at.ensures.stops extract_then parts.extract_count))))

pub returns-clause-keeps : goal.returns-clause-keeps
returns-clause-keeps c =
    let t = text_of c.args.text.now in
    let heads : map ir.header_of c.in_ok-headers.headers.items ≡ (program_of_text t).headers = c.in_ok-headers.ensures.headers ∙ ap (λ hs. map header_meant (map header_of hs)) c.items.ensures in
    let headers = subst (λ hs. Passes 157 (header_pieces [] (map header_of hs)) c.in_ok-headers.members_at) c.items.ensures c.in_ok-headers.ensures.passes in
    let at_members = parts.at_members t c.in_ok-headers.members_at c.after-first_member.result headers c.after-first_member.ensures in
    let named = ap (map ir.header_of) c.deref.ensures.value ∙ heads in
    let members = subst (λ hs. Passes c.after-first_member.result (member_pieces hs t.rest.members) c.in_ok-meta_at.meta_at) named
    (subst (λ ms. Passes c.after-first_member.result (member_pieces (map ir.header_of c.deref.result.now) (map member_of ms)) c.in_ok-meta_at.meta_at) c.items-2.ensures c.in_ok-meta_at.ensures.passes) in
    let at_meta = parts.at_meta t c.after-first_member.result c.in_ok-meta_at.meta_at c.after-first_meta.result at_members members c.after-first_meta.ensures in
    let meta = subst (λ fs. Passes c.after-first_meta.result (meta_pieces [] (map field_of fs)) c.in_ok-meta.parser_at) c.items-3.ensures c.in_ok-meta.ensures.passes in
    let at_extracts = parts.at_extracts t c.after-first_meta.result c.in_ok-meta.parser_at c.after-first_extract.result at_meta meta c.after-first_extract.ensures in
    let named_again = ap (map ir.header_of) c.deref-2.ensures.value ∙ heads in
    let extracts = subst (λ hs. Passes c.after-first_extract.result (line_pieces extract_then hs t.rest.extracts) c.in_ok-ingress_at.ingress_at) named_again
    (subst (λ xs. Passes c.after-first_extract.result (line_pieces extract_then (map ir.header_of c.deref-2.result.now) xs) c.in_ok-ingress_at.ingress_at) c.items-4.ensures (c.in_ok-ingress_at.ensures.passes extract_then parts.extract_count)) in
    record {
      known = c.in_ok-scope.ensures.known heads (c.in_ok-meta.ensures.fields ∙ ap (λ fs. map meta_meant (map field_of fs)) c.items-3.ensures);
      in_ingress = c.in_ok-scope.ensures.in_ingress;
      rest = parts.at_ingress t c.after-first_extract.result c.in_ok-ingress_at.ingress_at c.after-first_table.result at_extracts extracts c.after-first_table.ensures;
    }
