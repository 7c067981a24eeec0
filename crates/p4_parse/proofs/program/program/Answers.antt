use Rattle.std.proofs.Common.{rules, ◌≡◌, ◌∷◌, [], length, refl, Err}
use Rattle.p4_texts.specs.Machine.{fixed}
use Rattle.p4_texts.specs.Machine as machine
use Rattle.p4_texts.specs.TreeOf.{text_of}
use Rattle.p4_texts.specs.declared.written.WrittenProgram.{WrittenProgram}
use Rattle.p4_parse.specs.Lines.{after_headers, control_goals, control_tokens, declarations_goals, declarations_tokens, ended_goals, headers_tokens, listed_goals, listed_tokens}
use Rattle.p4_parse.specs.Pieces.{piece_tokens}
use Rattle.p4_parse.specs.declared.pieces.Piece.TheVariants.{Architecture, Deparser, Egress, EgressBegins, Emit, Extract, Ingress, IngressBegins, Parser}
use Rattle.p4_parse.proofs.Stopping.{of_end, of_fixed, of_onwards, of_phrase, to_program}
use Rattle.p4_parse.proofs.WholePhrases.{first_stuck, no_declarations, no_deparser, no_egress, no_ingress, no_parser, text_from, upto_deparser, upto_egress, upto_end, upto_headers, upto_ingress, upto_parser, upto_struct, whole_read, whole_stuck}
use Rattle.p4_parse.proofs.program.program.Goals as goal

pub returns-in_err-first : goal.returns-in_err-first
returns-in_err-first c =
    let ts = c.args.source.now in
    let stop = c.in_err-first.field-0.0 in
    let e : c.from_residual.result ≡ Err stop = search rules in
    to_program (fixed (piece_tokens Architecture)) ts 0 _ stop e (λ i r. first_stuck r) (of_fixed (fixed (piece_tokens Architecture)) (piece_tokens Architecture) ts 0 stop c.in_err-first.ensures)

pub returns-in_err-headers : goal.returns-in_err-headers
returns-in_err-headers c =
    let ts = c.args.source.now in
    let first = c.in_ok-first.first in
    let at_headers = upto_headers ts first c.in_ok-first.ensures in
    let stop = c.in_err-headers.field-0.0 in
    let e : c.from_residual-in_err-headers.result ≡ Err stop = search rules in
    to_program (machine.headers 0 ∷ []) ts first _ stop e (λ i r. whole_stuck at_headers r) (of_onwards (machine.headers 0 ∷ []) after_headers headers_tokens ts first stop c.in_err-headers.ensures)

pub returns-in_err-members : goal.returns-in_err-members
returns-in_err-members c =
    let ts = c.args.source.now in
    let first = c.in_ok-first.first in
    let at_headers = upto_headers ts first c.in_ok-first.ensures in
    let heads = c.in_ok-headers.headers in
    let n = c.len-count.result in
    let counted : length heads.items ≡ n = search rules in
    let at_struct = upto_struct n c.in_ok-headers.struct_at heads counted at_headers c.in_ok-headers.ensures in
    let stop = c.in_err-members.field-0.0 in
    let e : c.from_residual-in_err-members.result ≡ Err stop = search rules in
    to_program (declarations_goals n) ts c.in_ok-headers.struct_at _ stop e (λ i r. whole_stuck at_struct (no_declarations n r)) (of_onwards (declarations_goals n) (λ r. []) declarations_tokens ts c.in_ok-headers.struct_at stop c.in_err-members.ensures.is)

pub returns-in_err-extracts : goal.returns-in_err-extracts
returns-in_err-extracts c =
    let ts = c.args.source.now in
    let first = c.in_ok-first.first in
    let at_headers = upto_headers ts first c.in_ok-first.ensures in
    let heads = c.in_ok-headers.headers in
    let n = c.len-count.result in
    let counted : length heads.items ≡ n = search rules in
    let at_struct = upto_struct n c.in_ok-headers.struct_at heads counted at_headers c.in_ok-headers.ensures in
    let at_parser = upto_parser n c.in_ok-members.parser_at (c.in_ok-members.members, c.in_ok-members.meta) at_struct c.in_ok-members.ensures.is in
    let stop = c.in_err-extracts.field-0.0 in
    let e : c.from_residual-in_err-extracts.result ≡ Err stop = search rules in
    to_program (listed_goals Parser Extract n) ts c.in_ok-members.parser_at _ stop e (λ i r. whole_stuck at_parser (no_parser n r)) (of_onwards (listed_goals Parser Extract n) (λ r. []) (listed_tokens Parser Extract) ts c.in_ok-members.parser_at stop c.in_err-extracts.ensures.is)

pub returns-in_err-ingress : goal.returns-in_err-ingress
returns-in_err-ingress c =
    let ts = c.args.source.now in
    let first = c.in_ok-first.first in
    let at_headers = upto_headers ts first c.in_ok-first.ensures in
    let heads = c.in_ok-headers.headers in
    let n = c.len-count.result in
    let counted : length heads.items ≡ n = search rules in
    let at_struct = upto_struct n c.in_ok-headers.struct_at heads counted at_headers c.in_ok-headers.ensures in
    let at_parser = upto_parser n c.in_ok-members.parser_at (c.in_ok-members.members, c.in_ok-members.meta) at_struct c.in_ok-members.ensures.is in
    let at_ingress = upto_ingress n c.in_ok-extracts.ingress_at c.in_ok-extracts.extracts at_parser c.in_ok-extracts.ensures.is in
    let stop = c.in_err-ingress.field-0.0 in
    let e : c.from_residual-in_err-ingress.result ≡ Err stop = search rules in
    to_program (control_goals Ingress IngressBegins) ts c.in_ok-extracts.ingress_at _ stop e (λ i r. whole_stuck at_ingress (no_ingress n r)) (of_phrase (control_goals Ingress IngressBegins) (control_tokens Ingress IngressBegins) ts c.in_ok-extracts.ingress_at stop c.in_err-ingress.ensures)

pub returns-in_err-egress : goal.returns-in_err-egress
returns-in_err-egress c =
    let ts = c.args.source.now in
    let first = c.in_ok-first.first in
    let at_headers = upto_headers ts first c.in_ok-first.ensures in
    let heads = c.in_ok-headers.headers in
    let n = c.len-count.result in
    let counted : length heads.items ≡ n = search rules in
    let at_struct = upto_struct n c.in_ok-headers.struct_at heads counted at_headers c.in_ok-headers.ensures in
    let at_parser = upto_parser n c.in_ok-members.parser_at (c.in_ok-members.members, c.in_ok-members.meta) at_struct c.in_ok-members.ensures.is in
    let at_ingress = upto_ingress n c.in_ok-extracts.ingress_at c.in_ok-extracts.extracts at_parser c.in_ok-extracts.ensures.is in
    let at_egress = upto_egress n c.in_ok-ingress.egress_at c.in_ok-ingress.ingress at_ingress c.in_ok-ingress.ensures in
    let stop = c.in_err-egress.field-0.0 in
    let e : c.from_residual-in_err-egress.result ≡ Err stop = search rules in
    to_program (control_goals Egress EgressBegins) ts c.in_ok-ingress.egress_at _ stop e (λ i r. whole_stuck at_egress (no_egress n r)) (of_phrase (control_goals Egress EgressBegins) (control_tokens Egress EgressBegins) ts c.in_ok-ingress.egress_at stop c.in_err-egress.ensures)

pub returns-in_err-emits : goal.returns-in_err-emits
returns-in_err-emits c =
    let ts = c.args.source.now in
    let first = c.in_ok-first.first in
    let at_headers = upto_headers ts first c.in_ok-first.ensures in
    let heads = c.in_ok-headers.headers in
    let n = c.len-count.result in
    let counted : length heads.items ≡ n = search rules in
    let at_struct = upto_struct n c.in_ok-headers.struct_at heads counted at_headers c.in_ok-headers.ensures in
    let at_parser = upto_parser n c.in_ok-members.parser_at (c.in_ok-members.members, c.in_ok-members.meta) at_struct c.in_ok-members.ensures.is in
    let at_ingress = upto_ingress n c.in_ok-extracts.ingress_at c.in_ok-extracts.extracts at_parser c.in_ok-extracts.ensures.is in
    let at_egress = upto_egress n c.in_ok-ingress.egress_at c.in_ok-ingress.ingress at_ingress c.in_ok-ingress.ensures in
    let at_deparser = upto_deparser n c.in_ok-egress.deparser_at c.in_ok-egress.egress at_egress c.in_ok-egress.ensures in
    let stop = c.in_err-emits.field-0.0 in
    let e : c.from_residual-in_err-emits.result ≡ Err stop = search rules in
    to_program (listed_goals Deparser Emit n) ts c.in_ok-egress.deparser_at _ stop e (λ i r. whole_stuck at_deparser (no_deparser n r)) (of_onwards (listed_goals Deparser Emit n) (λ r. []) (listed_tokens Deparser Emit) ts c.in_ok-egress.deparser_at stop c.in_err-emits.ensures.is)

pub returns-in_err-ended : goal.returns-in_err-ended
returns-in_err-ended c =
    let ts = c.args.source.now in
    let first = c.in_ok-first.first in
    let at_headers = upto_headers ts first c.in_ok-first.ensures in
    let heads = c.in_ok-headers.headers in
    let n = c.len-count.result in
    let counted : length heads.items ≡ n = search rules in
    let at_struct = upto_struct n c.in_ok-headers.struct_at heads counted at_headers c.in_ok-headers.ensures in
    let at_parser = upto_parser n c.in_ok-members.parser_at (c.in_ok-members.members, c.in_ok-members.meta) at_struct c.in_ok-members.ensures.is in
    let at_ingress = upto_ingress n c.in_ok-extracts.ingress_at c.in_ok-extracts.extracts at_parser c.in_ok-extracts.ensures.is in
    let at_egress = upto_egress n c.in_ok-ingress.egress_at c.in_ok-ingress.ingress at_ingress c.in_ok-ingress.ensures in
    let at_deparser = upto_deparser n c.in_ok-egress.deparser_at c.in_ok-egress.egress at_egress c.in_ok-egress.ensures in
    let at_end = upto_end n c.in_ok-emits.end_at c.in_ok-emits.emits at_deparser c.in_ok-emits.ensures.is in
    let stop = c.in_err-ended.field-0.0 in
    let e : c.from_residual-in_err-ended.result ≡ Err stop = search rules in
    to_program (ended_goals) ts c.in_ok-emits.end_at _ stop e (λ i r. whole_stuck at_end r) (of_end ts c.in_ok-emits.end_at stop c.in_err-ended.ensures)

pub returns : goal.returns
returns c =
    let ts = c.args.source.now in
    let first = c.in_ok-first.first in
    let at_headers = upto_headers ts first c.in_ok-first.ensures in
    let heads = c.in_ok-headers.headers in
    let n = c.len-count.result in
    let counted : length heads.items ≡ n = search rules in
    let at_struct = upto_struct n c.in_ok-headers.struct_at heads counted at_headers c.in_ok-headers.ensures in
    let at_parser = upto_parser n c.in_ok-members.parser_at (c.in_ok-members.members, c.in_ok-members.meta) at_struct c.in_ok-members.ensures.is in
    let at_ingress = upto_ingress n c.in_ok-extracts.ingress_at c.in_ok-extracts.extracts at_parser c.in_ok-extracts.ensures.is in
    let at_egress = upto_egress n c.in_ok-ingress.egress_at c.in_ok-ingress.ingress at_ingress c.in_ok-ingress.ensures in
    let at_deparser = upto_deparser n c.in_ok-egress.deparser_at c.in_ok-egress.egress at_egress c.in_ok-egress.ensures in
    let at_end = upto_end n c.in_ok-emits.end_at c.in_ok-emits.emits at_deparser c.in_ok-emits.ensures.is in
    let made : WrittenProgram = record {
      headers = c.from.result;
      members = c.from-2.result;
      meta = c.from-3.result;
      extracts = c.from-4.result;
      ingress = c.in_ok-ingress.ingress;
      egress = c.in_ok-egress.egress;
      emits = c.from-5.result;
    } in
    let is : text_of made ≡ text_from heads c.in_ok-members.members c.in_ok-members.meta c.in_ok-extracts.extracts c.in_ok-ingress.ingress c.in_ok-egress.egress c.in_ok-emits.emits =
    rw (c.from.ensures, c.from-2.ensures, c.from-3.ensures, c.from-4.ensures, c.from-5.ensures) refl in
    whole_read heads c.in_ok-members.members c.in_ok-members.meta c.in_ok-extracts.extracts c.in_ok-ingress.ingress c.in_ok-egress.egress c.in_ok-emits.emits ts n c.in_ok-emits.end_at c.in_ok-ended.field-0 (text_of made) is counted c.in_ok-members.ensures.count
    c.in_ok-extracts.ensures.count c.in_ok-emits.ensures.count at_end c.in_ok-ended.ensures
