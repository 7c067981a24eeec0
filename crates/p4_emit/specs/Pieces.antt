-- Cited by the private clauses of what prints them: the pieces of the text that those of the code stand for.
use Rattle.p4_emit.specs.declared.print.Fixed.{Fixed}
use Rattle.p4_emit.specs.declared.print.Fixed.TheVariants.{Architecture, Headers, Meta, Parser, Ingress, IngressBegin, Egress, EgressBegin, Deparser, Main}
use Rattle.p4_emit.specs.Printed.{Piece, architecture_piece, headers_piece, meta_piece, parser_piece, ingress_piece, ingress_apply, egress_piece, egress_apply, deparser_piece, main_piece}

abbrev pub piece_of : Fixed → Piece
piece_of Architecture = architecture_piece
piece_of Headers = headers_piece
piece_of Meta = meta_piece
piece_of Parser = parser_piece
piece_of Ingress = ingress_piece
piece_of IngressBegin = ingress_apply
piece_of Egress = egress_piece
piece_of EgressBegin = egress_apply
piece_of Deparser = deparser_piece
piece_of Main = main_piece
