-- Fixed pieces of texts. Clauses of `source`, `pieces` and `lines` cite it.
use Rattle.std.specs.Prelude.{◌==◌, ◌&&◌, Bool, true, false, List, ℕ, Option, Some, None, codes}
use Rattle.cocoon_num.specs.Names.{same_name}
use Rattle.cocoon_num.specs.Tokens.{Kind}
use Rattle.p4_ir.specs.P4Text.{said}
use Rattle.p4_texts.specs.Machine.{same_token}
use Rattle.p4_texts.specs.Reading.{is_end}
use Rattle.p4_texts.specs.Written.{deparser_head, egress_begins, egress_head, ingress_begins, ingress_head, parser_head, text_end}
use Rattle.p4_parse.specs.Phrases.{Literal}
use Rattle.p4_parse.specs.declared.pieces.Piece.{Piece}
use Rattle.p4_parse.specs.declared.pieces.Piece.TheVariants as piece

abbrev pub piece_text : Piece → List ℕ
piece_text piece.Architecture = codes "#include <core.p4> parser CocoonParser<H, M>(packet_in b, out H h, inout M m); control CocoonIngress<H, M>(inout H h, inout M m, in bit<16> port, out bit<8> verdict, out bit<16> egress_port, out bit<16> group); control CocoonEgress<H, M>(inout H h, inout M m, in bit<64> rid, out bit<8> verdict, out bit<16> egress_port); control CocoonDeparser<H>(packet_out b, in H h); package CocoonSwitch<H, M>(CocoonParser<H, M> p, CocoonIngress<H, M> i, CocoonEgress<H, M> e, CocoonDeparser<H> d);"
piece_text piece.Headers = codes "struct Headers {"
piece_text piece.Meta = codes "} struct Meta {"
piece_text piece.Parser = parser_head
piece_text piece.Extract = codes "b.extract(h."
piece_text piece.Ingress = ingress_head
piece_text piece.IngressBegins = ingress_begins
piece_text piece.Egress = egress_head
piece_text piece.EgressBegins = egress_begins
piece_text piece.Deparser = deparser_head
piece_text piece.Emit = codes "b.emit(h."
piece_text piece.End = text_end

abbrev pub piece_tokens : Piece → List Kind
piece_tokens p = said (piece_text p)

-- whether this token is that one
abbrev pub same_at : Option Kind → Option Kind → Bool
same_at (Some j) (Some k) = same_token j k
same_at _ _ = false

-- whether the tokens end
abbrev pub ends_at : Option Kind → Bool
ends_at None = true
ends_at (Some k) = is_end k

-- whether the end of a text stands there
abbrev pub has_end : Option Kind → Bool
has_end None = false
has_end (Some k) = is_end k

abbrev pub is_some_name : List ℕ → Option (List ℕ) → Bool
is_some_name x (Some y) = same_name x y
is_some_name x None = false

abbrev pub is_some_number : ℕ → Option ℕ → Bool
is_some_number n (Some m) = n == m
is_some_number n None = false

abbrev pub is_some_literal : Literal → Option Literal → Bool
is_some_literal l (Some k) = (l.width == k.width) && (l.n == k.n)
is_some_literal l None = false
