-- Lines, of which there are as many as headers, and controls. Clauses of `lines` and `program` cite it.
use Rattle.std.specs.Prelude.{ℕ, List, [], ◌∷◌, ◌++◌, length, map, Vec, codes}
use Rattle.std.specs.Global.{Global}
use Rattle.cocoon_num.specs.Tokens.{Kind, a_name, finish, mark}
use Rattle.p4_texts.specs.Machine.{Goals, a_control, a_line, a_member, after_struct, any_name, exactly, fields, fixed, lines, the_mark, the_word}
use Rattle.p4_texts.specs.Written.{control_then, each_then, field_then, header_then, member_then}
use Rattle.p4_texts.specs.TreeOf.{control_of, field_of, header_of, member_of}
use Rattle.p4_texts.specs.declared.written.WrittenControl.{WrittenControl}
use Rattle.p4_texts.specs.declared.written.WrittenField.{WrittenField}
use Rattle.p4_texts.specs.declared.written.WrittenHeader.{WrittenHeader}
use Rattle.p4_texts.specs.declared.written.WrittenMember.{WrittenMember}
use Rattle.p4_parse.specs.Pieces.{piece_text, piece_tokens}
use Rattle.p4_parse.specs.declared.pieces.Piece.{Piece}
use Rattle.p4_parse.specs.declared.pieces.Piece.TheVariants.{Headers, Meta, End}

-- lines of `struct Headers`
abbrev pub members_tokens : Vec WrittenMember Global → List Kind → List Kind
members_tokens v ks = each_then member_then (map member_of v.items) ks

-- NAME);
abbrev pub line_end_goals : Goals
line_end_goals = any_name ∷ the_mark (codes ")") ∷ the_mark (codes ";") ∷ []

abbrev pub line_end_tokens : List ℕ → List Kind → List Kind
line_end_tokens x ks = a_name x ∷ mark (codes ")") ∷ mark (codes ";") ∷ ks

-- a line of the parser or the deparser, which begins with these tokens
abbrev pub line_goals : List Kind → Goals
line_goals begin = fixed begin ++ line_end_goals

abbrev pub line_tokens : List Kind → List ℕ → List Kind → List Kind
line_tokens begin x ks = begin ++ line_end_tokens x ks

abbrev pub lines_tokens : List Kind → Vec (List ℕ) Global → List Kind → List Kind
lines_tokens begin v ks = each_then (line_tokens begin) v.items ks

-- what begins so, and its lines
abbrev pub listed_goals : Piece → Piece → ℕ → Goals
listed_goals head begin n = fixed (piece_tokens head) ++ lines n (a_line (piece_text begin))

abbrev pub listed_tokens : Piece → Piece → Vec (List ℕ) Global → List Kind → List Kind
listed_tokens head begin v ks = piece_tokens head ++ lines_tokens (piece_tokens begin) v ks

-- a control that begins so, with what its statements begin with
abbrev pub control_goals : Piece → Piece → Goals
control_goals head begin = fixed (piece_tokens head) ++ a_control (piece_text begin) []

abbrev pub control_tokens : Piece → Piece → WrittenControl → List Kind → List Kind
control_tokens head begin c ks = piece_tokens head ++ control_then (piece_text begin) (control_of c) ks

-- headers up to `struct`
abbrev pub struct_goals : ℕ → Goals
struct_goals n = the_word (codes "struct") ∷ after_struct n

abbrev pub after_headers : Vec WrittenHeader Global → Goals
after_headers v = struct_goals (length v.items)

abbrev pub headers_tokens : Vec WrittenHeader Global → List Kind → List Kind
headers_tokens v ks = each_then header_then (map header_of v.items) ks

-- the members and the meta fields
abbrev pub declarations_goals : ℕ → Goals
declarations_goals n = fixed (piece_tokens Headers) ++ (lines n a_member ++ (fixed (piece_tokens Meta) ++ (fields ∷ [])))

abbrev pub declarations_tokens : Vec WrittenMember Global × Vec WrittenField Global → List Kind → List Kind
declarations_tokens p ks = piece_tokens Headers ++ members_tokens p.0 (piece_tokens Meta ++ each_then field_then (map field_of p.1.items) (mark (codes "}") ∷ ks))

-- the end
abbrev pub ended_goals : Goals
ended_goals = fixed (piece_tokens End) ++ (exactly finish ∷ [])

abbrev pub ended_tokens : List Kind → List Kind
ended_tokens ks = piece_tokens End ++ (finish ∷ ks)
