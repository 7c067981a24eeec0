-- The parts of a whole text, as the plain reader takes them.
use Rattle.std.specs.Prelude.{◌≡◌, ℕ, suc, true, false, List, [], ◌∷◌, ◌++◌, length, map, drop, slice_get, Option, Some, Vec, Result, Ok, Err, ⊤, codes, refl}
use Rattle.std.specs.Global.{Global}
use Rattle.std.proofs.Common.{sym, ◌∙◌, ap, subst, arith}
use Rattle.std.proofs.lemmas.List.{append_assoc, append-nil}
use Rattle.cocoon_num.specs.Names.{same_name}
use Rattle.cocoon_num.specs.Tokens.{Kind, a_name, keyword, plain, literal, mark, finish}
use Rattle.p4_texts.specs.Machine.{Goals, a_line, a_member, after_struct, exactly, fields, fixed, headers, lines, stmts, stuck, tables, takes, the_mark, the_word}
use Rattle.p4_texts.specs.Written.{ControlText, control_then, each_then, header_then}
use Rattle.p4_texts.specs.TreeOf.{body_of, control_of, header_of, table_of}
use Rattle.p4_texts.specs.declared.written.WrittenControl.{WrittenControl}
use Rattle.p4_texts.specs.declared.written.WrittenField.{WrittenField}
use Rattle.p4_texts.specs.declared.written.WrittenHeader.{WrittenHeader}
use Rattle.p4_texts.specs.declared.written.WrittenMember.{WrittenMember}
use Rattle.p4_texts.specs.declared.written.WrittenStmt.{WrittenStmt}
use Rattle.p4_texts.specs.declared.written.WrittenTable.{WrittenTable}
use Rattle.p4_parse.specs.Fields.{fields_tokens, header_goals, header_tokens}
use Rattle.p4_parse.specs.Lines.{control_goals, control_tokens, declarations_goals, declarations_tokens, ended_goals, ended_tokens, headers_tokens, listed_goals, listed_tokens, lines_tokens, members_tokens, struct_goals}
use Rattle.p4_parse.specs.Onward.{Onward, Several}
use Rattle.p4_parse.specs.Phrases.{Fixed, Read, Refused, is_word}
use Rattle.p4_parse.specs.Pieces.{piece_text, piece_tokens}
use Rattle.p4_parse.specs.Program.{EndAt}
use Rattle.p4_parse.specs.Tables.{tables_tokens}
use Rattle.p4_parse.specs.Tails.{block_ended}
use Rattle.p4_parse.specs.declared.pieces.Piece.{Piece}
use Rattle.p4_parse.specs.declared.pieces.Piece.TheVariants as piece
use Rattle.parsing.specs.declared.stop.Stop.{Stop}
use Rattle.parsing.specs.declared.stop.Stop.TheVariants.{Unexpected, NoMemory}
use Rattle.p4_parse.proofs.LinePhrases.{one_longer}
use Rattle.p4_parse.proofs.Sequences.{before, each_map, joined, one_more, onward, refused_before, stopped}
use Rattle.p4_parse.proofs.TablePhrases.{alike, by_one, with_more}
use Rattle.p4_parse.proofs.Tokens.{drop_some, word_is}

-- ---- headers

header_at : (n : ℕ) (ts : List Kind) (pos : ℕ) → is_word (codes "header") (slice_get ts pos) ≡ true → (hs : Goals) → stuck (headers n ∷ hs) (drop pos ts) ≡ stuck (header_goals ++ (headers (suc n) ∷ hs)) (drop pos ts)
header_at n ts pos h hs =
    let d = drop_some ts pos (a_name (codes "header")) (word_is (codes "header") (slice_get ts pos) h) in
    ap (stuck (headers n ∷ hs)) d ∙ ap (stuck (header_goals ++ (headers (suc n) ∷ hs))) (sym d)

struct_alike : (n : ℕ) (o : Option Kind) → is_word (codes "header") o ≡ false → (k : Kind) → o ≡ Some k → takes (headers n) k ≡ with_more (takes (the_word (codes "struct")) k) (after_struct n)
struct_alike n o h (a_name x) e = let f : same_name (codes "header") x ≡ false = ap (is_word (codes "header")) (sym e) ∙ h in rw f (by_one (same_name (codes "struct") x) (codes "struct") x (after_struct n) refl)
struct_alike n o h (mark x) e = refl
struct_alike n o h (keyword x) e = refl
struct_alike n o h (plain m) e = refl
struct_alike n o h (literal w m) e = refl
struct_alike n o h finish e = refl

abbrev pub HeadersSoFar : List Kind → ℕ → List WrittenHeader → ℕ → Type 0
HeadersSoFar ts pos xs next = Onward (headers 0 ∷ []) (headers (length xs) ∷ []) (each_then header_tokens) ts pos xs next

pub one_header_more : (ts : List Kind) (pos next after : ℕ) (xs ys : List WrittenHeader) (x : WrittenHeader) → HeadersSoFar ts pos xs next → is_word (codes "header") (slice_get ts next) ≡ true → Read header_goals header_tokens ts next x after → ys ≡ xs ++ x ∷ [] → HeadersSoFar ts pos ys after
one_header_more ts pos next after xs ys x s h r e =
    let n = length xs in
    let a = r.after in
    let k : length ys ≡ suc n = ap length e ∙ one_longer xs x in
    let step : Onward (headers n ∷ []) (headers (suc n) ∷ []) header_tokens ts next x after = record { forward = omega (arith, a); within = r.within; are = r.are; goes = λ hs. header_at n ts next h hs ∙ r.goes (headers (suc n) ∷ hs) } in
    subst (λ m. Onward (headers 0 ∷ []) (headers m ∷ []) (each_then header_tokens) ts pos ys after) (sym k) (one_more s step e)

pub header_stopped : (ts : List Kind) (pos next i : ℕ) (xs : List WrittenHeader) → HeadersSoFar ts pos xs next → is_word (codes "header") (slice_get ts next) ≡ true → Refused header_goals ts next i → Refused (headers 0 ∷ []) ts pos i
header_stopped ts pos next i xs s h r = record { within = r.within; there = λ hs. s.goes hs ∙ header_at (length xs) ts next h hs ∙ r.there (headers (suc (length xs)) ∷ hs) }

pub all_headers : (ts : List Kind) (pos next : ℕ) (v : Vec WrittenHeader Global) → HeadersSoFar ts pos v.items next → is_word (codes "header") (slice_get ts next) ≡ false → Onward (headers 0 ∷ []) (struct_goals (length v.items)) headers_tokens ts pos v next
all_headers ts pos next v s h =
    let n = length v.items in
    record {
      forward = s.forward;
      within = s.within;
      are = s.are ∙ each_map header_of header_then v.items (drop next ts);
      goes = λ hs. s.goes hs ∙ alike (headers n) (the_word (codes "struct")) (after_struct n) hs (slice_get ts next) ts next refl (struct_alike n (slice_get ts next) h);
    }

-- ---- declarations

abbrev after_the_head : ℕ → Goals
after_the_head n = lines n a_member ++ (fixed (piece_tokens piece.Meta) ++ (fields ∷ []))

abbrev after_the_members : Goals
after_the_members = fixed (piece_tokens piece.Meta) ++ (fields ∷ [])

abbrev PieceRead : Piece → List Kind → ℕ → ℕ → Type 0
PieceRead p ts pos next = Read (fixed (piece_tokens p)) (λ (x : ⊤) ks. piece_tokens p ++ ks) ts pos tt next

abbrev MembersRead : ℕ → List Kind → ℕ → Vec WrittenMember Global → ℕ → Type 0
MembersRead n ts pos v next = Onward (lines n a_member) [] members_tokens ts pos v next

pub no_head : (n : ℕ) (ts : List Kind) (p i : ℕ) → Refused (fixed (piece_tokens piece.Headers)) ts p i → Refused (declarations_goals n) ts p i
no_head n ts p i r = refused_before (after_the_head n) r

pub no_members : (n : ℕ) (ts : List Kind) (p q i : ℕ) → PieceRead piece.Headers ts p q → Refused (lines n a_member) ts q i → Refused (declarations_goals n) ts p i
no_members n ts p q i a r = stopped (before (after_the_head n) (onward a)) (refused_before after_the_members r)

pub no_meta : (n : ℕ) (ts : List Kind) (p q s i : ℕ) (v : Vec WrittenMember Global) → PieceRead piece.Headers ts p q → MembersRead n ts q v s → Refused (fixed (piece_tokens piece.Meta)) ts s i → Refused (declarations_goals n) ts p i
no_meta n ts p q s i v a b r = stopped (before (after_the_head n) (onward a)) (stopped (before after_the_members b) (refused_before (fields ∷ []) r))

pub no_fields : (n : ℕ) (ts : List Kind) (p q s t i : ℕ) (v : Vec WrittenMember Global) → PieceRead piece.Headers ts p q → MembersRead n ts q v s → PieceRead piece.Meta ts s t → Refused (fields ∷ []) ts t i → Refused (declarations_goals n) ts p i
no_fields n ts p q s t i v a b c r = stopped (before (after_the_head n) (onward a)) (stopped (before after_the_members b) (stopped (before (fields ∷ []) (onward c)) r))

pub declarations_read : (n : ℕ) (ts : List Kind) (p q s t u : ℕ) (v : Vec WrittenMember Global) (w : Vec WrittenField Global) → PieceRead piece.Headers ts p q → MembersRead n ts q v s → PieceRead piece.Meta ts s t → Read (fields ∷ []) fields_tokens ts t w u
    → Onward (declarations_goals n) [] declarations_tokens ts p (v, w) u
declarations_read n ts p q s t u v w a b c d =
    let ab = joined (λ (x : Vec WrittenMember Global) ks. piece_tokens piece.Headers ++ members_tokens x ks) v (before (after_the_head n) (onward a)) (before after_the_members b) (λ ks. refl) in
    let abc = joined (λ (x : Vec WrittenMember Global) ks. piece_tokens piece.Headers ++ members_tokens x (piece_tokens piece.Meta ++ ks)) v ab (before (fields ∷ []) (onward c)) (λ ks. refl) in
    joined declarations_tokens (v, w) abc (onward d) (λ ks. refl)

-- ---- lines

pub listed_read : (head begin : Piece) (n : ℕ) (ts : List Kind) (p q : ℕ) (r : Result (Vec (List ℕ) Global × ℕ) Stop) → PieceRead head ts p q → Several (lines n (a_line (piece_text begin))) (lines_tokens (piece_tokens begin)) ts q r → Several (listed_goals head begin n) (listed_tokens head begin) ts p r
listed_read head begin n ts p q (Ok found) a x = joined (listed_tokens head begin) found.0 (before (lines n (a_line (piece_text begin))) (onward a)) x (λ ks. refl)
listed_read head begin n ts p q (Err (Unexpected i)) a x = stopped (before (lines n (a_line (piece_text begin))) (onward a)) x
listed_read head begin n ts p q (Err NoMemory) a x = tt

-- ---- controls

abbrev body_end : Goals
body_end = stmts ∷ the_mark (codes "}") ∷ []

abbrev body_goals : Piece → Goals
body_goals begin = fixed (piece_tokens begin) ++ body_end

abbrev brace_goals : Piece → Goals
brace_goals begin = the_mark (codes "{") ∷ body_goals begin

abbrev tables_goals : Piece → Goals
tables_goals begin = tables ∷ brace_goals begin

abbrev MarkRead : List ℕ → List Kind → ℕ → ℕ → Type 0
MarkRead m ts pos next = Read (the_mark m ∷ []) (λ (x : ⊤) ks. (mark m ∷ []) ++ ks) ts pos tt next

pub no_control : (head begin : Piece) (ts : List Kind) (p i : ℕ) → Refused (fixed (piece_tokens head)) ts p i → Refused (control_goals head begin) ts p i
no_control head begin ts p i r = refused_before (tables_goals begin) r

pub no_tables : (head begin : Piece) (ts : List Kind) (p q i : ℕ) → PieceRead head ts p q → Refused (tables ∷ []) ts q i → Refused (control_goals head begin) ts p i
no_tables head begin ts p q i a r = stopped (before (tables_goals begin) (onward a)) (refused_before (brace_goals begin) r)

abbrev TablesRead : List Kind → ℕ → Vec WrittenTable Global → ℕ → Type 0
TablesRead ts pos v next = Read (tables ∷ []) tables_tokens ts pos v next

abbrev BlockRead : List Kind → ℕ → Vec WrittenStmt Global → ℕ → Type 0
BlockRead ts pos v next = Read (stmts ∷ []) block_ended ts pos v next

pub no_brace : (head begin : Piece) (ts : List Kind) (p q r i : ℕ) (v : Vec WrittenTable Global) → PieceRead head ts p q → TablesRead ts q v r → Refused (the_mark (codes "{") ∷ []) ts r i → Refused (control_goals head begin) ts p i
no_brace head begin ts p q r i v a b x = stopped (before (tables_goals begin) (onward a)) (stopped (before (brace_goals begin) (onward b)) (refused_before (body_goals begin) x))

pub no_begin : (head begin : Piece) (ts : List Kind) (p q r s i : ℕ) (v : Vec WrittenTable Global) → PieceRead head ts p q → TablesRead ts q v r → MarkRead (codes "{") ts r s → Refused (fixed (piece_tokens begin)) ts s i → Refused (control_goals head begin) ts p i
no_begin head begin ts p q r s i v a b c x =
    stopped (before (tables_goals begin) (onward a)) (stopped (before (brace_goals begin) (onward b)) (stopped (before (body_goals begin) (onward c)) (refused_before body_end x)))

pub no_body : (head begin : Piece) (ts : List Kind) (p q r s t i : ℕ) (v : Vec WrittenTable Global) → PieceRead head ts p q → TablesRead ts q v r → MarkRead (codes "{") ts r s → PieceRead begin ts s t → Refused (stmts ∷ []) ts t i
    → Refused (control_goals head begin) ts p i
no_body head begin ts p q r s t i v a b c d x =
    stopped (before (tables_goals begin) (onward a)) (stopped (before (brace_goals begin) (onward b)) (stopped (before (body_goals begin) (onward c)) (stopped (before body_end (onward d)) (refused_before (the_mark (codes "}") ∷ []) x))))

pub no_close : (head begin : Piece) (ts : List Kind) (p q r s t u i : ℕ) (v : Vec WrittenTable Global) (w : Vec WrittenStmt Global) → PieceRead head ts p q → TablesRead ts q v r → MarkRead (codes "{") ts r s → PieceRead begin ts s t → BlockRead ts t w u
    → Refused (the_mark (codes "}") ∷ []) ts u i → Refused (control_goals head begin) ts p i
no_close head begin ts p q r s t u i v w a b c d e x =
    stopped (before (tables_goals begin) (onward a)) (stopped (before (brace_goals begin) (onward b)) (stopped (before (body_goals begin) (onward c)) (stopped (before body_end (onward d)) (stopped (before (the_mark (codes "}") ∷ []) (onward e)) x))))

pub control_read : (head begin : Piece) (ts : List Kind) (p q r s t u n : ℕ) (v : Vec WrittenTable Global) (w : Vec WrittenStmt Global) (k : WrittenControl) → PieceRead head ts p q → TablesRead ts q v r → MarkRead (codes "{") ts r s → PieceRead begin ts s t → BlockRead ts t w u
    → MarkRead (codes "}") ts u n → control_of k ≡ record { tables = map table_of v.items; body = body_of w.items } → Read (control_goals head begin) (control_tokens head begin) ts p k n
control_read head begin ts p q r s t u n v w k a b c d e f g =
    let i = a.after in
    let j = b.after in
    let l = c.after in
    let m = d.after in
    let x = e.after in
    let y = f.after in
    record {
      after = omega (arith, i, j, l, m, x, y);
      within = f.within;
      are = a.are ∙ ap (λ z. piece_tokens head ++ z) (b.are ∙ ap (tables_tokens v) (c.are ∙ ap (λ z. mark (codes "{") ∷ z) (d.are ∙ ap (λ z. piece_tokens begin ++ z) (e.are ∙ ap (block_ended w) f.are))))
          ∙ ap (λ z. piece_tokens head ++ control_tokens_of begin z (drop n ts)) (sym g);
      goes = λ hs. ap (λ z. stuck z (drop p ts)) (append_assoc (fixed (piece_tokens head)) (tables_goals begin) hs) ∙ a.goes (tables_goals begin ++ hs) ∙ b.goes (brace_goals begin ++ hs) ∙ c.goes (body_goals begin ++ hs)
          ∙ ap (λ z. stuck z (drop s ts)) (append_assoc (fixed (piece_tokens begin)) body_end hs) ∙ d.goes (body_end ++ hs) ∙ e.goes (the_mark (codes "}") ∷ hs) ∙ f.goes hs;
    }
  where
    control_tokens_of : Piece → ControlText → List Kind → List Kind
    control_tokens_of begin z ks = control_then (piece_text begin) z ks

-- ---- the end

pub no_end_piece : (ts : List Kind) (p i : ℕ) → Refused (fixed (piece_tokens piece.End)) ts p i → Refused ended_goals ts p i
no_end_piece ts p i r = refused_before (exactly finish ∷ []) r

pub end_read : (ts : List Kind) (p q : ℕ) (r : Result ℕ Stop) → PieceRead piece.End ts p q → Fixed (exactly finish ∷ []) (finish ∷ []) ts q r → EndAt ts p r
end_read ts p q (Ok next) a x = record {
  at = q;
  stands = x.are;
  are = a.are ∙ ap (λ z. piece_tokens piece.End ++ z) x.are;
  goes = ap (λ z. stuck z (drop p ts)) (sym (append-nil ended_goals)) ∙ (joined (λ (y : ⊤) ks. ended_tokens ks) tt (before (exactly finish ∷ []) (onward a)) (onward x) (λ ks. refl)).goes [];
}
end_read ts p q (Err (Unexpected i)) a x = stopped (before (exactly finish ∷ []) (onward a)) x
end_read ts p q (Err NoMemory) a x = tt
