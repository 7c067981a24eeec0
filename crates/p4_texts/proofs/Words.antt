-- The pieces of a text are its tokens.
use Rattle.std.specs.Prelude.{◌≡◌, ℕ, Bool, true, false, List, [], ◌∷◌, ◌++◌, flat_map, map, codes, refl}
use Rattle.std.proofs.Common.{ap, ◌∙◌, append-nil}
use Rattle.cocoon_num.specs.Tokens.{Kind, a_name, finish, mark, plain}
use Rattle.p4_ir.specs.P4Kinds.{Within, numbers_of}
use Rattle.p4_ir.specs.P4Tree.{P4Header}
use Rattle.p4_ir.specs.Program.{binary_of}
use Rattle.p4_ir.specs.P4Text.{architecture, binary_mark, said, unary_mark}
use Rattle.p4_texts.specs.KindFaults.{Piece, block_pieces, control_pieces, field_pieces, fixed, header_pieces, line_pieces, member_pieces, meta_pieces, pieces, stands_in, stmt_pieces, table_pieces}
use Rattle.p4_texts.specs.Meant.{field_meant, header_meant, number_in, program_of_text, table_meant}
use Rattle.p4_texts.specs.Written.{ExprText, w_lit, w_truth, w_meta, w_field, w_port, w_rid, w_unary, w_binary, w_slice, w_pick, StmtText, w_set_meta, w_set_field, w_apply, w_if, w_if_else, w_verdict, w_egress_port, w_group, w_return, BlockText, w_done, w_then, ControlText, FieldText, HeaderText, KeysText, no_keys, some_keys, MemberText, ProgramText, TableText, block_then, condition_then, control_then, deparser_head, deparser_then, each_then, egress_begins, egress_head, egress_then, emit_then, expr_then, extract_then, field_then, header_then, ingress_begins, ingress_head, ingress_then, key_then, keys_then, member_then, meta_then, parser_head, parser_then, rest_then, stmt_then, table_then, text_end, text_tokens, value_then}

-- the tokens of pieces, before those that follow
abbrev words : List Piece → List Kind → List Kind
words [] ks = ks
words (x ∷ xs) ks = x.tokens ++ words xs ks

words_append : (xs ys : List Piece) (ks : List Kind) → words (xs ++ ys) ks ≡ words xs (words ys ks)
words_append [] ys ks = refl
words_append (x ∷ xs) ys ks = ap (λ z. x.tokens ++ z) (words_append xs ys ks)

words_all : (xs : List Piece) → flat_map (λ (x : Piece). x.tokens) xs ≡ words xs []
words_all [] = refl
words_all (x ∷ xs) = ap (λ z. x.tokens ++ z) (words_all xs)

-- ---- phrases

expr_more : (e : ExprText) (ks ls : List Kind) → expr_then e ks ++ ls ≡ expr_then e (ks ++ ls)
expr_more (w_lit w n) ks ls = refl
expr_more (w_truth true) ks ls = refl
expr_more (w_truth false) ks ls = refl
expr_more (w_meta x) ks ls = refl
expr_more (w_field h f) ks ls = refl
expr_more w_port ks ls = refl
expr_more w_rid ks ls = refl
expr_more (w_unary op a) ks ls = ap (λ z. mark (codes "(") ∷ mark (unary_mark op) ∷ z) (expr_more a (mark (codes ")") ∷ ks) ls)
expr_more (w_binary op a b) ks ls =
    let m = mark (binary_mark (binary_of op)) in
    ap (λ z. mark (codes "(") ∷ z) (expr_more a (m ∷ expr_then b (mark (codes ")") ∷ ks)) ls ∙ ap (λ z. expr_then a (m ∷ z)) (expr_more b (mark (codes ")") ∷ ks) ls))
expr_more (w_slice a high low) ks ls = expr_more a (mark (codes "[") ∷ plain high ∷ mark (codes ":") ∷ plain low ∷ mark (codes "]") ∷ ks) ls
expr_more (w_pick c a b) ks ls =
    ap (λ z. mark (codes "(") ∷ z) (expr_more c (mark (codes "?") ∷ expr_then a (mark (codes ":") ∷ expr_then b (mark (codes ")") ∷ ks))) ls
    ∙ ap (λ z. expr_then c (mark (codes "?") ∷ z)) (expr_more a (mark (codes ":") ∷ expr_then b (mark (codes ")") ∷ ks)) ls
    ∙ ap (λ z. expr_then a (mark (codes ":") ∷ z)) (expr_more b (mark (codes ")") ∷ ks) ls)))

condition_more : (e : ExprText) (ks : List Kind) → condition_then e [] ++ ks ≡ condition_then e ks
condition_more e ks = ap (λ z. a_name (codes "if") ∷ mark (codes "(") ∷ z) (expr_more e (mark (codes ")") ∷ mark (codes "{") ∷ []) ks)

value_more : (e : ExprText) (ks : List Kind) → value_then e [] ++ ks ≡ value_then e ks
value_more e ks = ap (λ z. mark (codes "=") ∷ z) (expr_more e (mark (codes ";") ∷ []) ks)

each_more : {A : Type 0} (one : A → List Kind → List Kind) → ((x : A) (ks ls : List Kind) → one x ks ++ ls ≡ one x (ks ++ ls)) → (xs : List A) (ks ls : List Kind)
    → each_then one xs ks ++ ls ≡ each_then one xs (ks ++ ls)
each_more one h [] ks ls = refl
each_more one h (x ∷ xs) ks ls = h x (each_then one xs ks) ls ∙ ap (one x) (each_more one h xs ks ls)

keys_more : (k : KeysText) (ks ls : List Kind) → keys_then k ks ++ ls ≡ keys_then k (ks ++ ls)
keys_more no_keys ks ls = refl
keys_more (some_keys exact x xs) ks ls = ap (key_then exact x) (each_more (key_then exact) (λ y ms ns. refl) xs ks ls)

-- ---- statements

mutual
  stmt_words : (t : ProgramText) (c : Within) (s : StmtText) (ks : List Kind) → words (stmt_pieces t c s) ks ≡ stmt_then s ks
  stmt_words t c (w_set_meta x e) ks = ap (λ z. a_name (codes "m") ∷ mark (codes ".") ∷ a_name x ∷ z) (value_more e ks)
  stmt_words t c (w_set_field h f e) ks = ap (λ z. a_name (codes "h") ∷ mark (codes ".") ∷ a_name h ∷ mark (codes ".") ∷ a_name f ∷ z) (value_more e ks)
  stmt_words t c (w_apply x) ks = refl
  stmt_words t c (w_if e a) ks =
      ap (λ z. condition_then e [] ++ z) (words_append (block_pieces t c a) (fixed (mark (codes "}") ∷ []) ∷ []) ks ∙ block_words t c a (mark (codes "}") ∷ ks))
      ∙ condition_more e (block_then a (mark (codes "}") ∷ ks))
  stmt_words t c (w_if_else e a b) ks =
      let after : List Piece = block_pieces t c b ++ (fixed (mark (codes "}") ∷ []) ∷ []) in
      let between : List Piece = fixed (mark (codes "}") ∷ a_name (codes "else") ∷ mark (codes "{") ∷ []) ∷ after in
      let last : words after ks ≡ block_then b (mark (codes "}") ∷ ks) = words_append (block_pieces t c b) (fixed (mark (codes "}") ∷ []) ∷ []) ks ∙ block_words t c b (mark (codes "}") ∷ ks) in
      ap (λ z. condition_then e [] ++ z) (words_append (block_pieces t c a) between ks
      ∙ ap (λ z. words (block_pieces t c a) (mark (codes "}") ∷ a_name (codes "else") ∷ mark (codes "{") ∷ z)) last
      ∙ block_words t c a (mark (codes "}") ∷ a_name (codes "else") ∷ mark (codes "{") ∷ block_then b (mark (codes "}") ∷ ks)))
      ∙ condition_more e (block_then a (mark (codes "}") ∷ a_name (codes "else") ∷ mark (codes "{") ∷ block_then b (mark (codes "}") ∷ ks)))
  stmt_words t c (w_verdict w n) ks = refl
  stmt_words t c (w_egress_port e) ks = ap (λ z. a_name (codes "egress_port") ∷ z) (value_more e ks)
  stmt_words t c (w_group e) ks = ap (λ z. a_name (codes "group") ∷ z) (value_more e ks)
  stmt_words t c w_return ks = refl

  block_words : (t : ProgramText) (c : Within) (b : BlockText) (ks : List Kind) → words (block_pieces t c b) ks ≡ block_then b ks
  block_words t c w_done ks = refl
  block_words t c (w_then s b) ks = words_append (stmt_pieces t c s) (block_pieces t c b) ks ∙ ap (words (stmt_pieces t c s)) (block_words t c b ks) ∙ stmt_words t c s (block_then b ks)

-- ---- declarations

field_words : (before : List (List ℕ)) (fs : List FieldText) (ks : List Kind) → words (field_pieces before fs) ks ≡ each_then field_then fs ks
field_words before [] ks = refl
field_words before (f ∷ fs) ks = ap (λ z. field_then f z) (field_words (before ++ ((field_meant f).name ∷ [])) fs ks)

meta_words : (before : List (List ℕ)) (fs : List FieldText) (ks : List Kind) → words (meta_pieces before fs) ks ≡ each_then field_then fs ks
meta_words before [] ks = refl
meta_words before (f ∷ fs) ks = ap (λ z. field_then f z) (meta_words (before ++ (f.name ∷ [])) fs ks)

header_words : (before : List (List ℕ)) (hs : List HeaderText) (ks : List Kind) → words (header_pieces before hs) ks ≡ each_then header_then hs ks
header_words before [] ks = refl
header_words before (h ∷ hs) ks =
    let later : List Piece = header_pieces (before ++ ((header_meant h).name ∷ [])) hs in
    ap (λ z. a_name (codes "header") ∷ a_name h.name ∷ mark (codes "{") ∷ z) (words_append (field_pieces [] h.fields) (fixed (mark (codes "}") ∷ []) ∷ later) ks
    ∙ field_words [] h.fields (mark (codes "}") ∷ words later ks)
    ∙ ap (λ z. each_then field_then h.fields (mark (codes "}") ∷ z)) (header_words (before ++ ((header_meant h).name ∷ [])) hs ks))

member_words : (hs : List P4Header) (ms : List MemberText) (ks : List Kind) → words (member_pieces hs ms) ks ≡ each_then member_then ms ks
member_words hs [] ks = refl
member_words [] (m ∷ ms) ks = ap (member_then m) (member_words [] ms ks)
member_words (h ∷ hs) (m ∷ ms) ks = ap (member_then m) (member_words hs ms ks)

line_words : (line : List ℕ → List Kind → List Kind) → ((x : List ℕ) (ks : List Kind) → line x [] ++ ks ≡ line x ks) → (hs : List P4Header) (xs : List (List ℕ)) (ks : List Kind)
    → words (line_pieces line hs xs) ks ≡ each_then line xs ks
line_words line e hs [] ks = refl
line_words line e [] (x ∷ xs) ks = e x (words (line_pieces line [] xs) ks) ∙ ap (line x) (line_words line e [] xs ks)
line_words line e (h ∷ hs) (x ∷ xs) ks = e x (words (line_pieces line hs xs) ks) ∙ ap (line x) (line_words line e hs xs ks)

abbrev after_keys : TableText → List Kind → List Kind
after_keys t ks =
    mark (codes "}") ∷ a_name (codes "actions") ∷ mark (codes "=") ∷ mark (codes "{") ∷ a_name t.actions ∷ mark (codes ";") ∷ mark (codes "}")
    ∷ a_name (codes "default_action") ∷ mark (codes "=") ∷ a_name t.default_action ∷ mark (codes "(") ∷ Kind.literal t.default_width t.default ∷ mark (codes ")") ∷ mark (codes ";") ∷ mark (codes "}") ∷ ks

table_words : (t : ProgramText) (actions : List (List ℕ)) (numbers : List ℕ) (ts : List TableText) (ks : List Kind) → words (table_pieces t actions numbers ts) ks ≡ each_then table_then ts ks
table_words t actions numbers [] ks = refl
table_words t actions numbers (k ∷ ts) ks =
    let later : List Kind = words (table_pieces t (actions ++ (k.action ∷ [])) (numbers ++ (number_in k.action ∷ [])) ts) ks in
    ap (λ z. a_name (codes "action") ∷ a_name k.action ∷ mark (codes "(") ∷ a_name (codes "bit") ∷ mark (codes "<") ∷ plain k.width ∷ mark (codes ">") ∷ a_name (codes "v") ∷ mark (codes ")")
    ∷ mark (codes "{") ∷ a_name (codes "m") ∷ mark (codes ".") ∷ a_name k.result ∷ mark (codes "=") ∷ a_name (codes "v") ∷ mark (codes ";") ∷ mark (codes "}")
    ∷ a_name (codes "table") ∷ a_name k.table ∷ mark (codes "{") ∷ a_name (codes "key") ∷ mark (codes "=") ∷ mark (codes "{") ∷ z) (keys_more k.keys (after_keys k []) later)
    ∙ ap (table_then k) (table_words t (actions ++ (k.action ∷ [])) (numbers ++ (number_in k.action ∷ [])) ts ks)

-- ---- a whole text

joined : (xs ys : List Piece) (f : List Kind → List Kind) → ((ks : List Kind) → words xs ks ≡ f ks) → (ks rest : List Kind) → words ys ks ≡ rest → words (xs ++ ys) ks ≡ f rest
joined xs ys f h ks rest e = words_append xs ys ks ∙ h (words ys ks) ∙ ap f e

control_words : (t : ProgramText) (before : List TableText) (in_ingress : Bool) (begin : List ℕ) (c : ControlText) (ks : List Kind) → words (control_pieces t before in_ingress begin c) ks ≡ control_then begin c ks
control_words t before in_ingress begin c ks =
    let tables : List Piece = table_pieces t (map (λ (k : TableText). k.action) before) (numbers_of (map (table_meant t) before)) c.tables in
    let body : List Piece = block_pieces t (stands_in t in_ingress c) c.body in
    let close : List Piece = fixed (mark (codes "}") ∷ mark (codes "}") ∷ []) ∷ [] in
    joined tables (fixed (a_name (codes "apply") ∷ mark (codes "{") ∷ said begin) ∷ (body ++ close)) (each_then table_then c.tables) (table_words t (map (λ (k : TableText). k.action) before) (numbers_of (map (table_meant t) before)) c.tables) ks
    (a_name (codes "apply") ∷ mark (codes "{") ∷ (said begin ++ block_then c.body (mark (codes "}") ∷ mark (codes "}") ∷ ks)))
    (ap (λ z. a_name (codes "apply") ∷ mark (codes "{") ∷ (said begin ++ z)) (joined body close (block_then c.body) (block_words t (stands_in t in_ingress c) c.body) ks (mark (codes "}") ∷ mark (codes "}") ∷ ks) refl))

-- what follows each part
abbrev pub end_pieces : List Piece
end_pieces = fixed (said text_end ++ (finish ∷ [])) ∷ []

abbrev pub deparser_pieces : ProgramText → List Piece
deparser_pieces t = line_pieces emit_then (program_of_text t).headers t.rest.emits ++ end_pieces

abbrev pub egress_pieces : ProgramText → List Piece
egress_pieces t = control_pieces t t.rest.ingress.tables false egress_begins t.rest.egress ++ (fixed (said deparser_head) ∷ deparser_pieces t)

abbrev pub ingress_pieces : ProgramText → List Piece
ingress_pieces t = control_pieces t [] true ingress_begins t.rest.ingress ++ (fixed (said egress_head) ∷ egress_pieces t)

abbrev pub parser_pieces : ProgramText → List Piece
parser_pieces t = line_pieces extract_then (program_of_text t).headers t.rest.extracts ++ (fixed (said ingress_head) ∷ ingress_pieces t)

abbrev pub struct_pieces : ProgramText → List Piece
struct_pieces t = meta_pieces [] t.rest.meta ++ (fixed (mark (codes "}") ∷ said parser_head) ∷ parser_pieces t)

abbrev pub rest_pieces : ProgramText → List Piece
rest_pieces t = member_pieces (program_of_text t).headers t.rest.members ++ (fixed (said (codes "} struct Meta {")) ∷ struct_pieces t)

abbrev deparser_lines : ProgramText → List Kind
deparser_lines t = each_then emit_then t.rest.emits (said text_end ++ (finish ∷ []))

pub text_words : (t : ProgramText) → flat_map (λ (x : Piece). x.tokens) (pieces t) ≡ text_tokens t
text_words t =
    let deparser : words (deparser_pieces t) [] ≡ deparser_lines t =
    joined (line_pieces emit_then (program_of_text t).headers t.rest.emits) end_pieces (each_then emit_then t.rest.emits) (line_words emit_then (λ x ks. refl) (program_of_text t).headers t.rest.emits) [] (said text_end ++ (finish ∷ [])) (append-nil (said text_end ++ (finish ∷ []))) in
    let egress : words (egress_pieces t) [] ≡ control_then egress_begins t.rest.egress (deparser_then t.rest []) =
    joined (control_pieces t t.rest.ingress.tables false egress_begins t.rest.egress) (fixed (said deparser_head) ∷ deparser_pieces t) (control_then egress_begins t.rest.egress) (control_words t t.rest.ingress.tables false egress_begins t.rest.egress) [] (deparser_then t.rest []) (ap (λ z. said deparser_head ++ z) deparser) in
    let ingress : words (ingress_pieces t) [] ≡ control_then ingress_begins t.rest.ingress (egress_then t.rest []) =
    joined (control_pieces t [] true ingress_begins t.rest.ingress) (fixed (said egress_head) ∷ egress_pieces t) (control_then ingress_begins t.rest.ingress) (control_words t [] true ingress_begins t.rest.ingress) [] (egress_then t.rest []) (ap (λ z. said egress_head ++ z) egress) in
    let parser : words (parser_pieces t) [] ≡ each_then extract_then t.rest.extracts (ingress_then t.rest []) =
    joined (line_pieces extract_then (program_of_text t).headers t.rest.extracts) (fixed (said ingress_head) ∷ ingress_pieces t) (each_then extract_then t.rest.extracts) (line_words extract_then (λ x ks. refl) (program_of_text t).headers t.rest.extracts) [] (ingress_then t.rest []) (ap (λ z. said ingress_head ++ z) ingress) in
    let struct : words (struct_pieces t) [] ≡ each_then field_then t.rest.meta (mark (codes "}") ∷ parser_then t.rest []) =
    joined (meta_pieces [] t.rest.meta) (fixed (mark (codes "}") ∷ said parser_head) ∷ parser_pieces t) (each_then field_then t.rest.meta) (meta_words [] t.rest.meta) [] (mark (codes "}") ∷ parser_then t.rest []) (ap (λ z. mark (codes "}") ∷ (said parser_head ++ z)) parser) in
    let members : words (rest_pieces t) [] ≡ each_then member_then t.rest.members (meta_then t.rest []) =
    joined (member_pieces (program_of_text t).headers t.rest.members) (fixed (said (codes "} struct Meta {")) ∷ struct_pieces t) (each_then member_then t.rest.members) (member_words (program_of_text t).headers t.rest.members) [] (meta_then t.rest []) (ap (λ z. said (codes "} struct Meta {") ++ z) struct) in
    let headers : words (header_pieces [] t.headers ++ (fixed (said (codes "struct Headers {")) ∷ rest_pieces t)) [] ≡ each_then header_then t.headers (rest_then t.rest []) =
    joined (header_pieces [] t.headers) (fixed (said (codes "struct Headers {")) ∷ rest_pieces t) (each_then header_then t.headers) (header_words [] t.headers) [] (rest_then t.rest []) (ap (λ z. said (codes "struct Headers {") ++ z) members) in
    words_all (pieces t) ∙ ap (λ z. architecture ++ z) headers
