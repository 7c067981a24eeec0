-- No piece of a text is without a token, so a fault is at a token.
use Rattle.std.specs.Prelude.{◌≡◌, ℕ, ◌+◌, ◌<◌, ◌≤◌, ◌&&◌, Bool, true, false, nat_lt, List, [], ◌∷◌, ◌++◌, flat_map, length, map, if◌then◌else◌, refl}
use Rattle.std.proofs.Common.{ap, arith}
use Rattle.std.proofs.lemmas.Bool.{and_from, lt-ltb}
use Rattle.std.proofs.lemmas.List.{length-append}
use Rattle.cocoon_num.specs.Lists.{each}
use Rattle.cocoon_num.specs.Tokens.{Kind}
use Rattle.p4_ir.specs.P4Kinds.{Within, numbers_of}
use Rattle.p4_ir.specs.P4Tree.{P4Header}
use Rattle.p4_texts.specs.KindFaults.{Piece, block_pieces, control_pieces, faults_from, field_pieces, header_pieces, kind_faults, line_pieces, member_pieces, meta_pieces, pieces, stands_in, stmt_pieces, table_pieces}
use Rattle.p4_texts.specs.Meant.{field_meant, header_meant, number_in, program_of_text, table_meant}
use Rattle.p4_texts.proofs.Words.{deparser_pieces, egress_pieces, end_pieces, ingress_pieces, parser_pieces, rest_pieces, struct_pieces, text_words}
use Rattle.p4_texts.specs.Written.{StmtText, w_set_meta, w_set_field, w_apply, w_if, w_if_else, w_verdict, w_egress_port, w_group, w_return, BlockText, w_done, w_then, ControlText, FieldText, HeaderText, MemberText, ProgramText, TableText, egress_begins, emit_then, extract_then, ingress_begins, text_tokens}

abbrev is_said : List Kind → Bool
is_said [] = false
is_said (k ∷ ks) = true

abbrev full : List Piece → Bool
full xs = each (λ (x : Piece). is_said x.tokens) xs

full_both : (xs ys : List Piece) → full xs ≡ true → full ys ≡ true → full (xs ++ ys) ≡ true
full_both [] ys h k = k
full_both (x ∷ xs) ys h k = by (is_said x.tokens) h (λ e. full_both xs ys e k)
  where
    by : (b : Bool) → (b && full xs) ≡ true → (full xs ≡ true → full (xs ++ ys) ≡ true) → (b && full (xs ++ ys)) ≡ true
    by true h k = k h
    by false h k = absurd cc

-- ---- token indices

abbrev count : List Piece → ℕ
count xs = length (flat_map (λ (x : Piece). x.tokens) xs)

some_said : (ks : List Kind) → is_said ks ≡ true → 0 < length ks
some_said [] h = absurd cc
some_said (k ∷ ks) h = omega arith

both_true : (a b : Bool) → (a && b) ≡ true → (a ≡ true) × (b ≡ true)
both_true true b h = (refl, h)
both_true false b h = absurd cc

chosen : (b : Bool) (f : ℕ → Bool) (i : ℕ) (r : List ℕ) → f i ≡ true → each f r ≡ true → each f (if b then r else i ∷ r) ≡ true
chosen true f i r h k = k
chosen false f i r h k = and_from (f i) (each f r) h k

below : (at n : ℕ) (xs : List Piece) → full xs ≡ true → at + count xs ≤ n → each (λ i. nat_lt i n) (faults_from at xs) ≡ true
below at n [] h l = refl
below at n (x ∷ xs) h l =
    let p = both_true (is_said x.tokens) (full xs) h in
    let some : 0 < length x.tokens = some_said x.tokens p.0 in
    let sum : count (x ∷ xs) ≡ length x.tokens + count xs = length-append x.tokens (flat_map (λ (x : Piece). x.tokens) xs) in
    chosen x.keeps (λ i. nat_lt i n) at (faults_from (at + length x.tokens) xs) (lt-ltb at n (omega (arith, some, sum, l))) (below (at + length x.tokens) n xs p.1 (omega (arith, sum, l)))

-- ---- pieces

field_full : (before : List (List ℕ)) (fs : List FieldText) → full (field_pieces before fs) ≡ true
field_full before [] = refl
field_full before (f ∷ fs) = field_full (before ++ ((field_meant f).name ∷ [])) fs

meta_full : (before : List (List ℕ)) (fs : List FieldText) → full (meta_pieces before fs) ≡ true
meta_full before [] = refl
meta_full before (f ∷ fs) = meta_full (before ++ (f.name ∷ [])) fs

header_full : (before : List (List ℕ)) (hs : List HeaderText) → full (header_pieces before hs) ≡ true
header_full before [] = refl
header_full before (h ∷ hs) = full_both (field_pieces [] h.fields) (_ ∷ header_pieces (before ++ ((header_meant h).name ∷ [])) hs) (field_full [] h.fields) (header_full (before ++ ((header_meant h).name ∷ [])) hs)

member_full : (hs : List P4Header) (ms : List MemberText) → full (member_pieces hs ms) ≡ true
member_full hs [] = refl
member_full [] (m ∷ ms) = member_full [] ms
member_full (h ∷ hs) (m ∷ ms) = member_full hs ms

extract_full : (hs : List P4Header) (xs : List (List ℕ)) → full (line_pieces extract_then hs xs) ≡ true
extract_full hs [] = refl
extract_full [] (x ∷ xs) = extract_full [] xs
extract_full (h ∷ hs) (x ∷ xs) = extract_full hs xs

emit_full : (hs : List P4Header) (xs : List (List ℕ)) → full (line_pieces emit_then hs xs) ≡ true
emit_full hs [] = refl
emit_full [] (x ∷ xs) = emit_full [] xs
emit_full (h ∷ hs) (x ∷ xs) = emit_full hs xs

table_full : (t : ProgramText) (actions : List (List ℕ)) (numbers : List ℕ) (ts : List TableText) → full (table_pieces t actions numbers ts) ≡ true
table_full t actions numbers [] = refl
table_full t actions numbers (k ∷ ts) = table_full t (actions ++ (k.action ∷ [])) (numbers ++ (number_in k.action ∷ [])) ts

mutual
  stmt_full : (t : ProgramText) (c : Within) (s : StmtText) → full (stmt_pieces t c s) ≡ true
  stmt_full t c (w_set_meta x e) = refl
  stmt_full t c (w_set_field h f e) = refl
  stmt_full t c (w_apply x) = refl
  stmt_full t c (w_if e a) = full_both (block_pieces t c a) (_ ∷ []) (block_full t c a) refl
  stmt_full t c (w_if_else e a b) = full_both (block_pieces t c a) (_ ∷ (block_pieces t c b ++ (_ ∷ []))) (block_full t c a) (full_both (block_pieces t c b) (_ ∷ []) (block_full t c b) refl)
  stmt_full t c (w_verdict w n) = refl
  stmt_full t c (w_egress_port e) = refl
  stmt_full t c (w_group e) = refl
  stmt_full t c w_return = refl

  block_full : (t : ProgramText) (c : Within) (b : BlockText) → full (block_pieces t c b) ≡ true
  block_full t c w_done = refl
  block_full t c (w_then s b) = full_both (stmt_pieces t c s) (block_pieces t c b) (stmt_full t c s) (block_full t c b)

control_full : (t : ProgramText) (before : List TableText) (in_ingress : Bool) (begin : List ℕ) (c : ControlText) → full (control_pieces t before in_ingress begin c) ≡ true
control_full t before in_ingress begin c =
    full_both (table_pieces t (map (λ (k : TableText). k.action) before) (numbers_of (map (table_meant t) before)) c.tables) (_ ∷ (block_pieces t (stands_in t in_ingress c) c.body ++ (_ ∷ [])))
    (table_full t (map (λ (k : TableText). k.action) before) (numbers_of (map (table_meant t) before)) c.tables)
    (full_both (block_pieces t (stands_in t in_ingress c) c.body) (_ ∷ []) (block_full t (stands_in t in_ingress c) c.body) refl)

text_full : (t : ProgramText) → full (pieces t) ≡ true
text_full t =
    full_both (header_pieces [] t.headers) (_ ∷ rest_pieces t) (header_full [] t.headers)
    (full_both (member_pieces (program_of_text t).headers t.rest.members) (_ ∷ struct_pieces t) (member_full (program_of_text t).headers t.rest.members)
    (full_both (meta_pieces [] t.rest.meta) (_ ∷ parser_pieces t) (meta_full [] t.rest.meta)
    (full_both (line_pieces extract_then (program_of_text t).headers t.rest.extracts) (_ ∷ ingress_pieces t) (extract_full (program_of_text t).headers t.rest.extracts)
    (full_both (control_pieces t [] true ingress_begins t.rest.ingress) (_ ∷ egress_pieces t) (control_full t [] true ingress_begins t.rest.ingress)
    (full_both (control_pieces t t.rest.ingress.tables false egress_begins t.rest.egress) (_ ∷ deparser_pieces t) (control_full t t.rest.ingress.tables false egress_begins t.rest.egress)
    (full_both (line_pieces emit_then (program_of_text t).headers t.rest.emits) end_pieces (emit_full (program_of_text t).headers t.rest.emits) refl))))))

pub faults_within : (t : ProgramText) → each (λ i. nat_lt i (length (text_tokens t))) (kind_faults t) ≡ true
faults_within t =
    let same : count (pieces t) ≡ length (text_tokens t) = ap length (text_words t) in
    below 0 (length (text_tokens t)) (pieces t) (text_full t) (omega (arith, same))
