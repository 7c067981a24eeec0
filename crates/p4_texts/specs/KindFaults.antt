-- Which declarations and statements of a P4 text break a kind rule, in the order of the text. The laws of `program_laws` cite
-- it. The text is cut into pieces: one begins at each declaration and at each statement, and the others hold what is
-- fixed. A piece that breaks a rule is a fault at its first token. It follows "Kind rules" in docs/FORMATS.md, and the
-- rules of p4_ir where names are known; they are P4-16's, narrowed to the subset. Optional headers, tags and versions of
-- rows are absent.
use Rattle.std.specs.Prelude.{ℕ, suc, ◌+◌, ◌%◌, ◌==◌, ◌&&◌, Bool, true, false, not, nat_le, nat_lt, List, [], ◌∷◌, ◌++◌, length, drop, map, if◌then◌else◌, codes, decimal}
use Rattle.cocoon_num.specs.Lists.{is_one_of}
use Rattle.cocoon_num.specs.Names.{same_name}
use Rattle.cocoon_num.specs.Packets.{total}
use Rattle.cocoon_num.specs.Sorts.{has_sort, is_declared_width, truth_sort}
use Rattle.cocoon_num.specs.Tokens.{Kind, a_name, finish, is_run, mark, plain}
use Rattle.p4_ir.specs.P4Kinds.{Within, is_empty, is_meta_name, numbers_of, p4_sort, stmt_fits, table_fits}
use Rattle.p4_ir.specs.P4Text.{architecture, said}
use Rattle.p4_ir.specs.P4Tree.{P4Field, P4Header, field_widths, meta_width, verdict}
use Rattle.p4_texts.specs.Meant.{block_meant, expr_meant, field_meant, header_meant, meta_meant, number_in, program_of_text, stmt_meant, table_meant}
use Rattle.p4_texts.specs.Written.{StmtText, w_apply, w_if, w_if_else, w_verdict, BlockText, w_done, w_then, ControlText, FieldText, HeaderText, MemberText, ProgramText, TableText, condition_then, deparser_head, egress_begins, egress_head, emit_then, extract_then, field_then, ingress_begins, ingress_head, member_then, parser_head, stmt_then, table_then, text_end}

pub record Piece : Type 0 where
  pub tokens : List Kind
  pub keeps : Bool

abbrev pub fixed : List Kind → Piece
fixed ks = record { tokens = ks; keeps = true }

-- ---- declarations, after those with the names before, which lack what they begin with

-- the name of a field is new in its header, begins with `f_`, and its width is one of a field
abbrev pub field_keeps : List (List ℕ) → P4Field → Bool
field_keeps before f = is_run f.name && not (is_one_of before f.name) && is_declared_width f.width

abbrev pub field_pieces : List (List ℕ) → List FieldText → List Piece
field_pieces before [] = []
field_pieces before (f ∷ fs) =
    record { tokens = field_then f []; keeps = field_keeps before (field_meant f) } ∷ field_pieces (before ++ ((field_meant f).name ∷ [])) fs

abbrev pub meta_keeps : List (List ℕ) → P4Field → Bool
meta_keeps before f = is_meta_name f.name && not (is_one_of before f.name) && is_declared_width f.width

abbrev pub meta_pieces : List (List ℕ) → List FieldText → List Piece
meta_pieces before [] = []
meta_pieces before (f ∷ fs) =
    record { tokens = field_then f []; keeps = meta_keeps before (meta_meant f) } ∷ meta_pieces (before ++ (f.name ∷ [])) fs

-- the name of a header is new and begins with `ht_`, and its fields are whole bytes
abbrev pub header_keeps : List (List ℕ) → P4Header → Bool
header_keeps before h = is_run h.name && not (is_one_of before h.name) && (total (field_widths h.fields) % 8 == 0)

abbrev pub header_pieces : List (List ℕ) → List HeaderText → List Piece
header_pieces before [] = []
header_pieces before (h ∷ hs) =
    record { tokens = a_name (codes "header") ∷ a_name h.name ∷ mark (codes "{") ∷ []; keeps = header_keeps before (header_meant h) }
    ∷ (field_pieces [] h.fields ++ (fixed (mark (codes "}") ∷ []) ∷ header_pieces (before ++ ((header_meant h).name ∷ [])) hs))

-- ---- lines that name the headers, each that of its place

abbrev pub member_keeps : P4Header → MemberText → Bool
member_keeps h m = same_name m.header (codes "ht_" ++ h.name) && same_name m.name (codes "h_" ++ h.name)

abbrev pub member_pieces : List P4Header → List MemberText → List Piece
member_pieces hs [] = []
member_pieces [] (m ∷ ms) = record { tokens = member_then m []; keeps = false } ∷ member_pieces [] ms
member_pieces (h ∷ hs) (m ∷ ms) = record { tokens = member_then m []; keeps = member_keeps h m } ∷ member_pieces hs ms

abbrev pub line_pieces : (List ℕ → List Kind → List Kind) → List P4Header → List (List ℕ) → List Piece
line_pieces line hs [] = []
line_pieces line [] (x ∷ xs) = record { tokens = line x []; keeps = false } ∷ line_pieces line [] xs
line_pieces line (h ∷ hs) (x ∷ xs) = record { tokens = line x []; keeps = same_name x (codes "h_" ++ h.name) } ∷ line_pieces line hs xs

-- ---- tables, after those of both controls that are declared before

-- the least number that may come after these
abbrev pub least_after : List ℕ → ℕ
least_after [] = 0
least_after (n ∷ []) = suc n
least_after (m ∷ n ∷ ns) = least_after (n ∷ ns)

-- the action is `a` with a number and is new, and its parameter has the width of its result
abbrev pub action_keeps : ProgramText → List (List ℕ) → TableText → Bool
action_keeps t before k =
    same_name k.action (codes "a" ++ decimal (number_in k.action))
    && not (is_one_of before k.action)
    && nat_lt (table_meant t k).result (length t.rest.meta)
    && (k.width == meta_width (program_of_text t) (table_meant t k).result)

-- the table is `t` with that number, which ascends; it fits, and its action and default are those of its own action
abbrev pub table_keeps : ProgramText → List ℕ → TableText → Bool
table_keeps t before k =
    same_name k.table (codes "t" ++ decimal (number_in k.action))
    && nat_le (least_after before) (number_in k.action)
    && table_fits (program_of_text t) (table_meant t k)
    && same_name k.actions k.action && same_name k.default_action k.action
    && (k.default_width == k.width) && (k.default == 0)

-- action NAME(bit<W> v) { m.NAME = v; }
abbrev pub action_tokens : TableText → List Kind
action_tokens k =
    a_name (codes "action") ∷ a_name k.action ∷ mark (codes "(") ∷ a_name (codes "bit") ∷ mark (codes "<") ∷ plain k.width ∷ mark (codes ">") ∷ a_name (codes "v") ∷ mark (codes ")")
    ∷ mark (codes "{") ∷ a_name (codes "m") ∷ mark (codes ".") ∷ a_name k.result ∷ mark (codes "=") ∷ a_name (codes "v") ∷ mark (codes ";") ∷ mark (codes "}") ∷ []

-- what follows the action
abbrev pub own_table_tokens : TableText → List Kind
own_table_tokens k = drop (length (action_tokens k)) (table_then k [])

abbrev pub table_pieces : ProgramText → (actions : List (List ℕ)) → (numbers : List ℕ) → List TableText → List Piece
table_pieces t actions numbers [] = []
table_pieces t actions numbers (k ∷ ks) =
    record { tokens = action_tokens k; keeps = action_keeps t actions k }
    ∷ record { tokens = own_table_tokens k; keeps = table_keeps t numbers k }
    ∷ table_pieces t (actions ++ (k.action ∷ [])) (numbers ++ (number_in k.action ∷ [])) ks

-- ---- statements

-- the rules of a statement itself, without those of the statements that stand in it
abbrev pub stmt_keeps : ProgramText → Within → StmtText → Bool
stmt_keeps t c (w_apply x) = stmt_fits c (stmt_meant t (w_apply x)) && same_name x (codes "t" ++ decimal (number_in x))
stmt_keeps t c (w_if e a) = has_sort truth_sort (p4_sort c (expr_meant t e))
stmt_keeps t c (w_if_else e a b) = has_sort truth_sort (p4_sort c (expr_meant t e)) && not (is_empty (block_meant t b))
stmt_keeps t c (w_verdict w n) = (w == 8) && stmt_fits c (verdict n)
stmt_keeps t c s = stmt_fits c (stmt_meant t s)

abbrev mutual
  pub stmt_pieces : ProgramText → Within → StmtText → List Piece
  stmt_pieces t c (w_if e a) =
      record { tokens = condition_then e []; keeps = stmt_keeps t c (w_if e a) } ∷ (block_pieces t c a ++ (fixed (mark (codes "}") ∷ []) ∷ []))
  stmt_pieces t c (w_if_else e a b) =
      record { tokens = condition_then e []; keeps = stmt_keeps t c (w_if_else e a b) }
      ∷ (block_pieces t c a ++ (fixed (mark (codes "}") ∷ a_name (codes "else") ∷ mark (codes "{") ∷ []) ∷ (block_pieces t c b ++ (fixed (mark (codes "}") ∷ []) ∷ []))))
  stmt_pieces t c s = record { tokens = stmt_then s []; keeps = stmt_keeps t c s } ∷ []

  pub block_pieces : ProgramText → Within → BlockText → List Piece
  block_pieces t c w_done = []
  block_pieces t c (w_then s b) = stmt_pieces t c s ++ block_pieces t c b

-- ---- a whole text

-- where a statement of this control stands
abbrev pub stands_in : ProgramText → (in_ingress : Bool) → ControlText → Within
stands_in t in_ingress c = record { program = program_of_text t; in_ingress = in_ingress; tables = numbers_of (map (table_meant t) c.tables) }

-- a control, after the tables before it
abbrev pub control_pieces : ProgramText → List TableText → (in_ingress : Bool) → List ℕ → ControlText → List Piece
control_pieces t before in_ingress begin c =
    table_pieces t (map (λ (k : TableText). k.action) before) (numbers_of (map (table_meant t) before)) c.tables
    ++ (fixed (a_name (codes "apply") ∷ mark (codes "{") ∷ said begin) ∷ (block_pieces t (stands_in t in_ingress c) c.body ++ (fixed (mark (codes "}") ∷ mark (codes "}") ∷ []) ∷ [])))

abbrev pub pieces : ProgramText → List Piece
pieces t =
    fixed architecture ∷ (header_pieces [] t.headers
    ++ (fixed (said (codes "struct Headers {")) ∷ (member_pieces (program_of_text t).headers t.rest.members
    ++ (fixed (said (codes "} struct Meta {")) ∷ (meta_pieces [] t.rest.meta
    ++ (fixed (mark (codes "}") ∷ said parser_head) ∷ (line_pieces extract_then (program_of_text t).headers t.rest.extracts
    ++ (fixed (said ingress_head) ∷ (control_pieces t [] true ingress_begins t.rest.ingress
    ++ (fixed (said egress_head) ∷ (control_pieces t t.rest.ingress.tables false egress_begins t.rest.egress
    ++ (fixed (said deparser_head) ∷ (line_pieces emit_then (program_of_text t).headers t.rest.emits
    ++ (fixed (said text_end ++ (finish ∷ [])) ∷ []))))))))))))))

-- where the pieces that break a rule begin, if the first is at this token
abbrev pub faults_from : ℕ → List Piece → List ℕ
faults_from at [] = []
faults_from at (x ∷ xs) = if x.keeps then faults_from (at + length x.tokens) xs else at ∷ faults_from (at + length x.tokens) xs

-- the first tokens of the declarations and statements that break a kind rule, in the order of the text
abbrev pub kind_faults : ProgramText → List ℕ
kind_faults t = faults_from 0 (pieces t)
