-- Cited by the laws of `reader_laws`, and by private clauses of p4_parse.
-- A plain reader of tokens from left to right, with what is still to come. Each token is taken by the first of the
-- goals, which leaves goals of its own.
use Rattle.std.specs.Prelude.{ℕ, zero, suc, ◌==◌, ◌&&◌, Bool, true, false, List, [], ◌∷◌, ◌++◌, map, if◌then◌else◌, Option, Some, None, codes}
use Rattle.cocoon_num.specs.Names.{same_name}
use Rattle.cocoon_num.specs.Tokens.{Kind, a_name, keyword, plain, literal, mark, finish}
use Rattle.p4_ir.specs.P4Text.{architecture, match_kind, said}
use Rattle.p4_texts.specs.Written.{deparser_head, egress_begins, egress_head, ingress_begins, ingress_head, parser_head, text_end}

-- what follows an expression: `;`, `)`, an operator with its right side and `)`, or `:`
pub data Follow : Type 0 where
  to_semicolon to_close to_operator to_colon : Follow

pub data Goal : Type 0 where
  exactly : (k : Kind) → Goal
  any_name any_plain any_literal : Goal
  -- an expression and what follows it, or its slices and what follows
  an_expr after_expr : (f : Follow) → Goal
  -- what follows `(` of an expression
  opened : Goal
  -- statements up to and with `}`; the same where `else` may come first; and after `else`
  stmts stmts_or_else after_else : Goal
  -- the same after a name, after a name and a dot, and after `m.` or `h.` and a name
  after_first dotted after_meta after_header : (x : List ℕ) → Goal
  -- fields up to and with `}`
  fields : Goal
  -- headers after so many, and all that follows
  headers : (n : ℕ) → Goal
  -- tables up to and with `apply`
  tables : Goal
  -- keys up to and with `}`: the first, its kind, and the others
  first_key first_match : Goal
  keys : (exact : Bool) → Goal

abbrev pub Goals : Type 0
Goals = List Goal

-- ---- what a token leaves

abbrev pub Leaves : Type 0
Leaves = Option Goals

-- by the first of these texts that is this one
pub record Way : Type 0 where
  pub text : List ℕ
  pub leaves : Goals

abbrev pub way : List ℕ → Goals → Way
way text leaves = record { text = text; leaves = leaves }

abbrev pub by_text : List Way → List ℕ → Leaves
by_text [] x = None
by_text (w ∷ ws) x = if same_name w.text x then Some w.leaves else by_text ws x

abbrev pub same_token : Kind → Kind → Bool
same_token (a_name x) (a_name y) = same_name x y
same_token (keyword x) (keyword y) = same_name x y
same_token (plain n) (plain m) = n == m
same_token (literal w n) (literal v m) = (w == v) && (n == m)
same_token (mark x) (mark y) = same_name x y
same_token finish finish = true
same_token _ _ = false

abbrev pub the_mark : List ℕ → Goal
the_mark m = exactly (mark m)

abbrev pub the_word : List ℕ → Goal
the_word x = exactly (a_name x)

abbrev pub fixed : List Kind → Goals
fixed ks = map exactly ks

-- ---- expressions

abbrev pub binary_ways : List Way
binary_ways =
    way (codes "+") (an_expr to_close ∷ []) ∷ way (codes "-") (an_expr to_close ∷ []) ∷ way (codes "&") (an_expr to_close ∷ []) ∷ way (codes "|") (an_expr to_close ∷ [])
    ∷ way (codes "^") (an_expr to_close ∷ []) ∷ way (codes "++") (an_expr to_close ∷ []) ∷ way (codes "==") (an_expr to_close ∷ []) ∷ way (codes "!=") (an_expr to_close ∷ [])
    ∷ way (codes "<") (an_expr to_close ∷ []) ∷ way (codes "<=") (an_expr to_close ∷ []) ∷ way (codes ">") (an_expr to_close ∷ []) ∷ way (codes ">=") (an_expr to_close ∷ [])
    ∷ way (codes "&&") (an_expr to_close ∷ []) ∷ way (codes "||") (an_expr to_close ∷ []) ∷ way (codes "?") (an_expr to_colon ∷ an_expr to_close ∷ []) ∷ []

abbrev pub follow_ways : Follow → List Way
follow_ways to_semicolon = way (codes ";") [] ∷ []
follow_ways to_close = way (codes ")") [] ∷ []
follow_ways to_colon = way (codes ":") [] ∷ []
follow_ways to_operator = binary_ways

abbrev pub after_ways : Follow → List Way
after_ways f = way (codes "[") (any_plain ∷ the_mark (codes ":") ∷ any_plain ∷ the_mark (codes "]") ∷ after_expr f ∷ []) ∷ follow_ways f

abbrev pub primary_ways : Follow → List Way
primary_ways f =
    way (codes "true") (after_expr f ∷ []) ∷ way (codes "false") (after_expr f ∷ []) ∷ way (codes "port") (after_expr f ∷ []) ∷ way (codes "rid") (after_expr f ∷ [])
    ∷ way (codes "m") (the_mark (codes ".") ∷ any_name ∷ after_expr f ∷ [])
    ∷ way (codes "h") (the_mark (codes ".") ∷ any_name ∷ the_mark (codes ".") ∷ any_name ∷ after_expr f ∷ []) ∷ []

abbrev pub open_ways : Follow → List Way
open_ways f = way (codes "(") (opened ∷ after_expr f ∷ []) ∷ []

abbrev pub unary_ways : List Way
unary_ways = way (codes "~") (an_expr to_close ∷ []) ∷ way (codes "!") (an_expr to_close ∷ []) ∷ open_ways to_operator

-- where an expression begins, with these ways of marks
abbrev pub primary : List Way → Follow → Kind → Leaves
primary marks f (literal w n) = Some (after_expr f ∷ [])
primary marks f (a_name x) = by_text (primary_ways f) x
primary marks f (mark m) = by_text marks m
primary marks f _ = None

-- by the ways of marks, or by those of names
abbrev pub by_mark : List Way → Kind → Leaves
by_mark ws (mark m) = by_text ws m
by_mark ws _ = None

abbrev pub by_word : List Way → Kind → Leaves
by_word ws (a_name x) = by_text ws x
by_word ws _ = None

-- ---- statements

abbrev pub assigned_ways : List Way
assigned_ways =
    way (codes "verdict") (any_literal ∷ the_mark (codes ";") ∷ stmts ∷ [])
    ∷ way (codes "egress_port") (an_expr to_semicolon ∷ stmts ∷ []) ∷ way (codes "group") (an_expr to_semicolon ∷ stmts ∷ []) ∷ []

abbrev pub tested_ways : List Way
tested_ways = way (codes "if") (an_expr to_close ∷ the_mark (codes "{") ∷ stmts ∷ stmts_or_else ∷ []) ∷ []

abbrev pub returned_ways : List Way
returned_ways = way (codes "return") (stmts ∷ []) ∷ []

-- ( ) ; and further statements
abbrev pub applied : Goals
applied = the_mark (codes "(") ∷ the_mark (codes ")") ∷ the_mark (codes ";") ∷ stmts ∷ []

abbrev pub applied_ways : List Way
applied_ways = way (codes "apply") applied ∷ []

abbrev pub opened_ways : List Way
opened_ways = way (codes "apply") (the_mark (codes ")") ∷ the_mark (codes ";") ∷ stmts ∷ []) ∷ []

-- after the first name of a statement
abbrev pub first_mark : List ℕ → List ℕ → Leaves
first_mark x m =
    if same_name (codes ".") m then Some (dotted x ∷ [])
    else if same_name (codes "=") m then by_text assigned_ways x
    else if same_name (codes "(") m then by_text tested_ways x
    else if same_name (codes ";") m then by_text returned_ways x
    else None

-- after a name and a dot
abbrev pub dotted_name : List ℕ → List ℕ → Leaves
dotted_name x y =
    if same_name (codes "m") x then Some (after_meta y ∷ [])
    else if same_name (codes "h") x then Some (after_header y ∷ [])
    else by_text applied_ways y

-- after `m.` and a name
abbrev pub meta_mark : List ℕ → List ℕ → Leaves
meta_mark y m =
    if same_name (codes "(") m then by_text opened_ways y
    else if same_name (codes "=") m then Some (an_expr to_semicolon ∷ stmts ∷ [])
    else None

-- after `h.` and a name
abbrev pub header_mark : List ℕ → List ℕ → Leaves
header_mark y m =
    if same_name (codes "(") m then by_text opened_ways y
    else if same_name (codes ".") m then Some (any_name ∷ the_mark (codes "=") ∷ an_expr to_semicolon ∷ stmts ∷ [])
    else None

abbrev pub else_mark : List ℕ → Leaves
else_mark m =
    if same_name (codes "{") m then Some (stmts ∷ stmts ∷ [])
    else if same_name (codes ".") m then Some (dotted (codes "else") ∷ [])
    else None

-- ---- declarations

abbrev pub a_field : Goals
a_field = the_mark (codes "<") ∷ any_plain ∷ the_mark (codes ">") ∷ any_name ∷ the_mark (codes ";") ∷ fields ∷ []

abbrev pub a_table : Goals
a_table =
    any_name ∷ the_mark (codes "(") ∷ the_word (codes "bit") ∷ the_mark (codes "<") ∷ any_plain ∷ the_mark (codes ">") ∷ the_word (codes "v") ∷ the_mark (codes ")")
    ∷ the_mark (codes "{") ∷ the_word (codes "m") ∷ the_mark (codes ".") ∷ any_name ∷ the_mark (codes "=") ∷ the_word (codes "v") ∷ the_mark (codes ";") ∷ the_mark (codes "}")
    ∷ the_word (codes "table") ∷ any_name ∷ the_mark (codes "{") ∷ the_word (codes "key") ∷ the_mark (codes "=") ∷ the_mark (codes "{") ∷ first_key
    ∷ the_word (codes "actions") ∷ the_mark (codes "=") ∷ the_mark (codes "{") ∷ any_name ∷ the_mark (codes ";") ∷ the_mark (codes "}")
    ∷ the_word (codes "default_action") ∷ the_mark (codes "=") ∷ any_name ∷ the_mark (codes "(") ∷ any_literal ∷ the_mark (codes ")") ∷ the_mark (codes ";") ∷ the_mark (codes "}") ∷ tables ∷ []

-- so many lines of these goals
abbrev pub lines : ℕ → Goals → Goals
lines zero gs = []
lines (suc n) gs = gs ++ lines n gs

abbrev pub a_member : Goals
a_member = any_name ∷ any_name ∷ the_mark (codes ";") ∷ []

-- a line of the parser or the deparser, which begins so
abbrev pub a_line : List ℕ → Goals
a_line begin = fixed (said begin) ++ (any_name ∷ the_mark (codes ")") ∷ the_mark (codes ";") ∷ [])

abbrev pub a_control : List ℕ → Goals → Goals
a_control begin gs = tables ∷ the_mark (codes "{") ∷ (fixed (said begin) ++ (stmts ∷ the_mark (codes "}") ∷ gs))

-- from the deparser on, and from each part before it, with so many headers
abbrev pub the_deparser : ℕ → Goals
the_deparser n = fixed (said deparser_head) ++ (lines n (a_line (codes "b.emit(h.")) ++ (fixed (said text_end) ++ (exactly finish ∷ [])))

abbrev pub the_egress : ℕ → Goals
the_egress n = fixed (said egress_head) ++ a_control egress_begins (the_deparser n)

abbrev pub the_ingress : ℕ → Goals
the_ingress n = fixed (said ingress_head) ++ a_control ingress_begins (the_egress n)

abbrev pub the_parser : ℕ → Goals
the_parser n = fixed (said parser_head) ++ (lines n (a_line (codes "b.extract(h.")) ++ the_ingress n)

abbrev pub the_meta : ℕ → Goals
the_meta n = fixed (said (codes "} struct Meta {")) ++ (fields ∷ the_parser n)

-- what follows `struct`
abbrev pub after_struct : ℕ → Goals
after_struct n = fixed (said (codes "Headers {")) ++ (lines n a_member ++ the_meta n)

abbrev pub header_ways : ℕ → List Way
header_ways n =
    way (codes "header") (any_name ∷ the_mark (codes "{") ∷ fields ∷ headers (suc n) ∷ [])
    ∷ way (codes "struct") (after_struct n) ∷ []

abbrev pub match_ways : List Way
match_ways = way (codes "exact") (the_mark (codes ";") ∷ keys true ∷ []) ∷ way (codes "ternary") (the_mark (codes ";") ∷ keys false ∷ []) ∷ []

abbrev pub field_ways : List Way
field_ways = way (codes "bit") a_field ∷ []

abbrev pub table_ways : List Way
table_ways = way (codes "action") a_table ∷ way (codes "apply") [] ∷ []

abbrev pub first_key_ways : List Way
first_key_ways = way (codes "m") (the_mark (codes ".") ∷ any_name ∷ the_mark (codes ":") ∷ first_match ∷ []) ∷ []

abbrev pub key_ways : Bool → List Way
key_ways b = way (codes "m") (the_mark (codes ".") ∷ any_name ∷ the_mark (codes ":") ∷ exactly (match_kind b) ∷ the_mark (codes ";") ∷ keys b ∷ []) ∷ []

abbrev pub next_ways : List Way
next_ways = way (codes "}") [] ∷ []

-- the goals that a token leaves in place of the first one, if it may stand there
abbrev pub takes : Goal → Kind → Leaves
takes (exactly j) k = if same_token j k then Some [] else None
takes any_name (a_name x) = Some []
takes any_plain (plain n) = Some []
takes any_literal (literal w n) = Some []
takes (an_expr f) k = primary (open_ways f) f k
takes (after_expr f) k = by_mark (after_ways f) k
takes opened k = primary unary_ways to_operator k
takes stmts (a_name x) = Some (after_first x ∷ [])
takes stmts (mark m) = by_text next_ways m
takes stmts_or_else (a_name x) = if same_name (codes "else") x then Some (after_else ∷ []) else Some (after_first x ∷ [])
takes stmts_or_else (mark m) = by_text next_ways m
takes after_else (mark m) = else_mark m
takes (after_first x) (mark m) = first_mark x m
takes (dotted x) (a_name y) = dotted_name x y
takes (after_meta y) (mark m) = meta_mark y m
takes (after_header y) (mark m) = header_mark y m
takes fields (a_name x) = by_text field_ways x
takes fields (mark m) = by_text next_ways m
takes (headers n) (a_name x) = by_text (header_ways n) x
takes tables (a_name x) = by_text table_ways x
takes first_key (a_name x) = by_text first_key_ways x
takes first_key (mark m) = by_text next_ways m
takes first_match (a_name x) = by_text match_ways x
takes (keys b) (a_name x) = by_text (key_ways b) x
takes (keys b) (mark m) = by_text next_ways m
takes _ _ = None

-- ---- a whole text

abbrev pub go_on : Leaves → List Kind → (Goals → Option (List Kind)) → Option (List Kind)
go_on None ks next = Some ks
go_on (Some more) ks next = next more

-- the tokens from the first one on that may not stand where it does; none, where all are taken and nothing is to come
abbrev pub stuck : Goals → List Kind → Option (List Kind)
stuck [] [] = None
stuck (g ∷ gs) [] = Some []
stuck [] (k ∷ ks) = Some (k ∷ ks)
stuck (g ∷ gs) (k ∷ ks) = go_on (takes g k) (k ∷ ks) (λ more. stuck (more ++ gs) ks)

abbrev pub whole_text : Goals
whole_text = fixed architecture ++ (headers 0 ∷ [])
