-- The texts of the example read as trees, token by token.
use Rattle.std.specs.Prelude.{ℕ, List, [], ◌∷◌, codes, Ok, Err, refl}
use Rattle.cocoon_num.specs.Tree.{Expr}
use Rattle.cocoon_num.specs.Tokens.{Kind, a_name, keyword, plain, literal, mark, finish, Token, lex, language}
use Rattle.cocoon_num.specs.Reads.{Many, no_more, one_more, last, then_comma, no_implication, a_chain, no_comparison, a_comparison, no_unary, no_part, a_part, a_variable, a_call, a_field, a_literal, last_expr, more_exprs, an_if_else, a_send, no_stmt, one_stmt as first_stmt, a_block, a_truth, without_body, no_block, its_block, of_expr, of_cmp, of_cat, of_prim, ExprAt, DeclAt, the_function, the_role, the_host, the_switch, HeaderAt, the_field, the_header, DesignAt, Reads, const_true, const_false, one_number, EntryAt, the_default, the_row, DefsAt, ReadsDefs}
use Rattle.command_laws.specs.ExampleDesign.{c_design, c_defs, c_tree, c_definitions}

-- the tokens of a text, or none
abbrev tokens_of : List ℕ → List Token
tokens_of text = elim (lex language text) [ Ok ts ↦ ts | Err e ↦ [] ]

-- ---- the design

-- its tokens
abbrev design_kinds : List Kind
design_kinds =
    keyword (codes "packet") ∷ mark (codes "{") ∷ keyword (codes "header") ∷ a_name (codes "e") ∷ mark (codes "{")
    ∷ a_name (codes "tag") ∷ mark (codes ":") ∷ keyword (codes "bit") ∷ mark (codes "<") ∷ plain 8 ∷ mark (codes ">") ∷ mark (codes ";")
    ∷ mark (codes "}") ∷ mark (codes "}")
    ∷ keyword (codes "function") ∷ a_name (codes "h") ∷ mark (codes "(") ∷ a_name (codes "a") ∷ mark (codes ":") ∷ keyword (codes "bit") ∷ mark (codes "<") ∷ plain 16 ∷ mark (codes ">") ∷ mark (codes ")") ∷ mark (codes ":") ∷ keyword (codes "bool") ∷ mark (codes ";")
    ∷ keyword (codes "function") ∷ a_name (codes "g") ∷ mark (codes "(") ∷ a_name (codes "s") ∷ mark (codes ":") ∷ keyword (codes "bit") ∷ mark (codes "<") ∷ plain 16 ∷ mark (codes ">") ∷ mark (codes ")") ∷ mark (codes ":") ∷ keyword (codes "bool") ∷ mark (codes ";")
    ∷ keyword (codes "role") ∷ a_name (codes "Out") ∷ mark (codes "[") ∷ a_name (codes "a") ∷ mark (codes ":") ∷ keyword (codes "bit") ∷ mark (codes "<") ∷ plain 16 ∷ mark (codes ">") ∷ mark (codes "]") ∷ mark (codes "|") ∷ a_name (codes "h") ∷ mark (codes "(") ∷ a_name (codes "a") ∷ mark (codes ")")
    ∷ mark (codes "=") ∷ mark (codes "{") ∷ keyword (codes "send") ∷ a_name (codes "SwIn") ∷ mark (codes "[") ∷ literal 16 1 ∷ mark (codes ",") ∷ a_name (codes "a") ∷ mark (codes "]") ∷ mark (codes ";") ∷ mark (codes "}")
    ∷ keyword (codes "role") ∷ a_name (codes "In") ∷ mark (codes "[") ∷ a_name (codes "a") ∷ mark (codes ":") ∷ keyword (codes "bit") ∷ mark (codes "<") ∷ plain 16 ∷ mark (codes ">") ∷ mark (codes "]") ∷ mark (codes "|") ∷ a_name (codes "h") ∷ mark (codes "(") ∷ a_name (codes "a") ∷ mark (codes ")")
    ∷ mark (codes ";")
    ∷ keyword (codes "host") ∷ mark (codes "(") ∷ a_name (codes "Out") ∷ mark (codes ",") ∷ a_name (codes "In") ∷ mark (codes ")") ∷ mark (codes ";")
    ∷ keyword (codes "role") ∷ a_name (codes "SwIn") ∷ mark (codes "[") ∷ a_name (codes "s") ∷ mark (codes ":") ∷ keyword (codes "bit") ∷ mark (codes "<") ∷ plain 16 ∷ mark (codes ">") ∷ mark (codes ",") ∷ a_name (codes "p") ∷ mark (codes ":") ∷ keyword (codes "bit") ∷ mark (codes "<") ∷ plain 16 ∷ mark (codes ">") ∷ mark (codes "]") ∷ mark (codes "|") ∷ a_name (codes "g") ∷ mark (codes "(") ∷ a_name (codes "s") ∷ mark (codes ")") ∷ keyword (codes "and") ∷ a_name (codes "p") ∷ mark (codes "<") ∷ literal 16 4
    ∷ mark (codes "=") ∷ mark (codes "{") ∷ keyword (codes "if") ∷ mark (codes "(") ∷ keyword (codes "pkt") ∷ mark (codes ".") ∷ a_name (codes "e") ∷ mark (codes ".") ∷ a_name (codes "tag") ∷ mark (codes "==") ∷ literal 8 1 ∷ mark (codes ")") ∷ mark (codes "{") ∷ keyword (codes "send") ∷ a_name (codes "SwOut") ∷ mark (codes "[") ∷ a_name (codes "s") ∷ mark (codes ",") ∷ literal 16 1 ∷ mark (codes "]") ∷ mark (codes ";") ∷ mark (codes "}") ∷ keyword (codes "else") ∷ mark (codes "{") ∷ keyword (codes "send") ∷ a_name (codes "SwOut") ∷ mark (codes "[") ∷ a_name (codes "s") ∷ mark (codes ",") ∷ literal 16 2 ∷ mark (codes "]") ∷ mark (codes ";") ∷ mark (codes "}") ∷ mark (codes "}")
    ∷ keyword (codes "role") ∷ a_name (codes "SwOut") ∷ mark (codes "[") ∷ a_name (codes "s") ∷ mark (codes ":") ∷ keyword (codes "bit") ∷ mark (codes "<") ∷ plain 16 ∷ mark (codes ">") ∷ mark (codes ",") ∷ a_name (codes "p") ∷ mark (codes ":") ∷ keyword (codes "bit") ∷ mark (codes "<") ∷ plain 16 ∷ mark (codes ">") ∷ mark (codes "]") ∷ mark (codes "|") ∷ a_name (codes "g") ∷ mark (codes "(") ∷ a_name (codes "s") ∷ mark (codes ")") ∷ keyword (codes "and") ∷ a_name (codes "p") ∷ mark (codes "<") ∷ literal 16 4
    ∷ mark (codes "=") ∷ mark (codes "{") ∷ keyword (codes "send") ∷ a_name (codes "In") ∷ mark (codes "[") ∷ a_name (codes "p") ∷ mark (codes "]") ∷ mark (codes ";") ∷ mark (codes "}")
    ∷ keyword (codes "switch") ∷ mark (codes "(") ∷ a_name (codes "SwIn") ∷ mark (codes ",") ∷ a_name (codes "SwOut") ∷ mark (codes ")") ∷ keyword (codes "ports") ∷ plain 4 ∷ mark (codes ";") ∷ finish ∷ []

-- an expression of one part, as an operand of a comparison, as one of `and`, and as a whole
as_operand : {ts : List Kind} {i j : ℕ} {a : Expr} → ExprAt ts of_prim i a j → ExprAt ts of_cat i a j
as_operand p = a_chain refl (a_chain refl (a_chain refl (no_unary (a_chain refl p no_part)) no_part) no_part) no_part

-- a comparison as a whole expression
as_whole : {ts : List Kind} {i j : ℕ} {a : Expr} → ExprAt ts of_cmp i a j → ExprAt ts of_expr i a j
as_whole c = no_implication (a_chain refl (a_chain refl c no_part) no_part)

-- one part as a whole expression
whole : {ts : List Kind} {i j : ℕ} {a : Expr} → ExprAt ts of_prim i a j → ExprAt ts of_expr i a j
whole p = as_whole (no_comparison (as_operand p))

-- the header
header_derived : Many (HeaderAt design_kinds) 2 c_tree.headers 13
header_derived = one_more (the_header refl (refl, refl) refl refl (one_more (the_field ((refl, refl), refl, (refl, refl, refl, refl, refl)) refl) no_more) refl) no_more

-- the declarations
decls_derived : Many (DeclAt design_kinds) 14 c_tree.decls 193
decls_derived =
    one_more (the_function refl (refl, refl) refl (last ((refl, refl), refl, (refl, refl, refl, refl, refl))) refl refl (a_truth refl) (without_body refl))
    (one_more (the_function refl (refl, refl) refl (last ((refl, refl), refl, (refl, refl, refl, refl, refl))) refl refl (a_truth refl) (without_body refl))
    (one_more (the_role refl (refl, refl) refl (last ((refl, refl), refl, (refl, refl, refl, refl, refl))) refl refl (whole (a_call (refl, refl) refl (last_expr (whole (a_variable refl))) refl))
    (its_block refl (a_block refl (first_stmt (a_send refl (refl, refl) refl (more_exprs (whole (a_literal refl)) refl (last_expr (whole (a_variable refl)))) refl refl) no_stmt) refl)))
    (one_more (the_role refl (refl, refl) refl (last ((refl, refl), refl, (refl, refl, refl, refl, refl))) refl refl (whole (a_call (refl, refl) refl (last_expr (whole (a_variable refl))) refl)) (no_block refl))
    (one_more (the_host refl refl refl (refl, refl) refl (refl, refl) refl refl)
    (one_more (the_role refl (refl, refl) refl (then_comma ((refl, refl), refl, (refl, refl, refl, refl, refl)) refl (last ((refl, refl), refl, (refl, refl, refl, refl, refl)))) refl refl
    (no_implication (a_chain refl (a_chain refl (no_comparison (as_operand (a_call (refl, refl) refl (last_expr (whole (a_variable refl))) refl))) (a_part refl tt refl (a_comparison tt (as_operand (a_variable refl)) refl (as_operand (a_literal refl))) no_part)) no_part))
    (its_block refl (a_block refl (first_stmt (an_if_else refl refl (as_whole (a_comparison tt (as_operand (a_field (refl, refl, (refl, refl), refl, (refl, refl), refl))) refl (as_operand (a_literal refl)))) refl
    (a_block refl (first_stmt (a_send refl (refl, refl) refl (more_exprs (whole (a_variable refl)) refl (last_expr (whole (a_literal refl)))) refl refl) no_stmt) refl) refl
    (a_block refl (first_stmt (a_send refl (refl, refl) refl (more_exprs (whole (a_variable refl)) refl (last_expr (whole (a_literal refl)))) refl refl) no_stmt) refl)) no_stmt) refl)))
    (one_more (the_role refl (refl, refl) refl (then_comma ((refl, refl), refl, (refl, refl, refl, refl, refl)) refl (last ((refl, refl), refl, (refl, refl, refl, refl, refl)))) refl refl
    (no_implication (a_chain refl (a_chain refl (no_comparison (as_operand (a_call (refl, refl) refl (last_expr (whole (a_variable refl))) refl))) (a_part refl tt refl (a_comparison tt (as_operand (a_variable refl)) refl (as_operand (a_literal refl))) no_part)) no_part))
    (its_block refl (a_block refl (first_stmt (a_send refl (refl, refl) refl (last_expr (whole (a_variable refl))) refl refl) no_stmt) refl)))
    (one_more (the_switch refl refl refl (refl, refl) refl (refl, refl) refl refl refl refl) no_more)))))))

-- the whole design
design_derived : DesignAt design_kinds c_tree
design_derived = record {
  first_header = _;
  more_headers = _;
  after_headers = 13;
  after_decls = 193;
  after_refines = 193;
  packet = refl;
  opens = refl;
  some_header = refl;
  headers = header_derived;
  closes = refl;
  decls = decls_derived;
  refines = no_more;
  ends = refl;
}

-- the text reads as that tree
pub design_reads : Reads c_design c_tree
design_reads = record { tokens = tokens_of c_design; tokens_are = refl; shallow = refl; reads = design_derived }

-- ---- the definitions

-- the tokens of the definitions
abbrev defs_kinds : List Kind
defs_kinds =
    keyword (codes "default") ∷ a_name (codes "h") ∷ mark (codes "=") ∷ keyword (codes "false") ∷ mark (codes ";")
    ∷ keyword (codes "default") ∷ a_name (codes "g") ∷ mark (codes "=") ∷ keyword (codes "false") ∷ mark (codes ";")
    ∷ keyword (codes "define") ∷ a_name (codes "h") ∷ mark (codes "(") ∷ literal 16 0 ∷ mark (codes ")") ∷ mark (codes "=") ∷ keyword (codes "true") ∷ mark (codes ";")
    ∷ keyword (codes "define") ∷ a_name (codes "h") ∷ mark (codes "(") ∷ literal 16 1 ∷ mark (codes ")") ∷ mark (codes "=") ∷ keyword (codes "true") ∷ mark (codes ";")
    ∷ keyword (codes "define") ∷ a_name (codes "h") ∷ mark (codes "(") ∷ literal 16 2 ∷ mark (codes ")") ∷ mark (codes "=") ∷ keyword (codes "true") ∷ mark (codes ";")
    ∷ keyword (codes "define") ∷ a_name (codes "h") ∷ mark (codes "(") ∷ literal 16 3 ∷ mark (codes ")") ∷ mark (codes "=") ∷ keyword (codes "true") ∷ mark (codes ";")
    ∷ keyword (codes "define") ∷ a_name (codes "g") ∷ mark (codes "(") ∷ literal 16 1 ∷ mark (codes ")") ∷ mark (codes "=") ∷ keyword (codes "true") ∷ mark (codes ";")
    ∷ finish ∷ []

-- the entries
entries_derived : Many (EntryAt defs_kinds) 0 c_definitions 50
entries_derived =
    one_more (the_default refl (refl, refl) refl (const_false refl) refl)
    (one_more (the_default refl (refl, refl) refl (const_false refl) refl)
    (one_more (the_row refl (refl, refl) refl (last (one_number refl)) refl refl (const_true refl) refl)
    (one_more (the_row refl (refl, refl) refl (last (one_number refl)) refl refl (const_true refl) refl)
    (one_more (the_row refl (refl, refl) refl (last (one_number refl)) refl refl (const_true refl) refl)
    (one_more (the_row refl (refl, refl) refl (last (one_number refl)) refl refl (const_true refl) refl)
    (one_more (the_row refl (refl, refl) refl (last (one_number refl)) refl refl (const_true refl) refl) no_more))))))

-- all of them, up to the end
defs_derived : DefsAt defs_kinds c_definitions
defs_derived = (50, entries_derived, refl)

-- the text reads as them
pub defs_read : ReadsDefs c_defs c_definitions
defs_read = record { tokens = tokens_of c_defs; tokens_are = refl; shallow = refl; reads = defs_derived }
