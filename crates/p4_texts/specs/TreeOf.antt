-- The tree of the definitions that a tree in memory stands for. The clauses of p4_parse, p4_resolve and p4_read cite it.
use Rattle.std.specs.Prelude.{ℕ, Bool, List, [], ◌∷◌, map}
use Rattle.p4_ir.specs.Program.{unary_of}
use Rattle.p4_texts.specs.Written as written
use Rattle.p4_texts.specs.declared.written.WrittenExpr.{WrittenExpr, fold-WrittenExpr}
use Rattle.p4_texts.specs.declared.written.WrittenExpr.TheOpen.{WrittenExpr-F}
use Rattle.p4_texts.specs.declared.written.WrittenStmt.{WrittenStmt, fold-WrittenStmt}
use Rattle.p4_texts.specs.declared.written.WrittenStmt.TheOpen.{WrittenStmt-F}
use Rattle.p4_texts.specs.declared.written.WrittenField.{WrittenField}
use Rattle.p4_texts.specs.declared.written.WrittenHeader.{WrittenHeader}
use Rattle.p4_texts.specs.declared.written.WrittenMember.{WrittenMember}
use Rattle.p4_texts.specs.declared.written.WrittenTable.{WrittenTable}
use Rattle.p4_texts.specs.declared.written.WrittenControl.{WrittenControl}
use Rattle.p4_texts.specs.declared.written.WrittenProgram.{WrittenProgram}

-- one level, with each tree inside already seen
abbrev pub expr_step : WrittenExpr-F written.ExprText → written.ExprText
expr_step (WrittenExpr-F.Lit b) = written.w_lit b.width b.value
expr_step (WrittenExpr-F.Truth b) = written.w_truth b
expr_step (WrittenExpr-F.Meta x) = written.w_meta x
expr_step (WrittenExpr-F.Field h f) = written.w_field h f
expr_step WrittenExpr-F.Port = written.w_port
expr_step WrittenExpr-F.Rid = written.w_rid
expr_step (WrittenExpr-F.Unary op a) = written.w_unary (unary_of op) a.value
expr_step (WrittenExpr-F.Binary op a b) = written.w_binary op a.value b.value
expr_step (WrittenExpr-F.Slice a high low) = written.w_slice a.value high low
expr_step (WrittenExpr-F.Pick c a b) = written.w_pick c.value a.value b.value

abbrev pub expr_of : WrittenExpr → written.ExprText
expr_of = fold-WrittenExpr written.ExprText expr_step

abbrev pub block_of : List written.StmtText → written.BlockText
block_of [] = written.w_done
block_of (s ∷ ss) = written.w_then s (block_of ss)

abbrev pub stmt_step : WrittenStmt-F written.StmtText → written.StmtText
stmt_step (WrittenStmt-F.SetMeta x e) = written.w_set_meta x (expr_of e)
stmt_step (WrittenStmt-F.SetField h f e) = written.w_set_field h f (expr_of e)
stmt_step (WrittenStmt-F.Apply x) = written.w_apply x
stmt_step (WrittenStmt-F.If e a) = written.w_if (expr_of e) (block_of a.items)
stmt_step (WrittenStmt-F.IfElse e a b) = written.w_if_else (expr_of e) (block_of a.items) (block_of b.items)
stmt_step (WrittenStmt-F.Verdict b) = written.w_verdict b.width b.value
stmt_step (WrittenStmt-F.EgressPort e) = written.w_egress_port (expr_of e)
stmt_step (WrittenStmt-F.Group e) = written.w_group (expr_of e)
stmt_step WrittenStmt-F.Return = written.w_return

abbrev pub stmt_of : WrittenStmt → written.StmtText
stmt_of = fold-WrittenStmt written.StmtText stmt_step

abbrev pub body_of : List WrittenStmt → written.BlockText
body_of b = block_of (map stmt_of b)

-- ---- declarations

abbrev pub field_of : WrittenField → written.FieldText
field_of f = record { width = f.width; name = f.name }

abbrev pub header_of : WrittenHeader → written.HeaderText
header_of h = record { name = h.name; fields = map field_of h.fields }

abbrev pub member_of : WrittenMember → written.MemberText
member_of m = record { header = m.header; name = m.name }

abbrev pub keys_of : Bool → List (List ℕ) → written.KeysText
keys_of exact [] = written.no_keys
keys_of exact (x ∷ xs) = written.some_keys exact x xs

abbrev pub table_of : WrittenTable → written.TableText
table_of t = record {
  action = t.action;
  width = t.width;
  result = t.result;
  table = t.table;
  keys = keys_of t.exact t.keys;
  actions = t.actions;
  default_action = t.default_action;
  default_width = t.default.width;
  default = t.default.value;
}

abbrev pub control_of : WrittenControl → written.ControlText
control_of c = record { tables = map table_of c.tables; body = body_of c.body }

-- ---- a whole text

abbrev pub text_of : WrittenProgram → written.ProgramText
text_of t = record {
  headers = map header_of t.headers;
  rest = record {
    members = map member_of t.members;
    meta = map field_of t.meta;
    extracts = t.extracts;
    ingress = control_of t.ingress;
    egress = control_of t.egress;
    emits = t.emits;
  };
}
