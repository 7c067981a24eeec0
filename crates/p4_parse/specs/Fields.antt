-- Fields, headers and parts of tables, and the goals of their tokens. Clauses of `decls` cite it.
use Rattle.std.specs.Prelude.{ℕ, List, [], ◌∷◌, map, Vec, codes}
use Rattle.std.specs.Global.{Global}
use Rattle.cocoon_num.specs.Tokens.{Kind, a_name, mark, plain}
use Rattle.p4_texts.specs.Machine.{Goals, any_literal, any_name, any_plain, fields, the_mark, the_word}
use Rattle.p4_texts.specs.Written.{each_then, field_then, header_then, member_then}
use Rattle.cocoon_num.specs.Tokens.{literal}
use Rattle.cocoon_num.specs.declared.bits.Bits.{Bits}
use Rattle.p4_texts.specs.TreeOf.{field_of, header_of, member_of}
use Rattle.p4_texts.specs.declared.written.WrittenField.{WrittenField}
use Rattle.p4_texts.specs.declared.written.WrittenHeader.{WrittenHeader}
use Rattle.p4_texts.specs.declared.written.WrittenMember.{WrittenMember}

-- bit<W>
abbrev pub width_goals : Goals
width_goals = the_word (codes "bit") ∷ the_mark (codes "<") ∷ any_plain ∷ the_mark (codes ">") ∷ []

abbrev pub width_tokens : ℕ → List Kind → List Kind
width_tokens n ks = a_name (codes "bit") ∷ mark (codes "<") ∷ plain n ∷ mark (codes ">") ∷ ks

-- bit<W> NAME;
abbrev pub field_phrase : Goals
field_phrase = the_word (codes "bit") ∷ the_mark (codes "<") ∷ any_plain ∷ the_mark (codes ">") ∷ any_name ∷ the_mark (codes ";") ∷ []

abbrev pub field_tokens : WrittenField → List Kind → List Kind
field_tokens f ks = field_then (field_of f) ks

abbrev pub fields_tokens : Vec WrittenField Global → List Kind → List Kind
fields_tokens v ks = each_then field_then (map field_of v.items) (mark (codes "}") ∷ ks)

-- ---- headers

-- header NAME { .. }
abbrev pub header_goals : Goals
header_goals = the_word (codes "header") ∷ any_name ∷ the_mark (codes "{") ∷ fields ∷ []

abbrev pub header_tokens : WrittenHeader → List Kind → List Kind
header_tokens h ks = header_then (header_of h) ks

abbrev pub member_tokens : WrittenMember → List Kind → List Kind
member_tokens m ks = member_then (member_of m) ks

-- ---- parts of tables

-- action NAME(bit<W> v)
abbrev pub action_goals : Goals
action_goals = the_word (codes "action") ∷ any_name ∷ the_mark (codes "(") ∷ the_word (codes "bit") ∷ the_mark (codes "<") ∷ any_plain ∷ the_mark (codes ">") ∷ the_word (codes "v") ∷ the_mark (codes ")") ∷ []

abbrev pub action_tokens : List ℕ × ℕ → List Kind → List Kind
action_tokens p ks = a_name (codes "action") ∷ a_name p.0 ∷ mark (codes "(") ∷ a_name (codes "bit") ∷ mark (codes "<") ∷ plain p.1 ∷ mark (codes ">") ∷ a_name (codes "v") ∷ mark (codes ")") ∷ ks

-- { m.NAME = v; }
abbrev pub result_goals : Goals
result_goals = the_mark (codes "{") ∷ the_word (codes "m") ∷ the_mark (codes ".") ∷ any_name ∷ the_mark (codes "=") ∷ the_word (codes "v") ∷ the_mark (codes ";") ∷ the_mark (codes "}") ∷ []

abbrev pub result_tokens : List ℕ → List Kind → List Kind
result_tokens x ks = mark (codes "{") ∷ a_name (codes "m") ∷ mark (codes ".") ∷ a_name x ∷ mark (codes "=") ∷ a_name (codes "v") ∷ mark (codes ";") ∷ mark (codes "}") ∷ ks

-- table NAME { key = {
abbrev pub table_goals : Goals
table_goals = the_word (codes "table") ∷ any_name ∷ the_mark (codes "{") ∷ the_word (codes "key") ∷ the_mark (codes "=") ∷ the_mark (codes "{") ∷ []

abbrev pub table_tokens : List ℕ → List Kind → List Kind
table_tokens x ks = a_name (codes "table") ∷ a_name x ∷ mark (codes "{") ∷ a_name (codes "key") ∷ mark (codes "=") ∷ mark (codes "{") ∷ ks

-- actions = { NAME; }
abbrev pub actions_goals : Goals
actions_goals = the_word (codes "actions") ∷ the_mark (codes "=") ∷ the_mark (codes "{") ∷ any_name ∷ the_mark (codes ";") ∷ the_mark (codes "}") ∷ []

abbrev pub actions_tokens : List ℕ → List Kind → List Kind
actions_tokens x ks = a_name (codes "actions") ∷ mark (codes "=") ∷ mark (codes "{") ∷ a_name x ∷ mark (codes ";") ∷ mark (codes "}") ∷ ks

-- default_action = NAME(LITERAL); }
abbrev pub default_goals : Goals
default_goals = the_word (codes "default_action") ∷ the_mark (codes "=") ∷ any_name ∷ the_mark (codes "(") ∷ any_literal ∷ the_mark (codes ")") ∷ the_mark (codes ";") ∷ the_mark (codes "}") ∷ []

abbrev pub default_tokens : List ℕ × Bits → List Kind → List Kind
default_tokens p ks = a_name (codes "default_action") ∷ mark (codes "=") ∷ a_name p.0 ∷ mark (codes "(") ∷ literal p.1.width p.1.value ∷ mark (codes ")") ∷ mark (codes ";") ∷ mark (codes "}") ∷ ks
