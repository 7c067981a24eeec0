-- Keys, and whole tables with their actions. Clauses of `tables` cite it.
use Rattle.std.specs.Prelude.{ℕ, Bool, List, [], ◌∷◌, ◌++◌, map, Vec, codes}
use Rattle.std.specs.Global.{Global}
use Rattle.cocoon_num.specs.Tokens.{Kind, a_name, mark}
use Rattle.p4_ir.specs.P4Text.{match_kind}
use Rattle.p4_texts.specs.Machine as machine
use Rattle.p4_texts.specs.Machine.{Goals, any_name, exactly, first_key, first_match, the_mark, the_word}
use Rattle.p4_texts.specs.Written.{each_then, key_then, keys_then, table_then}
use Rattle.p4_texts.specs.TreeOf.{keys_of, table_of}
use Rattle.p4_texts.specs.declared.written.WrittenTable.{WrittenTable}
use Rattle.p4_parse.specs.Fields.{action_goals, actions_goals, default_goals, result_goals, table_goals}

-- m.NAME :
abbrev pub key_name_goals : Goals
key_name_goals = the_word (codes "m") ∷ the_mark (codes ".") ∷ any_name ∷ the_mark (codes ":") ∷ []

abbrev pub key_name_tokens : List ℕ → List Kind → List Kind
key_name_tokens x ks = a_name (codes "m") ∷ mark (codes ".") ∷ a_name x ∷ mark (codes ":") ∷ ks

-- m.NAME : KIND;
abbrev pub key_goals : Bool → Goals
key_goals exact = the_word (codes "m") ∷ the_mark (codes ".") ∷ any_name ∷ the_mark (codes ":") ∷ exactly (match_kind exact) ∷ the_mark (codes ";") ∷ []

-- what the kind of the first key leaves
abbrev pub after_kind : Bool → Goals
after_kind exact = the_mark (codes ";") ∷ machine.keys exact ∷ []

abbrev pub kind_tokens : Bool → List Kind → List Kind
kind_tokens exact ks = match_kind exact ∷ ks

-- the first key
abbrev pub first_key_goals : Goals
first_key_goals = the_word (codes "m") ∷ the_mark (codes ".") ∷ any_name ∷ the_mark (codes ":") ∷ first_match ∷ []

abbrev pub after_first_key : List ℕ × Bool → Goals
after_first_key p = machine.keys p.1 ∷ []

abbrev pub first_key_tokens : List ℕ × Bool → List Kind → List Kind
first_key_tokens p ks = key_then p.1 p.0 ks

-- keys up to and with `}`
abbrev pub keys_tokens : Bool × Vec (List ℕ) Global → List Kind → List Kind
keys_tokens p ks = keys_then (keys_of p.0 p.1.items) (mark (codes "}") ∷ ks)

-- an action and its table
abbrev pub declaration_goals : Goals
declaration_goals = action_goals ++ (result_goals ++ (table_goals ++ (first_key ∷ actions_goals ++ default_goals)))

abbrev pub declaration_tokens : WrittenTable → List Kind → List Kind
declaration_tokens t ks = table_then (table_of t) ks

-- tables up to and with `apply`
abbrev pub tables_tokens : Vec WrittenTable Global → List Kind → List Kind
tables_tokens v ks = each_then table_then (map table_of v.items) (a_name (codes "apply") ∷ ks)
