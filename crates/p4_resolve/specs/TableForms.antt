-- Cited by private clauses: what is known of a table, after those before it.
use Rattle.std.specs.Prelude.{ℕ, ◌==◌, ◌&&◌, Bool, false, nat_le, ◌∷◌, drop, Option, Some, None}
use Rattle.cocoon_num.specs.Names.{same_name}
use Rattle.p4_ir.specs.P4Kinds.{table_fits}
use Rattle.p4_ir.specs.P4Tree.{P4Field}
use Rattle.p4_texts.specs.Meant.{number_in, program_of_text, table_meant}
use Rattle.p4_texts.specs.Written.{ProgramText, TableText}

-- there is a field, of this width
abbrev pub is_wide : Option P4Field → ℕ → Bool
is_wide None w = false
is_wide (Some f) w = w == f.width

-- a table has its own action, and the default of it is zero
abbrev pub agrees : TableText → Bool
agrees k = same_name k.actions k.action && same_name k.default_action k.action && (k.default_width == k.width) && (k.default == 0)

-- the rules of a table, where its name is `t` with what follows the first letter of its action's
abbrev pub own_keeps : ProgramText → (least : ℕ) → TableText → Bool
own_keeps t least k =
    same_name k.table (116 ∷ drop 1 k.action) && nat_le least (number_in k.action) && table_fits (program_of_text t) (table_meant t k) && agrees k
