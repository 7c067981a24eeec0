-- Cited by the clauses of `lower` and by all laws of lowering: the program of a switch. It follows "Lowering and the P4 text"
-- in docs/FORMATS.md.
use Rattle.std.specs.Prelude.{ℕ, List, [], ◌∷◌, ◌++◌, map, codes, decimal}
use Rattle.cocoon_num.specs.Tree.{Param, HeaderDecl}
use Rattle.p4_ir.specs.P4Tree.{P4Field, P4Header, Program}
use Rattle.p4_ir.specs.Program.{block_of}
use Rattle.lowering.specs.Lower.{Made, a_field, a_table, a_group, FieldName, site_name, key_name, result_name, var_name, callees}
use Rattle.lowering.specs.LowerSites.{LoweredSites, lower_sites}
use Rattle.lowering.specs.Log.{tables_in}
use Rattle.lowering.specs.Whole.{SwitchRole, role_lowered}

-- ---- meta fields

abbrev pub field_text : FieldName → List ℕ
field_text site_name = codes "site"
field_text (key_name app i) = codes "k" ++ decimal app ++ codes "_" ++ decimal i
field_text (result_name app) = codes "r" ++ decimal app
field_text (var_name j) = codes "v" ++ decimal j

-- those that were made, in order
abbrev pub fields_in : List Made → List P4Field
fields_in [] = []
fields_in (a_field x i w ∷ ms) = record { name = field_text x; width = w } ∷ fields_in ms
fields_in (a_table t f ps ∷ ms) = fields_in ms
fields_in (a_group t f ps ∷ ms) = fields_in ms

-- ---- headers

abbrev pub p4_field : Param → P4Field
p4_field p = record { name = p.name.text; width = p.width }

abbrev pub p4_header : HeaderDecl → P4Header
p4_header h = record { name = h.name.text; fields = map p4_field h.fields }

-- ---- the program

-- the blocks of the forks, which come after all of ingress
abbrev pub egress_lowered : SwitchRole → (switch : ℕ) → LoweredSites
egress_lowered r s = lower_sites (callees r.headers r.functions r.port) (role_lowered r s).next (role_lowered r s).sites

-- what the program of a switch has beside its code
abbrev pub switch_made : SwitchRole → (switch : ℕ) → List Made
switch_made r s = (role_lowered r s).made ++ (egress_lowered r s).made

-- the program of the switch of this number
abbrev pub switch_program : SwitchRole → (switch : ℕ) → Program
switch_program r s = record {
  headers = map p4_header r.headers;
  meta = record { name = codes "site"; width = 8 } ∷ fields_in (switch_made r s);
  ingress = record { tables = tables_in (role_lowered r s).made; body = block_of (role_lowered r s).code };
  egress = record { tables = tables_in (egress_lowered r s).made; body = block_of (egress_lowered r s).code };
}
