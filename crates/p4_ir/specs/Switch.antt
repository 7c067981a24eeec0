-- One visit of a switch that runs a program over rows: the parser, ingress, the verdict, for a copy the egress run of
-- its member, and the deparser. It follows "One visit" and "Rows" in docs/FORMATS.md; parsers, `exact` and `ternary`
-- keys, default actions and `return` are those of P4-16. Optional headers and versions of rows are absent, and with
-- them the form of a visit that looks at a tag.
use Rattle.std.specs.Prelude.{ℕ, ◌==◌, List, [], ◌∷◌, replicate, length, slice_get, if◌then◌else◌, Option, Some, None, option_map, option_and_then}
use Rattle.std.specs.List.{find, slice_set}
use Rattle.cocoon_num.specs.Values.{Value, number, truth, as_number, apply_unary, apply_binary, apply_slice, apply_pick, with_both, with_all}
use Rattle.cocoon_num.specs.Lists.{has_number}
use Rattle.cocoon_num.specs.Rows.{values_match, first_match}
use Rattle.cocoon_num.specs.Packets.{Packet, Layout, enter, leave}
use Rattle.p4_ir.specs.P4Tree.{P4Expr, p_lit, p_truth, p_meta, p_field, p_port, p_rid, p_unary, p_binary, p_slice, p_pick, P4Stmt, set_meta, set_header, apply_table, p_if, p_if_else, verdict, egress_port, group, p_return, P4Block, p_done, p_then, P4Table, Program, KeyRow, TableRows, Group, RowsFile, field_widths, program_layout}

-- what a control works on
pub record State : Type 0 where
  pub packet : Packet
  pub meta : List ℕ
  pub verdict : ℕ
  pub egress_port : ℕ
  pub group : ℕ

-- what a control runs in: the program, its tables, the rows, and the port or the member that it is run for
pub record Running : Type 0 where
  pub program : Program
  pub tables : List P4Table
  pub rows : List TableRows
  pub port : Option ℕ
  pub rid : Option ℕ

-- ---- expressions

-- the number at i, with its width
abbrev pub numbered : List ℕ → List ℕ → ℕ → Option Value
numbered widths ns i = with_both (λ w n. Some (number w n)) (slice_get widths i) (slice_get ns i)

abbrev pub header_field : Layout → Packet → ℕ → ℕ → Option Value
header_field layout packet h f =
    option_and_then (λ widths. option_and_then (λ ns. numbered widths ns f) (slice_get packet h)) (slice_get layout h)

abbrev pub p4_value : Running → State → P4Expr → Option Value
p4_value at s (p_lit w n) = Some (number w n)
p4_value at s (p_truth b) = Some (truth b)
p4_value at s (p_meta i) = numbered (field_widths at.program.meta) s.meta i
p4_value at s (p_field h f) = header_field (program_layout at.program) s.packet h f
p4_value at s p_port = option_map (number 16) at.port
p4_value at s p_rid = option_map (number 64) at.rid
p4_value at s (p_unary op a) = option_and_then (apply_unary op) (p4_value at s a)
p4_value at s (p_binary op a b) = with_both (apply_binary op) (p4_value at s a) (p4_value at s b)
p4_value at s (p_slice a high low) = option_and_then (λ v. apply_slice v high low) (p4_value at s a)
p4_value at s (p_pick c a b) = with_all apply_pick (p4_value at s c) (p4_value at s a) (p4_value at s b)

-- ---- tables

-- the result of the first row that matches all keys, else the default
abbrev pub table_result : List KeyRow → ℕ → List ℕ → ℕ
table_result rows otherwise xs = first_match (λ (r : KeyRow). values_match r.values r.masks xs) (λ (r : KeyRow). r.result) rows otherwise

abbrev pub table_numbered : List P4Table → ℕ → Option P4Table
table_numbered ts n = find (λ (t : P4Table). t.number == n) ts

abbrev pub rows_numbered : List TableRows → ℕ → Option TableRows
rows_numbered ts n = find (λ (t : TableRows). t.number == n) ts

-- all of the list, where each is there
abbrev pub all_there : List ℕ → List ℕ → Option (List ℕ)
all_there ns [] = Some []
all_there ns (i ∷ is) = option_and_then (λ n. option_map (λ rest. n ∷ rest) (all_there ns is)) (slice_get ns i)

-- the state after a table was applied
abbrev pub applied : Running → State → ℕ → Option State
applied at s n =
    option_and_then (λ (t : P4Table). option_and_then (λ (r : TableRows). option_map
    (λ xs. record s { meta = slice_set s.meta t.result (table_result r.rows r.otherwise xs) }) (all_there s.meta t.keys))
    (rows_numbered at.rows n)) (table_numbered at.tables n)

-- ---- statements

-- a run proceeds from a state, or has returned with one
pub data Outcome : Type 0 where
  proceeds returned : State → Outcome

abbrev pub set_in_header : Packet → ℕ → ℕ → ℕ → Packet
set_in_header packet h f n = elim (slice_get packet h) [ None ↦ packet | Some ns ↦ slice_set packet h (slice_set ns f n) ]

-- proceeds from the state that a number makes
abbrev pub setting : Option Value → (ℕ → State) → Option Outcome
setting v f = option_map (λ n. proceeds (f n)) (option_and_then as_number v)

abbrev pub choose : Option Value → Option Outcome → Option Outcome → Option Outcome
choose (Some (truth c)) a b = if c then a else b
choose _ a b = None

-- the rest is run unless the statement returned
abbrev pub then_run : Option Outcome → (State → Option Outcome) → Option Outcome
then_run None f = None
then_run (Some (proceeds s)) f = f s
then_run (Some (returned s)) f = Some (returned s)

abbrev mutual
  pub p4_run : Running → P4Stmt → State → Option Outcome
  p4_run at (set_meta i e) s = setting (p4_value at s e) (λ n. record s { meta = slice_set s.meta i n })
  p4_run at (set_header h f e) s = setting (p4_value at s e) (λ n. record s { packet = set_in_header s.packet h f n })
  p4_run at (apply_table n) s = option_map proceeds (applied at s n)
  p4_run at (p_if e first) s = choose (p4_value at s e) (p4_run_all at first s) (Some (proceeds s))
  p4_run at (p_if_else e first second) s = choose (p4_value at s e) (p4_run_all at first s) (p4_run_all at second s)
  p4_run at (verdict n) s = Some (proceeds (record s { verdict = n }))
  p4_run at (egress_port e) s = setting (p4_value at s e) (λ n. record s { egress_port = n })
  p4_run at (group e) s = setting (p4_value at s e) (λ n. record s { group = n })
  p4_run at p_return s = Some (returned s)

  pub p4_run_all : Running → P4Block → State → Option Outcome
  p4_run_all at p_done s = Some (proceeds s)
  p4_run_all at (p_then first rest) s = then_run (p4_run at first s) (p4_run_all at rest)

abbrev pub state_of : Outcome → State
state_of (proceeds s) = s
state_of (returned s) = s

-- ---- a visit

-- the members of a group; an unknown one has none
abbrev pub members : List Group → ℕ → List ℕ
members gs n = elim (find (λ (g : Group). g.number == n) gs) [ None ↦ [] | Some g ↦ g.members ]

-- the state that ingress leaves of some headers
abbrev pub ingress_of : Program → RowsFile → ℕ → Packet → Option State
ingress_of p rows port packet = option_map state_of (p4_run_all
    (record { program = p; tables = p.ingress.tables; rows = rows.tables; port = Some port; rid = None }) p.ingress.body
    (record { packet = packet; meta = replicate (length p.meta) 0; verdict = 0; egress_port = 0; group = 0 }))

-- the state that egress leaves for a member, from what ingress left
abbrev pub egress_of : Program → RowsFile → ℕ → State → Option State
egress_of p rows rid s = option_map state_of (p4_run_all
    (record { program = p; tables = p.egress.tables; rows = rows.tables; port = None; rid = Some rid }) p.egress.body
    (record s { verdict = 0; egress_port = 0 }))

-- what leaves: a port and bytes, or nothing
abbrev pub Departure : Type 0
Departure = Option (ℕ × List ℕ)

-- a port and bytes, where a state has verdict 1
abbrev pub sent_by : Program → List ℕ → State → Departure
sent_by p payload s = if s.verdict == 1 then Some (s.egress_port, leave (program_layout p) s.packet payload) else None

abbrev pub copied : Program → RowsFile → List ℕ → State → ℕ → Departure
copied p rows payload s rid =
    if has_number rid (members rows.groups s.group) then option_and_then (sent_by p payload) (egress_of p rows rid s) else None

-- what follows from the state that ingress left: no copies are named but at verdict 2, and then one member is
abbrev pub after_ingress : Program → RowsFile → List ℕ → List ℕ → State → Departure
after_ingress p rows payload [] s = sent_by p payload s
after_ingress p rows payload (rid ∷ []) s = if s.verdict == 2 then copied p rows payload s rid else None
after_ingress p rows payload (rid ∷ other ∷ rids) s = None

-- None, or one port and bytes. The tag is not looked at.
abbrev pub switch_go : Program → RowsFile → ℕ → ℕ → List ℕ → List ℕ → Departure
switch_go p rows tag port bytes rids =
    option_and_then (λ entered. option_and_then (after_ingress p rows entered.1 rids) (ingress_of p rows port entered.0)) (enter (program_layout p) bytes)
