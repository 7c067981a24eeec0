-- The rows of all tables of a log serve it.
use Rattle.std.proofs.Common.{◌≡◌, ℕ, suc, List, [], ◌∷◌, ◌++◌, Option, Some, None, refl, sym, ap, subst, ◌∙◌}
use Rattle.std.specs.Prelude.{flat_map}
use Rattle.std.proofs.lemmas.List.{append_assoc}
use Rattle.cocoon_num.specs.FunTables.{looked}
use Rattle.cocoon_num.specs.Tree.{Param, Design}
use Rattle.cocoon_num.specs.Values.{Value}
use Rattle.cocoon_num.specs.declared.fun_table.FunTable.{FunTable}
use Rattle.cocoon_types.specs.Design.{widths_of}
use Rattle.cocoon_types.specs.Rules.{WellFormed}
use Rattle.cocoon_types.specs.Tables.{Defs, look_up}
use Rattle.lowering.specs.Agrees.{FitAll, code_of}
use Rattle.lowering.specs.Log.{Placed}
use Rattle.lowering.specs.Lower.{Made, a_field, a_table, a_group}
use Rattle.lowering_correct.specs.Groups.{fork_groups, group_number}
use Rattle.lowering.specs.Serving.{AllServe}
use Rattle.lowering_correct.specs.SwitchRows.{function_rows, made_rows, rows_from, switch_rows}
use Rattle.lowering_correct.proofs.Found.{gives, Tabled, tabled, widths-fit}
use Rattle.lowering_correct.proofs.GroupNumbers.{groups-fit, GroupsFit, numbers-given}
use Rattle.lowering_correct.proofs.Looks.{table-gives}
use Rattle.lowering_correct.proofs.Ordered.{found-at, Runs}
use Rattle.lowering_correct.specs.Logs.{AllOf, filling, HoldsFunction, HoldsGroups, IsLogOf}
use Rattle.p4_ir.specs.P4Tree.{P4Table, RowsFile, TableRows}
use Rattle.p4_ir.specs.Switch.{rows_numbered, table_result}
use Rattle.runtime_defs.specs.Fitting.{all_ones, FitsDesign}
use Rattle.runtime_defs.specs.Guards.{table_named}
use Rattle.runtime_defs.specs.Places.{Places, result_value}
use Rattle.runtime_defs.specs.Stands.{Stands}

abbrev pub row-number : TableRows → ℕ
row-number r = r.number

pub function-number-is : (n : ℕ) (o : Option FunTable) → (function_rows n o).number ≡ n
function-number-is n None = refl
function-number-is n (Some t) = refl

-- rows are numbered as their tables are
pub rows-run : (d : Design) (places : Places) (i a j b : ℕ) (ms : List Made) → Placed i a ms j b → Runs row-number a (flat_map (made_rows d places) ms) b
rows-run d places i a j b [] p = p.1
rows-run d places i a j b (a_field x k w ∷ ms) p = rows-run d places (suc i) a j b ms p.1
rows-run d places i a j b (a_table t f ps ∷ ms) p = (function-number-is t.number (table_named d places f) ∙ p.0, rows-run d places i (suc a) j b ms p.1)
rows-run d places i a j b (a_group t f ps ∷ ms) p = (p.0, rows-run d places i (suc a) j b ms p.1)

-- ---- one table

abbrev group-rows : Design → Places → P4Table → List ℕ → List Param → TableRows
group-rows d places t f ps = record { number = t.number; otherwise = 0; rows = rows_from (all_ones (widths_of ps)) 1 (fork_groups d places) f }

same-value : (o : Option Value) (u v : Value) → o ≡ Some u → o ≡ Some v → u ≡ v
same-value o u v h k = cc

function-gives : (d : Design) (places : Places) (defs : Defs) (widths : List ℕ) (t : P4Table) (f : List ℕ) (ps : List Param) → FitsDesign d places → Stands d places defs → HoldsFunction d widths t f ps
    → (ns : List ℕ) (v : Value) → FitAll ps ns → look_up defs f ns ≡ Some v
    → table_result (function_rows t.number (table_named d places f)).rows (function_rows t.number (table_named d places f)).otherwise ns ≡ code_of v
function-gives d places defs widths t f ps z s h ns v fit look =
    let g = h.function in
    let table : Tabled d places f g = tabled d places f g z h.named in
    let value = gives d places defs f g s table ns (widths-fit g.params ns (subst (λ qs. FitAll qs ns) h.params fit)) in
    ap (λ o. table_result (function_rows t.number o).rows (function_rows t.number o).otherwise ns) table.named
    ∙ table-gives table.table g.result ns table.fits.rows_fit table.fits.default_is
    ∙ ap code_of (same-value (look_up defs f ns) (result_value g.result (looked table.table ns)) v value look)

group-gives : (d : Design) (places : Places) (widths : List ℕ) (t : P4Table) (f : List ℕ) (ps : List Param) → WellFormed d → FitsDesign d places → HoldsGroups d widths t f ps
    → (ns : List ℕ) → FitAll ps ns → table_result (rows_from (all_ones (widths_of ps)) 1 (fork_groups d places) f) 0 ns ≡ group_number d places f ns
group-gives d places widths t f ps w z h ns fit =
    numbers-given (widths_of ps) f ns 1 (fork_groups d places)
    (subst (λ qs. GroupsFit (widths_of qs) f (fork_groups d places)) (sym h.params) (groups-fit d places f h.function w z h.named)) (widths-fit ps ns fit)

-- ---- all tables

there : (tables : List TableRows) (a b n : ℕ) (pre post : List TableRows) (r : TableRows) → tables ≡ pre ++ r ∷ post → r.number ≡ n → Runs row-number a tables b → rows_numbered tables n ≡ Some r
there tables a b n pre post r e k h =
    ap (λ ts. rows_numbered ts n) e ∙ ap (λ m. rows_numbered (pre ++ r ∷ post) m) (sym k) ∙ found-at row-number a b pre post r (subst (λ ts. Runs row-number a ts b) e h)

serve-all : (d : Design) (places : Places) (defs : Defs) (widths : List ℕ) (rows : RowsFile) (a b : ℕ) → WellFormed d → FitsDesign d places → Stands d places defs → Runs row-number a rows.tables b
    → (pre : List TableRows) (ms : List Made) → rows.tables ≡ pre ++ flat_map (made_rows d places) ms → AllOf d widths ms → AllServe (filling d places defs) rows ms
serve-all d places defs widths rows a b w z s run pre [] e h = tt
serve-all d places defs widths rows a b w z s run pre (a_field x k u ∷ ms) e h = (tt, serve-all d places defs widths rows a b w z s run pre ms e h.1)
serve-all d places defs widths rows a b w z s run pre (a_table t f ps ∷ ms) e h =
    let r = function_rows t.number (table_named d places f) in
    let rest = flat_map (made_rows d places) ms in (
      (r, there rows.tables a b t.number pre rest r e (function-number-is t.number (table_named d places f)) run, function-gives d places defs widths t f ps z s h.0),
      serve-all d places defs widths rows a b w z s run (pre ++ r ∷ []) ms (e ∙ sym (append_assoc pre (r ∷ []) rest)) h.1,
    )
serve-all d places defs widths rows a b w z s run pre (a_group t f ps ∷ ms) e h =
    let r = group-rows d places t f ps in
    let rest = flat_map (made_rows d places) ms in (
      (r, there rows.tables a b t.number pre rest r e refl run, group-gives d places widths t f ps w z h.0),
      serve-all d places defs widths rows a b w z s run (pre ++ r ∷ []) ms (e ∙ sym (append_assoc pre (r ∷ []) rest)) h.1,
    )

pub tables-serve : (d : Design) (places : Places) (defs : Defs) (made : List Made) → WellFormed d → FitsDesign d places → Stands d places defs → IsLogOf d made
    → AllServe (filling d places defs) (switch_rows d places made) made
tables-serve d places defs made w z s log =
    serve-all d places defs _ (switch_rows d places made) 0 log.past_tables w z s (rows-run d places 1 0 log.past_fields log.past_tables made log.placed) [] made refl log.tables
