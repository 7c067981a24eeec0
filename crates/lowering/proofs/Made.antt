-- What lowering made is in the program, at its number, and its rows serve it.
use Rattle.std.specs.Prelude.{◌≡◌, ℕ, suc, ◌==◌, ◌<◌, Bool, true, false, cond, List, [], ◌∷◌, ◌++◌, Option, Some, refl}
use Rattle.std.proofs.Common.{ap, arith}
use Rattle.std.proofs.lemmas.Bool.{eq-eqb, eqb-true, false_from_ne_true}
use Rattle.p4_ir.specs.P4Tree.{P4Table, Program, RowsFile, field_widths}
use Rattle.p4_ir.specs.Switch.{Running, table_numbered}
use Rattle.lowering.specs.Agrees.{AllMade, Filling}
use Rattle.lowering.specs.Log.{FieldsAt, Placed, tables_in, widths_in}
use Rattle.lowering.specs.Lower.{Made, a_field, a_table, a_group}
use Rattle.lowering.specs.Serving.{AllServe}
use Rattle.lowering.specs.SwitchProgram.{fields_in}

-- ---- the log in two parts

pub placed_both : (i a j b k c : ℕ) (xs ys : List Made) → Placed i a xs j b → Placed j b ys k c → Placed i a (xs ++ ys) k c
placed_both i a j b k c [] ys h g = rw (h.0, h.1) g
placed_both i a j b k c (a_field x m w ∷ xs) ys h g = (h.0, placed_both (suc i) a j b k c xs ys h.1 g)
placed_both i a j b k c (a_table t f ps ∷ xs) ys h g = (h.0, placed_both i (suc a) j b k c xs ys h.1 g)
placed_both i a j b k c (a_group t f ps ∷ xs) ys h g = (h.0, placed_both i (suc a) j b k c xs ys h.1 g)

pub serves_first : (fill : Filling) (rows : RowsFile) (xs ys : List Made) → AllServe fill rows (xs ++ ys) → AllServe fill rows xs
serves_first fill rows [] ys h = tt
serves_first fill rows (x ∷ xs) ys h = (h.0, serves_first fill rows xs ys h.1)

pub serves_second : (fill : Filling) (rows : RowsFile) (xs ys : List Made) → AllServe fill rows (xs ++ ys) → AllServe fill rows ys
serves_second fill rows [] ys h = h
serves_second fill rows (x ∷ xs) ys h = serves_second fill rows xs ys h.1

pub fields_first : (ws : List ℕ) (xs ys : List Made) → FieldsAt ws (xs ++ ys) → FieldsAt ws xs
fields_first ws [] ys h = tt
fields_first ws (a_field x i w ∷ xs) ys h = (h.0, fields_first ws xs ys h.1)
fields_first ws (a_table t f ps ∷ xs) ys h = fields_first ws xs ys h
fields_first ws (a_group t f ps ∷ xs) ys h = fields_first ws xs ys h

pub fields_second : (ws : List ℕ) (xs ys : List Made) → FieldsAt ws (xs ++ ys) → FieldsAt ws ys
fields_second ws [] ys h = h
fields_second ws (a_field x i w ∷ xs) ys h = fields_second ws xs ys h.1
fields_second ws (a_table t f ps ∷ xs) ys h = fields_second ws xs ys h
fields_second ws (a_group t f ps ∷ xs) ys h = fields_second ws xs ys h

-- ---- fields

pub widths_made : (ms : List Made) → field_widths (fields_in ms) ≡ widths_in ms
widths_made [] = refl
widths_made (a_field x i w ∷ ms) = ap (λ ws. w ∷ ws) (widths_made ms)
widths_made (a_table t f ps ∷ ms) = widths_made ms
widths_made (a_group t f ps ∷ ms) = widths_made ms

-- ---- tables

abbrev pub TablesAt : List P4Table → List Made → Type 0
TablesAt ts [] = Unit {0}
TablesAt ts (a_field x i w ∷ ms) = TablesAt ts ms
TablesAt ts (a_table t f ps ∷ ms) = (table_numbered ts t.number ≡ Some t) × TablesAt ts ms
TablesAt ts (a_group t f ps ∷ ms) = (table_numbered ts t.number ≡ Some t) × TablesAt ts ms

this_table : (b : Bool) (t : P4Table) (o : Option P4Table) → b ≡ true → cond b (Some t) o ≡ Some t
this_table true t o h = refl
this_table false t o h = absurd cc

other_table : (b : Bool) (x t : P4Table) (o : Option P4Table) → b ≡ false → o ≡ Some t → cond b (Some x) o ≡ Some t
other_table true x t o h g = absurd cc
other_table false x t o h g = g

lower_number : (x : P4Table) (n a : ℕ) → x.number < a → n ≡ a → (x.number == n) ≡ false
lower_number x n a h g = false_from_ne_true (x.number == n) (λ e. omega (arith, h, g, eqb-true x.number n e))

-- a table of a lower number stands in no one's way
past_lower : (x : P4Table) (ts : List P4Table) (i a j b : ℕ) (ms : List Made) → x.number < a → Placed i a ms j b → TablesAt ts ms → TablesAt (x ∷ ts) ms
past_lower x ts i a j b [] h p g = tt
past_lower x ts i a j b (a_field y k w ∷ ms) h p g = past_lower x ts (suc i) a j b ms h p.1 g
past_lower x ts i a j b (a_table t f ps ∷ ms) h p g =
    (other_table (x.number == t.number) x t (table_numbered ts t.number) (lower_number x t.number a h p.0) g.0, past_lower x ts i (suc a) j b ms (omega (arith, h)) p.1 g.1)
past_lower x ts i a j b (a_group t f ps ∷ ms) h p g =
    (other_table (x.number == t.number) x t (table_numbered ts t.number) (lower_number x t.number a h p.0) g.0, past_lower x ts i (suc a) j b ms (omega (arith, h)) p.1 g.1)

pub tables_at : (i a j b : ℕ) (ms : List Made) → Placed i a ms j b → TablesAt (tables_in ms) ms
tables_at i a j b [] p = tt
tables_at i a j b (a_field x k w ∷ ms) p = tables_at (suc i) a j b ms p.1
tables_at i a j b (a_table t f ps ∷ ms) p =
    (this_table (t.number == t.number) t (table_numbered (tables_in ms) t.number) (eq-eqb t.number t.number refl), past_lower t (tables_in ms) i (suc a) j b ms (omega (arith, p.0)) p.1 (tables_at i (suc a) j b ms p.1))
tables_at i a j b (a_group t f ps ∷ ms) p =
    (this_table (t.number == t.number) t (table_numbered (tables_in ms) t.number) (eq-eqb t.number t.number refl), past_lower t (tables_in ms) i (suc a) j b ms (omega (arith, p.0)) p.1 (tables_at i (suc a) j b ms p.1))

-- ---- all of it

abbrev pub running : Program → List P4Table → RowsFile → (port rid : Option ℕ) → Running
running p ts rows port rid = record { program = p; tables = ts; rows = rows.tables; port = port; rid = rid }

pub all_made : (p : Program) (ts : List P4Table) (rows : RowsFile) (port rid : Option ℕ) (fill : Filling) (ms : List Made)
    → FieldsAt (field_widths p.meta) ms → TablesAt ts ms → AllServe fill rows ms → AllMade (running p ts rows port rid) fill ms
all_made p ts rows port rid fill [] f t s = tt
all_made p ts rows port rid fill (a_field x i w ∷ ms) f t s = (f.0, all_made p ts rows port rid fill ms f.1 t s.1)
all_made p ts rows port rid fill (a_table u g ps ∷ ms) f t s = ((t.0, s.0.0, s.0.1, s.0.2), all_made p ts rows port rid fill ms f t.1 s.1)
all_made p ts rows port rid fill (a_group u g ps ∷ ms) f t s = ((t.0, s.0.0, s.0.1, s.0.2), all_made p ts rows port rid fill ms f t.1 s.1)
