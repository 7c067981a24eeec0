-- The tables of definitions without a fault fit the design, and stand for the definitions.
use Rattle.std.proofs.Common.{◌≡◌, ℕ, zero, suc, ◌-◌, ◌^◌, ◌==◌, ◌||◌, Bool, true, false, List, [], ◌∷◌, ◌++◌, All, map, slice_get, Option, Some, None, is_some, cond, refl, sym, ap, subst, ◌∙◌}
use Rattle.std.specs.Prelude.{filter_map, option_and_then, option_map}
use Rattle.std.specs.List.{AllZip, list_all}
use Rattle.std.proofs.lemmas.List.Elements.{All-nil, All-cons, All-head, All-tail}
use Rattle.std.proofs.lemmas.List.Folds.{list_any-append}
use Rattle.cocoon_num.specs.BitsOf.{value_of}
use Rattle.cocoon_num.specs.FunTables.{looked}
use Rattle.cocoon_num.specs.Lists.{first_of, is_one_of}
use Rattle.cocoon_num.specs.Names.{same_name, named}
use Rattle.cocoon_num.specs.Sorts.{same_sort}
use Rattle.cocoon_num.specs.Tree.{Name, ResultKind, of_width, of_truth, FunctionDecl, Expr, Pattern, literal, masked, any, DefsText, Design}
use Rattle.cocoon_num.specs.Values.{Value, number, truth}
use Rattle.cocoon_num.specs.declared.bits.Bits.{Bits}
use Rattle.cocoon_num.specs.declared.fun_table.FunRow.{FunRow}
use Rattle.cocoon_num.specs.declared.fun_table.FunTable.{FunTable}
use Rattle.cocoon_syntax.specs.TreeOf.{entry_of}
use Rattle.cocoon_syntax.specs.declared.defs.Entry.{Entry as CodeEntry}
use Rattle.cocoon_types.specs.DefsRules.{DefsFit, entries_faults, entry_function, fork_calls, guard_calls, is_false, is_literal, is_literal_entry, missing_defaults, other_entries, guard_rows, fork_rows, patterns_fit, sort_of_value, value_fits}
use Rattle.cocoon_types.specs.Design.{functions, widths_of}
use Rattle.cocoon_types.specs.Rules.{WellFormed}
use Rattle.cocoon_types.specs.Tables.{Row, Table, default_of, defs_of, look, look_up, row_of, runtime_table}
use Rattle.cocoon_types.specs.Typing.{result_sort}
use Rattle.runtime_defs.specs.Bound.{as_bits, IsPlace, IsRow, pattern_mask}
use Rattle.runtime_defs.specs.Fitting.{all_ones, FitsDesign, FitsFunction, FitsPlace, FitsRow, IsLiteral, literal_functions, result_width}
use Rattle.runtime_defs.specs.Places.{Places, all_fit_widths, result_value, table_at}
use Rattle.runtime_defs.specs.Stands.{IsTableOf, Stands}
use Rattle.runtime_defs.proofs.Chosen.{AllRight, all-literal, all-right, EntriesOwn, first-literal, first-right, LiteralOf, own-entries, RowLiteral, rows-literal, rows-right}
use Rattle.runtime_defs.proofs.Distinct.{nil-both, once, OnceAfter, other-name, runtime-self, once-more}
use Rattle.runtime_defs.proofs.Looking.{both-true, number-is, RowFits, table-looks}
use Rattle.runtime_defs.proofs.Numbers.{same-refl}
use Rattle.runtime_defs.proofs.Zips.{paired, zip-with}

-- ---- one table

-- what the table of a function is made of
pub record Parts (es : DefsText) (f : FunctionDecl) (t : Table) : Type 0 where
  pub bodiless : f.body ≡ None
  pub default : first_of (filter_map (default_of f.name.text) es) ≡ Some t.otherwise
  pub rows : t.rows ≡ filter_map (row_of f.name.text) es
  pub function : t.function ≡ f.name

parts-by : (es : DefsText) (f : FunctionDecl) (t : Table) (b : Option Expr) (v : Option Value) → f.body ≡ b → first_of (filter_map (default_of f.name.text) es) ≡ v
    → elim b [
      | Some e ↦ None
      | None ↦ option_map (λ v. record { function = f.name; rows = filter_map (row_of f.name.text) es; otherwise = v }) v
    ] ≡ Some t
    → Parts es f t
parts-by es f t (Some e) v h k g = absurd cc
parts-by es f t None None h k g = absurd cc
parts-by es f t None (Some v) h k g =
    let is : record { function = f.name; rows = filter_map (row_of f.name.text) es; otherwise = v } ≡ t = cc in
    record { bodiless = h; default = k ∙ ap (λ (t : Table). Some t.otherwise) is; rows = ap (λ (t : Table). t.rows) (sym is); function = ap (λ (t : Table). t.function) (sym is) }

pub parts-of : (es : DefsText) (f : FunctionDecl) (t : Table) → runtime_table es f ≡ Some t → Parts es f t
parts-of es f t h = parts-by es f t f.body (first_of (filter_map (default_of f.name.text) es)) refl refl h

width-is : (kind : ResultKind) (b : Bits) (v : Value) → same_sort (result_sort kind) (sort_of_value v) ≡ true → value_of b ≡ as_bits v → b.width ≡ result_width kind
width-is (of_width w) b (number u n) s h =
    let same : b.width ≡ u = cc in
    same ∙ sym (number-is w u s)
width-is (of_width w) b (truth x) s h = absurd cc
width-is of_truth b (number u n) s h = absurd cc
width-is of_truth b (truth x) s h = cc

row-fits : (ws : List ℕ) (kind : ResultKind) (r : Row) (row : FunRow) → IsRow r row → RowFits ws kind r → FitsRow ws (result_width kind) row
row-fits ws kind r row i f = record {
  values_fit = ap (all_fit_widths ws) i.values ∙ f.values;
  masks_fit = ap (all_fit_widths ws) i.masks ∙ f.masks;
  result_is = width-is kind row.result r.value f.sort i.result;
}

rows-fit : (ws : List ℕ) (kind : ResultKind) (rs : List Row) (rows : List FunRow) → AllZip IsRow rs rows → All (RowFits ws kind) rs → All (FitsRow ws (result_width kind)) rows
rows-fit ws kind [] [] z f = All-nil (FitsRow ws (result_width kind))
rows-fit ws kind [] (row ∷ rows) z f = absurd z
rows-fit ws kind (r ∷ rs) [] z f = absurd z
rows-fit ws kind (r ∷ rs) (row ∷ rows) z f =
    All-cons (FitsRow ws (result_width kind)) row rows (row-fits ws kind r row z.0 (All-head (RowFits ws kind) r rs f)) (rows-fit ws kind rs rows z.1 (All-tail (RowFits ws kind) r rs f))

-- ---- literal rows

literal-masks : (ps : List Pattern) (ws : List ℕ) → list_all is_literal ps ≡ true → patterns_fit ps ws ≡ true → map pattern_mask ps ≡ all_ones ws
literal-masks [] [] l f = refl
literal-masks [] (w ∷ ws) l f = absurd cc
literal-masks (p ∷ ps) [] l f = absurd cc
literal-masks (literal v n ∷ ps) (w ∷ ws) l f =
    let fs = both-true (v == w) (patterns_fit ps ws) f in
    let rest = literal-masks ps ws (both-true true (list_all is_literal ps) l).1 fs.1 in
    (λ i. (2 ^ number-is v w fs.0 i - 1) ∷ rest i)
literal-masks (masked v n u m ∷ ps) (w ∷ ws) l f = absurd cc
literal-masks (any ∷ ps) (w ∷ ws) l f = absurd cc

rows-ones : (ws : List ℕ) (kind : ResultKind) (rs : List Row) (rows : List FunRow) → AllZip IsRow rs rows → All (RowFits ws kind) rs → All RowLiteral rs → All (λ (row : FunRow). row.masks ≡ all_ones ws) rows
rows-ones ws kind [] [] z f l = All-nil (λ (row : FunRow). row.masks ≡ all_ones ws)
rows-ones ws kind [] (row ∷ rows) z f l = absurd z
rows-ones ws kind (r ∷ rs) [] z f l = absurd z
rows-ones ws kind (r ∷ rs) (row ∷ rows) z f l =
    All-cons (λ (row : FunRow). row.masks ≡ all_ones ws) row rows
    (z.0.masks ∙ literal-masks r.patterns ws (All-head RowLiteral r rs l) (All-head (RowFits ws kind) r rs f).widths)
    (rows-ones ws kind rs rows z.1 (All-tail (RowFits ws kind) r rs f) (All-tail RowLiteral r rs l))

false-value : (b : Bits) (v : Value) → is_false v ≡ true → value_of b ≡ as_bits v → b.value ≡ 0
false-value b (number w n) l h = absurd cc
false-value b (truth true) l h = absurd cc
false-value b (truth false) l h = cc

truth-false : (kind : ResultKind) (b : Bits) (v : Value) → is_false v ≡ true → same_sort (result_sort kind) (sort_of_value v) ≡ true → value_of b ≡ as_bits v → result_value kind b ≡ truth false
truth-false (of_width w) b (number u n) l s h = absurd cc
truth-false (of_width w) b (truth x) l s h = absurd cc
truth-false of_truth b v l s h = ap (λ n. truth (n == 1)) (false-value b v l h)

-- ---- all definitions

-- the tables of definitions without a fault
pub record Right (d : Design) (es : DefsText) (places : Places) : Type 0 where
  pub rules : WellFormed d
  pub right : AllRight d es
  pub own : EntriesOwn es
  pub literal : LiteralOf (literal_functions d) es
  pub tables : AllZip (IsPlace es) (functions d) places

literal-more : (fs gs : List (List ℕ)) (x : List ℕ) (e : Bool) → (is_one_of fs x ≡ true → e ≡ true) → (is_one_of gs x ≡ true → e ≡ true) → is_one_of (fs ++ gs) x ≡ true → e ≡ true
literal-more fs gs x e h k o = by (is_one_of fs x) refl (is_one_of gs x) refl (sym (list_any-append (λ y. same_name y x) fs gs) ∙ o)
  where
    by : (a : Bool) → is_one_of fs x ≡ a → (b : Bool) → is_one_of gs x ≡ b → (is_one_of fs x || is_one_of gs x) ≡ true → e ≡ true
    by true p b q r = h p
    by false p true q r = k q
    by false p false q r = absurd cc

pub literal-both : (fs gs : List (List ℕ)) (es : DefsText) → LiteralOf fs es → LiteralOf gs es → LiteralOf (fs ++ gs) es
literal-both fs gs [] h k = tt
literal-both fs gs (e ∷ es) h k = (literal-more fs gs (entry_function e).text (is_literal_entry e) h.0 k.0, literal-both fs gs es h.1 k.1)

-- entries without a fault
pub record Sound (d : Design) (es : DefsText) : Type 0 where
  pub right : AllRight d es
  pub literal : LiteralOf (literal_functions d) es

pub sound-of : (d : Design) (es : DefsText) → WellFormed d → DefsFit d es → Sound d es
sound-of d es w f =
    let three = nil-both (entries_faults d [] es ++ missing_defaults d es ++ other_entries (guard_calls d) guard_rows es) (other_entries (fork_calls d) fork_rows es) f in
    let two = nil-both (entries_faults d [] es ++ missing_defaults d es) (other_entries (guard_calls d) guard_rows es) three.0 in
    record {
      right = all-right d [] es (nil-both (entries_faults d [] es) (missing_defaults d es) two.0).0;
      literal = literal-both (guard_calls d) (fork_calls d) es (all-literal (guard_calls d) guard_rows es two.1) (all-literal (fork_calls d) fork_rows es three.1);
    }

pub right-of : (d : Design) (es : DefsText) (places : Places) → WellFormed d → DefsFit d es → EntriesOwn es → AllZip (IsPlace es) (functions d) places → Right d es places
right-of d es places w f o z =
    let sound = sound-of d es w f in
    record { rules = w; right = sound.right; own = o; literal = sound.literal; tables = z }

-- what is known of the table of a function
pub record Tabled (d : Design) (es : DefsText) (f : FunctionDecl) (table : FunTable) : Type 0 where
  pub rows : List Row
  pub default : Value
  pub bodiless : f.body ≡ None
  pub is : runtime_table es f ≡ Some (record { function = f.name; rows = rows; otherwise = default })
  pub widths : table.widths ≡ widths_of f.params
  pub stand : AllZip IsRow rows table.rows
  pub default_is : value_of table.default ≡ as_bits default
  pub rows_fit : All (RowFits (widths_of f.params) f.result) rows
  pub default_fits : value_fits f default ≡ true
  pub rows_literal : is_one_of (literal_functions d) f.name.text ≡ true → All RowLiteral rows
  pub default_literal : is_one_of (literal_functions d) f.name.text ≡ true → is_false default ≡ true

pub tabled : (d : Design) (es : DefsText) (places : Places) → Right d es places → (k : ℕ) (f : FunctionDecl) (table : FunTable) → slice_get (functions d) k ≡ Some f → IsPlace es f (Some table) → Tabled d es f table
tabled d es places r k f table g p =
    let t = p.0 in
    let parts = parts-of es f t p.1 in
    let named = runtime-self d r.rules k f g parts.bodiless in
    record {
      rows = t.rows;
      default = t.otherwise;
      bodiless = parts.bodiless;
      is = p.1 ∙ ap (λ (n : Name). Some (record { function = n; rows = t.rows; otherwise = t.otherwise })) parts.function;
      widths = p.2.widths;
      stand = p.2.rows;
      default_is = p.2.default;
      rows_fit = subst (All (RowFits (widths_of f.params) f.result)) (sym parts.rows) (rows-right d f named es r.right r.own);
      default_fits = first-right d f named es r.right t.otherwise parts.default;
      rows_literal = λ o. subst (All RowLiteral) (sym parts.rows) (rows-literal (literal_functions d) f.name.text o es r.literal);
      default_literal = λ o. first-literal (literal_functions d) f.name.text o es r.literal t.otherwise parts.default;
    }

table-fits : (d : Design) (es : DefsText) (f : FunctionDecl) (table : FunTable) → Tabled d es f table → FitsFunction f table
table-fits d es f table t = record {
  widths_are = t.widths;
  rows_fit = subst (λ ws. All (FitsRow ws (result_width f.result)) table.rows) (sym t.widths) (rows-fit (widths_of f.params) f.result t.rows table.rows t.stand t.rows_fit);
  default_is = width-is f.result table.default t.default t.default_fits t.default_is;
}

table-literal : (d : Design) (es : DefsText) (f : FunctionDecl) (table : FunTable) → Tabled d es f table → is_one_of (literal_functions d) f.name.text ≡ true → IsLiteral f table
table-literal d es f table t o = record {
  default_false = truth-false f.result table.default t.default (t.default_literal o) t.default_fits t.default_is;
  masks_ones = subst (λ ws. All (λ (row : FunRow). row.masks ≡ all_ones ws) table.rows) (sym t.widths) (rows-ones (widths_of f.params) f.result t.rows table.rows t.stand t.rows_fit (t.rows_literal o));
}

place-fits : (d : Design) (es : DefsText) (places : Places) → Right d es places → (k : ℕ) (f : FunctionDecl) (place : Option FunTable) → slice_get (functions d) k ≡ Some f → IsPlace es f place → FitsPlace f place
place-fits d es places r k f None g p = p
place-fits d es places r k f (Some table) g p = let t = tabled d es places r k f table g p in (t.bodiless, table-fits d es f table t)

-- the table at a place is that of its function
pub table-of : (d : Design) (es : DefsText) (places : Places) → Right d es places → (k : ℕ) (f : FunctionDecl) (table : FunTable) → slice_get (functions d) k ≡ Some f → table_at places k ≡ Some table → Tabled d es f table
table-of d es places r k f table g h =
    let p = paired (IsPlace es) (functions d) places k f r.tables g in
    let there : p.other ≡ Some table = sym (ap (option_and_then (λ (t : Option FunTable). t)) p.there) ∙ h in
    tabled d es places r k f table g (subst (IsPlace es f) there p.pair)

pub right-fits : (d : Design) (es : DefsText) (places : Places) → Right d es places → FitsDesign d places
right-fits d es places r = record {
  places = zip-with (IsPlace es) FitsPlace (functions d) places r.tables (λ k f place g h p. place-fits d es places r k f place g p);
  literal = λ n f t g h o. table-literal d es f t (table-of d es places r n f t g h) o;
}

-- ---- what the tables stand for

named-step : (es : DefsText) (e : FunctionDecl) (fs : List FunctionDecl) (f : FunctionDecl) (t : Table) → same_name f.name.text e.name.text ≡ false
    → named (λ (t : Table). t.function) f.name.text (filter_map (runtime_table es) fs) ≡ Some t → named (λ (t : Table). t.function) f.name.text (filter_map (runtime_table es) (e ∷ fs)) ≡ Some t
named-step es e fs f t other later = by (runtime_table es e) refl
  where
    by : (o : Option Table) → runtime_table es e ≡ o → named (λ (t : Table). t.function) f.name.text (filter_map (runtime_table es) (e ∷ fs)) ≡ Some t
    by None h = rw h later
    by (Some u) h = rw h (ap (λ c. cond c (Some u) (named (λ (t : Table). t.function) f.name.text (filter_map (runtime_table es) fs)))
        (ap (λ (n : Name). same_name f.name.text n.text) (parts-of es e u h).function ∙ other) ∙ later)

named-here : (es : DefsText) (e : FunctionDecl) (fs : List FunctionDecl) (t : Table) → runtime_table es e ≡ Some t → named (λ (t : Table). t.function) e.name.text (filter_map (runtime_table es) (e ∷ fs)) ≡ Some t
named-here es e fs t h = rw h (ap (λ c. cond c (Some t) (named (λ (t : Table). t.function) e.name.text (filter_map (runtime_table es) fs)))
    (ap (λ (n : Name). same_name e.name.text n.text) (parts-of es e t h).function ∙ same-refl e.name.text))

-- the name of a function finds its table
named-table : (es : DefsText) (seen : List Name) (fs : List FunctionDecl) (k : ℕ) (f : FunctionDecl) (t : Table) → OnceAfter seen fs → slice_get fs k ≡ Some f → runtime_table es f ≡ Some t
    → named (λ (t : Table). t.function) f.name.text (filter_map (runtime_table es) fs) ≡ Some t
named-table es seen [] k f t o g h = absurd cc
named-table es seen (e ∷ fs) zero f t o g h =
    let same : e ≡ f = cc in
    ap (λ (x : FunctionDecl). named (λ (t : Table). t.function) x.name.text (filter_map (runtime_table es) (e ∷ fs))) (sym same) ∙ named-here es e fs t (ap (runtime_table es) same ∙ h)
named-table es seen (e ∷ fs) (suc k) f t o g h =
    named-step es e fs f t (other-name seen e fs k f o g) (named-table es (e.name ∷ seen) fs k f t (once-more seen e fs o) g h)

looked-up : (d : Design) (es : DefsText) → WellFormed d → (k : ℕ) (f : FunctionDecl) (table : FunTable) (t : Tabled d es f table) → slice_get (functions d) k ≡ Some f → (ns : List ℕ)
    → look_up (defs_of d es) f.name.text ns ≡ Some (look t.rows t.default ns)
looked-up d es w k f table t g ns =
    ap (option_map (λ (u : Table). look u.rows u.otherwise ns)) (named-table es [] (functions d) k f (record { function = f.name; rows = t.rows; otherwise = t.default }) (once d w) g t.is)

-- a table at a place gives what the definitions give
pub table-gives : (d : Design) (es : DefsText) (places : Places) → Right d es places → (k : ℕ) (f : FunctionDecl) (table : FunTable) → slice_get (functions d) k ≡ Some f → table_at places k ≡ Some table
    → (ns : List ℕ) → all_fit_widths table.widths ns ≡ true → look_up (defs_of d es) f.name.text ns ≡ Some (result_value f.result (looked table ns))
table-gives d es places r k f table g h ns fit =
    let t = table-of d es places r k f table g h in
    looked-up d es r.rules k f table t g ns
    ∙ ap Some (sym (table-looks (widths_of f.params) ns f.result t.rows t.default table t.stand t.rows_fit t.default_fits t.default_is (ap (λ ws. all_fit_widths ws ns) (sym t.widths) ∙ fit)))

pub no-body : (b : Option Expr) → is_some b ≡ true → b ≡ None → ⊥
no-body None h k = absurd cc
no-body (Some e) h k = cc

is-table : (d : Design) (es : DefsText) (places : Places) → Right d es places → (k : ℕ) (f : FunctionDecl) → slice_get (functions d) k ≡ Some f → f.body ≡ None
    → (o : Option FunTable) → slice_get places k ≡ Some o → IsPlace es f o → IsTableOf places (defs_of d es) k f
is-table d es places r k f g b None h p = absurd (no-body f.body p b)
is-table d es places r k f g b (Some table) h p =
    let there : table_at places k ≡ Some table = ap (option_and_then (λ (t : Option FunTable). t)) h in
    record { table = table; is_there = there; gives = table-gives d es places r k f table g there }

pub right-stands : (d : Design) (es : DefsText) (places : Places) → Right d es places → Stands d places (defs_of d es)
right-stands d es places r n g at b =
    let p = paired (IsPlace es) (functions d) places n g r.tables at in
    is-table d es places r n g at b p.other p.there p.pair

-- ---- entries of the code

pub right-entries : (d : Design) (es : List CodeEntry) (places : Places) → WellFormed d → DefsFit d (map entry_of es) → AllZip (IsPlace (map entry_of es)) (functions d) places → Right d (map entry_of es) places
right-entries d es places w f z = right-of d (map entry_of es) places w f (own-entries es) z
