-- The one round of the design q.
use Rattle.std.proofs.Common.{◌≡◌, ℕ, zero, suc, ◌<◌, ◌≤◌, ◌^◌, true, List, [], ◌∷◌, All, length, Option, Some, refl, sym, subst, arith}
use Rattle.std.specs.Prelude.{codes, slice_get, take}
use Rattle.std.specs.List.{AllByRecursion, AllZip}
use Rattle.std.proofs.lemmas.List.Elements.{All-from_recursion}
use Rattle.std.proofs.lemmas.Nat.{pow_pos}
use Rattle.cocoon_num.specs.Lists.{is_one_of}
use Rattle.cocoon_num.specs.PacketForms.{FieldsFit}
use Rattle.cocoon_num.specs.Tree.{AssumeDecl, FunctionDecl}
use Rattle.cocoon_num.specs.declared.bits.Bits.{Bits}
use Rattle.cocoon_num.specs.declared.fun_table.FunRow.{FunRow}
use Rattle.cocoon_num.specs.declared.fun_table.FunTable.{FunTable}
use Rattle.cocoon_resolve.specs.Readers.{assumptions_to}
use Rattle.cocoon_types.specs.Design.{functions, widths_of}
use Rattle.cnf_core.specs.declared.certificates.Instance.{Instance}
use Rattle.runtime_defs.specs.Printable.{FitsFunction, FitsPlace, FitsRow, IsLiteral, all_fit_widths, all_ones, literal_functions, result_width, table_at}
use Rattle.query_laws.specs.Queries.{Fits, asked}
use Rattle.query_laws.specs.Candidates as laws
use Rattle.query_laws.specs.Candidates.{IsCandidate}
use Rattle.query_laws.specs.FirstRows.{applications_of}
use Rattle.query_laws.specs.Rounds.{Breaks, Progress}
use Rattle.obligation_examples.specs.DesignQ.{q_design}
use Rattle.obligation_examples.specs.ExpectedOfQ.{q_formula, zero_and_one}

-- ---- the tables

is-wide : 1 ≤ 1
is-wide = omega arith

is-narrow : 1 ≤ 128
is-narrow = omega arith

zero-fits : 0 < 2 ^ 1
zero-fits = omega arith

one-fits : 1 < 2 ^ 1
one-fits = omega arith

abbrev off : Bits
off = record { width = 1; value = 0; wide = is-wide; narrow = is-narrow; fits = zero-fits }

abbrev on : Bits
on = record { width = 1; value = 1; wide = is-wide; narrow = is-narrow; fits = one-fits }

abbrev row : (value mask : ℕ) → Bits → FunRow
row v m b = record { values = v ∷ []; masks = m ∷ []; result = b }

abbrev h_table : FunTable
h_table = record { widths = 16 ∷ []; rows = []; default = off }

abbrev g_table : FunTable
g_table = record { widths = 16 ∷ []; rows = row 0 65535 on ∷ []; default = off }

abbrev q_table : FunTable
q_table = record { widths = 1 ∷ []; rows = row 0 1 off ∷ row 1 1 on ∷ []; default = off }

abbrev tables : List (Option FunTable)
tables = Some h_table ∷ Some g_table ∷ Some q_table ∷ []

-- ---- they fit the design

row-fits : (ws : List ℕ) (w : ℕ) (r : FunRow) → all_fit_widths ws r.values ≡ true → all_fit_widths ws r.masks ≡ true → r.result.width ≡ w → FitsRow ws w r
row-fits ws w r v m e = record { values_fit = v; masks_fit = m; result_is = e }

rows-fit : (ws : List ℕ) (w : ℕ) (rows : List FunRow) → AllByRecursion (FitsRow ws w) rows → All (FitsRow ws w) rows
rows-fit ws w rows h = All-from_recursion (FitsRow ws w) rows h

h-fits : (f : FunctionDecl) → h_table.widths ≡ widths_of f.params → 1 ≡ result_width f.result → FitsFunction f h_table
h-fits f e w = record { widths_are = e; rows_fit = rows-fit h_table.widths (result_width f.result) [] tt; default_is = w }

g-fits : (f : FunctionDecl) → g_table.widths ≡ widths_of f.params → 1 ≡ result_width f.result → FitsFunction f g_table
g-fits f e w = record {
  widths_are = e;
  rows_fit = rows-fit g_table.widths (result_width f.result) g_table.rows (row-fits g_table.widths (result_width f.result) (row 0 65535 on) refl refl w, tt);
  default_is = w;
}

q-fits : (f : FunctionDecl) → q_table.widths ≡ widths_of f.params → 1 ≡ result_width f.result → FitsFunction f q_table
q-fits f e w = record {
  widths_are = e;
  rows_fit = rows-fit q_table.widths (result_width f.result) q_table.rows
      (row-fits q_table.widths (result_width f.result) (row 0 1 off) refl refl w, (row-fits q_table.widths (result_width f.result) (row 1 1 on) refl refl w, tt));
  default_is = w;
}

places-fit : AllZip FitsPlace (functions q_design) tables
places-fit = ((refl, h-fits _ refl refl), ((refl, g-fits _ refl refl), ((refl, q-fits _ refl refl), tt)))

same-table : (t u : FunTable) → Some t ≡ Some u → t ≡ u
same-table t u e = cc

same-function : (f g : FunctionDecl) → Some f ≡ Some g → f ≡ g
same-function f g e = cc

-- of the three tables
by-table : (P : ℕ → FunTable → Type 0) → P 0 h_table → P 1 g_table → P 2 q_table → (f : ℕ) (t : FunTable) → table_at tables f ≡ Some t → P f t
by-table P h g q zero t e = subst (P 0) (same-table h_table t e) h
by-table P h g q (suc zero) t e = subst (P 1) (same-table g_table t e) g
by-table P h g q (suc (suc zero)) t e = subst (P 2) (same-table q_table t e) q
by-table P h g q (suc (suc (suc f))) t e = absurd cc

h-ones : laws.HasLiteralRows h_table
h-ones = All-from_recursion (λ (r : FunRow). r.masks ≡ all_ones h_table.widths) h_table.rows tt

g-ones : laws.HasLiteralRows g_table
g-ones = All-from_recursion (λ (r : FunRow). r.masks ≡ all_ones g_table.widths) g_table.rows (refl, tt)

q-ones : laws.HasLiteralRows q_table
q-ones = All-from_recursion (λ (r : FunRow). r.masks ≡ all_ones q_table.widths) q_table.rows (refl, (refl, tt))

is-literal : (n : ℕ) (f : FunctionDecl) (t : FunTable) → slice_get (functions q_design) n ≡ Some f → table_at tables n ≡ Some t → is_one_of (literal_functions q_design) f.name.text ≡ true → IsLiteral f t
is-literal zero f t g e o =
    subst (IsLiteral f) (same-table h_table t e) (subst (λ x. IsLiteral x h_table) (same-function _ f g) (record { default_false = refl; masks_ones = h-ones }))
is-literal (suc zero) f t g e o =
    subst (IsLiteral f) (same-table g_table t e) (subst (λ x. IsLiteral x g_table) (same-function _ f g) (record { default_false = refl; masks_ones = g-ones }))
is-literal (suc (suc zero)) f t g e o = absurd (not-listed (subst (λ x. is_one_of (literal_functions q_design) x.name.text ≡ true) (sym (same-function _ f g)) o))
  where
    not-listed : is_one_of (literal_functions q_design) (codes "q") ≡ true → ⊥
    not-listed h = cc
is-literal (suc (suc (suc n))) f t g e o = absurd cc

-- ---- a candidate, and what it breaks

g-short : laws.IsShort q_design 1 q_formula [] 1 g_table
g-short = let n : length (applications_of 1 (asked q_design 1 q_formula [])) ≡ 1 = refl in omega (arith, n)

q-short : laws.IsShort q_design 1 q_formula [] 2 q_table
q-short = let n : length (applications_of 2 (asked q_design 1 q_formula [])) ≡ 2 = refl in omega (arith, n)

candidate : IsCandidate q_design 1 q_formula [] tables
candidate = record {
  definitions = record { places = places-fit; literal = is-literal };
  formula_ = record { inputs = λ i. 0; fit = λ i w m. pow_pos w; all = (refl, tt) };
  instances_ = tt;
  literal = by-table (λ f t. laws.HasLiteralRows t) h-ones g-ones q-ones;
  short = by-table (λ f t. laws.IsShort q_design 1 q_formula [] f t) (omega arith) g-short q-short;
}

fits : Fits q_design 1 zero_and_one
fits = record { among = (let n : length (assumptions_to 1 q_design) ≡ 1 = refl in omega (arith, n)); values = λ a e. subst (λ (b : AssumeDecl). FieldsFit (widths_of b.params) (0 ∷ 1 ∷ [])) (same _ a e) (omega arith, (omega arith, tt)) }
  where
    same : (a b : AssumeDecl) → Some a ≡ Some b → a ≡ b
    same a b e = cc

broken : Breaks q_design 1 q_formula [] zero_and_one
broken = record { tables = tables; candidate = candidate; false_ = λ ins. refl }

broke : (j : ℕ) (i : Instance) → slice_get (zero_and_one ∷ []) j ≡ Some i → Breaks q_design 1 q_formula (take j (zero_and_one ∷ [])) i
broke zero i e = subst (Breaks q_design 1 q_formula []) (same zero_and_one i e) broken
  where
    same : (a b : Instance) → Some a ≡ Some b → a ≡ b
    same a b e = cc
broke (suc j) i e = absurd cc

pub one-round : Progress q_design 1 q_formula (zero_and_one ∷ [])
one-round = record { fit = (fits, tt); different = (tt, tt); broke = broke }
