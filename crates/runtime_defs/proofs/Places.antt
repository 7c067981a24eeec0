-- Tables of lookups fit the design.
use Rattle.std.proofs.Common.{◌≡◌, ℕ, zero, suc, ◌+◌, ◌-◌, ◌^◌, ◌≤◌, ◌==◌, true, List, [], ◌∷◌, ◌++◌, All, length, take, Option, Some, None, refl, sym, ap, subst, ◌∙◌, arith, inl, inr}
use Rattle.std.specs.Prelude.{option_and_then, slice_get}
use Rattle.std.specs.List.{AllByRecursion, AllZip}
use Rattle.std.proofs.lemmas.Bool.{and_from, cases_Bool, cond-true, cond-false, eqb-true, lt-ltb}
use Rattle.std.proofs.lemmas.List.Elements.{All-from_recursion}
use Rattle.std.proofs.lemmas.List.{length-take-le, take_more}
use Rattle.std.proofs.lemmas.Nat.{pow_pos}
use Rattle.std.proofs.lemmas.Option.{get_or_from_slice_get, slice_get_within}
use Rattle.cocoon_num.specs.Lists.{each}
use Rattle.cocoon_num.specs.Sorts.{is_declared_width}
use Rattle.cocoon_num.specs.Tree.{FunctionDecl, ResultKind, of_width, of_truth, Design}
use Rattle.cocoon_num.specs.Values.{fits_width}
use Rattle.cocoon_num.specs.declared.fun_table.FunRow.{FunRow}
use Rattle.cocoon_num.specs.declared.fun_table.FunTable.{FunTable}
use Rattle.cocoon_resolve.specs.Resolved.{Resolves}
use Rattle.cocoon_types.specs.Design.{functions, widths_of}
use Rattle.runtime_defs.specs.Printable.{FitsDesign, FitsFunction, FitsPlace, FitsRow, all_fit_widths, all_ones, result_width, table_at}
use Rattle.runtime_defs.proofs.DeclaredWidths.{AreWidths, IsDeclared, IsResult, functions_declared}
use Rattle.runtime_defs.specs.Places.{AllDeclared}
use Rattle.runtime_defs.proofs.Looking.{both-true}
use Rattle.runtime_defs.specs.FirstRows.{first_rows}
use Rattle.runtime_defs.specs.LookupRows.{row_of, rows_for}
use Rattle.cocoon_types.specs.Names.{IsNamed}
use Rattle.runtime_defs.specs.Made.{ArePlaces, HasWidths, IsPlace, IsTable, IsWidth}
use Rattle.runtime_defs.specs.Tables.{AreOfDesign, HaveFirstRows, IsOfDesign}
use Rattle.runtime_defs.specs.declared.lookups.Lookup.{Lookup}
use Rattle.runtime_defs.proofs.FirstRows.{first-all}

-- ---- the rows of a function

ones-fit : (ws : List ℕ) → all_fit_widths ws (all_ones ws) ≡ true
ones-fit [] = refl
ones-fit (w ∷ ws) = let p = pow_pos w in and_from (fits_width w (2 ^ w - 1)) (all_fit_widths ws (all_ones ws)) (lt-ltb (2 ^ w - 1) (2 ^ w) (omega (arith, p))) (ones-fit ws)

module _ (d : Design) (n : ℕ) (f : FunctionDecl) (there : slice_get (functions d) n ≡ Some f) where
  abbrev Fits : FunRow → Type 0
  Fits row = FitsRow (widths_of f.params) (result_width f.result) row × (row.masks ≡ all_ones (widths_of f.params))

  same-some : (g : FunctionDecl) → Some g ≡ Some f → g ≡ f
  same-some g e = cc

  row-fits : (l : Lookup) → IsOfDesign d l → l.function ≡ n → Fits (row_of (widths_of f.params) l)
  row-fits l h e =
      let same = same-some h.function (sym h.there ∙ ap (slice_get (functions d)) e ∙ there) in (
        record {
          values_fit = subst (λ (g : FunctionDecl). all_fit_widths (widths_of g.params) l.args ≡ true) same h.args;
          masks_fit = ones-fit (widths_of f.params);
          result_is = h.result ∙ ap (λ (g : FunctionDecl). result_width g.result) same;
        },
        refl,
      )

  rows-fit : (ls : List Lookup) → AreOfDesign d ls → AllByRecursion Fits (rows_for (widths_of f.params) n ls)
  rows-fit [] h = tt
  rows-fit (l ∷ ls) h =
      let r = row_of (widths_of f.params) l in
      let rs = rows_for (widths_of f.params) n ls in
      elim (cases_Bool (l.function == n)) [
        | inl e ↦ subst (AllByRecursion Fits) (sym (cond-true (l.function == n) (r ∷ rs) rs e)) (row-fits l h.0 (eqb-true l.function n e), rows-fit ls h.1)
        | inr e ↦ subst (AllByRecursion Fits) (sym (cond-false (l.function == n) (r ∷ rs) rs e)) (rows-fit ls h.1)
      ]

  table-rows : (ls : List Lookup) → AreOfDesign d ls → (t : FunTable) → IsTable d ls n f t → AllByRecursion Fits t.rows
  table-rows ls h t i =
      subst (AllByRecursion Fits) (sym (i.rows ∙ ap (λ ws. first_rows (rows_for ws n ls)) i.widths))
      (first-all Fits [] (rows_for (widths_of f.params) n ls) tt (rows-fit ls h))

  all-weaker : (P Q : FunRow → Type 0) → ((row : FunRow) → P row → Q row) → (rows : List FunRow) → AllByRecursion P rows → AllByRecursion Q rows
  all-weaker P Q g [] h = tt
  all-weaker P Q g (row ∷ rows) h = (g row h.0, all-weaker P Q g rows h.1)

  pub table-fits : (ls : List Lookup) → AreOfDesign d ls → (t : FunTable) → IsTable d ls n f t → FitsFunction f t
  table-fits ls h t i =
      let rows = table-rows ls h t i in record {
        widths_are = i.widths;
        rows_fit = subst (λ ws. All (FitsRow ws (result_width f.result)) t.rows) (sym i.widths)
            (All-from_recursion (FitsRow (widths_of f.params) (result_width f.result)) t.rows (all-weaker Fits (FitsRow (widths_of f.params) (result_width f.result)) (λ row k. k.0) t.rows rows));
        default_is = i.default_width;
      }

  pub table-ones : (ls : List Lookup) → AreOfDesign d ls → (t : FunTable) → IsTable d ls n f t → All (λ (row : FunRow). row.masks ≡ all_ones t.widths) t.rows
  table-ones ls h t i =
      subst (λ ws. All (λ (row : FunRow). row.masks ≡ all_ones ws) t.rows) (sym i.widths)
      (All-from_recursion (λ (row : FunRow). row.masks ≡ all_ones (widths_of f.params)) t.rows (all-weaker Fits (λ (row : FunRow). row.masks ≡ all_ones (widths_of f.params)) (λ row k. k.1) t.rows (table-rows ls h t i)))

  pub place-fits : (ls : List Lookup) → AreOfDesign d ls → (o : Option FunTable) → IsPlace d ls n f o → FitsPlace f o
  place-fits ls h None i = i
  place-fits ls h (Some t) i = (i.0, table-fits ls h t i.1)

-- ---- places

-- one place more
pub places-more : (d : Design) (ls : List Lookup) (n : ℕ) (fs : List FunctionDecl) (os : List (Option FunTable)) (f : FunctionDecl) (o : Option FunTable) → ArePlaces d ls n fs os → IsPlace d ls (n + length fs) f o
    → ArePlaces d ls n (fs ++ f ∷ []) (os ++ o ∷ [])
places-more d ls n [] [] f o h k = (subst (λ m. IsPlace d ls m f o) (let e : n + 0 ≡ n = omega arith in e) k, tt)
places-more d ls n [] (p ∷ os) f o h k = absurd h
places-more d ls n (g ∷ fs) [] f o h k = absurd h
places-more d ls n (g ∷ fs) (p ∷ os) f o h k = (h.0, places-more d ls (suc n) fs os f o h.1 (subst (λ m. IsPlace d ls m f o) (let e : n + suc (length fs) ≡ suc n + length fs = omega arith in e) k))

-- the place of a number
pub place-there : (d : Design) (ls : List Lookup) (n : ℕ) (fs : List FunctionDecl) (os : List (Option FunTable)) → ArePlaces d ls n fs os
    → (k : ℕ) (f : FunctionDecl) (o : Option FunTable) → slice_get fs k ≡ Some f → slice_get os k ≡ Some o → IsPlace d ls (n + k) f o
place-there d ls n [] os h k f o e g = absurd cc
place-there d ls n (x ∷ fs) [] h k f o e g = absurd h
place-there d ls n (x ∷ fs) (p ∷ os) h zero f o e g =
    let a : x ≡ f = cc in
    let b : p ≡ o = cc in
    subst (λ m. IsPlace d ls m f o) (let s : n ≡ n + 0 = omega arith in s) (subst (λ q. IsPlace d ls n f q) b (subst (λ y. IsPlace d ls n y p) a h.0))
place-there d ls n (x ∷ fs) (p ∷ os) h (suc k) f o e g =
    subst (λ m. IsPlace d ls m f o) (let s : suc n + k ≡ n + suc k = omega arith in s) (place-there d ls (suc n) fs os h.1 k f o e g)

-- each function has its place
pub all-places : (d : Design) (ls : List Lookup) → AreOfDesign d ls → (n : ℕ) (fs : List FunctionDecl) (os : List (Option FunTable))
    → ((k : ℕ) (f : FunctionDecl) → slice_get fs k ≡ Some f → slice_get (functions d) (n + k) ≡ Some f) → ArePlaces d ls n fs os → AllZip FitsPlace fs os
all-places d ls z n [] [] s h = tt
all-places d ls z n [] (o ∷ os) s h = absurd h
all-places d ls z n (f ∷ fs) [] s h = absurd h
all-places d ls z n (f ∷ fs) (o ∷ os) s h = (
  place-fits d n f (subst (λ m. slice_get (functions d) m ≡ Some f) (let e : n + 0 ≡ n = omega arith in e) (s 0 f refl)) ls z o h.0,
  all-places d ls z (suc n) fs os (λ k g e. subst (λ m. slice_get (functions d) m ≡ Some g) (let x : n + suc k ≡ suc n + k = omega arith in x) (s (suc k) g e)) h.1,
)

-- what stands at the place of a table
record Tabled (d : Design) (ls : List Lookup) (n : ℕ) (t : FunTable) : Type 0 where
  pub function : FunctionDecl
  pub there : slice_get (functions d) n ≡ Some function
  pub table : IsTable d ls n function t

function-there : (d : Design) (ls : List Lookup) (n : ℕ) (fs : List FunctionDecl) (os : List (Option FunTable)) → ArePlaces d ls n fs os → (k : ℕ) (o : Option FunTable) → slice_get os k ≡ Some o
    → (f : FunctionDecl) × (slice_get fs k ≡ Some f)
function-there d ls n [] [] h k o e = absurd cc
function-there d ls n [] (p ∷ os) h k o e = absurd h
function-there d ls n (f ∷ fs) [] h k o e = absurd h
function-there d ls n (f ∷ fs) (p ∷ os) h zero o e = (f, refl)
function-there d ls n (f ∷ fs) (p ∷ os) h (suc k) o e = function-there d ls (suc n) fs os h.1 k o e

tabled : (d : Design) (ls : List Lookup) (os : List (Option FunTable)) → ArePlaces d ls 0 (functions d) os → (n : ℕ) (t : FunTable) → table_at os n ≡ Some t → Tabled d ls n t
tabled d ls os h n t e = by (slice_get os n) refl
  where
    by : (o : Option (Option FunTable)) → slice_get os n ≡ o → Tabled d ls n t
    by None g = absurd (let x : None ≡ Some t = sym (ap (option_and_then (λ (p : Option FunTable). p)) g) ∙ e in cc)
    by (Some o) g =
        let same : o ≡ Some t = sym (ap (option_and_then (λ (p : Option FunTable). p)) g) ∙ e in
        let f = function-there d ls 0 (functions d) os h n o g in
        let p = place-there d ls 0 (functions d) os h n f.0 o f.1 g in
        let q : IsPlace d ls n f.0 (Some t) = subst (λ m. IsPlace d ls m f.0 (Some t)) (let s : 0 + n ≡ n = omega arith in s) (subst (IsPlace d ls (0 + n) f.0) same p) in
        record { function = f.0; there = f.1; table = q.1 }

pub first_rows_there : (d : Design) (ls : List Lookup) (os : List (Option FunTable)) → ArePlaces d ls 0 (functions d) os → HaveFirstRows ls os
first_rows_there d ls os h n t e = (tabled d ls os h n t e).table.rows

pub fits_design : (d : Design) (ls : List Lookup) (os : List (Option FunTable)) → AreOfDesign d ls → ArePlaces d ls 0 (functions d) os → FitsDesign d os
fits_design d ls os z h = record {
  places = all-places d ls z 0 (functions d) os (λ k f e. subst (λ m. slice_get (functions d) m ≡ Some f) (let s : k ≡ 0 + k = omega arith in s) e) h;
  literal = λ n f t g e o.
      let i = tabled d ls os h n t e in
      let same : i.function ≡ f = (let x : Some i.function ≡ Some f = sym i.there ∙ g in cc) in
      let table = subst (λ y. IsTable d ls n y t) same i.table in
      record { default_false = table.default_false o; masks_ones = table-ones d n f g ls z t table };
}

-- ---- the loop

-- one place more, where the tables were pushed to
pub places-pushed : (d : Design) (ls : List Lookup) (fs : List FunctionDecl) (os news : List (Option FunTable)) (i : ℕ) (f : FunctionDecl) (o : Option FunTable) → slice_get fs i ≡ Some f
    → ArePlaces d ls 0 (take i fs) os → IsPlace d ls i f o → news ≡ os ++ o ∷ [] → ArePlaces d ls 0 (take (i + 1) fs) news
places-pushed d ls fs os news i f o e h k n =
    let within = slice_get_within fs i f e in
    let count : length (take i fs) ≡ i = length-take-le i fs (let l : i ≤ length fs = omega (arith, within) in l) in
    let here : i ≡ 0 + length (take i fs) = omega (arith, count) in
    subst (λ gs. ArePlaces d ls 0 gs news) (ap (λ g. take i fs ++ g ∷ []) (sym (get_or_from_slice_get fs i f f e)) ∙ sym (take_more fs i f within))
    (subst (ArePlaces d ls 0 (take i fs ++ f ∷ [])) (sym n) (places-more d ls 0 (take i fs) os f o h (subst (λ m. IsPlace d ls m f o) here k)))

-- ---- widths

is-width : (w : ℕ) → is_declared_width w ≡ true → IsWidth w
is-width w h = grind (arith, h)

params-wide : (ws : List ℕ) → each is_declared_width ws ≡ true → AllByRecursion IsWidth ws × AllDeclared ws
params-wide [] h = (tt, tt)
params-wide (w ∷ ws) h =
    let b = both-true (is_declared_width w) (each is_declared_width ws) h in
    let one = is-width w b.0 in
    let rest = params-wide ws b.1 in
    ((one, rest.0), (one.0, one.1, rest.1))

some-params : (ws : List ℕ) → AreWidths ws → each is_declared_width ws ≡ true
some-params [] h = absurd h
some-params (w ∷ ws) h = h

result-wide : (k : ResultKind) → IsResult k → IsWidth (result_width k)
result-wide (of_width w) h = is-width w h
result-wide of_truth h = (omega arith, omega arith)

has-widths : (f : FunctionDecl) → IsDeclared f → HasWidths f
has-widths f h =
    let r = params-wide (widths_of f.params) (some-params (widths_of f.params) h.params) in
    record { each_ = All-from_recursion IsWidth (widths_of f.params) r.0; params = r.1; result = result-wide f.result h.result }

pub function-widths : (d : Design) → All IsNamed (functions d) → Resolves d → (n : ℕ) (f : FunctionDecl) → slice_get (functions d) n ≡ Some f → HasWidths f
function-widths d names r n f e =
    let within = slice_get_within (functions d) n f e in
    has-widths f (subst IsDeclared (get_or_from_slice_get (functions d) n f f e) (functions_declared d names r.rules n f within))
