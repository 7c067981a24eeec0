-- Tables that fit a design have rows of as many values and masks as widths, which are those of declarations.
use Rattle.std.proofs.Common.{◌≡◌, ℕ, zero, suc, true, List, [], ◌∷◌, All, length, get_or, nat_lt, slice_get, Option, Some, None, is_some, arith, refl, sym, ap, subst, ◌∙◌}
use Rattle.std.specs.Prelude.{IfSome, option_and_then, option_map}
use Rattle.std.specs.List.{AllZip}
use Rattle.std.proofs.lemmas.Bool.Decides.{nat_tests}
use Rattle.std.proofs.lemmas.Option.{slice_get_past, slice_get_read}
use Rattle.std.proofs.lemmas.List.{length-map}
use Rattle.std.proofs.lemmas.List.Elements.{All-nil, All-cons, All-head, All-tail}
use Rattle.cocoon_num.specs.FunTables.{HasKeys}
use Rattle.cocoon_num.specs.Tree.{Param, FunctionDecl, Design}
use Rattle.cocoon_num.specs.Values.{fits_width}
use Rattle.cocoon_num.specs.declared.fun_table.FunRow.{FunRow}
use Rattle.cocoon_num.specs.declared.fun_table.FunTable.{FunTable}
use Rattle.cocoon_resolve.specs.Resolved.{Resolves}
use Rattle.cocoon_types.specs.Design.{functions, widths_of}
use Rattle.declarations.specs.Declares.{function_number}
use Rattle.runtime_defs.specs.Fitting.{FitsDesign, FitsPlace, FitsRow, result_width}
use Rattle.runtime_defs.specs.Guards.{table_named}
use Rattle.runtime_defs.specs.Places.{Places, all_fit_widths, AllDeclared, HasShape, MayHaveShape, table_at, TakesArgs}
use Rattle.runtime_defs.specs.TrueRows.{IsListed, MayBeListed}
use Rattle.runtime_defs.specs.declared.true_numbers.TrueNumbers.{TrueNumbers}
use Rattle.runtime_defs.proofs.Fitted.{no-body}
use Rattle.runtime_defs.proofs.Looking.{both-true}
use Rattle.runtime_defs.proofs.ParamWidths.{params_declared}
use Rattle.runtime_defs.proofs.Zips.{paired}

fit-length : (ws ns : List ℕ) → all_fit_widths ws ns ≡ true → length ns ≡ length ws
fit-length [] [] h = refl
fit-length [] (n ∷ ns) h = absurd cc
fit-length (w ∷ ws) [] h = absurd cc
fit-length (w ∷ ws) (n ∷ ns) h = ap suc (fit-length ws ns (both-true (fits_width w n) (all_fit_widths ws ns) h).1)

keys-of : (ws : List ℕ) (r : ℕ) (rows : List FunRow) → All (FitsRow ws r) rows → All (HasKeys (length ws)) rows
keys-of ws r [] f = All-nil (HasKeys (length ws))
keys-of ws r (row ∷ rows) f =
    let one = All-head (FitsRow ws r) row rows f in
    All-cons (HasKeys (length ws)) row rows (fit-length ws row.values one.values_fit, fit-length ws row.masks one.masks_fit) (keys-of ws r rows (All-tail (FitsRow ws r) row rows f))

shape-of : (f : FunctionDecl) (place : Option FunTable) → FitsPlace f place → AllDeclared (widths_of f.params) → MayHaveShape place
shape-of f None h d = tt
shape-of f (Some t) h d = record {
  keys = keys-of t.widths (result_width f.result) t.rows h.1.rows_fit;
  widths = subst AllDeclared (sym h.1.widths_are) d;
}

all-shapes : (fs : List FunctionDecl) (places : Places) → AllZip FitsPlace fs places → All (λ (f : FunctionDecl). AllDeclared (widths_of f.params)) fs → All MayHaveShape places
all-shapes [] [] z d = All-nil MayHaveShape
all-shapes [] (p ∷ ps) z d = absurd z
all-shapes (f ∷ fs) [] z d = absurd z
all-shapes (f ∷ fs) (p ∷ ps) z d =
    All-cons MayHaveShape p ps (shape-of f p z.0 (All-head (λ (f : FunctionDecl). AllDeclared (widths_of f.params)) f fs d))
    (all-shapes fs ps z.1 (All-tail (λ (f : FunctionDecl). AllDeclared (widths_of f.params)) f fs d))

pub shapes-fit : (d : Design) (places : Places) → Resolves d → FitsDesign d places → All MayHaveShape places
shapes-fit d places r f = all-shapes (functions d) places f.places (params_declared d r)

-- ---- look-ups

pub shape-here : (places : Places) (k : ℕ) (t : FunTable) → All MayHaveShape places → table_at places k ≡ Some t → HasShape t
shape-here [] k t s h = absurd cc
shape-here (p ∷ places) zero t s h = let is : p ≡ Some t = h in subst MayHaveShape is (All-head MayHaveShape p places s)
shape-here (p ∷ places) (suc k) t s h = shape-here places k t (All-tail MayHaveShape p places s) h

-- the rows of a table have a value and a mask for each width
pub keys-at : (places : Places) (k : ℕ) (t : FunTable) → All MayHaveShape places → table_at places k ≡ Some t → All (HasKeys (length t.widths)) t.rows
keys-at places k t s h = (shape-here places k t s h).keys

with-body : (f : FunctionDecl) (p : Option FunTable) → FitsPlace f p → f.body ≡ None → (t : FunTable) × (p ≡ Some t) × (length t.widths ≡ length f.params)
with-body f None h b = absurd (no-body f.body h b)
with-body f (Some t) h b = (t, refl, ap length h.1.widths_are ∙ length-map f.params (λ (q : Param). q.width))

pub table-taking : (d : Design) (places : Places) (n : ℕ) (f : FunctionDecl) → FitsDesign d places → slice_get (functions d) n ≡ Some f → f.body ≡ None → TakesArgs places n (length f.params)
table-taking d places n f z g b =
    let p = paired FitsPlace (functions d) places n f z.places g in
    let t = with-body f p.other p.pair b in
    record { table = t.0; is_there = ap (option_and_then (λ (o : Option FunTable). o)) (p.there ∙ ap Some t.1); widths = t.2 }

-- ---- what is kept of a function

pub through : (d : Design) (places : Places) (o : Option (List ℕ)) → option_and_then (table_at places) (option_and_then (function_number d) o) ≡ option_and_then (table_named d places) o
through d places None = refl
through d places (Some f) = refl

past-zip : (places : Places) (numbers : List TrueNumbers) (k : ℕ) → AllZip IsListed places numbers → slice_get numbers k ≡ None → table_at places k ≡ None
past-zip [] numbers k z h = refl
past-zip (p ∷ ps) [] k z h = absurd z
past-zip (p ∷ ps) (n ∷ ns) zero z h = absurd cc
past-zip (p ∷ ps) (n ∷ ns) (suc k) z h = past-zip ps ns k z.1 h

listed-at : (places : Places) (numbers : List TrueNumbers) (k : ℕ) (l : TrueNumbers) → AllZip IsListed places numbers → slice_get numbers k ≡ Some l → IsListed (table_at places k) l
listed-at [] [] k l z h = absurd cc
listed-at [] (n ∷ ns) k l z h = absurd z
listed-at (p ∷ ps) [] k l z h = absurd z
listed-at (None ∷ ps) (n ∷ ns) zero l z h = let same : n ≡ l = cc in subst (IsListed None) same z.0
listed-at (Some t ∷ ps) (n ∷ ns) zero l z h = let same : n ≡ l = cc in subst (IsListed (Some t)) same z.0
listed-at (p ∷ ps) (n ∷ ns) (suc k) l z h = listed-at ps ns k l z.1 h

-- what is kept under a function's number
pub kept-at : (places : Places) (numbers : List TrueNumbers) (k : ℕ) (o : Option TrueNumbers) → AllZip IsListed places numbers → o ≡ slice_get numbers k → MayBeListed places (Some k) o
kept-at places numbers k None z h = past-zip places numbers k z (sym h)
kept-at places numbers k (Some l) z h = listed-at places numbers k l z (sym h)

-- what a look-up gives is the item of that number
pub read-at : {A B : Type 0} (g : B → A) (o : Option B) (xs : List A) (k : ℕ) → is_some o ≡ nat_lt k (length xs) → IfSome o (λ x. g x ≡ get_or xs k (g x)) → option_map g o ≡ slice_get xs k
read-at g None xs k s h = sym (slice_get_past xs k (grind (arith, nat_tests, s)))
read-at g (Some x) xs k s h = sym (slice_get_read xs (length xs) k (g x) refl (grind (arith, nat_tests, s)) h)
