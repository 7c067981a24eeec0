-- Tables of a design at the widths of its functions.
use Rattle.std.proofs.Common.{◌≡◌, ◌^◌, ℕ, suc, Bool, true, List, [], ◌∷◌, All, length, Option, Some, None, refl, sym, ap, subst, ◌∙◌}
use Rattle.std.specs.Prelude.{option_and_then, slice_get}
use Rattle.std.specs.List.{AllByRecursion, AllZip}
use Rattle.std.proofs.lemmas.Bool.{ltb-true}
use Rattle.std.proofs.lemmas.List.Elements.{All-nil, All-cons, All-head, All-tail}
use Rattle.cocoon_num.specs.Tree.{FunctionDecl, ResultKind, of_width, of_truth, Design}
use Rattle.cocoon_num.specs.Values.{FitsWidth, fits_width}
use Rattle.cocoon_num.specs.declared.fun_table.FunRow.{FunRow}
use Rattle.cocoon_num.specs.declared.fun_table.FunTable.{FunTable}
use Rattle.cocoon_types.specs.Design.{functions, widths_of}
use Rattle.bv_terms.specs.Environments.{RowFits}
use Rattle.bv_terms.specs.TermTrees.{Term, Args, constant, input, apply, not_, binary, slice, pick, no_args, arg, arg_widths}
use Rattle.runtime_defs.specs.Printable as fitting
use Rattle.runtime_defs.specs.Printable.{FitsDesign, FitsFunction, FitsPlace, FitsRow, all_fit_widths}
use Rattle.obligation_laws.specs.TermOf.{result_width}
use Rattle.runtime_defs.proofs.Fitted.{no-body}
use Rattle.runtime_defs.proofs.Looking.{both-true}
use Rattle.runtime_defs.proofs.Zips.{paired}
use Rattle.bv_terms.specs.Fitting.{CanStand, MasksFit, TablesFit, TablesFitArgs}
use Rattle.bv_terms.specs.WithRows.{Tables, table_of}
use Rattle.query_laws.specs.Over.{AreOver, IsOver, IsRuntimeAt}

pub fits-in : (w n : ℕ) → fits_width w n ≡ true → FitsWidth w n
fits-in w n h = ltb-true n (2 ^ w) h

all-fit : (ws ns : List ℕ) → all_fit_widths ws ns ≡ true → AllZip FitsWidth ws ns
all-fit [] [] h = tt
all-fit [] (n ∷ ns) h = absurd cc
all-fit (w ∷ ws) [] h = absurd cc
all-fit (w ∷ ws) (n ∷ ns) h = let b = both-true (fits_width w n) (all_fit_widths ws ns) h in (fits-in w n b.0, all-fit ws ns b.1)

as-many : (ws ns : List ℕ) → all_fit_widths ws ns ≡ true → length ns ≡ length ws
as-many [] [] h = refl
as-many [] (n ∷ ns) h = absurd cc
as-many (w ∷ ws) [] h = absurd cc
as-many (w ∷ ws) (n ∷ ns) h = ap suc (as-many ws ns (both-true (fits_width w n) (all_fit_widths ws ns) h).1)

rows-fit : (ws : List ℕ) (w : ℕ) (rows : List FunRow) → All (FitsRow ws w) rows → All (RowFits (length ws) w) rows
rows-fit ws w [] h = All-nil (RowFits (length ws) w)
rows-fit ws w (row ∷ rows) h =
    let one = All-head (FitsRow ws w) row rows h in
    All-cons (RowFits (length ws) w) row rows ((as-many ws row.values one.values_fit, as-many ws row.masks one.masks_fit), one.result_is)
    (rows-fit ws w rows (All-tail (FitsRow ws w) row rows h))

masks-fit : (ws : List ℕ) (w : ℕ) (rows : List FunRow) → All (FitsRow ws w) rows → AllByRecursion (MasksFit ws) rows
masks-fit ws w [] h = tt
masks-fit ws w (row ∷ rows) h =
    (all-fit ws row.masks (All-head (FitsRow ws w) row rows h).masks_fit, masks-fit ws w rows (All-tail (FitsRow ws w) row rows h))

one-width : (k : ResultKind) → fitting.result_width k ≡ result_width k
one-width (of_width w) = refl
one-width of_truth = refl

-- the table of a run-time function
pub record HasTable (tables : Tables) (f : ℕ) (widths : List ℕ) (w : ℕ) : Type 0 where
  pub table : FunTable
  pub is_there : table_of tables f ≡ Some table
  pub fits : CanStand (Some table) widths w

can-stand : (g : FunctionDecl) (t : FunTable) (ws : List ℕ) (w : ℕ) → FitsFunction g t → ws ≡ widths_of g.params → w ≡ result_width g.result → CanStand (Some t) ws w
can-stand g t ws w h p r =
    let widths : t.widths ≡ ws = h.widths_are ∙ sym p in
    let width : fitting.result_width g.result ≡ w = one-width g.result ∙ sym r in
    let rows : All (FitsRow ws w) t.rows = subst (λ us. All (FitsRow us w) t.rows) widths (subst (λ v. All (FitsRow t.widths v) t.rows) width h.rows_fit) in
    (record { args = widths; rows = rows-fit ws w t.rows rows; otherwise = h.default_is ∙ width }, masks-fit ws w t.rows rows)

pub has-table : (d : Design) (tables : Tables) → FitsDesign d tables → (f : ℕ) (ws : List ℕ) (w : ℕ) → IsRuntimeAt d f ws w → HasTable tables f ws w
has-table d tables z f ws w at =
    let p = paired FitsPlace (functions d) tables f at.function z.places at.there in
    by p.other p.there p.pair
  where
    by : (o : Option FunTable) → slice_get tables f ≡ Some o → FitsPlace at.function o → HasTable tables f ws w
    by None e h = absurd (no-body at.function.body h at.runtime)
    by (Some t) e h = record { table = t; is_there = ap (option_and_then (λ (o : Option FunTable). o)) e; fits = can-stand at.function t ws w h.1 at.params_are at.result_is }

mutual
  pub tables-fit : (d : Design) (tables : Tables) → FitsDesign d tables → (inputs : ℕ → ℕ → Bool) (t : Term) → IsOver d inputs t → TablesFit tables t
  tables-fit d tables z p (constant w n) h = tt
  tables-fit d tables z p (input i w) h = tt
  tables-fit d tables z p (apply f args w) h =
      let at = has-table d tables z f (arg_widths args) w h.1 in
      (args-fit d tables z p args h.0, subst (λ o. CanStand o (arg_widths args) w) (sym at.is_there) at.fits)
  tables-fit d tables z p (not_ a) h = tables-fit d tables z p a h
  tables-fit d tables z p (binary op a b) h = (tables-fit d tables z p a h.0, tables-fit d tables z p b h.1)
  tables-fit d tables z p (slice a high low) h = tables-fit d tables z p a h
  tables-fit d tables z p (pick c a b) h = (tables-fit d tables z p c h.0, tables-fit d tables z p a h.1, tables-fit d tables z p b h.2)

  args-fit : (d : Design) (tables : Tables) → FitsDesign d tables → (inputs : ℕ → ℕ → Bool) (ts : Args) → AreOver d inputs ts → TablesFitArgs tables ts
  args-fit d tables z p no_args h = tt
  args-fit d tables z p (arg t ts) h = (tables-fit d tables z p t h.0, args-fit d tables z p ts h.1)
