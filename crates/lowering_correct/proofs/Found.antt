-- The run-time function of a name: where it is declared, and its table.
use Rattle.std.proofs.Common.{◌≡◌, ℕ, suc, ◌<◌, ◌^◌, ◌&&◌, Bool, true, false, cond, List, [], ◌∷◌, slice_get, Option, Some, None, is_some, if◌then◌else◌, arith, refl, sym, ap, ap₂, ◌∙◌}
use Rattle.std.specs.Prelude.{option_and_then, option_map}
use Rattle.std.proofs.lemmas.Bool.Decides.{nat_tests}
use Rattle.cocoon_num.specs.FunTables.{looked}
use Rattle.cocoon_num.specs.Names.{same_name, named}
use Rattle.cocoon_num.specs.Tree.{Name, Expr, Param, FunctionDecl, Design}
use Rattle.cocoon_num.specs.Values.{fits_width}
use Rattle.cocoon_num.specs.declared.fun_table.FunTable.{FunTable}
use Rattle.cocoon_types.specs.DefsRules.{runtime_named}
use Rattle.cocoon_types.specs.Design.{functions, widths_of}
use Rattle.cocoon_types.specs.Rules.{WellFormed}
use Rattle.cocoon_types.specs.Tables.{Defs, look_up}
use Rattle.declarations.proofs.NameFacts.{same-true}
use Rattle.declarations.specs.Declares.{function_texts}
use Rattle.declarations.specs.NameNumbers.{index_of}
use Rattle.lowering.specs.Agrees.{FitAll}
use Rattle.runtime_defs.proofs.Distinct.{named-self}
use Rattle.runtime_defs.proofs.Zips.{paired}
use Rattle.runtime_defs.specs.Fitting.{FitsDesign, FitsFunction, FitsPlace}
use Rattle.runtime_defs.specs.Guards.{table_named}
use Rattle.runtime_defs.specs.Places.{Places, all_fit_widths, result_value, table_at}
use Rattle.runtime_defs.specs.Stands.{Stands}

-- ---- numbers that fit

pub both-true : (a b : Bool) → (a && b) ≡ true → (a ≡ true) × (b ≡ true)
both-true true b h = (refl, h)
both-true false b h = absurd cc

pub number-fits : (w n : ℕ) → n < 2 ^ w → fits_width w n ≡ true
number-fits w n h = grind (arith, nat_tests, h)

pub below-width : (w n : ℕ) → fits_width w n ≡ true → n < 2 ^ w
below-width w n h = grind (arith, nat_tests, h)

pub widths-fit : (ps : List Param) (ns : List ℕ) → FitAll ps ns → all_fit_widths (widths_of ps) ns ≡ true
widths-fit [] [] h = refl
widths-fit [] (n ∷ ns) h = absurd h
widths-fit (p ∷ ps) [] h = absurd h
widths-fit (p ∷ ps) (n ∷ ns) h = ap₂ (◌&&◌) (number-fits p.width n h.0) (widths-fit ps ns h.1)

pub params-fit : (ps : List Param) (ns : List ℕ) → all_fit_widths (widths_of ps) ns ≡ true → FitAll ps ns
params-fit [] [] h = tt
params-fit [] (n ∷ ns) h = absurd cc
params-fit (p ∷ ps) [] h = absurd cc
params-fit (p ∷ ps) (n ∷ ns) h =
    let both = both-true (fits_width p.width n) (all_fit_widths (widths_of ps) ns) h in
    (below-width p.width n both.0, params-fit ps ns both.1)

-- ---- where it is declared

abbrev name-of : FunctionDecl → Name
name-of x = x.name

bodiless-is : (x g : FunctionDecl) (o : Option Expr) → x.body ≡ o → elim o [ None ↦ Some x | Some e ↦ None ] ≡ Some g → (x ≡ g) × (g.body ≡ None)
bodiless-is x g None e h =
    let same : x ≡ g = cc in
    (same, ap (λ (y : FunctionDecl). y.body) (sym same) ∙ e)
bodiless-is x g (Some b) e h = absurd cc

runs : (o : Option FunctionDecl) (g : FunctionDecl) → option_and_then (λ (x : FunctionDecl). elim x.body [ None ↦ Some x | Some e ↦ None ]) o ≡ Some g → (o ≡ Some g) × (g.body ≡ None)
runs None g h = absurd cc
runs (Some x) g h = let is = bodiless-is x g x.body refl h in (ap Some is.0, is.1)

-- the first of a name, with its number
record First (fs : List FunctionDecl) (f : List ℕ) (g : FunctionDecl) : Type 0 where
  number : ℕ
  is : index_of f (function_texts fs) ≡ Some number
  there : slice_get fs number ≡ Some g
  same : same_name f g.name.text ≡ true

first-step : (e : FunctionDecl) (fs : List FunctionDecl) (f : List ℕ) (g : FunctionDecl) → (named name-of f fs ≡ Some g → First fs f g) → (b : Bool) → same_name f e.name.text ≡ b
    → cond b (Some e) (named name-of f fs) ≡ Some g → First (e ∷ fs) f g
first-step e fs f g later true s h =
    let same : e ≡ g = cc in
    record {
      number = 0;
      is = ap (λ c. if c then Some 0 else option_map suc (index_of f (function_texts fs))) s;
      there = ap Some same;
      same = ap (λ (x : FunctionDecl). same_name f x.name.text) (sym same) ∙ s;
    }
first-step e fs f g later false s h =
    let found = later h in
    record {
      number = suc found.number;
      is = ap (λ c. if c then Some 0 else option_map suc (index_of f (function_texts fs))) s ∙ ap (option_map suc) found.is;
      there = found.there;
      same = found.same;
    }

first-of : (fs : List FunctionDecl) (f : List ℕ) (g : FunctionDecl) → named name-of f fs ≡ Some g → First fs f g
first-of [] f g h = absurd cc
first-of (e ∷ fs) f g h = first-step e fs f g (first-of fs f g) (same_name f e.name.text) refl h

-- ---- its table

pub record Tabled (d : Design) (places : Places) (f : List ℕ) (g : FunctionDecl) : Type 0 where
  pub number : ℕ
  pub there : slice_get (functions d) number ≡ Some g
  pub same : f ≡ g.name.text
  pub body : g.body ≡ None
  pub table : FunTable
  pub at : table_at places number ≡ Some table
  pub named : table_named d places f ≡ Some table
  pub fits : FitsFunction g table

no-body : (o : Option Expr) → is_some o ≡ true → o ≡ None → ⊥
no-body None h k = cc
no-body (Some e) h k = cc

place-is : (g : FunctionDecl) (p : Option FunTable) → FitsPlace g p → g.body ≡ None → (t : FunTable) × (p ≡ Some t) × FitsFunction g t
place-is g None h b = absurd (no-body g.body h b)
place-is g (Some t) h b = (t, refl, h.1)

pub tabled : (d : Design) (places : Places) (f : List ℕ) (g : FunctionDecl) → FitsDesign d places → runtime_named d f ≡ Some g → Tabled d places f g
tabled d places f g z h =
    let run = runs (named name-of f (functions d)) g h in
    let found = first-of (functions d) f g run.0 in
    let pair = paired FitsPlace (functions d) places found.number g z.places found.there in
    let place = place-is g pair.other pair.pair run.1 in
    let at : table_at places found.number ≡ Some place.0 = ap (option_and_then (λ (o : Option FunTable). o)) (pair.there ∙ ap Some place.1) in
    record {
      number = found.number;
      there = found.there;
      same = same-true f g.name.text found.same;
      body = run.1;
      table = place.0;
      at = at;
      named = ap (option_and_then (table_at places)) found.is ∙ at;
      fits = place.2;
    }

same-table : (o : Option FunTable) (s t : FunTable) → o ≡ Some s → o ≡ Some t → s ≡ t
same-table o s t h k = cc

-- its values are those of the definitions
pub gives : (d : Design) (places : Places) (defs : Defs) (f : List ℕ) (g : FunctionDecl) → Stands d places defs → (t : Tabled d places f g) → (ns : List ℕ)
    → all_fit_widths (widths_of g.params) ns ≡ true → look_up defs f ns ≡ Some (result_value g.result (looked t.table ns))
gives d places defs f g s t ns h =
    let stands = s t.number g t.there t.body in
    let same : stands.table ≡ t.table = same-table (table_at places t.number) stands.table t.table stands.is_there t.at in
    ap (λ x. look_up defs x ns) t.same
    ∙ stands.gives ns (ap (λ (u : FunTable). all_fit_widths u.widths ns) same ∙ ap (λ ws. all_fit_widths ws ns) t.fits.widths_are ∙ h)
    ∙ ap (λ u. Some (result_value g.result (looked u ns))) same

-- a name has one function
pub only-one : (d : Design) → WellFormed d → (f : List ℕ) (g : FunctionDecl) → runtime_named d f ≡ Some g
    → (k : ℕ) (h : FunctionDecl) → slice_get (functions d) k ≡ Some h → same_name f h.name.text ≡ true → h ≡ g
only-one d w f g r k h there same =
    some-same (named name-of h.name.text (functions d)) h g (named-self d w k h there)
    (ap (λ x. named name-of x (functions d)) (sym (same-true f h.name.text same)) ∙ (runs (named name-of f (functions d)) g r).0)
  where
    some-same : (o : Option FunctionDecl) (x y : FunctionDecl) → o ≡ Some x → o ≡ Some y → x ≡ y
    some-same o x y p q = cc
