-- Tables with the first rows of an assignment are a candidate.
use Rattle.std.proofs.Common.{◌≡◌, ℕ, zero, suc, ◌^◌, ◌<◌, ◌≤◌, Bool, true, false, List, [], ◌∷◌, ◌++◌, All, fold, length, map, Option, Some, if◌then◌else◌, refl, sym, ap, subst, ◌∙◌, arith}
use Rattle.std.specs.Prelude.{option_map, unwrap_or}
use Rattle.std.specs.List.{AllByRecursion, AllZip}
use Rattle.std.proofs.lemmas.Bool.{eqb-true, false≢true, lt-ltb}
use Rattle.std.proofs.lemmas.List.Elements.{All-from_recursion, recursion_from_All}
use Rattle.cocoon_num.specs.FunTables.{looked, row_matches}
use Rattle.cocoon_num.specs.Rows.{first_match}
use Rattle.cocoon_num.specs.Tree.{Design}
use Rattle.cocoon_num.specs.Values.{FitsWidth, number}
use Rattle.cocoon_num.specs.declared.bits.Bits.{Bits}
use Rattle.cocoon_num.specs.declared.fun_table.FunRow.{FunRow}
use Rattle.cocoon_num.specs.declared.fun_table.FunTable.{FunTable}
use Rattle.bv_terms.specs.declared.node.TermOp.TheVariants.{And}
use Rattle.bv_terms.specs.Environments.{RowFits, TableFits}
use Rattle.bv_terms.specs.Inputs.{AreApart, FunctionsFit, InputsFit, Mentions}
use Rattle.bv_terms.specs.TermTrees.{Term, constant, input, apply, not_, binary, slice, pick, arg_widths, IsTerm}
use Rattle.bv_terms.specs.TermValues.{Functions, Inputs, term_value}
use Rattle.bv_terms.specs.Walks.{applications, is_among, is_application, walk}
use Rattle.bv_terms.proofs.Subterms.{Each, each-itself, each-weaker, walk-all, walk-has}
use Rattle.cnf_core.specs.declared.certificates.Instance.{Instance}
use Rattle.runtime_defs.specs.Printable.{FitsDesign, all_ones}
use Rattle.obligation_laws.specs.Shown.{HasWidth}
use Rattle.query_laws.specs.Over.{AllOver, IsOver, fit_input}
use Rattle.query_laws.proofs.Places.{fits-in, has-table}
use Rattle.flat_laws.specs.Flat.{args_in, flattened}
use Rattle.flat_laws.specs.Meant.{CanFlatten}
use Rattle.flat_laws.specs.Rows as flat
use Rattle.flat_laws.specs.Rows.{HasRows, IsRowOf, is_of}
use Rattle.flat_laws.proofs.Places.{all-filtered}
use Rattle.flat_laws.proofs.Values.{bit, each-one}
use Rattle.query_laws.specs.LeafTerms.{Stands, any_input}
use Rattle.fun_instances.specs.AssumptionTerms.{value_term}
use Rattle.fun_instances.specs.Taking.{NumbersFit, OfAssumption}
use Rattle.runtime_defs.proofs.FirstRows.{all-append, first-all, first-few, first-found}
use Rattle.query_laws.specs.Tuples.{pattern_terms}
use Rattle.query_laws.proofs.OverParts.{OverHere, applied-at, each-over, mentioned-is, over-others}
use Rattle.query_laws.specs.OwnNames.{in_own_arena, input_count, inputs_of, own_name}
use Rattle.query_laws.specs.Queries.{Fits, added, asked, instance_term, query}
use Rattle.query_laws.proofs.InputNumbers.{are_inputs}
use Rattle.query_laws.proofs.Renaming.{value_agrees}
use Rattle.query_laws.proofs.Untrue.{each_instance, own_stands}
use Rattle.bv_terms.specs.ByTables.{by_tables}
use Rattle.bv_terms.specs.WithRows.{Tables, table_of}
use Rattle.bv_terms.proofs.InputLists.{names-apart}
use Rattle.flat_laws.proofs.FittingValues.{values-fit}
use Rattle.flat_laws.proofs.RenamedTerms.{among-renamed, value-renamed, walk-kept}
use Rattle.query_laws.specs.Candidates.{IsCandidate, IsTrueBy, MakeTrue, given}
use Rattle.query_laws.specs.FirstRows.{HaveFirstRows, applications_of}
use Rattle.query_laws.proofs.FullTables.{full, full-at, with-rows}
use Rattle.query_laws.proofs.SameFunctions.{Agree, same-value}

-- ---- conjunctions

parts-are-terms : (t : Term) (ts : List Term) → IsTerm (fold (binary And) t ts) → IsTerm t × AllByRecursion IsTerm ts
parts-are-terms t [] h = (h, tt)
parts-are-terms t (u ∷ us) h = let r = parts-are-terms (binary And t u) us h in (r.0.0, (r.0.1, r.1))

parts-are-over : (d : Design) (p : ℕ → ℕ → Bool) (t : Term) (ts : List Term) → IsOver d p (fold (binary And) t ts) → IsOver d p t × AllOver d p ts
parts-are-over d p t [] h = (h, tt)
parts-are-over d p t (u ∷ us) h = let r = parts-are-over d p (binary And t u) us h in (r.0.0, (r.0.1, r.1))

ands-over : (d : Design) (p : ℕ → ℕ → Bool) (t : Term) (ts : List Term) → IsOver d p t → AllOver d p ts → IsOver d p (fold (binary And) t ts)
ands-over d p t [] h k = h
ands-over d p t (u ∷ us) h k = ands-over d p (binary And t u) us (h, k.0) k.1

zipped : (P Q R : Term → Type 0) → ((t : Term) → P t → Q t → R t) → (ts : List Term) → AllByRecursion P ts → AllByRecursion Q ts → AllByRecursion R ts
zipped P Q R f [] h k = tt
zipped P Q R f (t ∷ ts) h k = (f t h.0 k.0, zipped P Q R f ts h.1 k.1)

front : (P : Term → Type 0) (ts us : List Term) → AllByRecursion P (ts ++ us) → AllByRecursion P ts
front P [] us h = tt
front P (t ∷ ts) us h = (h.0, front P ts us h.1)

back : (P : Term → Type 0) (ts us : List Term) → AllByRecursion P (ts ++ us) → AllByRecursion P us
back P [] us h = h
back P (t ∷ ts) us h = back P ts us h.1

one-bit : (n : ℕ) → n < 2 ^ 1 → (b : Bool) × (n ≡ bit b)
one-bit zero h = (false, refl)
one-bit (suc zero) h = (true, refl)
one-bit (suc (suc n)) h = absurd (omega (arith, h))

-- ---- what is looked up

either-wide : (b : Bool) (x y : Bits) (w : ℕ) → x.width ≡ w → y.width ≡ w → (if b then x else y).width ≡ w
either-wide true x y w h k = h
either-wide false x y w h k = k

first-wide : (xs : List ℕ) (n w : ℕ) (rows : List FunRow) (otherwise : Bits) → AllByRecursion (RowFits n w) rows → otherwise.width ≡ w
    → (first_match (row_matches xs) (λ (row : FunRow). row.result) rows otherwise).width ≡ w
first-wide xs n w [] otherwise h e = e
first-wide xs n w (row ∷ rows) otherwise h e = either-wide (row_matches xs row) row.result _ w h.0.1 (first-wide xs n w rows otherwise h.1 e)

looked-fits : (t : FunTable) (ws : List ℕ) (w : ℕ) → TableFits t ws w → (xs : List ℕ) → FitsWidth w (looked t xs).value
looked-fits t ws w h xs = subst (λ v. (looked t xs).value < 2 ^ v) (first-wide xs _ w t.rows t.default (recursion_from_All _ t.rows h.rows) h.otherwise) (looked t xs).fits

by-table : (tables : Tables) (others : Functions) (f : ℕ) (t : FunTable) → table_of tables f ≡ Some t → (xs : List ℕ) → by_tables tables others f xs ≡ (looked t xs).value
by-table tables others f t e xs = ap (λ (o : Option FunTable). unwrap_or (option_map (λ (t : FunTable). (looked t xs).value) o) (others f xs)) e

some-table : (t u : FunTable) → Some t ≡ Some u → t ≡ u
some-table t u e = cc

as-many : (R : Term → FunRow → Type 0) (ts : List Term) (rows : List FunRow) → AllZip R ts rows → length rows ≡ length ts
as-many R [] [] h = refl
as-many R [] (row ∷ rows) h = absurd h
as-many R (t ∷ ts) [] h = absurd h
as-many R (t ∷ ts) (row ∷ rows) h = ap suc (as-many R ts rows h.1)

-- ---- tables of a design

module _ (d : Design) (tables : Tables) (z : FitsDesign d tables) (goal : Term) (over : IsOver d any_input goal) where
  -- an application of a function has the widths of its table
  module _ (f : ℕ) (t : FunTable) (e : table_of tables f ≡ Some t) where
    abbrev pub Wide : Term → Type 0
    Wide u = arg_widths (args_in u) ≡ t.widths

    wide : (u : Term) → OverHere d any_input u → is_of f u ≡ true → Wide u
    wide (apply g ts v) h s =
        let same : f ≡ g = eqb-true f g s in
        let of = has-table d tables z g (arg_widths ts) v h in
        let one = some-table of.table t (sym of.is_there ∙ ap (table_of tables) (sym same) ∙ e) in
        sym of.fits.0.args ∙ ap (λ (x : FunTable). x.widths) one
    wide (constant w n) h s = absurd (false≢true s)
    wide (input i w) h s = absurd (false≢true s)
    wide (not_ a) h s = absurd (false≢true s)
    wide (binary op a b) h s = absurd (false≢true s)
    wide (slice a high low) h s = absurd (false≢true s)
    wide (pick c a b) h s = absurd (false≢true s)

    weaker : (us : List Term) → AllByRecursion (λ u. (Each (OverHere d any_input) u × (is_application u ≡ true)) × (is_of f u ≡ true)) us → AllByRecursion Wide us
    weaker [] h = tt
    weaker (u ∷ us) h = (wide u (each-itself (OverHere d any_input) u h.0.0.0) h.0.1, weaker us h.1)

    pub all-wide : AllByRecursion Wide (applications_of f goal)
    all-wide =
        weaker (applications_of f goal)
        (all-filtered (λ u. Each (OverHere d any_input) u × (is_application u ≡ true)) (is_of f) (applications goal)
        (all-filtered (Each (OverHere d any_input)) is_application (walk goal []) (walk-all (OverHere d any_input) goal [] (each-over d any_input goal over) tt)))

module _ (d : Design) (tables : Tables) (z : FitsDesign d tables) (none : Functions) (ins : Inputs) (goal : Term) (first : ℕ) (over : IsOver d any_input goal) (has : HaveFirstRows none ins goal first tables) where
  abbrev Row : Term → FunRow → Type 0
  Row t row = IsRowOf none ins goal first t row

  module _ (f : ℕ) (t : FunTable) (e : table_of tables f ≡ Some t) where
    abbrev Masked : FunRow → Type 0
    Masked row = row.masks ≡ all_ones t.widths

    masked : (us : List Term) (rows : List FunRow) → AllByRecursion (λ u. arg_widths (args_in u) ≡ t.widths) us → AllZip Row us rows → AllByRecursion Masked rows
    masked [] [] h k = tt
    masked [] (row ∷ rows) h k = absurd k
    masked (u ∷ us) [] h k = absurd k
    masked (u ∷ us) (row ∷ rows) h k = (k.0.masks ∙ ap all_ones h.0, masked us rows h.1 k.1)

    rows-masked : AllByRecursion Masked (has.rows f)
    rows-masked = masked (applications_of f goal) (has.rows f) (all-wide d tables z goal over f t e) (has.are f t e)

    pub is-literal : All Masked t.rows
    is-literal = All-from_recursion Masked t.rows (subst (AllByRecursion Masked) (sym (has.firsts f t e)) (first-all Masked [] (has.rows f) tt rows-masked))

    pub is-short : length t.rows ≤ length (applications_of f goal)
    is-short =
        let l = ap length (has.firsts f t e) in
        let m = first-few (has.rows f) in
        let n = as-many Row (applications_of f goal) (has.rows f) (has.are f t e) in
        omega (arith, l, m, n)

    -- with all rows it gives the same
    same-looked : (xs : List ℕ) → looked (with-rows has.rows t f) xs ≡ looked t xs
    same-looked xs =
        sym (first-found (all_ones t.widths) xs t.default (has.rows f) rows-masked)
        ∙ ap (λ rows. first_match (row_matches xs) (λ (row : FunRow). row.result) rows t.default) (sym (has.firsts f t e))

    pub same-by : (others : Functions) (xs : List ℕ) → by_tables (full has.rows tables) others f xs ≡ by_tables tables others f xs
    same-by others xs =
        by-table (full has.rows tables) others f (with-rows has.rows t f) (full-at has.rows tables f t e) xs
        ∙ ap (λ (b : Bits). b.value) (same-looked xs)
        ∙ sym (by-table tables others f t e xs)

  has-rows : HasRows none ins goal first (full has.rows tables)
  has-rows f w args m =
      let of = has-table d tables z f (arg_widths args) w (applied-at d any_input goal over f w args m) in
      record { table = with-rows has.rows of.table f; is_there = full-at has.rows tables f of.table of.is_there; rows = has.are f of.table of.is_there }

  abbrev Full : Functions
  Full = by_tables (full has.rows tables) (λ f xs. 0)

  agree-here : (u : Term) → OverHere d any_input u → Agree Full (given tables) ins u
  agree-here (apply f args w) k = let of = has-table d tables z f (arg_widths args) w k in same-by f of.table of.is_there (λ f xs. 0)
  agree-here (constant w n) k = tt
  agree-here (input i w) k = tt
  agree-here (not_ a) k = tt
  agree-here (binary op a b) k = tt
  agree-here (slice a high low) k = tt
  agree-here (pick c a b) k = tt

  pub same-goal : term_value Full ins goal ≡ term_value (given tables) ins goal
  same-goal = same-value Full (given tables) ins goal (each-weaker (OverHere d any_input) (Agree Full (given tables) ins) agree-here goal (each-over d any_input goal over))

-- the tables give numbers that fit
given-fit : (d : Design) (tables : Tables) → FitsDesign d tables → (p : ℕ → ℕ → Bool) (t : Term) → IsOver d p t → FunctionsFit t (given tables)
given-fit d tables z p t h f w args m xs k =
    let of = has-table d tables z f (arg_widths args) w (applied-at d p t h f w args m) in
    subst (FitsWidth w) (sym (by-table tables (λ f xs. 0) f of.table of.is_there xs)) (looked-fits of.table (arg_widths args) w of.fits.0 xs)

inputs-fit : (d : Design) (ins : Inputs) (t : Term) → IsOver d (fit_input ins) t → InputsFit t ins
inputs-fit d ins t h i w m = fits-in w (ins i) (mentioned-is d (fit_input ins) t h i w m)

-- an instance has no inputs
abbrev no_input : ℕ → ℕ → Bool
no_input i w = false

whatever-inputs : (d : Design) (F : Functions) (t : Term) → IsOver d no_input t → (f g : Inputs) → term_value F f t ≡ term_value F g t
whatever-inputs d F t h f g = value_agrees (OverHere d no_input) F f g (λ i w e. absurd (false≢true e)) t (each-over d no_input t h)

-- ---- names

own-apart : (t : Term) → AreApart (own_name t) t
own-apart t = names-apart t 0 (inputs_of t) (are_inputs t)

-- in an arena of its own a term has its inputs under their new names
pub mentioned-there : (t : Term) (i w : ℕ) → Mentions t i w → Mentions (in_own_arena t) (own_name t i) w
mentioned-there t i w m =
    subst (λ us. is_among us (input (own_name t i) w) ≡ true) (sym (walk-kept t (own_name t) (own-apart t)))
    (among-renamed (λ u. is_among (walk t []) u ≡ true) (own_name t) (own-apart t) (walk t []) (input i w) (walk-all (λ u. is_among (walk t []) u ≡ true) t [] (walk-has t []) tt) m ∙ m)

-- ---- the law

-- what is taken of the assumptions has width 1, and is of the design
pub record Instances (d : Design) (level : ℕ) : Type 0 where
  pub pattern_widths : (inputs : ℕ → ℕ → Bool) (goal : Term) → IsOver d inputs goal → AllByRecursion (HasWidth 1) (pattern_terms d level goal)
  pub patterns_over : (inputs : ℕ → ℕ → Bool) (goal : Term) → IsOver d inputs goal → AllOver d inputs (pattern_terms d level goal)
  pub value_widths : (i : ℕ) → OfAssumption d i (λ a. (ns : List ℕ) → NumbersFit a ns → HasWidth 1 (value_term d a ns))
  pub values_over : (i : ℕ) → OfAssumption d i (λ a. (ns : List ℕ) → NumbersFit a ns → (inputs : ℕ → ℕ → Bool) → IsOver d inputs (value_term d a ns))

-- a flat goal that is true has tables
abbrev pub HaveTables : Type 0
HaveTables =
    (goal : Term) (first : ℕ) → CanFlatten goal first → (none : Functions) (ins : Inputs) → flat.AllFit goal first ins → term_value none ins (flattened goal first) ≡ number 1 1
    → (tables : Tables) → HasRows none ins goal first tables → (others : Functions) → term_value (by_tables tables others) ins goal ≡ number 1 1

module _ (d : Design) (level : ℕ) (laws : Instances d level) (is : List Instance) (fits : AllByRecursion (Fits d level) is) where
  instances-over : (p : ℕ → ℕ → Bool) → AllOver d p (map (instance_term d) is)
  instances-over p = each_instance d level (IsOver d p) tt (λ x fit a e. laws.values_over x.number a e x.values (fit.values a e) p) is fits

  pub asked-over : (formula : Term) → Stands d 1 formula → IsOver d any_input (asked d level formula is)
  asked-over formula stands =
      let own = in_own_arena formula in
      let over = (own_stands d formula stands).1 in
      ands-over d any_input own (added d level formula is) over
      (all-append (IsOver d any_input) (pattern_terms d level own) (map (instance_term d) is) (laws.patterns_over any_input own over) (instances-over any_input))

module _ (d : Design) (level : ℕ) (laws : Instances d level) (have-tables : HaveTables) (formula : Term) (stands : Stands d 1 formula) (is : List Instance) (fits : AllByRecursion (Fits d level) is)
    (term : IsTerm (asked d level formula is)) (can : CanFlatten (asked d level formula is) (input_count formula)) where
  abbrev own : Term
  own = in_own_arena formula

  abbrev more : List Term
  more = added d level formula is

  abbrev goal : Term
  goal = asked d level formula is

  own-stands : HasWidth 1 own × IsOver d any_input own
  own-stands = own_stands d formula stands

  more-wide : AllByRecursion (HasWidth 1) more
  more-wide =
      all-append (HasWidth 1) (pattern_terms d level own) (map (instance_term d) is) (laws.pattern_widths any_input own own-stands.1)
      (each_instance d level (HasWidth 1) refl (λ x fit a e. laws.value_widths x.number a e x.values (fit.values a e)) is fits)

  goal-over : IsOver d any_input goal
  goal-over = asked-over d level laws is fits formula stands

  module _ (none : Functions) (ins : Inputs) (fit : flat.AllFit goal (input_count formula) ins) (one : term_value none ins (query d level formula is) ≡ number 1 1)
      (tables : Tables) (z : FitsDesign d tables) (has : HaveFirstRows none ins goal (input_count formula) tables) where
    abbrev One : Term → Type 0
    One t = term_value (given tables) ins t ≡ number 1 1

    abbrev Bit : Term → Type 0
    Bit t = (b : Bool) × (term_value (given tables) ins t ≡ number 1 (bit b))

    goal-one : One goal
    goal-one =
        sym (same-goal d tables z none ins goal (input_count formula) goal-over has)
        ∙ have-tables goal (input_count formula) can none ins fit one (full has.rows tables) (has-rows d tables z none ins goal (input_count formula) goal-over has) (λ f xs. 0)

    fitting-over : IsOver d (fit_input ins) goal
    fitting-over = over-others d any_input goal goal-over (fit_input ins) (λ i w m. lt-ltb (ins i) (2 ^ w) (fit.inputs i w m))

    parts-over : IsOver d (fit_input ins) own × AllOver d (fit_input ins) more
    parts-over = parts-are-over d (fit_input ins) own more fitting-over

    parts-terms : IsTerm own × AllByRecursion IsTerm more
    parts-terms = parts-are-terms own more term

    is-bit : (t : Term) → IsTerm t → HasWidth 1 t → IsOver d (fit_input ins) t → Bit t
    is-bit t i w h =
        let v = values-fit t i (given tables) ins (given-fit d tables z (fit_input ins) t h) (inputs-fit d ins t h) in
        let b = one-bit v.0 (subst (λ u. FitsWidth u v.0) w v.2) in
        (b.0, v.1 ∙ ap (λ u. number u v.0) w ∙ ap (number 1) b.1)

    all-ones : One own × AllByRecursion One more
    all-ones =
        each-one (given tables) ins own more (is-bit own parts-terms.0 own-stands.0 parts-over.0)
        (zipped (λ t. IsTerm t × HasWidth 1 t) (IsOver d (fit_input ins)) Bit (λ t k h. is-bit t k.0 k.1 h) more
        (zipped IsTerm (HasWidth 1) (λ t. IsTerm t × HasWidth 1 t) (λ t i w. (i, w)) more parts-terms.1 more-wide) parts-over.1) goal-one

    instance-true : (xs : List Instance) → AllByRecursion One (map (instance_term d) xs) → AllOver d no_input (map (instance_term d) xs) → AllByRecursion (λ i. IsTrueBy tables (instance_term d i)) xs
    instance-true [] h k = tt
    instance-true (x ∷ xs) h k = (λ f. whatever-inputs d (given tables) (instance_term d x) k.0 f ins ∙ h.0, instance-true xs h.1 k.1)

    pub candidate : IsCandidate d level formula is tables
    candidate =
        let own-patterns = pattern_terms d level own in
        let values = map (instance_term d) is in
        record {
          definitions = z;
          formula_ = record { inputs = ins; fit = inputs-fit d ins own parts-over.0; all = (all-ones.0, front One own-patterns values all-ones.1) };
          instances_ = instance-true is (back One own-patterns values all-ones.1) (instances-over d level laws is fits no_input);
          literal = λ f t e. is-literal d tables z none ins goal (input_count formula) goal-over has f t e;
          short = λ f t e. is-short d tables z none ins goal (input_count formula) goal-over has f t e;
        }

    pub formula-true : MakeTrue tables (λ i. ins (own_name formula i)) formula
    formula-true = record {
      fit = λ i w m. inputs-fit d ins own parts-over.0 (own_name formula i) w (mentioned-there formula i w m);
      is_true = sym (value-renamed (own_name formula) (given tables) ins formula) ∙ all-ones.0;
    }
