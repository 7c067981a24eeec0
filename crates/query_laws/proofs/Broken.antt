-- An assumption that is false under the definitions of tables is a false instance.
use Rattle.std.proofs.Common.{◌≡◌, ℕ, suc, Bool, true, List, [], ◌∷◌, All, Some, None, refl, sym, ap, subst, ◌∙◌}
use Rattle.std.specs.Prelude.{slice_get}
use Rattle.std.specs.List.{AllByRecursion, AllZip}
use Rattle.std.proofs.lemmas.Bool.{and_parts}
use Rattle.std.proofs.lemmas.List.Elements.{All-from_recursion, recursion_from_All}
use Rattle.cocoon_num.specs.Tree.{AssumeDecl, DefsText, Design, FunctionDecl}
use Rattle.cocoon_num.specs.Values.{fits_width}
use Rattle.cocoon_num.specs.declared.fun_table.FunRow.{FunRow}
use Rattle.cocoon_num.specs.declared.fun_table.FunTable.{FunTable}
use Rattle.cocoon_resolve.specs.Readers.{all_assumptions}
use Rattle.cocoon_types.specs.Design.{functions, widths_of}
use Rattle.cocoon_types.specs.Rules.{WellFormed}
use Rattle.cocoon_types.specs.Tables.{Defs, defs_of}
use Rattle.cocoon_types.specs.Val.{bind}
use Rattle.bv_terms.specs.TermTrees.{IsTerm, Term, constant}
use Rattle.bv_terms.specs.TermValues.{Functions, Inputs, term_number, term_value}
use Rattle.cnf_core.specs.declared.certificates.Instance.{Instance}
use Rattle.runtime_defs.specs.Printable.{AreMasked, FitsDesign, FitsFunction, FitsPlace, FitsRow, IsMasked, all_fit_widths, all_ones, result_width}
use Rattle.runtime_defs.specs.EntryPlaces.{entries_of_places}
use Rattle.obligation_laws.specs.Shown.{functions_by}
use Rattle.query_laws.specs.Over.{IsOver, fit_input}
use Rattle.fun_instances.specs.AssumptionTerms.{assumption_term, number_terms, value_term}
use Rattle.fun_instances.specs.Saying.{SaysOf}
use Rattle.fun_instances.specs.Taking.{NumbersFit, OfAssumption, TermsFit}
use Rattle.fun_instances.proofs.AssumptionValues.{bound_fit, numbers_are}
use Rattle.query_laws.specs.Queries.{instance_term}
use Rattle.refinement.specs.Assumptions.{AreDefinitions}
use Rattle.runtime_defs.specs.Stands.{Stands}
use Rattle.runtime_defs.proofs.Looking.{kept}
use Rattle.sound_types.specs.Defined.{HasDefinitions}
use Rattle.sound_types.specs.Literals.{DesignLiteralsFit}
use Rattle.bv_terms.specs.ByTables.{by_tables}
use Rattle.bv_terms.specs.Fitting.{TablesFit}
use Rattle.bv_terms.specs.WithRows.{Tables, table_of, with_rows}
use Rattle.query_laws.specs.Broken.{IsBroken}
use Rattle.query_laws.specs.Candidates.{HasLiteralRows, IsFalseBy}

-- ---- literal rows are masked

masked-row : (ws vs : List ℕ) → all_fit_widths ws vs ≡ true → AreMasked vs (all_ones ws)
masked-row [] [] e = tt
masked-row [] (v ∷ vs) e = absurd cc
masked-row (w ∷ ws) [] e = absurd cc
masked-row (w ∷ ws) (v ∷ vs) e = let p = and_parts (fits_width w v) (all_fit_widths ws vs) e in (kept w v p.0, masked-row ws vs p.1)

masked-rows : (ws : List ℕ) (w : ℕ) (rows : List FunRow) → AllByRecursion (FitsRow ws w) rows → AllByRecursion (λ (row : FunRow). row.masks ≡ all_ones ws) rows
    → AllByRecursion (λ (row : FunRow). AreMasked row.values row.masks) rows
masked-rows ws w [] h k = tt
masked-rows ws w (row ∷ rows) h k = (subst (AreMasked row.values) (sym k.0) (masked-row ws row.values h.0.values_fit), masked-rows ws w rows h.1 k.1)

masked-table : (f : FunctionDecl) (t : FunTable) → FitsFunction f t → HasLiteralRows t → IsMasked (Some t)
masked-table f t h k =
    All-from_recursion (λ (row : FunRow). AreMasked row.values row.masks) t.rows
    (masked-rows t.widths (result_width f.result) t.rows (recursion_from_All (FitsRow t.widths (result_width f.result)) t.rows h.rows_fit)
    (recursion_from_All (λ (row : FunRow). row.masks ≡ all_ones t.widths) t.rows k))

masked-places : (fs : List FunctionDecl) (ts : Tables) → AllZip FitsPlace fs ts → ((f : ℕ) (t : FunTable) → table_of ts f ≡ Some t → HasLiteralRows t) → AllByRecursion IsMasked ts
masked-places [] [] z h = tt
masked-places [] (t ∷ ts) z h = absurd z
masked-places (f ∷ fs) [] z h = absurd z
masked-places (f ∷ fs) (None ∷ ts) z h = (tt, masked-places fs ts z.1 (λ n t e. h (suc n) t e))
masked-places (f ∷ fs) (Some t ∷ ts) z h = (masked-table f t z.0.1 (h 0 t refl), masked-places fs ts z.1 (λ n t e. h (suc n) t e))

pub all-masked : (d : Design) (tables : Tables) → FitsDesign d tables → ((f : ℕ) (t : FunTable) → table_of tables f ≡ Some t → HasLiteralRows t) → All IsMasked tables
all-masked d tables z h = All-from_recursion IsMasked tables (masked-places (functions d) tables z.places h)

-- ---- what an instance says

-- the laws that are cited
pub record Laws (d : Design) (tables : Tables) : Type 0 where
  pub definitions : AreDefinitions d (defs_of d (entries_of_places d tables))
  pub stands : Stands d tables (defs_of d (entries_of_places d tables))
  pub says : (es : DefsText) → HasDefinitions d es → (i : ℕ) → OfAssumption d i (λ a. (ins : Inputs) (ts : List Term) → TermsFit d (defs_of d es) ins a ts → SaysOf d (defs_of d es) ins a ts (assumption_term d a ts))
  pub over : (i : ℕ) → OfAssumption d i (λ a. (ns : List ℕ) → NumbersFit a ns → (inputs : ℕ → ℕ → Bool) → IsOver d inputs (value_term d a ns))
  pub fit : (inputs : ℕ → ℕ → Bool) (t : Term) → IsOver d inputs t → TablesFit tables t
  pub rows : (others : Functions) (ins : Inputs) (t : Term) → IsTerm t → TablesFit tables t → term_value others ins (with_rows tables t) ≡ term_value (by_tables tables others) ins t
  pub by_definitions : (defs : Defs) → Stands d tables defs → (ins : Inputs) (t : Term) → IsTerm t → IsOver d (fit_input ins) t → (others : Functions)
      → term_value others ins (with_rows tables t) ≡ term_value (functions_by d defs) ins t

module _ (d : Design) (w : WellFormed d) (l : DesignLiteralsFit d) (tables : Tables) (laws : Laws d tables) (i : Instance) (a : AssumeDecl) (is : slice_get (all_assumptions d) i.number ≡ Some a)
    (broken : IsBroken d tables a i.values) where
  abbrev entries : DefsText
  entries = laws.definitions.entries

  defined : HasDefinitions d entries
  defined = record { rules = w; literals = l; fits = laws.definitions.fit; values_fit = laws.definitions.values_fit }

  stands : Stands d tables (defs_of d entries)
  stands = subst (Stands d tables) laws.definitions.are laws.stands

  pub numbers-fit : NumbersFit a i.values
  numbers-fit = let b = broken entries defined stands in bound_fit a.params i.values b.0 b.1

  abbrev term : Term
  term = value_term d a i.values

  false-term : IsTerm term → IsFalseBy tables term
  false-term h ins =
      let b = broken entries defined stands in
      let defs = defs_of d entries in
      let F = functions_by d defs in
      let over = laws.over i.number a is i.values numbers-fit (fit_input ins) in
      let are = numbers_are F ins (widths_of a.params) i.values numbers-fit in
      let none : Functions = λ f xs. 0 in
      sym (laws.rows none ins term h (laws.fit (fit_input ins) term over))
      ∙ laws.by_definitions defs stands ins term h over none
      ∙ laws.says entries defined i.number a is ins (number_terms (widths_of a.params) i.values) are.0 b.0 (ap (λ ns. bind a.params ns) are.1 ∙ b.1)
      ∙ ap term_number b.2

  same-term : instance_term d i ≡ term
  same-term = ap (λ o. elim o as (λ y. Term) [ None ↦ constant 1 1 | Some b ↦ value_term d b i.values ]) is

  pub false-instance : IsTerm (instance_term d i) → IsFalseBy tables (instance_term d i)
  false-instance h = subst (IsFalseBy tables) (sym same-term) (false-term (subst IsTerm same-term h))
