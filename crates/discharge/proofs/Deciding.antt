-- What the clauses of an assumption's query say of it.
use Rattle.std.proofs.Common.{◌≡◌, ◌↔◌, ℕ, ◌+◌, ◌<◌, ◌^◌, List, [], ◌∷◌, length, Bool, true, false, not, IsTrue, Option, Some, ℤ, if◌then◌else◌, refl, sym, ap, subst, ◌∙◌}
use Rattle.std.specs.Prelude.{slice_get}
use Rattle.std.specs.List.{AllZip}
use Rattle.std.proofs.lemmas.Bool.{lt-ltb}
use Rattle.cnf_core.specs.Satisfying.{Satisfies, makes_true}
use Rattle.cnf_core.specs.declared.clauses.Assignment.{Assignment}
use Rattle.cnf_core.specs.declared.clauses.Cnf.{Cnf}
use Rattle.cocoon_num.specs.PacketForms.{FieldsFit}
use Rattle.cocoon_num.specs.Sorts.{truth_sort}
use Rattle.cocoon_num.specs.Tree.{AssumeDecl, DefsText, Design}
use Rattle.cocoon_num.specs.Values.{Value, number, truth, apply_unary, flip, fits_width}
use Rattle.cocoon_types.specs.Design.{last_level, widths_of}
use Rattle.cocoon_types.specs.Rules.{WellFormed}
use Rattle.cocoon_types.specs.Tables.{Defs, defs_of}
use Rattle.cocoon_types.specs.Val.{Env, bind, context, value}
use Rattle.bit_blast.specs.Blasting.{IsClauses}
use Rattle.bit_blast.specs.Clauses.{clauses_of}
use Rattle.bit_blast.specs.Goals.{IsGoal}
use Rattle.bit_blast.specs.Meanings.{all_hold}
use Rattle.bit_blast.specs.Readings.{Extends, ReadsAs, input_bits, number_read}
use Rattle.bv_terms.specs.Inputs.{InputsFit, Mentions}
use Rattle.bv_terms.specs.TermTrees.{IsTerm, Term, not_}
use Rattle.bv_terms.specs.TermValues.{Functions, Inputs, term_number, term_value}
use Rattle.refinement.specs.Assumptions.{IsMet}
use Rattle.runtime_defs.specs.Fitting.{FitsDesign}
use Rattle.runtime_defs.specs.Stands.{Stands}
use Rattle.sound_types.specs.Defined.{HasDefinitions}
use Rattle.sound_types.specs.Matching.{IsOfSort}
use Rattle.sound_types.specs.Soundness.{IsSound}
use Rattle.sound_types.specs.WellTyped.{HasType, scope_at}
use Rattle.sound_types.proofs.Declared.{names_differ}
use Rattle.obligation_laws.specs.Shown.{HasNumber, env_of, functions_by, numbers_of}
use Rattle.obligation_laws.specs.TermOf.{bind_terms}
use Rattle.obligation_laws.proofs.Rows.{rows_fit}
use Rattle.obligation_laws.proofs.ExprValues.{ShownAs}
use Rattle.obligation_laws.proofs.ExprWidths.{params_are}
use Rattle.bv_terms.specs.WithRows.{Tables, with_rows}
use Rattle.fun_instances.proofs.AssumptionValues.{bound_are, bound_fit, value_is}
use Rattle.query_laws.specs.Over.{AllOver, IsOver, TermsAreOver, VariablesOver, fit_input}
use Rattle.query_laws.proofs.Applied.{bound_over}
use Rattle.discharge.specs.Meeting.{IsFalseAt}
use Rattle.discharge.specs.Queries.{CanBeAsked, assumption_query, inputs_from, inputs_read, own_term, values_read}
use Rattle.discharge.proofs.Ranges.{HaveBits, at_index, fits_at, from_zero, have_numbers, inputs_over, inputs_wide, number_at, own, own_there, read_at, read_fits, there_own}

-- ---- the laws that are cited

abbrev pub RowsKeepValues : Type 0
RowsKeepValues =
    (d : Design) (tables : Tables) (defs : Defs) → FitsDesign d tables → Stands d tables defs → (ins : Inputs) (t : Term) → IsTerm t → IsOver d (fit_input ins) t
    → (others : Functions) → term_value others ins (with_rows tables t) ≡ term_value (functions_by d defs) ins t

abbrev pub RowsHaveInputs : Type 0
RowsHaveInputs =
    (d : Design) (tables : Tables) → FitsDesign d tables → (inputs : ℕ → ℕ → Bool) (t : Term) → IsOver d inputs t → (i w : ℕ) → Mentions (with_rows tables t) i w → inputs i w ≡ true

pub record Goals : Type 0 where
  pub reads : (goal : Term) → IsGoal goal → (a : Assignment) → IsTrue (all_hold (makes_true a) (clauses_of goal)) → (F : Functions) (ins : Inputs) → ReadsAs goal (makes_true a) ins → term_value F ins goal ≡ number 1 1
  pub extends : (goal : Term) → IsGoal goal → (F : Functions) (ins : Inputs) → InputsFit goal ins → ((a : Assignment) × Extends goal ins a) ↔ (term_value F ins goal ≡ number 1 1)
  pub present : (goal : Term) → IsGoal goal → (i w : ℕ) → Mentions goal i w → length (input_bits goal i w) ≡ w
  pub absent : (goal : Term) → IsGoal goal → (i w : ℕ) → (Mentions goal i w → ⊥) → input_bits goal i w ≡ []
  pub holds : (cnf : Cnf) (goal : Term) → IsClauses cnf goal → (a : Assignment) → Satisfies a cnf ↔ IsTrue (all_hold (makes_true a) (clauses_of goal))

-- ---- the term of an assumption

abbrev IsTyped : Design → AssumeDecl → Type 0
IsTyped d a = HasType (scope_at d (last_level d) a.params false) truth_sort a.body

pub own_over : (d : Design) (a : AssumeDecl) → TermsAreOver d → IsTyped d a → (p : ℕ → ℕ → Bool) → ((k w : ℕ) → slice_get (widths_of a.params) k ≡ Some w → p k w ≡ true) → IsOver d p (own_term d a)
own_over d a over typed p h =
    let ws = widths_of a.params in
    over (scope_at d (last_level d) a.params false) (bind_terms a.params (inputs_from 0 ws)) [] refl
    (record { variables = params_are a.params (inputs_from 0 ws) (inputs_wide 0 ws); fields_fit = λ no. absurd (cc) })
    p (bound_over d p a.params (inputs_from 0 ws) (inputs_over d p 0 ws (λ k w e. subst (λ n. p n w ≡ true) (sym (from_zero k)) (h k w e)))) tt truth_sort a.body typed

-- ---- its value

-- the assumption is true or false at the numbers, and the query is true or false accordingly
pub record Shows (d : Design) (tables : Tables) (defs : Defs) (a : AssumeDecl) (ns : List ℕ) : Type 0 where
  pub env : Env
  pub bound : bind a.params ns ≡ Some env
  pub says : Bool
  pub is : value (context d defs) env [] a.body ≡ Some (truth says)
  pub goal : term_value (functions_by d defs) (at_index ns) (assumption_query d a tables) ≡ number 1 (if says then 0 else 1)

turned : (b : Bool) → term_number (apply_unary flip (term_number (Some (truth b)))) ≡ number 1 (if b then 0 else 1)
turned true = refl
turned false = refl

module _ (keep : RowsKeepValues) (d : Design) (a : AssumeDecl) (over : TermsAreOver d) (typed : IsTyped d a) (tables : Tables) (z : FitsDesign d tables) (own_is : IsTerm (own_term d a)) where
  pub shows : (es : DefsText) → HasDefinitions d es → IsSound d (context d (defs_of d es)) → Stands d tables (defs_of d es) → (ns : List ℕ) → FieldsFit (widths_of a.params) ns → Shows d tables (defs_of d es) a ns
  shows es h sound s ns fit = by v.value v.is v.sort v.term
    where
      defs : Defs
      defs = defs_of d es

      F : Functions
      F = functions_by d defs

      ins : Inputs
      ins = at_index ns

      ts : List Term
      ts = inputs_from 0 (widths_of a.params)

      have : AllZip (HasNumber F ins) (widths_of a.params) ts × (numbers_of F ins ts ≡ ns)
      have = have_numbers F ins 0 (widths_of a.params) ns fit (λ k n e. ap (at_index ns) (from_zero k) ∙ number_at ns k n e)

      env : Env
      env = env_of F ins (bind_terms a.params ts)

      bound : bind a.params ns ≡ Some env
      bound = ap (bind a.params) (sym have.1) ∙ (bound_are F ins a.params ts have.0).0

      v : ShownAs F ins truth_sort (value (context d defs) env [] a.body) (own_term d a)
      v = value_is d defs h.rules h.literals (rows_fit d defs (names_differ d h.rules) sound) a typed ins ts have.0

      rows : term_value F ins (with_rows tables (own_term d a)) ≡ term_value F ins (own_term d a)
      rows = keep d tables defs z s ins (own_term d a) own_is
          (own_over d a over typed (fit_input ins) (λ k w e. lt-ltb (ins k) (2 ^ w) (fits_at (widths_of a.params) ns fit k w e))) F

      by : (x : Value) → value (context d defs) env [] a.body ≡ Some x → IsOfSort truth_sort x → term_value F ins (own_term d a) ≡ term_number (Some x) → Shows d tables defs a ns
      by (number w n) is sort term = absurd sort
      by (truth b) is sort term = record {
        env = env;
        bound = bound;
        says = b;
        is = is;
        goal = ap (λ x. term_number (apply_unary flip x)) (rows ∙ term) ∙ turned b;
      }

-- ---- what an assignment says

false_at : (d : Design) (tables : Tables) (defs : Defs) (a : AssumeDecl) (ns : List ℕ) → (s : Shows d tables defs a ns) → term_value (functions_by d defs) (at_index ns) (assumption_query d a tables) ≡ number 1 1 → IsFalseAt d defs a ns
false_at d tables defs a ns s h = by s.says s.is s.goal
  where
    by : (b : Bool) → value (context d defs) s.env [] a.body ≡ Some (truth b) → term_value (functions_by d defs) (at_index ns) (assumption_query d a tables) ≡ number 1 (if b then 0 else 1) → IsFalseAt d defs a ns
    by false is goal = record { env = s.env; bound = s.bound; is_false = is }
    by true is goal = absurd (let e : number 1 0 ≡ number 1 1 = sym goal ∙ h in cc)

true_at : (d : Design) (tables : Tables) (defs : Defs) (a : AssumeDecl) (ns : List ℕ) (env : Env) → bind a.params ns ≡ Some env → (s : Shows d tables defs a ns)
    → (term_value (functions_by d defs) (at_index ns) (assumption_query d a tables) ≡ number 1 1 → ⊥) → value (context d defs) env [] a.body ≡ Some (truth true)
true_at d tables defs a ns env bound s h = by s.says s.is s.goal
  where
    same : s.env ≡ env
    same = let b = s.bound in cc

    by : (b : Bool) → value (context d defs) s.env [] a.body ≡ Some (truth b) → term_value (functions_by d defs) (at_index ns) (assumption_query d a tables) ≡ number 1 (if b then 0 else 1)
        → value (context d defs) env [] a.body ≡ Some (truth true)
    by true is goal = ap (λ e. value (context d defs) e [] a.body) (sym same) ∙ is
    by false is goal = absurd (h goal)

module _ (keep : RowsKeepValues) (inputs : RowsHaveInputs) (goals : Goals) (d : Design) (a : AssumeDecl) (over : TermsAreOver d) (typed : IsTyped d a) (tables : Tables) (z : FitsDesign d tables) (asked : CanBeAsked d a tables) (cnf : Cnf)
    (clauses : IsClauses cnf (assumption_query d a tables)) where
  abbrev goal : Term
  goal = assumption_query d a tables

  -- the query has the inputs of the parameters alone
  mentioned : (i w : ℕ) → Mentions goal i w → slice_get (widths_of a.params) i ≡ Some w
  mentioned i w m = own_there (widths_of a.params) i w (inputs d tables z (own (widths_of a.params)) (not_ (own_term d a)) (own_over d a over typed (own (widths_of a.params)) (there_own (widths_of a.params))) i w m)

  have_bits : HaveBits goal
  have_bits = record { present = goals.present goal asked.goal; absent = goals.absent goal asked.goal }

  pub broken : (x : Assignment) → Satisfies x cnf → (es : DefsText) → HasDefinitions d es → IsSound d (context d (defs_of d es)) → Stands d tables (defs_of d es)
      → IsFalseAt d (defs_of d es) a (values_read (makes_true x) d a tables)
  broken x sat es h sound s =
      let ws = widths_of a.params in
      let ns = values_read (makes_true x) d a tables in
      let holds = (goals.holds cnf goal clauses x).0 sat in
      false_at d tables (defs_of d es) a ns
      (shows keep d a over typed tables z asked.own es h sound s ns (read_fits (makes_true x) goal have_bits 0 ws))
      (goals.reads goal asked.goal x holds (functions_by d (defs_of d es)) (at_index ns) (λ i w m. read_at (makes_true x) goal ws i w (mentioned i w m)))

  pub met : ((x : Assignment) → Satisfies x cnf → ⊥) → (es : DefsText) → HasDefinitions d es → IsSound d (context d (defs_of d es)) → Stands d tables (defs_of d es) → IsMet d (defs_of d es) a
  met none es h sound s ns env bound =
      let ws = widths_of a.params in
      let fit = bound_fit a.params ns env bound in
      true_at d tables (defs_of d es) a ns env bound (shows keep d a over typed tables z asked.own es h sound s ns fit)
      (λ e.
      let found = (goals.extends goal asked.goal (functions_by d (defs_of d es)) (at_index ns) (λ i w m. fits_at ws ns fit i w (mentioned i w m))).1 e in
      none found.0 ((goals.holds cnf goal clauses found.0).1 found.1.holds))
