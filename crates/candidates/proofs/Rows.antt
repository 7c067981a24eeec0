-- The tables have a row for each list of values of an application, and the inputs make the goal true.
use Rattle.std.proofs.Common.{◌≡◌, ℕ, ◌==◌, ℤ, Bool, true, false, List, [], ◌∷◌, map, Option, Some, None, refl, sym, ap, subst, ◌∙◌, inl, inr}
use Rattle.std.specs.Prelude.{filter, option_map, unwrap_or}
use Rattle.std.specs.List.{AllByRecursion, AllZip}
use Rattle.std.proofs.lemmas.Bool.{cases_Bool, cond-true, cond-false, eq-eqb, eqb-true, false≢true}
use Rattle.cocoon_num.specs.BitsOf.{value_of}
use Rattle.cocoon_num.specs.Tree.{Design}
use Rattle.cocoon_num.specs.Values.{FitsWidth}
use Rattle.cocoon_num.specs.declared.bits.Bits.{Bits}
use Rattle.cocoon_num.specs.declared.fun_table.FunRow.{FunRow}
use Rattle.cocoon_num.specs.declared.fun_table.FunTable.{FunTable}
use Rattle.bit_blast.specs.Blasting.{InputRow}
use Rattle.bv_terms.specs.Arenas.{IsArena}
use Rattle.bv_terms.specs.Environments.{functions_of, inputs_of}
use Rattle.bv_terms.specs.TermTrees.{Term, apply, constant, input, not_, binary, slice, pick, arg_widths}
use Rattle.bv_terms.specs.TermValues.{Functions, Inputs, arg_numbers}
use Rattle.bv_terms.specs.Walks.{applications, walk}
use Rattle.bv_terms.specs.declared.eval.Env.{Env}
use Rattle.bv_terms.specs.declared.node.Node.{Node}
use Rattle.runtime_defs.specs.Printable.{FitsDesign, all_ones}
use Rattle.flat_goals.specs.Applied.{IsApplied}
use Rattle.flat_goals.specs.declared.applied.Applied.{Applied as Code}
use Rattle.flat_laws.specs.Flat.{args_in}
use Rattle.flat_laws.specs.Rows.{AllFit, IsRowOf, is_of}
use Rattle.flat_laws.proofs.Places.{still-among}
use Rattle.runtime_defs.specs.FirstRows.{first_rows}
use Rattle.runtime_defs.specs.LookupRows.{row_of, rows_for}
use Rattle.runtime_defs.specs.Tables as made
use Rattle.runtime_defs.specs.declared.lookups.Lookup.{Lookup}
use Rattle.bv_terms.specs.WithRows.{Tables, table_of}
use Rattle.query_laws.specs.FirstRows.{HaveFirstRows, applications_of}
use Rattle.query_laws.proofs.Candidate.{all-wide}
use Rattle.candidates.specs.Applying.{IsLookup}
use Rattle.candidates.specs.Assigned.{row_value}
use Rattle.candidates.specs.Flat.{IsFlat}
use Rattle.candidates.proofs.Applications.{arg-values}
use Rattle.candidates.proofs.Inputs.{has-nodes, input-fits, input-there, mentioned}
use Rattle.candidates.proofs.Lists.{zip-there}

module _ (d : Design) (nodes : List Node) (arena : IsArena nodes) (applied : List Code) (rows : List InputRow) (goal : Term) (first : ℕ) (z : IsFlat d nodes applied rows goal first)
    (v : ℤ → Bool) (env : Env) (bits : map value_of env.inputs ≡ map (row_value v) rows) where
  abbrev none : Functions
  none = functions_of env

  abbrev ins : Inputs
  ins = inputs_of env

  -- ---- rows

  -- the row of one application
  row-is : (ws : List ℕ) (t : Term) (a : Code) (l : Lookup) → IsApplied nodes goal first t a → IsLookup nodes env a l → arg_widths (args_in t) ≡ ws → IsRowOf none ins goal first t (row_of ws l)
  row-is ws t a l p k e = record {
    values = arg-values nodes env a.args l.args k.args ∙ ap (arg_numbers none ins) p.args;
    masks = ap all_ones (sym e);
    result = sym (ap (λ (o : Option Bits). unwrap_or (option_map (λ (b : Bits). b.value) o) 0) k.result) ∙ ap ins p.result;
  }

  -- both tell the function
  same-test : (f : ℕ) (t : Term) (a : Code) (l : Lookup) → IsApplied nodes goal first t a → IsLookup nodes env a l → is_of f t ≡ true → (l.function == f) ≡ true
  same-test f (apply g ts w) a l p k e =
      let same : l.function ≡ g = k.function ∙ eqb-true a.function g p.function in
      eq-eqb l.function f (same ∙ sym (eqb-true f g e))
  same-test f (constant w n) a l p k e = absurd (false≢true e)
  same-test f (input i w) a l p k e = absurd (false≢true e)
  same-test f (not_ x) a l p k e = absurd (false≢true e)
  same-test f (binary op x y) a l p k e = absurd (false≢true e)
  same-test f (slice x high low) a l p k e = absurd (false≢true e)
  same-test f (pick c x y) a l p k e = absurd (false≢true e)

  other-test : (f : ℕ) (t : Term) (a : Code) (l : Lookup) → IsApplied nodes goal first t a → IsLookup nodes env a l → is_of f t ≡ false → (l.function == f) ≡ false
  other-test f (apply g ts w) a l p k e = elim (cases_Bool (l.function == f)) [
    | inl s ↦
        let same : f ≡ g = sym (eqb-true l.function f s) ∙ k.function ∙ eqb-true a.function g p.function in
        absurd (false≢true (sym e ∙ eq-eqb f g same))
    | inr s ↦ s
  ]
  other-test f (constant w n) a l p k e = absurd (false≢true p.function)
  other-test f (input i w) a l p k e = absurd (false≢true p.function)
  other-test f (not_ x) a l p k e = absurd (false≢true p.function)
  other-test f (binary op x y) a l p k e = absurd (false≢true p.function)
  other-test f (slice x high low) a l p k e = absurd (false≢true p.function)
  other-test f (pick c x y) a l p k e = absurd (false≢true p.function)

  abbrev Row : Term → FunRow → Type 0
  Row t row = IsRowOf none ins goal first t row

  rows-are : (f : ℕ) (ws : List ℕ) (ts : List Term) (taken : List Code) (ls : List Lookup) → AllZip (IsApplied nodes goal first) ts taken → AllZip (IsLookup nodes env) taken ls
      → AllByRecursion (λ u. arg_widths (args_in u) ≡ ws) (filter (is_of f) ts) → AllZip Row (filter (is_of f) ts) (rows_for ws f ls)
  rows-are f ws [] [] [] p k h = tt
  rows-are f ws [] [] (l ∷ ls) p k h = absurd k
  rows-are f ws [] (a ∷ taken) ls p k h = absurd p
  rows-are f ws (t ∷ ts) [] ls p k h = absurd p
  rows-are f ws (t ∷ ts) (a ∷ taken) [] p k h = absurd k
  rows-are f ws (t ∷ ts) (a ∷ taken) (l ∷ ls) p k h = elim (cases_Bool (is_of f t)) [
    | inl e ↦
        let left = cond-true (is_of f t) (t ∷ filter (is_of f) ts) (filter (is_of f) ts) e in
        let right = cond-true (l.function == f) (row_of ws l ∷ rows_for ws f ls) (rows_for ws f ls) (same-test f t a l p.0 k.0 e) in
        let g : AllByRecursion (λ u. arg_widths (args_in u) ≡ ws) (t ∷ filter (is_of f) ts) = subst (AllByRecursion (λ u. arg_widths (args_in u) ≡ ws)) left h in
        subst (λ us. AllZip Row us (rows_for ws f (l ∷ ls))) (sym left)
        (subst (AllZip Row (t ∷ filter (is_of f) ts)) (sym right) (row-is ws t a l p.0 k.0 g.0, rows-are f ws ts taken ls p.1 k.1 g.1))
    | inr e ↦
        let left = cond-false (is_of f t) (t ∷ filter (is_of f) ts) (filter (is_of f) ts) e in
        let right = cond-false (l.function == f) (row_of ws l ∷ rows_for ws f ls) (rows_for ws f ls) (other-test f t a l p.0 k.0 e) in
        subst (λ us. AllZip Row us (rows_for ws f (l ∷ ls))) (sym left)
        (subst (AllZip Row (filter (is_of f) ts)) (sym right) (rows-are f ws ts taken ls p.1 k.1 (subst (AllByRecursion (λ u. arg_widths (args_in u) ≡ ws)) left h)))
  ]

  abbrev rows-by : Tables → List Lookup → ℕ → List FunRow
  rows-by tables ls f = elim (table_of tables f) [ None ↦ [] | Some t ↦ rows_for t.widths f ls ]

  rows-by-at : (tables : Tables) (ls : List Lookup) (f : ℕ) (t : FunTable) → table_of tables f ≡ Some t → rows-by tables ls f ≡ rows_for t.widths f ls
  rows-by-at tables ls f t e = ap (λ o. elim o as (λ y. List FunRow) [ None ↦ [] | Some u ↦ rows_for u.widths f ls ]) e

  pub first-rows : (tables : Tables) → FitsDesign d tables → (ls : List Lookup) → AllZip (IsLookup nodes env) applied ls → made.HaveFirstRows ls tables → HaveFirstRows none ins goal first tables
  first-rows tables fits ls k h = record {
    rows = rows-by tables ls;
    are = λ f t e. subst (AllZip Row (applications_of f goal)) (sym (rows-by-at tables ls f t e))
        (rows-are f t.widths (applications goal) applied ls z.applied_ k (all-wide d tables fits goal z.over f t e));
    firsts = λ f t e. h f t e ∙ ap first_rows (sym (rows-by-at tables ls f t e));
  }

  -- ---- inputs

  pub all-fit : AllFit goal first ins
  all-fit = record {
    inputs = λ i w m. input-fits nodes arena z.searched rows z.mapped v env bits i w
        (mentioned nodes arena z.searched rows z.mapped v env bits goal (has-nodes nodes arena goal z.goal_) i w m);
    results = λ f w args m.
        let t = apply f args w in
        let a = zip-there (IsApplied nodes goal first) (applications goal) applied t z.applied_ (still-among (walk goal []) t refl m) in
        subst (λ i. FitsWidth w (ins i)) a.1.result
        (input-fits nodes arena z.searched rows z.mapped v env bits a.0.result w
        (input-there nodes arena z.searched rows z.mapped v env bits a.0.result a.1.input.0 w a.1.input.1));
  }
