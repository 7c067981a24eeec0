-- What an assignment that makes a query true makes of its tables: they are of a query that is true.
use Rattle.std.proofs.Common.{◌≡◌, ℕ, zero, suc, ℤ, Bool, List, [], ◌∷◌, map, refl, subst, sym}
use Rattle.std.specs.Prelude.{option_map, slice_get, unwrap_or}
use Rattle.std.specs.List.{AllZip}
use Rattle.bit_blast.specs.Blasting.{InputRow}
use Rattle.bit_blast.specs.Readings.{number_read}
use Rattle.bv_terms.specs.Arenas.{IsArena}
use Rattle.bv_terms.specs.Environments.{functions_of, inputs_of}
use Rattle.bv_terms.specs.TermTrees.{Term}
use Rattle.bv_terms.specs.TermValues.{Inputs, term_value}
use Rattle.bv_terms.specs.declared.eval.Env.{Env}
use Rattle.bv_terms.specs.declared.node.Node.{Node}
use Rattle.cnf_core.specs.declared.certificates.Instance.{Instance}
use Rattle.cnf_core.specs.Satisfying.{makes_true}
use Rattle.cnf_core.specs.declared.clauses.Assignment.{Assignment}
use Rattle.cocoon_num.specs.BitsOf.{value_of}
use Rattle.cocoon_num.specs.Tree.{Design}
use Rattle.cocoon_num.specs.Values.{number}
use Rattle.cocoon_num.specs.declared.bits.Bits.{Bits}
use Rattle.runtime_defs.specs.Printable.{FitsDesign}
use Rattle.flat_goals.specs.declared.applied.Applied.{Applied}
use Rattle.runtime_defs.specs.Tables as made
use Rattle.runtime_defs.specs.declared.lookups.Lookup.{Lookup}
use Rattle.query_laws.specs.OwnNames.{input_count}
use Rattle.query_laws.specs.Queries.{asked, query}
use Rattle.bv_terms.specs.WithRows.{Tables}
use Rattle.query_laws.specs.FirstRows.{AreOfTrueQuery}
use Rattle.candidates.specs.Applying.{IsLookup}
use Rattle.candidates.specs.Assigned.{assigned, row_value}
use Rattle.candidates.specs.Flat.{IsSatisfied}
use Rattle.candidates.proofs.Rows.{all-fit, first-rows}

-- ---- the numbers of inputs

abbrev pub number-at : List Bits → Inputs
number-at bits i = unwrap_or (option_map (λ (b : Bits). b.value) (slice_get bits i)) 0

number-is : (v : ℤ → Bool) (row : InputRow) (b : Bits) → value_of b ≡ row_value v row → b.value ≡ number_read v row.bits
number-is v row b e = cc

pub numbers-are : (v : ℤ → Bool) (bits : List Bits) (rows : List InputRow) → map value_of bits ≡ map (row_value v) rows → (i : ℕ) → number-at bits i ≡ assigned v rows i
numbers-are v [] [] e i = refl
numbers-are v [] (row ∷ rows) e i = absurd cc
numbers-are v (b ∷ bits) [] e i = absurd cc
numbers-are v (b ∷ bits) (row ∷ rows) e zero = let one : value_of b ≡ row_value v row = cc in number-is v row b one
numbers-are v (b ∷ bits) (row ∷ rows) e (suc i) = let rest : map value_of bits ≡ map (row_value v) rows = cc in numbers-are v bits rows rest i

-- ---- the query

module _ (d : Design) (nodes : List Node) (arena : IsArena nodes) (applied : List Applied) (rows : List InputRow) (x : Assignment)
    (env : Env) (bits : map value_of env.inputs ≡ map (row_value (makes_true x)) rows) (looked : List Lookup) (are : AllZip (IsLookup nodes env) applied looked)
    (tables : Tables) (fits : FitsDesign d tables) (made : made.HaveFirstRows looked tables)
    (level : ℕ) (formula : Term) (is : List Instance) (s : IsSatisfied d nodes applied rows x level formula is) where
  goal-true : term_value (functions_of env) (inputs_of env) (query d level formula is) ≡ number 1 1
  goal-true =
      let same : inputs_of env ≡ assigned (makes_true x) rows = λ k i. numbers-are (makes_true x) env.inputs rows bits i k in
      subst (λ (ins : Inputs). term_value (functions_of env) ins (query d level formula is) ≡ number 1 1) (sym same) (s.is_true (functions_of env))

  pub of-true-query : AreOfTrueQuery d level formula is (functions_of env) (inputs_of env) tables
  of-true-query =
      let v = makes_true x in
      let goal = asked d level formula is in
      let first = input_count formula in
      record {
        stands = s.stands;
        fit = s.fit;
        term = s.term;
        inputs = all-fit d nodes arena applied rows goal first s.flat v env bits;
        is_true = goal-true;
        definitions = fits;
        rows = first-rows d nodes arena applied rows goal first s.flat v env bits tables fits looked are made;
      }
