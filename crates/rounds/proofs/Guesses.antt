-- What is found with another goal, and that a query stays one in an arena that grows.
use Rattle.std.proofs.Common.{◌≡◌, ℕ, ◌<◌, List, [], ◌∷◌, length, map, Option, Some, None, sym, subst, arith, ◌∙◌}
use Rattle.std.specs.List.{AllZip}
use Rattle.std.specs.Option.{IfSome}
use Rattle.std.proofs.lemmas.List.Elements.{All-from_recursion, recursion_from_All}
use Rattle.std.proofs.lemmas.Option.{slice_get_within}
use Rattle.bit_blast.specs.Blasting.{InputRow}
use Rattle.bit_blast.specs.Goals.{IsUnapplied}
use Rattle.bv_terms.specs.Arenas.{IsArena, KeepsTerms, term_at}
use Rattle.bv_terms.specs.Environments.{Covers, functions_of, inputs_of}
use Rattle.bv_terms.specs.TermTrees.{Term, constant, input, apply, not_, binary, slice, pick, width}
use Rattle.bv_terms.specs.TermValues.{Functions, Inputs, term_value}
use Rattle.bv_terms.specs.Walks.{applications}
use Rattle.bv_terms.specs.declared.eval.Env.{Env}
use Rattle.bv_terms.specs.declared.node.Node.{Node}
use Rattle.bv_terms.proofs.Members.{each}
use Rattle.bv_terms.proofs.ReplaceFacts.{grown-length, node-kept}
use Rattle.bv_terms.proofs.Subterms.{Each}
use Rattle.bv_terms.proofs.ValueFacts.{value-width}
use Rattle.query_laws.proofs.SameFunctions.{Agree, same-value}
use Rattle.candidates.specs.Assigned.{assigned, row_value}
use Rattle.candidates.proofs.Inputs.{all-nodes, covered}
use Rattle.candidates.proofs.TrueQueries.{numbers-are}
use Rattle.cnf_core.specs.declared.certificates.Instance.{Instance}
use Rattle.cnf_core.specs.Satisfying.{makes_true}
use Rattle.cnf_core.specs.declared.clauses.Assignment.{Assignment}
use Rattle.cocoon_num.specs.BitsOf.{value_of}
use Rattle.cocoon_num.specs.Tree.{Design}
use Rattle.cocoon_num.specs.Values.{number}
use Rattle.cocoon_num.specs.declared.bits.Bits.{Bits}
use Rattle.flat_goals.specs.Applied.{IsApplied}
use Rattle.flat_goals.specs.declared.applied.Applied.{Applied}
use Rattle.flat_goals.proofs.Reductions.{kept-args}
use Rattle.flat_laws.specs.Meant.{CanFlatten}
use Rattle.query_laws.specs.LeafTerms.{AppliesDeclared, Stands}
use Rattle.queries.specs.Asked.{IsQuery}
use Rattle.queries.specs.declared.asking.OwnGoal.{OwnGoal}
use Rattle.query_laws.specs.Certified.{AllFit}
use Rattle.query_laws.specs.OwnNames.{input_count}
use Rattle.query_laws.specs.Queries.{asked}
use Rattle.rounds.specs.Short.{IsMapped, IsPart, IsReadable, IsTrueOf}
use Rattle.rounds.specs.Steps.{IsSolved}
use Rattle.rounds.specs.declared.asking.Satisfied.{Satisfied as Solved}

-- ---- terms without functions

unapplied-agree : (F G : Functions) (ins : Inputs) (t : Term) → IsUnapplied t → Each (Agree F G ins) t
unapplied-agree F G ins (constant w n) u = tt
unapplied-agree F G ins (input i w) u = tt
unapplied-agree F G ins (apply f args w) u = absurd u
unapplied-agree F G ins (not_ a) u = (unapplied-agree F G ins a u, tt)
unapplied-agree F G ins (binary op a b) u = (unapplied-agree F G ins a u.0, unapplied-agree F G ins b u.1, tt)
unapplied-agree F G ins (slice a high low) u = (unapplied-agree F G ins a u, tt)
unapplied-agree F G ins (pick c a b) u = (unapplied-agree F G ins c u.0, unapplied-agree F G ins a u.1, unapplied-agree F G ins b u.2, tt)

value-is : (b : Bits) (w n : ℕ) → value_of b ≡ number w n → b.value ≡ n
value-is b w n e = cc

-- ---- a goal that is tried

module _ (nodes : List Node) (rows : List InputRow) (x : Assignment) (m : IsMapped nodes rows) (arena : IsArena nodes) (env : Env) (bits : map value_of env.inputs ≡ map (row_value (makes_true x)) rows) where
  pub covers : (id : ℕ) → IsPart nodes id → Covers env (term_at nodes id)
  covers id p = covered nodes arena m.searched rows m.mapped (makes_true x) env bits (term_at nodes id) p.goal.unapplied (all-nodes nodes arena id p.there)

  pub readable : (id : ℕ) → IsPart nodes id → IsReadable env nodes id
  readable id p = record { there = p.there; covered = covers id p }

  pub true-of : (id : ℕ) → IsPart nodes id → (b : Bits) → value_of b ≡ term_value (functions_of env) (inputs_of env) (term_at nodes id) → b.value ≡ 1 → (F : Functions)
      → term_value F (assigned (makes_true x) rows) (term_at nodes id) ≡ number 1 1
  true-of id p b e one F =
      let goal = term_at nodes id in
      let G = functions_of env in
      let ins = assigned (makes_true x) rows in
      let v = value-width G (inputs_of env) goal p.goal.term in
      let n : v.0 ≡ 1 = sym (value-is b (width goal) v.0 (e ∙ v.1)) ∙ one in
      let here : term_value G (inputs_of env) goal ≡ number 1 1 = v.1 ∙ (λ i. number (p.goal.truth i) (n i)) in
      let same : inputs_of env ≡ ins = λ k i. numbers-are (makes_true x) env.inputs rows bits i k in
      same-value F G ins goal (unapplied-agree F G ins goal p.goal.unapplied) ∙ subst (λ (f : Inputs). term_value G f goal ≡ number 1 1) same here

-- ---- an arena that grows

module _ (a b : List Node) (k : KeepsTerms a b) where
  below : (id : ℕ) → id < length a → id < length b
  below id l = let g = grown-length a b k in omega (arith, l, g)

  applied-kept : (whole : Term) (first : ℕ) (t : Term) (x : Applied) → IsApplied a whole first t x → IsApplied b whole first t x
  applied-kept whole first t x h =
      let inside = recursion_from_All (λ i. i < length a) x.args h.there in
      record {
        function = h.function;
        there = All-from_recursion (λ i. i < length b) x.args (each below x.args inside);
        args = kept-args a b x.args k inside ∙ h.args;
        result = h.result;
        input = (h.input.0, node-kept a b h.input.0 k (slice_get_within a h.input.0 _ h.input.1) ∙ h.input.1);
      }

  all-kept : (whole : Term) (first : ℕ) (ts : List Term) (xs : List Applied) → AllZip (IsApplied a whole first) ts xs → AllZip (IsApplied b whole first) ts xs
  all-kept whole first [] [] h = tt
  all-kept whole first [] (x ∷ xs) h = absurd h
  all-kept whole first (t ∷ ts) [] h = absurd h
  all-kept whole first (t ∷ ts) (x ∷ xs) h = (applied-kept whole first t x h.0, all-kept whole first ts xs h.1)

pub query-kept : (d : Design) (level : ℕ) (formula : Term) (instances : List Instance) (own : OwnGoal) (more : List Node) → KeepsTerms own.terms more → IsQuery d level formula instances own
    → IsQuery d level formula instances (record { terms = more; goal = own.goal; inputs = own.inputs; applied = own.applied })
query-kept d level formula instances own more k q =
    let goal = asked d level formula instances in
    let at = q.asked_there in
    record {
      there = below own.terms more k own.goal q.there;
      term = k.terms own.goal q.there ∙ q.term;
      goal_ = q.goal_;
      asked_ = q.asked_;
      asked_there = (at.0, record { there = below own.terms more k at.0 at.1.there; term = k.terms at.0 at.1.there ∙ at.1.term });
      inputs = q.inputs;
      applied = all-kept own.terms more k goal (input_count formula) (applications goal) own.applied q.applied;
    }

-- ---- what was tried

module _ (d : Design) (level : ℕ) (formula : Term) (instances : List Instance) (own : OwnGoal) (q : IsQuery d level formula instances own) where
  solved : Stands d 1 formula → AllFit d level instances → CanFlatten (asked d level formula instances) (input_count formula) → AppliesDeclared d (asked d level formula instances)
      → (rows : List InputRow) → IsMapped own.terms rows → (x : Assignment) (m : Solved) → IsTrueOf own rows x m → IsSolved d level formula instances m
  solved stands fit can over rows inputs x m h = subst (IsSolved d level formula instances) (sym h.of) (record {
    satisfied = record {
      stands = stands;
      fit = fit;
      term = q.asked_;
      flat = record {
        can = can;
        over = over;
        goal_ = record { number = q.asked_there.0; there = q.asked_there.1.there; is = q.asked_there.1.term };
        flat = record { number = own.goal; there = q.there; is = q.term };
        applied_ = q.applied;
        searched = inputs.searched;
        mapped = inputs.mapped;
      };
      is_true = λ F. subst (λ g. term_value F (assigned (makes_true x) rows) g ≡ number 1 1) q.term (h.is_true F);
    };
    inputs = q.inputs;
  })

  pub if_solved : Stands d 1 formula → AllFit d level instances → CanFlatten (asked d level formula instances) (input_count formula) → AppliesDeclared d (asked d level formula instances)
      → (rows : List InputRow) → IsMapped own.terms rows → (x : Assignment) (found : Option Solved) → IfSome found (IsTrueOf own rows x) → IfSome found (IsSolved d level formula instances)
  if_solved stands fit can over rows inputs x None h = tt
  if_solved stands fit can over rows inputs x (Some m) h = solved stands fit can over rows inputs x m h
