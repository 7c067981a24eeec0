-- What a search says of a query.
use Rattle.std.proofs.Common.{◌≡◌, ◌↔◌, ℕ, IsTrue, List, refl, sym, subst}
use Rattle.bit_blast.specs.Blasting.{InputRow, IsClauses, IsFault, MapsInputs}
use Rattle.bit_blast.specs.declared.blasting.BlastFault.{BlastFault}
use Rattle.bit_blast.specs.declared.blasting.BlastFault.TheVariants.{Clauses, NoMemory}
use Rattle.bit_blast.specs.Clauses.{clauses_of}
use Rattle.bit_blast.specs.Goals.{IsGoal}
use Rattle.bit_blast.specs.Meanings.{all_hold}
use Rattle.bit_blast.specs.Readings.{ReadsAs}
use Rattle.bv_terms.specs.Arenas.{IsArena, term_at}
use Rattle.bv_terms.specs.TermTrees.{Term}
use Rattle.bv_terms.specs.TermValues.{Functions, Inputs, term_value}
use Rattle.candidates.specs.Assigned.{assigned}
use Rattle.candidates.specs.Flat as flat
use Rattle.candidates.proofs.Inputs.{has-nodes, reads}
use Rattle.cdcl.specs.Answering.{Answers}
use Rattle.cdcl.specs.declared.answer.Answer.{Answer}
use Rattle.cdcl.specs.declared.answer.Answer.TheVariants as answer
use Rattle.cdcl.specs.declared.answer.Answer.TheVariants.{Unsat}
use Rattle.cnf_core.specs.declared.certificates.Cert.{Cert}
use Rattle.cnf_core.specs.declared.certificates.Instance.{Instance}
use Rattle.cnf_core.specs.Satisfying.{Satisfies, WellNamed, makes_true}
use Rattle.cnf_core.specs.declared.clauses.Assignment.{Assignment}
use Rattle.cnf_core.specs.declared.clauses.Cnf.{Cnf}
use Rattle.cocoon_num.specs.Tree.{Design}
use Rattle.cocoon_num.specs.Values.{number}
use Rattle.flat_laws.specs.Meant.{CanFlatten}
use Rattle.query_laws.specs.LeafTerms.{AppliesDeclared, Stands}
use Rattle.obligation_laws.specs.Failing.{NeverTrue}
use Rattle.queries.specs.Asked.{IsQuery}
use Rattle.queries.specs.declared.asking.OwnGoal.{OwnGoal}
use Rattle.query_laws.specs.Certified.{AllFit, HasClauses, IsCert}
use Rattle.query_laws.specs.OwnNames.{input_count}
use Rattle.query_laws.specs.Queries.{asked, query}
use Rattle.rounds.specs.Steps.{IsSearched, Refuses, Says}
use Rattle.rounds.specs.declared.asking.Searched.{Searched}

module _ (d : Design) (level : ℕ) (formula : Term) (instances : List Instance) (own : OwnGoal) (is : IsQuery d level formula instances own) where
  -- where there are too many clauses
  pub refused : (conflicts : ℕ) (fault : BlastFault) → IsFault (term_at own.terms own.goal) fault → (s : Searched) → Refuses fault s → Says d level formula instances conflicts s
  refused conflicts (Clauses count) fault s h =
      let e : IsFault (query d level formula instances) (Clauses count) = subst (λ g. IsFault g (Clauses count)) is.term fault in
      subst (Says d level formula instances conflicts) (sym h) (record { count_is = e.0; too_many = e.1 })
  refused conflicts NoMemory fault s h = absurd h

  -- the laws that are cited
  pub record Laws : Type 0 where
    pub can : CanFlatten (asked d level formula instances) (input_count formula)
    pub over : AppliesDeclared d (asked d level formula instances)
    pub certified : (cert : Cert) → cert.instances ≡ instances → IsCert d level formula cert → NeverTrue level d formula
    pub reads_back : (goal : Term) → IsGoal goal → (a : Assignment) → IsTrue (all_hold (makes_true a) (clauses_of goal)) → (F : Functions) (ins : Inputs) → ReadsAs goal (makes_true a) ins
        → term_value F ins goal ≡ number 1 1
    pub holds : (cnf : Cnf) (goal : Term) → IsClauses cnf goal → (a : Assignment) → Satisfies a cnf ↔ IsTrue (all_hold (makes_true a) (clauses_of goal))

  module _ (stands : Stands d 1 formula) (fit : AllFit d level instances) (laws : Laws) (cnf : Cnf) (clauses : IsClauses cnf (term_at own.terms own.goal)) (named : WellNamed cnf) (rows : List InputRow)
      (mapped : MapsInputs own.terms (term_at own.terms own.goal) rows) (arena : IsArena own.terms) where
    of_query : IsClauses cnf (query d level formula instances)
    of_query = subst (IsClauses cnf) is.term clauses

    has_clauses : HasClauses (query d level formula instances) cnf
    has_clauses = record { are = of_query; named = named }

    of_inputs : MapsInputs own.terms (query d level formula instances) rows
    of_inputs = subst (λ g. MapsInputs own.terms g rows) is.term mapped

    flat_goal : flat.IsFlat d own.terms own.applied rows (asked d level formula instances) (input_count formula)
    flat_goal = record {
      can = laws.can;
      over = laws.over;
      goal_ = record { number = is.asked_there.0; there = is.asked_there.1.there; is = is.asked_there.1.term };
      flat = record { number = own.goal; there = is.there; is = is.term };
      applied_ = is.applied;
      searched = query d level formula instances;
      mapped = of_inputs;
    }

    is_true : (x : Assignment) → Satisfies x cnf → (F : Functions) → term_value F (assigned (makes_true x) rows) (query d level formula instances) ≡ number 1 1
    is_true x h F =
        let goal = query d level formula instances in
        laws.reads_back goal is.goal_ x ((laws.holds cnf goal of_query x).0 h) F (assigned (makes_true x) rows)
        (reads own.terms arena goal rows of_inputs (makes_true x) (has-nodes own.terms arena goal (record { number = own.goal; there = is.there; is = is.term })))

    pub says : (conflicts : ℕ) (a : Answer) → Answers cnf conflicts a → (s : Searched) → IsSearched own rows cnf.vars a s → Says d level formula instances conflicts s
    says conflicts (answer.Satisfied x) h s k = subst (Says d level formula instances conflicts) (sym k) (
      record { satisfied = record { stands = stands; fit = fit; term = is.asked_; flat = flat_goal; is_true = is_true x h.1 }; inputs = is.inputs },
      record { cnf = cnf; clauses = has_clauses; assignment = x; values = h.0; satisfies = h.1 },
    )
    says conflicts (Unsat log) h s k = subst (Says d level formula instances conflicts) (sym k) (record {
      refuted = record { cnf = cnf; clauses = has_clauses; refutation = h };
      never_true = laws.certified (record { instances = instances; log = log }) refl (record { fit = fit; derives = record { cnf = cnf; clauses = has_clauses; derives = h.derives } });
    })
    says conflicts (answer.Spent log) h s k = subst (Says d level formula instances conflicts) (sym k) (record { vars_are = of_query.vars_are; cnf = cnf; clauses_are = of_query; licensed = h })
