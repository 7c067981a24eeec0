-- With enough conflicts no query spends them, and with enough rounds no search spends those.
use Rattle.std.proofs.Common.{◌≡◌, ◌≤◌, ◌<◌, ◌+◌, ◌^◌, ℕ, zero, suc, List, [], ◌∷◌, length, All, Option, Some, None, refl, ap, subst, arith}
use Rattle.std.specs.Prelude.{slice_get}
use Rattle.std.specs.List.{sum_by}
use Rattle.std.proofs.lemmas.List.Elements.{All-head, All-tail}
use Rattle.std.proofs.lemmas.List.Sums.{sum-map, sum_by-cons}
use Rattle.bit_blast.specs.Clauses.{vars_of}
use Rattle.bv_terms.specs.TermTrees.{Term}
use Rattle.bv_terms.specs.declared.node.Node.{Node}
use Rattle.query_laws.specs.Rounds.{Progress, tuples_of, tuples_to}
use Rattle.cnf_core.specs.declared.certificates.Instance.{Instance}
use Rattle.cnf_core.specs.Licensing.{Licensed}
use Rattle.cnf_core.specs.declared.clauses.Cnf.{Cnf}
use Rattle.cnf_core.specs.declared.log.Log.{Log}
use Rattle.cocoon_num.specs.Tree as tree
use Rattle.cocoon_resolve.specs.Readers.{all_assumptions, assumptions_to}
use Rattle.cocoon_types.specs.Design.{last_level}
use Rattle.discharge.specs.Answering.{IsSpentOn}
use Rattle.discharge.specs.Queries.{assumption_query}
use Rattle.failures.specs.Failures.{Failure}
use Rattle.failures.specs.Found.{failure_of}
use Rattle.obligation_gen.specs.Owed.{IsOwed, NeverFailsHere}
use Rattle.obligation_gen.specs.declared.obligation.Kind.{Kind}
use Rattle.obligation_gen.specs.declared.obligation.Kind.TheVariants as kind
use Rattle.obligation_gen.specs.declared.obligation.Obligation as code
use Rattle.obligation_laws.specs.Failing.{NeverFails}
use Rattle.obligation_laws.specs.Obligations.{Obligation, all_obligations}
use Rattle.query_laws.specs.Queries.{query}
use Rattle.rounds.specs.Outcomes.{IsAsked, IsSpentAfter}
use Rattle.rounds.specs.declared.outcome.Query.{Query}
use Rattle.rounds.specs.declared.outcome.Query.TheVariants.{Goal, Assumption}
use Rattle.verdicts.specs.Deciding.{Decides, formula_in}
use Rattle.verdicts.specs.Failing.{FailsBy, IsFailureOf}
use Rattle.failures.specs.declared.failure.Failure as read
use Rattle.verdicts.specs.declared.deciding.Verdict.{Verdict}
use Rattle.verdicts.specs.declared.deciding.Verdict.TheVariants as verdict
use Rattle.command_answers.specs.Assumed.{IsSpent}
use Rattle.command_answers.specs.Owing as owing
use Rattle.command_answers.specs.Owing.{IsOpen}
use Rattle.command_laws.specs.Endings.{IsDecided}
use Rattle.command_laws.specs.Enough.{AreEnoughAssumed, AreEnoughOn, AreEnoughOwed, AreMany, IsEnough}

-- that logs and progress are short, and that the assumptions of some levels are the first of all
pub record Short : Type 0 where
  pub logs : (cnf : Cnf) (log : Log) (count : ℕ) → Licensed cnf log count → count < 3 ^ cnf.vars
  pub progress : (d : tree.Design) (level : ℕ) (formula : Term) (instances : List Instance) → Progress d level formula instances → length instances ≤ tuples_to level d
  pub first : (d : tree.Design) (level i : ℕ) (a : tree.AssumeDecl) → slice_get (assumptions_to level d) i ≡ Some a → slice_get (all_assumptions d) i ≡ Some a

-- ---- items by their numbers

-- what all items have, that of a number has
at_number : {A : Type 0} (P : A → Type 0) (xs : List A) (number : ℕ) (x : A) → slice_get xs number ≡ Some x → All P xs → P x
at_number P [] number x is all = absurd cc
at_number P (y ∷ xs) zero x is all = let same : y ≡ x = cc in subst P same (All-head P y xs all)
at_number P (y ∷ xs) (suc number) x is all = at_number P xs number x is (All-tail P y xs all)

record There {A : Type 0} (xs : List A) (number : ℕ) : Type 0 where
  item : A
  is : slice_get xs number ≡ Some item

there : {A : Type 0} (xs : List A) (number : ℕ) → number < length xs → There xs number
there [] number h = absurd (omega (arith, h))
there (x ∷ xs) zero h = record { item = x; is = refl }
there (x ∷ xs) (suc number) h = let rest = there xs number (omega (arith, h)) in record { item = rest.item; is = rest.is }

-- ---- conflicts

not_spent : Short → (goal : Term) (conflicts vars : ℕ) (log : Log) → IsEnough goal conflicts → IsSpentOn goal conflicts vars log → ⊥
not_spent short goal conflicts vars log enough spent =
    let few : conflicts < 3 ^ vars_of goal = subst (λ n. conflicts < 3 ^ n) spent.clauses_are.vars_are (short.logs spent.cnf log conflicts spent.licensed) in
    let many : 3 ^ vars_of goal ≤ conflicts = enough in
    omega (arith, few, many)

query_not_spent : Short → (d : tree.Design) (level : ℕ) (formula : Term) (conflicts rounds : ℕ) (q : Query) (vars : ℕ) (log : Log)
    → AreEnoughOn d level formula conflicts rounds → IsAsked d level formula rounds q (λ goal. IsSpentOn goal conflicts vars log) → ⊥
query_not_spent short d level formula conflicts rounds (Goal instances) vars log enough asked =
    not_spent short (query d level formula instances) conflicts vars log (enough (Goal instances) asked.allowed) asked.said
query_not_spent short d level formula conflicts rounds (Assumption i tables instances) vars log enough asked =
    let among = there (assumptions_to level d) i asked.allowed.1.0 in
    let all = short.first d level i among.item among.is in
    not_spent short (assumption_query d among.item tables) conflicts vars log (enough (Assumption i tables instances) asked.allowed among.item all) (asked.said among.item all)

pub assumption_not_spent : Short → (d : tree.Design) (es : tree.DefsText) (conflicts number : ℕ) (bytes : List ℕ) → AreEnoughAssumed d es conflicts → IsSpent d es conflicts number bytes → ⊥
assumption_not_spent short d es conflicts number bytes enough spent =
    let of = spent.spent in
    not_spent short (assumption_query d of.assumption spent.tables) conflicts spent.vars spent.log
    (at_number (λ a. IsEnough (assumption_query d a spent.tables) conflicts) (all_assumptions d) number of.assumption of.is (enough spent.tables spent.are)) of.says

pub obligation_not_spent : Short → (d : tree.Design) (conflicts rounds number : ℕ) (q : Query) (bytes : List ℕ) → AreEnoughOwed d conflicts rounds → owing.IsSpent d conflicts rounds number q bytes → ⊥
obligation_not_spent short d conflicts rounds number q bytes enough spent =
    let of = spent.spent_ in
    let o = of.obligation in
    query_not_spent short d o.level o.formula conflicts rounds q spent.vars spent.log
    (at_number (λ o. AreEnoughOn d o.level o.formula conflicts rounds) (all_obligations d) number o of.is enough) of.says

-- ---- rounds

-- the numbers of the first items sum to no more than those of all
sum_of_first : {A : Type 0} (f : A → ℕ) (xs ys : List A) → ((i : ℕ) (x : A) → slice_get xs i ≡ Some x → slice_get ys i ≡ Some x) → sum_by f xs ≤ sum_by f ys
sum_of_first f [] ys h = omega arith
sum_of_first {A = A} f (x ∷ xs) [] h = absurd (let no : ◌≡◌ {A = Option A} None (Some x) = h 0 x refl in cc)
sum_of_first {A = A} f (x ∷ xs) (y ∷ ys) h =
    let same : y ≡ x = (let both : ◌≡◌ {A = Option A} (Some y) (Some x) = h 0 x refl in cc) in
    both_less (sum_by f (x ∷ xs)) (f x) (sum_by f xs) (sum_by f (y ∷ ys)) (f y) (sum_by f ys) (sum_by-cons f x xs) (sum_by-cons f y ys) (ap f same) (sum_of_first f xs ys (λ i z e. h (suc i) z e))
  where
    both_less : (s m k t n l : ℕ) → s ≡ m + k → t ≡ n + l → n ≡ m → k ≤ l → s ≤ t
    both_less s m k t n l p q r le = omega (arith, p, q, r, le)

fewer_tuples : Short → (d : tree.Design) (level : ℕ) → tuples_to level d ≤ tuples_to (last_level d) d
fewer_tuples short d level =
    less (tuples_to level d) (tuples_to (last_level d) d) (sum_by tuples_of (assumptions_to level d)) (sum_by tuples_of (all_assumptions d))
    (sum-map tuples_of (assumptions_to level d)) (sum-map tuples_of (all_assumptions d)) (sum_of_first tuples_of (assumptions_to level d) (all_assumptions d) (short.first d level))
  where
    less : (m n k l : ℕ) → m ≡ k → n ≡ l → k ≤ l → m ≤ n
    less m n k l p q le = omega (arith, p, q, le)

rounds_not_spent : Short → (d : tree.Design) (level : ℕ) (formula : Term) (rounds : ℕ) (instances : List Instance) → AreMany d rounds → IsSpentAfter d level formula rounds instances → ⊥
rounds_not_spent short d level formula rounds instances many spent =
    clash (length instances) rounds (tuples_to level d) (tuples_to (last_level d) d) spent.all (short.progress d level formula instances spent.progress) (fewer_tuples short d level) many
  where
    clash : (l r m n : ℕ) → l ≡ r → l ≤ m → m ≤ n → n < r → ⊥
    clash l r m n p q le less = omega (arith, p, q, le, less)

pub obligation_not_open : Short → (d : tree.Design) (rounds number : ℕ) (bytes : List ℕ) → AreMany d rounds → IsOpen d rounds number bytes → ⊥
obligation_not_open short d rounds number bytes many spent =
    let of = spent.spent_ in
    rounds_not_spent short d of.obligation.level of.obligation.formula rounds spent.instances many of.says

-- ---- one verdict

-- an obligation that fails by a run is none that never fails
abbrev pub Fails : Type 0
Fails = (d : tree.Design) (o : Obligation) (f : Failure) → FailsBy d o f → NeverFails d o → ⊥

failing : Fails → (d : tree.Design) (nodes : List Node) (o : code.Obligation) (k : Kind) (f : read.Failure) → IsOwed d nodes o → IsFailureOf d nodes o k f → ¬ NeverFailsHere d nodes o
failing fails d nodes o k f owed says = λ never.
    fails d owed.owed (failure_of d f) (says.fails owed.number owed.owed owed.there owed.shown) (never owed.number owed.owed owed.there owed.shown)

pub decided : Short → Fails → (d : tree.Design) (nodes : List Node) (o : code.Obligation) (conflicts rounds : ℕ) (v : Verdict) → IsOwed d nodes o → Decides d nodes o conflicts rounds v
    → AreEnoughOn d o.level (formula_in nodes o) conflicts rounds → AreMany d rounds → IsDecided d nodes o rounds v
decided short fails d nodes o conflicts rounds (verdict.Holds cert) owed says enough many = says.never_fails
decided short fails d nodes o conflicts rounds (verdict.Refuted f) owed says enough many = failing fails d nodes o kind.Contained f owed says
decided short fails d nodes o conflicts rounds (verdict.Over f) owed says enough many = failing fails d nodes o kind.Bounded f owed says
decided short fails d nodes o conflicts rounds (verdict.SpentConflicts q vars log) owed says enough many = query_not_spent short d o.level (formula_in nodes o) conflicts rounds q vars log enough says
decided short fails d nodes o conflicts rounds (verdict.SpentRounds instances) owed says enough many = rounds_not_spent short d o.level (formula_in nodes o) rounds instances many says
decided short fails d nodes o conflicts rounds (verdict.Big q count) owed says enough many = says
