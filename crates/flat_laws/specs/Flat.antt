-- Cited by the clauses of the laws of this crate: a goal in which inputs stand for the applications of functions, and which
-- says that equal arguments have equal results. It is Ackermann's reduction, and follows the section "Flat goals" of
-- docs/CLAUSES.md.
use Rattle.std.specs.Prelude.{ℕ, suc, ◌+◌, ◌==◌, Bool, false, List, [], ◌∷◌, ◌++◌, map, filter, if◌then◌else◌}
use Rattle.bv_terms.specs.declared.node.TermOp.TheVariants.{And, Or, Equal}
use Rattle.bv_terms.specs.TermTrees.{Term, Args, constant, input, apply, not_, binary, slice, pick, no_args, arg}
use Rattle.bv_terms.specs.Walks.{applications, same_term}
use Rattle.bv_terms.specs.Chains.{chain}

-- the place of a term in a list that it is in
abbrev pub place_in : List Term → Term → ℕ
place_in [] t = 0
place_in (u ∷ us) t = if same_term u t then 0 else suc (place_in us t)

-- ---- inputs in the place of applications

abbrev mutual
  -- each application is the input of its place, counted from the first new one
  pub reduced : (applied : List Term) (first : ℕ) → Term → Term
  reduced applied first (constant w n) = constant w n
  reduced applied first (input i w) = input i w
  reduced applied first (apply f args w) = input (first + place_in applied (apply f args w)) w
  reduced applied first (not_ a) = not_ (reduced applied first a)
  reduced applied first (binary op a b) = binary op (reduced applied first a) (reduced applied first b)
  reduced applied first (slice a high low) = slice (reduced applied first a) high low
  reduced applied first (pick c a b) =
      pick (reduced applied first c) (reduced applied first a) (reduced applied first b)

  pub reduced_args : (applied : List Term) (first : ℕ) → Args → Args
  reduced_args applied first no_args = no_args
  reduced_args applied first (arg t ts) = arg (reduced applied first t) (reduced_args applied first ts)

-- ---- equal arguments have equal results

abbrev pub equal_args : Args → Args → List Term
equal_args (arg t ts) (arg u us) = binary Equal t u ∷ equal_args ts us
equal_args _ _ = []

abbrev pub args_in : Term → Args
args_in (apply f args w) = args
args_in _ = no_args

abbrev pub same_function : Term → Term → Bool
same_function (apply f ts v) (apply g us w) = f == g
same_function _ _ = false

-- of two applications: some arguments differ, or the results are equal
abbrev pub agreement : (applied : List Term) (first : ℕ) → (earlier later : Term) → Term
agreement applied first t u =
    binary Or
    (not_ (chain And (constant 1 1)
    (equal_args (reduced_args applied first (args_in t)) (reduced_args applied first (args_in u)))))
    (binary Equal (reduced applied first t) (reduced applied first u))

-- one for each of the earlier applications of the function
abbrev pub agreements_with : (applied : List Term) (first : ℕ) → (earlier : List Term) → Term → List Term
agreements_with applied first earlier u =
    map (λ t. agreement applied first t u) (filter (λ t. same_function t u) earlier)

-- and so for each application in order
abbrev pub agreements : (applied : List Term) (first : ℕ) → (earlier rest : List Term) → List Term
agreements applied first earlier [] = []
agreements applied first earlier (u ∷ us) =
    agreements_with applied first earlier u ++ agreements applied first (earlier ++ u ∷ []) us

-- ---- a goal

-- the goal without applications, where these are the inputs from the first one on
abbrev pub flattened : Term → (first : ℕ) → Term
flattened goal first =
    chain And (constant 1 1)
    (reduced (applications goal) first goal ∷ agreements (applications goal) first [] (applications goal))
