-- Cited by private clauses: what is said of pairs of applications that became inputs.
use Rattle.std.specs.Prelude.{◌≡◌, ℕ, ◌<◌, ◌==◌, Bool, true, List, [], ◌∷◌, ◌++◌, All, Some, filter, length, map, slice_get, slice_index_or}
use Rattle.bv_terms.specs.declared.node.Node.{Node}
use Rattle.bv_terms.specs.declared.node.TermOp.TheVariants.{And, Equal, Or}
use Rattle.bv_terms.specs.Arenas.{args_of, width_at}
use Rattle.bv_terms.specs.TermTrees.{Term, binary, constant, not_}
use Rattle.bv_terms.specs.Chains.{chain}
use Rattle.flat_laws.specs.Flat.{equal_args}
use Rattle.flat_goals.specs.declared.applied.Application.{Application}

-- ---- in an arena

-- the arena has the arguments and the input
pub record IsThere (nodes : List Node) (a : Application) : Type 0 where
  pub args : All (λ k. k < length nodes) a.applied.args
  pub term : a.term < length nodes

-- the arguments have equal widths, and the results
pub record AreAlike (width : ℕ → ℕ) (a b : Application) : Type 0 where
  pub args : map width a.applied.args ≡ map width b.applied.args
  pub results : width a.term ≡ width b.term

abbrev pub same_function : Application → Application → Bool
same_function a b = a.applied.function == b.applied.function

-- so are all applications, any two of one function
pub record CanAgree (nodes : List Node) (taken : List Application) : Type 0 where
  pub there : All (IsThere nodes) taken
  pub alike : (i j : ℕ) (a b : Application) → slice_get taken i ≡ Some a → slice_get taken j ≡ Some b
      → same_function a b ≡ true → AreAlike (width_at nodes) a b

-- ---- by places

-- what is read past the end
abbrev pub no_application : Application
no_application = record { applied = record { function = 0; args = []; result = 0 }; term = 0 }

-- the application at a place
abbrev pub at_place : List Application → ℕ → Application
at_place taken p = slice_index_or taken p no_application

-- another one of its function is there
abbrev pub IsPair : List Application → (earlier later : ℕ) → Type 0
IsPair taken p q = (p < length taken) × (same_function (at_place taken p) (at_place taken q) ≡ true)

-- ---- as terms

-- some arguments differ, or the results are equal
abbrev pub agreement_of : (ℕ → Term) → (earlier later : Application) → Term
agreement_of term a b =
    binary Or
    (not_ (chain And (constant 1 1) (equal_args (args_of term a.applied.args) (args_of term b.applied.args))))
    (binary Equal (term a.term) (term b.term))

-- an application and some earlier ones
abbrev pub agreements_with : (ℕ → Term) → (earlier : List Application) → Application → List Term
agreements_with term earlier b = map (λ a. agreement_of term a b) earlier

-- each application and the earlier ones of its function
abbrev pub all_agreements : (ℕ → Term) → (earlier rest : List Application) → List Term
all_agreements term earlier [] = []
all_agreements term earlier (b ∷ bs) =
    agreements_with term (filter (λ a. same_function a b) earlier) b ++ all_agreements term (earlier ++ b ∷ []) bs
