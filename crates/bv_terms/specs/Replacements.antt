-- Cited by the clauses of `Terms::substitute`: a term with other terms in place of inputs.
use Rattle.std.specs.Prelude.{◌≡◌, ℕ, ◌==◌, if◌then◌else◌, List, ◌∷◌, Option, Some, None, unwrap_or, slice_get}
use Rattle.bv_terms.specs.declared.node.Node.{Node}
use Rattle.bv_terms.specs.declared.node.Node.TheVariants.{Input}
use Rattle.bv_terms.specs.TermTrees.{Term, Args, constant, input, apply, not_, binary, slice, pick, no_args, arg}
use Rattle.bv_terms.specs.Arenas.{width_at}

-- what stands for each input, for some of them
abbrev pub Replacing : Type 0
Replacing = ℕ → Option Term

abbrev mutual
  pub replaced : Replacing → Term → Term
  replaced r (constant w n) = constant w n
  replaced r (input i w) = unwrap_or (r i) (input i w)
  replaced r (apply f args w) = apply f (replaced_args r args) w
  replaced r (not_ a) = not_ (replaced r a)
  replaced r (binary op a b) = binary op (replaced r a) (replaced r b)
  replaced r (slice a high low) = slice (replaced r a) high low
  replaced r (pick c a b) = pick (replaced r c) (replaced r a) (replaced r b)

  pub replaced_args : Replacing → Args → Args
  replaced_args r no_args = no_args
  replaced_args r (arg t ts) = arg (replaced r t) (replaced_args r ts)

-- what stands beside an input in the other list
abbrev pub beside : {A : Type 0} → List ℕ → List A → ℕ → Option A
beside (j ∷ js) (t ∷ ts) i = if j == i then Some t else beside js ts i
beside js ts i = None

-- an input has the width of the term
abbrev pub HasWidthOf : List Node → ℕ → ℕ → Type 0
HasWidthOf nodes i t = (k w : ℕ) → slice_get nodes k ≡ Some (Input i w) → w ≡ width_at nodes t
