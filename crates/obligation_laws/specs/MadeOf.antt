-- Cited by the clauses of the law `leaves_name_their_inputs`: which inputs terms name. A term is made of inputs with a property if
-- each input in it has the property.
use Rattle.std.specs.Prelude.{◌≡◌, ◌⊎◌, ℕ, List, [], ◌∷◌}
use Rattle.bv_terms.specs.TermTrees as term
use Rattle.bv_terms.specs.TermTrees.{Term, Args, no_args, arg}
use Rattle.obligation_laws.specs.TermOf.{TermEnv}
use Rattle.obligation_laws.specs.States.{NewInput}
use Rattle.obligation_laws.specs.Leaves.{Leaf, end_fields, end_values}

-- a property of inputs, by number and width
abbrev pub OfInputs : Type 1
OfInputs = ℕ → ℕ → Type 0

abbrev mutual
  -- each input of the term has the property
  pub Made : OfInputs → Term → Type 0
  Made P (term.constant w n) = Unit {0}
  Made P (term.input i w) = P i w
  Made P (term.apply f args w) = MadeArgs P args
  Made P (term.not_ a) = Made P a
  Made P (term.binary op a b) = Made P a × Made P b
  Made P (term.slice a high low) = Made P a
  Made P (term.pick c a b) = Made P c × Made P a × Made P b

  pub MadeArgs : OfInputs → Args → Type 0
  MadeArgs P no_args = Unit {0}
  MadeArgs P (arg t ts) = Made P t × MadeArgs P ts

abbrev pub AllMade : OfInputs → List Term → Type 0
AllMade P [] = Unit {0}
AllMade P (t ∷ ts) = Made P t × AllMade P ts

abbrev pub VarsMade : OfInputs → TermEnv → Type 0
VarsMade P [] = Unit {0}
VarsMade P (v ∷ vars) = Made P v.1 × VarsMade P vars

-- it is one of these inputs
abbrev pub OneOf : List NewInput → OfInputs
OneOf [] n w = ⊥
OneOf (i ∷ is) n w = ((n ≡ i.number) × (w ≡ i.width)) ⊎ OneOf is n w

-- the inputs have the property
abbrev pub Have : OfInputs → List NewInput → Type 0
Have P [] = Unit {0}
Have P (i ∷ is) = P i.number i.width × Have P is

-- the terms of a leaf are made of inputs with the property
pub record LeafMade (P : OfInputs) (leaf : Leaf) : Type 0 where
  pub cond : Made P leaf.cond
  pub values : AllMade P (end_values leaf.end)
  pub fields : AllMade P (end_fields leaf.end)
