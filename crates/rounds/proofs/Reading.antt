-- What an environment has for a term, it has for the term's parts.
use Rattle.std.proofs.Common.{◌≡◌, ℕ, List, Some, subst}
use Rattle.std.specs.Prelude.{slice_get}
use Rattle.bv_terms.specs.Arenas.{IsArena, term_at}
use Rattle.bv_terms.specs.Environments.{Covers}
use Rattle.bv_terms.specs.TermTrees.{binary}
use Rattle.bv_terms.specs.declared.eval.Env.{Env}
use Rattle.bv_terms.specs.declared.node.Node.{Node}
use Rattle.bv_terms.specs.declared.node.Node.TheVariants.{Binary, Not}
use Rattle.bv_terms.specs.declared.node.TermOp.{TermOp}
use Rattle.rounds.specs.Short.{IsReadable}
use Rattle.rounds.proofs.Parts.{first_there, only_there, second_there}

module _ (env : Env) (nodes : List Node) (arena : IsArena nodes) where
  both : (k : ℕ) (op : TermOp) (a b : ℕ) → IsReadable env nodes k → slice_get nodes k ≡ Some (Binary op a b) → Covers env (binary op (term_at nodes a) (term_at nodes b))
  both k op a b r e = subst (Covers env) (arena.made k (Binary op a b) e) r.covered

  pub first_readable : (k : ℕ) (op : TermOp) (a b : ℕ) → IsReadable env nodes k → slice_get nodes k ≡ Some (Binary op a b) → IsReadable env nodes a
  first_readable k op a b r e = record { there = first_there nodes arena k op a b r.there e; covered = (both k op a b r e).0 }

  pub second_readable : (k : ℕ) (op : TermOp) (a b : ℕ) → IsReadable env nodes k → slice_get nodes k ≡ Some (Binary op a b) → IsReadable env nodes b
  second_readable k op a b r e = record { there = second_there nodes arena k op a b r.there e; covered = (both k op a b r e).1 }

  pub only_readable : (k a : ℕ) → IsReadable env nodes k → slice_get nodes k ≡ Some (Not a) → IsReadable env nodes a
  only_readable k a r e = record { there = only_there nodes arena k a r.there e; covered = subst (Covers env) (arena.made k (Not a) e) r.covered }
