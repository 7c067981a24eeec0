-- Formulas of obligations that a design owes.
use Rattle.std.proofs.Common.{◌≡◌, ℕ, ◌<◌, ◌≤◌, List, length, Some, sym, subst, ◌∙◌, arith}
use Rattle.std.specs.Prelude.{slice_get}
use Rattle.cocoon_num.specs.Tree.{Design}
use Rattle.cocoon_types.specs.Design.{last_level}
use Rattle.bv_terms.specs.Arenas.{term_at}
use Rattle.bv_terms.specs.TermTrees.{Term}
use Rattle.bv_terms.specs.declared.node.Node.{Node}
use Rattle.obligation_gen.specs.Owed.{IsOwed, NeverFailsHere}
use Rattle.obligation_gen.specs.Shown.{ShowsObligation}
use Rattle.obligation_gen.specs.declared.obligation.Obligation.{Obligation}
use Rattle.obligation_laws.specs.Failing.{NeverFails, NeverTrue}
use Rattle.obligation_laws.specs.Obligations as laws
use Rattle.obligation_laws.specs.Obligations.{all_obligations}

-- the laws that are cited: what holds of each formula, and of each level
pub record AllOwed (d : Design) (Stands : Term → Type 0) : Type 0 where
  pub stands : (n : ℕ) (o : laws.Obligation) → slice_get (all_obligations d) n ≡ Some o → Stands o.formula
  pub levels : (n : ℕ) (o : laws.Obligation) → slice_get (all_obligations d) n ≡ Some o → (1 ≤ o.level) × (o.level ≤ last_level d)

-- what queries ask of the formula
pub record CanAsk (d : Design) (Stands : Term → Type 0) (nodes : List Node) (o : Obligation) : Type 0 where
  pub level : o.level ≤ last_level d
  pub there : o.formula < length nodes
  pub stands : Stands (term_at nodes o.formula)

pub can_ask : (d : Design) (Stands : Term → Type 0) (nodes : List Node) (o : Obligation) → AllOwed d Stands → IsOwed d nodes o → CanAsk d Stands nodes o
can_ask d Stands nodes o laws h = record {
  level = (let e = h.shown.level_ in let l = (laws.levels h.number h.owed h.there).1 in omega (arith, e, l));
  there = h.shown.formula_.there;
  stands = subst Stands (sym h.shown.formula_.term) (laws.stands h.number h.owed h.there);
}

pub never_fails : (d : Design) (nodes : List Node) (o : Obligation) → ((n : ℕ) (x : laws.Obligation) → slice_get (all_obligations d) n ≡ Some x → NeverTrue x.level d x.formula → NeverFails d x)
    → NeverTrue o.level d (term_at nodes o.formula) → NeverFailsHere d nodes o
never_fails d nodes o law never n x at shows = law n x at (subst (λ l. NeverTrue l d x.formula) shows.level_ (subst (NeverTrue o.level d) shows.formula_.term never))
