-- Phrases one after the other, as many as there are, or none: from the goals before them to those after. Clauses of `lines`,
-- `tables` and `program` cite it.
use Rattle.std.specs.Prelude.{◌≡◌, ℕ, ◌≤◌, List, [], ◌++◌, length, drop, Result, Ok, Err}
use Rattle.cocoon_num.specs.Tokens.{Kind}
use Rattle.p4_texts.specs.Machine.{Goals, stuck}
use Rattle.p4_parse.specs.Phrases.{Refused}
use Rattle.parsing.specs.declared.stop.Stop.{Stop}
use Rattle.parsing.specs.declared.stop.Stop.TheVariants.{Unexpected, NoMemory}

-- the tokens from one index up to another are those of the tree, and they leave these goals in place of those
pub record Onward {A : Type 0} (gs more : Goals) (tokens : A → List Kind → List Kind) (ts : List Kind) (pos : ℕ) (x : A) (next : ℕ) : Type 0 where
  pub forward : pos ≤ next
  pub within : next ≤ length ts
  pub are : drop pos ts ≡ tokens x (drop next ts)
  pub goes : (hs : Goals) → stuck (gs ++ hs) (drop pos ts) ≡ stuck (more ++ hs) (drop next ts)

abbrev pub Onwards : {A : Type 0} → Goals → (A → Goals) → (A → List Kind → List Kind) → List Kind → ℕ → Result (A × ℕ) Stop → Type 0
Onwards gs more tokens ts pos (Ok found) = Onward gs (more found.0) tokens ts pos found.0 found.1
Onwards gs more tokens ts pos (Err (Unexpected i)) = Refused gs ts pos i
Onwards gs more tokens ts pos (Err NoMemory) = Unit {0}

-- the same where the goals are met
abbrev pub Several : {A : Type 0} → Goals → (A → List Kind → List Kind) → List Kind → ℕ → Result (A × ℕ) Stop → Type 0
Several gs tokens ts pos result = Onwards gs (λ x. []) tokens ts pos result
