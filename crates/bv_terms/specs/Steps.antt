-- Cited by private clauses: one step of a walk.
use Rattle.std.specs.Prelude.{◌≡◌, ℕ, ◌+◌, ◌==◌, Bool, true, List, [], ◌∷◌, ◌++◌, Option, Some, None, is_some, option_map, unwrap_or, slice_get, if◌then◌else◌}
use Rattle.bv_terms.specs.declared.node.Node.{Node}
use Rattle.bv_terms.specs.Arenas.{parts}
use Rattle.bv_terms.specs.TermMaps.{value_at}
use Rattle.bv_terms.specs.declared.term_map.TermMap.{TermMap}
use Rattle.bv_terms.specs.declared.walk.Entered.{Entered}
use Rattle.bv_terms.specs.declared.walk.Walk.{Walk}

abbrev pub parts_at : List Node → ℕ → List ℕ
parts_at nodes k = unwrap_or (option_map parts (slice_get nodes k)) []

-- a term has a mark
abbrev pub has : TermMap Bool → ℕ → Bool
has marks k = is_some (value_at marks k)

-- a term that is entered
abbrev pub entered : ℕ → Entered
entered k = record { term = k; next = 0 }

-- a part was gone to, and is entered if it was not left
pub record IsGoneOn (rest : Entered) (part : ℕ) (old new : Walk) : Type 0 where
  pub order_ : new.order.items ≡ old.order.items
  pub left_ : new.left ≡ old.left
  pub entered_ : new.entered.items ≡ (old.entered.items ++ rest ∷ [])
      ++ (if has old.left part then [] else entered part ∷ [])

-- the term was left, and is numbered if it was not before
pub record IsLeft (term : ℕ) (old new : Walk) : Type 0 where
  pub order_ : new.order.items
      ≡ (if has old.left term then old.order.items else old.order.items ++ term ∷ [])
  pub left_ : (k : ℕ) → has new.left k ≡ (if term == k then true else has old.left k)
  pub entered_ : new.entered.items ≡ old.entered.items

-- to the next part, or out of the term
abbrev pub IsStepTo : Option ℕ → Entered → Walk → Walk → Type 0
IsStepTo (Some part) at old new = IsGoneOn (record { term = at.term; next = at.next + 1 }) part old new
IsStepTo None at old new = IsLeft at.term old new

abbrev pub IsStep : List Node → Entered → Walk → Walk → Type 0
IsStep nodes at old new = IsStepTo (slice_get (parts_at nodes at.term) at.next) at old new
