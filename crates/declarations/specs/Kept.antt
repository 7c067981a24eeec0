-- What a `Scopes` keeps: the variables in order, and their widths by name. Its model cites it, and private clauses.
use Rattle.std.specs.Prelude.{◌≡◌, ℕ, List, [], ◌∷◌, map, reverse, Option, option_and_then, Vec}
use Rattle.std.specs.declared.alloc.Global.{Global}
use Rattle.std.specs.Ordering.{nat_cmp}
use Rattle.std.specs.Cmp.Lexicographic.{slice_cmp}
use Rattle.std.specs.BTreeMap.{BTreeMap, get_by}
use Rattle.cocoon_num.specs.Tree.{Param}
use Rattle.declarations.specs.Widths.{width_in}
use Rattle.declarations.specs.declared.scopes.Bound.{Bound}

-- the variable of the definitions
abbrev pub param_of : Bound → Param
param_of v = record { name = record { at = v.at; text = v.name.items }; width = v.width }

-- the variables in scope, the last first
abbrev pub in_scope : List Bound → List Param
in_scope vs = map param_of (reverse vs)

-- each of these variables, the last first, has the width of the one that it hides
abbrev pub HaveHidden : List Bound → Type 0
HaveHidden [] = Unit {0}
HaveHidden (v ∷ vs) = (v.hides ≡ width_in (map param_of vs) v.name.items) × HaveHidden vs

-- the width under a name
abbrev pub width_under : BTreeMap (Vec ℕ Global) (Option ℕ) → List ℕ → Option ℕ
width_under m x = option_and_then (λ w. w) (get_by (λ k. slice_cmp nat_cmp x k.items) m)

pub record IsKept (vs : List Bound) (m : BTreeMap (Vec ℕ Global) (Option ℕ)) : Type 0 where
  pub widths : (x : List ℕ) → width_under m x ≡ width_in (in_scope vs) x
  pub hidden : HaveHidden (reverse vs)
