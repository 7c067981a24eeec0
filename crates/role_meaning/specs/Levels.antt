-- Cited by the clauses of runs at a level: what runs there are in, and when a role is entered.
use Rattle.std.specs.Prelude.{◌≡◌, ℕ, ◌<◌, ◌^◌, List, [], ◌∷◌, Bool, false, if◌then◌else◌, Option, Some, None, option_map, option_and_then}
use Rattle.cocoon_num.specs.Tree.{Expr, Role, Design}
use Rattle.cocoon_num.specs.Values.{Value, number, truth}
use Rattle.cocoon_resolve.specs.Readers.{all_widths}
use Rattle.cocoon_syntax.specs.TreeOf.{design_of}
use Rattle.cocoon_types.specs.Design.{role_at, widths_of}
use Rattle.cocoon_types.specs.Runs as runs
use Rattle.cocoon_types.specs.Runs.{World}
use Rattle.cocoon_types.specs.Val.{bind, Env, value}
use Rattle.role_meaning.specs.declared.level.Level.{Level}
use Rattle.role_values.specs.DeclaredWidths.{AllDeclared}
use Rattle.role_values.specs.Scenes.{context_of, headers_of, SeesFunctions}

-- the design of a level
abbrev pub design_at : Level → Design
design_at l = design_of l.scene.checked.now

-- what runs at a level are in
abbrev pub world_at : Level → World
world_at l = record { context = context_of l.scene; role = role_at l.number (design_at l) }

-- What runs at a level ask: functions can be evaluated, and the widths of fields and of parameters of roles are declared ones.
pub record CanRun (l : Level) : Type 0 where
  pub functions : SeesFunctions l.scene
  pub widths : AllDeclared (all_widths (headers_of l.scene))
  pub params : (x : List ℕ) (r : Role) → role_at l.number (design_at l) x ≡ Some r → AllDeclared (widths_of r.params)

-- the truth value, where there is one
abbrev pub truth_in : Option Value → Option Bool
truth_in None = None
truth_in (Some (truth b)) = Some b
truth_in (Some (number w n)) = None

-- whether there is a value, and it is the true one
abbrev pub is_true : Option Value → Bool
is_true None = false
is_true (Some (truth b)) = b
is_true (Some (number w n)) = false

-- some variables, where a guard over them is true; it sees no packet
abbrev pub entered_with : World → Expr → Env → Option Env
entered_with w guard env = if is_true (value w.context env [] guard) then Some env else None

-- the variables with which a role is entered at these numbers, where they fit and its guard is true
abbrev pub entered : World → Role → List ℕ → Option Env
entered w r ns = option_and_then (entered_with w r.guard) (bind r.params ns)

-- the location of a role's name and these numbers, where it can be entered
abbrev pub arrived : World → List ℕ → List ℕ → Option runs.Loc
arrived w x ns = option_and_then (λ (r : Role). option_map (λ env. record { role = x; values = ns }) (entered w r ns)) (w.role x)

-- each number has at most 64 bits
abbrev pub AllWords : List ℕ → Type 0
AllWords [] = Unit {0}
AllWords (n ∷ ns) = (n < 2 ^ 64) × AllWords ns
