-- Cited by the law of the ingress role: what the role that the switches run is in the design.
use Rattle.std.specs.Prelude.{◌≡◌, ℕ, ◌<◌, ◌^◌, [], ◌∷◌, Some, reverse}
use Rattle.cocoon_num.specs.Tree.{Role, Design}
use Rattle.cocoon_types.specs.Design.{functions, host_decl, last_level, role_at, switch_decl}
use Rattle.cocoon_types.specs.Runs.{world}
use Rattle.cocoon_types.specs.Tables.{Defs}
use Rattle.cocoon_types.specs.Val.{bind}
use Rattle.lowering.specs.Agrees.{inner_context}
use Rattle.lowering.specs.Whole.{role_env}
use Rattle.lowering.specs.Roles.{NetParts}

-- The role has the body of the ingress role at the last level, whose parameters are the number of the switch and the port, and
-- its expressions are evaluated as those of the level.
pub record IngressIs (d : Design) (parts : NetParts) : Type 0 where
  pub switches_are : switch_decl d ≡ Some parts.switches
  pub hosts_are : host_decl d ≡ Some parts.hosts
  pub role : Role
  pub role_is : role_at (last_level d) d parts.switches.into.text ≡ Some role
  pub body_is : role.body ≡ Some parts.role.body
  pub headers_are : parts.role.headers ≡ d.headers
  pub functions_are : parts.role.functions ≡ reverse (functions d)
  pub context_is : (defs : Defs) → (world (last_level d) d defs).context ≡ inner_context parts.role.headers defs parts.role.functions
  pub binds : (s p : ℕ) → s < 2 ^ 16 → p < 2 ^ 16 → bind role.params (s ∷ p ∷ []) ≡ Some (role_env parts.role s p)
