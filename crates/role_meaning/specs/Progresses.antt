-- Cited by the clauses of statements and blocks: where a run stands before and after them, and how they end.
use Rattle.std.specs.Prelude.{◌≡◌, ◌≢◌, ℕ, Bool, true, false, List, [], ◌∷◌, length, take, Option, Some, None, option_map}
use Rattle.cocoon_num.specs.Packets.{Packet}
use Rattle.cocoon_num.specs.PacketForms.{FieldsFit}
use Rattle.cocoon_num.specs.Tree.{Block, Expr, fork, Name, Stmt}
use Rattle.cocoon_num.specs.Values.{number, Value}
use Rattle.cocoon_resolve.specs.Readers.{all_widths, HasRole}
use Rattle.cocoon_types.specs.Runs.{falls, sends}
use Rattle.cocoon_types.specs.Taken.{back, Ended, only_sends}
use Rattle.cocoon_types.specs.Val.{bound, Env}
use Rattle.role_meaning.specs.Levels.{design_at, world_at}
use Rattle.role_meaning.specs.Located.{loc_of}
use Rattle.role_meaning.specs.declared.level.Level.{Level}
use Rattle.role_meaning.specs.declared.progress.End.{End}
use Rattle.role_meaning.specs.declared.progress.End.TheVariants.{Falls, Sends}
use Rattle.role_meaning.specs.declared.progress.Progress.{Progress}
use Rattle.role_values.specs.Bound.{env_of}
use Rattle.role_values.specs.FittingRuns.{fitting_all, fitting_run, take_declared}
use Rattle.role_values.specs.Flat.{packet_of}
use Rattle.role_values.specs.Scenes.{headers_of}
use Rattle.role_values.specs.Written.{written}

-- the variables
abbrev pub env_in : Progress → Env
env_in p = env_of p.state.variables.items

-- the packet
abbrev pub packet_in : Level → Progress → Packet
packet_in l p = packet_of (headers_of l.scene) p.state.fields.items

-- the end, with the choices that are left
abbrev pub ended_of : Level → Option End → Progress → Ended
ended_of l None p = None
ended_of l (Some Falls) p = Some (falls (env_in p) (packet_in l p), p.choices.now)
ended_of l (Some (Sends to)) p = Some (sends (loc_of (design_at l) to) (packet_in l p), p.choices.now)

-- a statement ends so
abbrev pub Runs : Level → Progress → Stmt → Option End → Progress → Type 0
Runs l old s end new = ended_of l end new ≡ fitting_run (world_at l) s (env_in old) (packet_in l old) old.choices.now

-- a block ends so
abbrev pub RunsAll : Level → Progress → Block → Option End → Progress → Type 0
RunsAll l old b end new = ended_of l end new ≡ fitting_all (world_at l) b (env_in old) (packet_in l old) old.choices.now

-- a block ends so, where its variables end with it
abbrev pub RunsBranch : Level → Progress → Block → Option End → Progress → Type 0
RunsBranch l old b end new =
    ended_of l end new ≡ back (env_in old) (fitting_all (world_at l) b (env_in old) (packet_in l old) old.choices.now)

-- one of two blocks, by a truth value
abbrev pub picked : Option Bool → (first second : Block) → Option Block
picked None first second = None
picked (Some true) first second = Some first
picked (Some false) first second = Some second

-- whether what follows is done
abbrev pub Goes : Bool → Option End → Type 0
Goes true end = end ≡ Some Falls
Goes false end = end ≢ Some Falls

-- the fields fit their widths
abbrev pub Fits : Level → Progress → Type 0
Fits l p = FieldsFit (all_widths (headers_of l.scene)) p.state.fields.items

-- the variables that were bound are bound still, below those that were bound since
abbrev pub Grows : Progress → Progress → Type 0
Grows old new = take (length old.state.variables.items) new.state.variables.items ≡ old.state.variables.items

-- the first choice, and those that are left
abbrev pub Takes : List ℕ → Option ℕ → List ℕ → Type 0
Takes cs None rest = (cs ≡ []) × (rest ≡ [])
Takes cs (Some c) rest = cs ≡ c ∷ rest

-- The value of the first choice, where it fits a width of declarations; else there is no run with that choice.
abbrev pub Chooses : ℕ → List ℕ → Option Value → List ℕ → Type 0
Chooses width cs None rest = (f : ℕ → List ℕ → Ended) → take_declared width cs f ≡ None
Chooses width cs (Some v) rest = (c : ℕ) × (v ≡ number width c) × ((f : ℕ → List ℕ → Ended) → take_declared width cs f ≡ f c rest)

-- a variable is bound, and all else is as it was
pub record BindsTo (old : Progress) (x : List ℕ) (v : Value) (new : Progress) : Type 0 where
  pub variables : env_in new ≡ bound x v (env_in old)
  pub grows : Grows old new
  pub fields : new.state.fields ≡ old.state.fields
  pub choices : new.choices.now ≡ old.choices.now

-- falls with a field set to n, where it fits
abbrev pub set_to : Level → Progress → (h f : List ℕ) → ℕ → Ended
set_to l old h f n = option_map (λ set. (falls (env_in old) set, old.choices.now)) (written (headers_of l.scene) (packet_in l old) h f n)

-- A fork with this variable and condition runs its body from here, and is a run where that sends; or it has no run.
abbrev pub Enters : Level → Progress → Name → ℕ → Expr → Bool → Progress → Type 0
Enters l old x width e true new =
    (body : Block) → fitting_run (world_at l) (fork 0 x width e body) (env_in old) (packet_in l old) old.choices.now
    ≡ only_sends (fitting_all (world_at l) body (env_in new) (packet_in l new) new.choices.now)
Enters l old x width e false new =
    (body : Block) → fitting_run (world_at l) (fork 0 x width e body) (env_in old) (packet_in l old) old.choices.now ≡ None

-- where it sends, if it does, there is a role at the level
abbrev pub EndsAt : Level → Option End → Type 0
EndsAt l (Some (Sends to)) = HasRole (design_at l) to.role l.number
EndsAt l _ = Unit {0}
