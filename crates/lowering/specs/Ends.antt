-- Cited by `body_ends`, `copy_ends`, `sites_settle` and `runs_are_visits`. How a run of lowered code ends where a
-- body's visit does, and what a run asks for.
use Rattle.std.specs.Prelude.{◌≡◌, ℕ, suc, ◌≤◌, Bool, List, [], ◌∷◌, slice_get, ◌⊎◌, Option, Some, None}
use Rattle.cocoon_num.specs.Values.{Value, number, truth}
use Rattle.cocoon_num.specs.Tree.{Stmt, Block, let_, set_field, if_, filter, havoc_var, havoc_field, assume, fork, send, no_stmts, stmt}
use Rattle.cocoon_num.specs.Packets.{Packet}
use Rattle.cocoon_types.specs.Design.{read_field}
use Rattle.cocoon_types.specs.Val.{Env, value, numbers, Context}
use Rattle.cocoon_types.specs.Runs.{Loc, World, falls, sends}
use Rattle.cocoon_types.specs.Taken as taking
use Rattle.cocoon_types.specs.Taken.{Ended, guard_at, run}
use Rattle.p4_ir.specs.Switch.{State, returned, Running, Outcome, proceeds}
use Rattle.lowering.specs.Lower.{Variable}
use Rattle.lowering.specs.LowerBlock.{Site, fork_args, fork_function}
use Rattle.lowering.specs.Agrees.{Filling, Long, Keeps, Holds, Takes, TakesAll, EitherOf}
use Rattle.lowering.specs.Visit.{Forked, Visit, on, leaves, copies, nothing, visit}

pub record GoesOn (W : List ℕ → Type 0) (at : Running) (from to : ℕ) (vars : List Variable) (s : State) (env : Env) (packet : Packet) (r : Option Outcome) : Type 0 where
  pub after : State
  pub ran : r ≡ Some (proceeds after)
  pub keeps : Keeps from s after
  pub packet_is : after.packet ≡ packet
  pub verdict_is : after.verdict ≡ 0
  pub holds : Holds W to at after vars env

pub record Leaves (to : Loc) (packet : Packet) (r : Option Outcome) : Type 0 where
  pub after : State
  pub ran : r ≡ Some (returned after)
  pub verdict_is : after.verdict ≡ 1
  pub switch : ℕ
  pub port_is : to.values ≡ switch ∷ after.egress_port ∷ []
  pub packet_is : after.packet ≡ packet

pub record Drops (r : Option Outcome) : Type 0 where
  pub after : State
  pub ran : r ≡ Some (returned after)
  pub verdict_is : after.verdict ≡ 0

abbrev pub IsIn : Site → List Site → Type 0
IsIn x [] = ⊥
IsIn x (y ∷ ys) = (x ≡ y) ⊎ IsIn x ys

-- what holds where a fork is reached: its site is set, the group is that of its function at the arguments before the
-- choice, and the names that are wanted are read as their values
pub record Copies (fill : Filling) (context : Context) (W : List ℕ → Type 0) (at : Running) (to : ℕ) (sites : List Site) (f : Forked) (env : Env) (packet : Packet) (r : Option Outcome) : Type 0 where
  pub after : State
  pub ran : r ≡ Some (returned after)
  pub verdict_is : after.verdict ≡ 2
  pub packet_is : after.packet ≡ packet
  pub long : Long at after
  pub site : Site
  pub is_in : IsIn site sites
  pub block_is : f ≡ record { x = site.x; width = site.width; e = f.e; body = site.body }
  pub site_is : slice_get after.meta 0 ≡ Some site.number
  pub ns : List ℕ
  pub args : numbers context env packet (fork_args f.e) ≡ Some ns
  pub group_is : after.group ≡ fill.group (fork_function f.e) ns
  pub level : ℕ
  pub rises : level ≤ to
  pub holds : Holds W level at after site.vars env

abbrev pub Ends : Filling → Context → (List ℕ → Type 0) → Running → ℕ → ℕ → List Variable → List Site → State → Visit → Option Outcome → Type 0
Ends fill context W at from to vars sites s (on env packet) r = GoesOn W at from to vars s env packet r
Ends fill context W at from to vars sites s (leaves loc packet) r = Leaves loc packet r
Ends fill context W at from to vars sites s (copies f env packet) r = Copies fill context W at to sites f env packet r
Ends fill context W at from to vars sites s nothing r = Drops r

abbrev pub Onward : Visit → (Env → Packet → Type 0) → Type 0
Onward (on env packet) P = P env packet
Onward (leaves to packet) P = Unit {0}
Onward (copies f env packet) P = Unit {0}
Onward nothing P = Unit {0}

-- Along this run each expression has a value of the kind that its place asks for. Typing gives it.
abbrev mutual
  pub Fits : (List ℕ → List ℕ → Type 0) → (List ℕ → List ℕ → Type 0) → (List ℕ → Type 0) → Context → Stmt → Env → Packet → Type 0
  Fits T G W s (let_ at x w e) env packet = Takes T W s env packet e × (n : ℕ) × (value s env packet e ≡ Some (number w n))
  Fits T G W s (set_field at h f e) env packet =
      Takes T W s env packet e × (w n : ℕ) × (u : Value) × (value s env packet e ≡ Some (number w n)) × (read_field s.headers packet h.text f.text ≡ Some u)
  Fits T G W s (if_ at e first second) env packet =
      Takes T W s env packet e × (b : Bool) × (value s env packet e ≡ Some (truth b)) × EitherOf b (FitsAll T G W s first env packet) (FitsAll T G W s second env packet)
  Fits T G W s (filter at e) env packet = Takes T W s env packet e × (b : Bool) × (value s env packet e ≡ Some (truth b))
  Fits T G W s (havoc_var at x w) env packet = ⊥
  Fits T G W s (havoc_field at h f) env packet = ⊥
  Fits T G W s (assume at e) env packet = ⊥
  Fits T G W s (fork at x w e body) env packet =
      TakesAll T W s env packet (fork_args e) × (ns : List ℕ) × (numbers s env packet (fork_args e) ≡ Some ns) × G (fork_function e) ns
  Fits T G W s (send at r es) env packet = TakesAll T W s env packet es × (a p : ℕ) × (numbers s env packet es ≡ Some (a ∷ p ∷ []))

  pub FitsAll : (List ℕ → List ℕ → Type 0) → (List ℕ → List ℕ → Type 0) → (List ℕ → Type 0) → Context → Block → Env → Packet → Type 0
  FitsAll T G W s no_stmts env packet = Unit {0}
  FitsAll T G W s (stmt x rest) env packet = Fits T G W s x env packet × Onward (visit s x env packet) (λ env' packet'. FitsAll T G W s rest env' packet')

-- How the egress run of a copy ends: as a block that leaves or not.
abbrev pub Sent : Visit → Option Outcome → Type 0
Sent (on env packet) r = Drops r
Sent (leaves to packet) r = Leaves to packet r
Sent (copies f env packet) r = Unit {0}
Sent nothing r = Drops r

-- sites with numbers from k on
abbrev pub Numbered : ℕ → List Site → Type 0
Numbered k [] = Unit {0}
Numbered k (x ∷ xs) = (x.number ≡ k) × Numbered (suc k) xs

-- the state in which egress begins
abbrev pub begun : State → State
begun s = record s { verdict = 0; egress_port = 0 }

abbrev pub fork_of : Forked → Stmt
fork_of f = fork 0 (record { at = 0; text = f.x }) f.width f.e f.body

-- how a run that takes its choices from a list ends, by the body's visit: it leaves where the guard of the location is true,
-- and a copy takes what its fork takes
abbrev pub ended : World → Visit → List ℕ → Ended
ended w (on env packet) cs = Some (falls env packet, cs)
ended w (leaves to packet) cs = taking.where_true (guard_at w to) (Some (sends to packet, cs))
ended w (copies f env packet) cs = run w (fork_of f) env packet cs
ended w nothing cs = None
