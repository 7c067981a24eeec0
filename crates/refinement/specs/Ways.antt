-- Cited by the clauses of the laws of ways: runs with the branches that they take. It is the
-- program that takes choices from a list, and notes for each `if` which of its branches ran. The
-- branches, in order, are the run's way. It follows the sections "A body's run" and "Refinement" of
-- docs/LANGUAGE.md; every statement has its case.
use Rattle.std.specs.Prelude.{ℕ, zero, suc, Bool, true, false, List, [], ◌∷◌, ◌++◌, if◌then◌else◌, Option, Some, None, option_map, option_and_then}
use Rattle.cocoon_num.specs.Packets.{Packet}
use Rattle.cocoon_num.specs.Tree.{Stmt, let_, set_field, if_, filter, havoc_var, havoc_field, assume, fork, send, Block, no_stmts, stmt, Role, Design}
use Rattle.cocoon_num.specs.Values.{Value, number, truth, as_number, fits_width}
use Rattle.cocoon_types.specs.Design.{field_width, write_field}
use Rattle.cocoon_types.specs.Runs.{End, falls, sends, Loc, World, back_to, world}
use Rattle.cocoon_types.specs.Tables.{Defs}
use Rattle.cocoon_types.specs.Taken.{guard_at}
use Rattle.cocoon_types.specs.Val.{Env, bind, bound, numbers, value}
use Rattle.refinement.specs.Segments.{is_new}

-- the branches of `if`s that ran, in order: true for the first
abbrev pub Way : Type 0
Way = List Bool

-- how a run ends, the choices that are left, and its way
pub record Course : Type 0 where
  pub end : End
  pub rest : List ℕ
  pub way : Way

-- goes on if a value is true
abbrev pub on_true : {A : Type 0} → Option Value → Option A → Option A
on_true None r = None
on_true (Some (truth true)) r = r
on_true (Some (truth false)) r = None
on_true (Some (number w n)) r = None

-- one of two, by a value
abbrev pub branch : {A : Type 0} → Option Value → Option A → Option A → Option A
branch None r s = None
branch (Some (truth true)) r s = r
branch (Some (truth false)) r s = s
branch (Some (number w n)) r s = None

-- takes one choice that fits a width
abbrev pub choose : {A : Type 0} → (width : ℕ) → List ℕ → (ℕ → List ℕ → Option A) → Option A
choose width [] f = None
choose width (c ∷ cs) f = if fits_width width c then f c cs else None

-- a run of a statement that takes no branch
abbrev pub straight : End → List ℕ → Course
straight end rest = record { end = end; rest = rest; way = [] }

-- the branch ran, and its variables end with it
abbrev pub in_branch : Bool → Env → Course → Course
in_branch b env c = record { end = back_to env c.end; rest = c.rest; way = b ∷ c.way }

-- these branches ran before
abbrev pub since : Way → Course → Course
since way c = record { end = c.end; rest = c.rest; way = way ++ c.way }

-- the run, if it sends
abbrev pub if_sends : End → Course → Option Course
if_sends (falls env packet) c = None
if_sends (sends to packet) c = Some c

-- what follows a run: one that falls goes on, and one that sends has ended
abbrev pub then_on : End → Course → (Env → Packet → List ℕ → Option Course) → Option Course
then_on (falls env packet) c f = option_map (since c.way) (f env packet c.rest)
then_on (sends to packet) c f = Some c

abbrev mutual
  -- a statement's run
  pub run_by : World → Stmt → Env → Packet → List ℕ → Option Course
  run_by w (let_ at x width e) env packet cs =
      option_map (λ v. straight (falls (bound x.text v env) packet) cs)
      (value w.context env packet e)
  run_by w (set_field at h f e) env packet cs =
      option_map (λ n.
      straight (falls env (write_field w.context.headers packet h.text f.text n)) cs)
      (option_and_then as_number (value w.context env packet e))
  run_by w (if_ at e first second) env packet cs =
      branch (value w.context env packet e)
      (option_map (in_branch true env) (run_all_by w first env packet cs))
      (option_map (in_branch false env) (run_all_by w second env packet cs))
  run_by w (filter at e) env packet cs =
      on_true (value w.context env packet e) (Some (straight (falls env packet) cs))
  run_by w (havoc_var at x width) env packet cs =
      choose width cs (λ c rest.
      Some (straight (falls (bound x.text (number width c) env) packet) rest))
  run_by w (havoc_field at h f) env packet cs =
      option_and_then (λ width. choose width cs (λ c rest.
      Some (straight (falls env (write_field w.context.headers packet h.text f.text c)) rest)))
      (field_width w.context.headers h.text f.text)
  run_by w (assume at e) env packet cs =
      on_true (value w.context env packet e) (Some (straight (falls env packet) cs))
  run_by w (fork at x width e body) env packet cs =
      choose width cs (λ c rest.
      on_true (value w.context (bound x.text (number width c) env) packet e)
      (option_and_then (λ (r : Course). if_sends r.end r)
      (run_all_by w body (bound x.text (number width c) env) packet rest)))
  run_by w (send at r es) env packet cs =
      option_and_then (λ ns. on_true (guard_at w (record { role = r.text; values = ns }))
      (Some (straight (sends (record { role = r.text; values = ns }) packet) cs)))
      (numbers w.context env packet es)

  -- a block's run
  pub run_all_by : World → Block → Env → Packet → List ℕ → Option Course
  run_all_by w no_stmts env packet cs = Some (straight (falls env packet) cs)
  run_all_by w (stmt s more) env packet cs =
      option_and_then (λ (r : Course).
      then_on r.end r (λ env' packet' rest. run_all_by w more env' packet' rest))
      (run_by w s env packet cs)

-- ---- bodies, and segments

-- where bodies lead, the choices that are left, and the ways of the bodies joined
pub record Arrival : Type 0 where
  pub to : Loc
  pub sent : Packet
  pub rest : List ℕ
  pub way : Way

-- where an end leads
abbrev pub arrival : End → Course → Option Arrival
arrival (falls env packet) c = None
arrival (sends to packet) c = Some (record { to = to; sent = packet; rest = c.rest; way = c.way })

-- the run of a role's body
abbrev pub body_by : World → Role → Option Block → Loc → Packet → List ℕ → Option Arrival
body_by w r None from packet cs = None
body_by w r (Some b) from packet cs =
    option_and_then (λ env.
    option_and_then (λ (c : Course). arrival c.end c) (run_all_by w b env packet cs))
    (bind r.params from.values)

-- one body's run
abbrev pub go_by : World → Loc → Packet → List ℕ → Option Arrival
go_by w from packet cs =
    on_true (guard_at w from)
    (option_and_then (λ (r : Role). body_by w r r.body from packet cs) (w.role from.role))

-- these branches ran before
abbrev pub after : Way → Arrival → Arrival
after way a = record { to = a.to; sent = a.sent; rest = a.rest; way = way ++ a.way }

-- what follows a body: of a new role the next body, and elsewhere it stops
abbrev pub if_new : Bool → Arrival → (Loc → Packet → List ℕ → Option Arrival) → Option Arrival
if_new true a f = option_map (after a.way) (f a.to a.sent a.rest)
if_new false a f = Some a

-- a body of the block's level, and those of new roles behind it, at most so many: where they stop,
-- which is at a role that is not new, or after as many
abbrev pub hops_by : (above : ℕ) → Design → Defs → (bodies : ℕ)
    → Loc → Packet → List ℕ → Option Arrival
hops_by above d defs zero from packet cs =
    Some (record { to = from; sent = packet; rest = cs; way = [] })
hops_by above d defs (suc n) from packet cs =
    option_and_then (λ (a : Arrival). if_new (is_new above d a.to.role) a (hops_by above d defs n))
    (go_by (world (suc above) d defs) from packet cs)
