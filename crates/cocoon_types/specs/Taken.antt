-- Cited by the law `runs_are_taken`, by the clause `tables` of `go` of role_meaning, and by laws of
-- lowering_correct and sound_types. A run that takes its choices from a list and hands on what it does not use of
-- it: the plain program beside the definition of runs.
use Rattle.std.specs.Prelude.{◌≡◌, ℕ, zero, suc, true, false, List, [], ◌∷◌, ◌++◌, if◌then◌else◌, Option, Some, None, option_map, option_and_then}
use Rattle.cocoon_num.specs.Values.{Value, number, truth, as_number, fits_width}
use Rattle.cocoon_num.specs.Tree.{Stmt, let_, set_field, if_, filter, havoc_var, havoc_field, assume, fork, send, Block, no_stmts, stmt, Role}
use Rattle.cocoon_num.specs.Packets.{Packet}
use Rattle.cocoon_types.specs.Design.{write_field, field_width}
use Rattle.cocoon_types.specs.Val.{Env, bound, bind, value, numbers}
use Rattle.cocoon_types.specs.Runs.{Loc, World, End, falls, sends, back_to, Go, Walk}

-- how a run ends, and the choices that are left of the list
abbrev pub Ended : Type 0
Ended = Option (End × List ℕ)

-- goes on where a value is true
abbrev pub where_true : Option Value → Ended → Ended
where_true None r = None
where_true (Some (truth true)) r = r
where_true (Some (truth false)) r = None
where_true (Some (number w n)) r = None

-- one of two, by a value
abbrev pub by_truth : Option Value → Ended → Ended → Ended
by_truth None r s = None
by_truth (Some (truth true)) r s = r
by_truth (Some (truth false)) r s = s
by_truth (Some (number w n)) r s = None

-- takes one choice that fits a width
abbrev pub take_one : ℕ → List ℕ → (ℕ → List ℕ → Ended) → Ended
take_one width [] f = None
take_one width (c ∷ cs) f = if fits_width width c then f c cs else None

-- a branch's variables end with it
abbrev pub back : Env → Ended → Ended
back env None = None
back env (Some r) = Some (back_to env r.0, r.1)

-- an end that sends
abbrev pub only_sent : End → List ℕ → Ended
only_sent (falls env packet) cs = None
only_sent (sends to packet) cs = Some (sends to packet, cs)

-- a run that sends
abbrev pub only_sends : Ended → Ended
only_sends None = None
only_sends (Some r) = only_sent r.0 r.1

-- what follows an end that falls
abbrev pub after : End → List ℕ → (Env → Packet → List ℕ → Ended) → Ended
after (falls env packet) cs f = f env packet cs
after (sends to packet) cs f = Some (sends to packet, cs)

-- what follows a run that falls
abbrev pub go_on : Ended → (Env → Packet → List ℕ → Ended) → Ended
go_on None f = None
go_on (Some r) f = after r.0 r.1 f

-- the value of the guard of a location
abbrev pub guard_at : World → Loc → Option Value
guard_at w at = option_and_then (λ (r : Role). option_and_then (λ env. value w.context env [] r.guard) (bind r.params at.values)) (w.role at.role)

abbrev mutual
  -- a statement's run
  pub run : World → Stmt → Env → Packet → List ℕ → Ended
  run w (let_ at x width e) env packet cs = option_map (λ v. (falls (bound x.text v env) packet, cs)) (value w.context env packet e)
  run w (set_field at h f e) env packet cs =
      option_map (λ n. (falls env (write_field w.context.headers packet h.text f.text n), cs)) (option_and_then as_number (value w.context env packet e))
  run w (if_ at e first second) env packet cs =
      back env (by_truth (value w.context env packet e) (run_all w first env packet cs) (run_all w second env packet cs))
  run w (filter at e) env packet cs = where_true (value w.context env packet e) (Some (falls env packet, cs))
  run w (havoc_var at x width) env packet cs =
      take_one width cs (λ c rest. Some (falls (bound x.text (number width c) env) packet, rest))
  run w (havoc_field at h f) env packet cs =
      option_and_then (λ width. take_one width cs (λ c rest. Some (falls env (write_field w.context.headers packet h.text f.text c), rest)))
      (field_width w.context.headers h.text f.text)
  run w (assume at e) env packet cs = where_true (value w.context env packet e) (Some (falls env packet, cs))
  run w (fork at x width e body) env packet cs =
      take_one width cs (λ c rest. where_true (value w.context (bound x.text (number width c) env) packet e)
      (only_sends (run_all w body (bound x.text (number width c) env) packet rest)))
  run w (send at r es) env packet cs =
      option_and_then (λ ns. where_true (guard_at w (record { role = r.text; values = ns })) (Some (sends (record { role = r.text; values = ns }) packet, cs)))
      (numbers w.context env packet es)

  -- a block's run
  pub run_all : World → Block → Env → Packet → List ℕ → Ended
  run_all w no_stmts env packet cs = Some (falls env packet, cs)
  run_all w (stmt s rest) env packet cs = go_on (run w s env packet cs) (λ env' packet' more. run_all w rest env' packet' more)

-- where bodies lead, and the choices that are left
abbrev pub Reached : Type 0
Reached = Option (Loc × Packet × List ℕ)

-- where an end leads
abbrev pub reached : End → List ℕ → Reached
reached (falls env packet) cs = None
reached (sends to packet) cs = Some (to, packet, cs)

-- where a run leads
abbrev pub if_reached : Ended → Reached
if_reached None = None
if_reached (Some r) = reached r.0 r.1

-- goes on where a guard is true
abbrev pub if_true : Option Value → Reached → Reached
if_true None r = None
if_true (Some (truth true)) r = r
if_true (Some (truth false)) r = None
if_true (Some (number w n)) r = None

-- the run of a role's body
abbrev pub body_go : World → Role → Option Block → Loc → Packet → List ℕ → Reached
body_go w r None from packet cs = None
body_go w r (Some b) from packet cs = option_and_then (λ env. if_reached (run_all w b env packet cs)) (bind r.params from.values)

-- one body's run, and what is left of the choices
abbrev pub go : World → Loc → Packet → List ℕ → Reached
go w from packet cs = if_true (guard_at w from) (option_and_then (λ (r : Role). body_go w r r.body from packet cs) (w.role from.role))

-- stops at a role without a body
abbrev pub or_stop : Option Role → Reached → Reached → Reached
or_stop None stop more = more
or_stop (Some r) stop more = elim r.body [ None ↦ stop | Some b ↦ more ]

-- what follows a body's run
abbrev pub then_walk : Reached → (Loc → Packet → List ℕ → Reached) → Reached
then_walk None f = None
then_walk (Some r) f = f r.0 r.1 r.2

-- a chain of at most n bodies
abbrev pub walk : World → ℕ → Loc → Packet → List ℕ → Reached
walk w zero from packet cs = or_stop (w.role from.role) (Some (from, packet, cs)) None
walk w (suc n) from packet cs = or_stop (w.role from.role) (Some (from, packet, cs)) (then_walk (go w from packet cs) (walk w n))

-- some choices were used, and the rest is left
abbrev pub Used : List ℕ → List ℕ → (List ℕ → Type 0) → Type 0
Used cs rest P = (used : List ℕ) × (cs ≡ used ++ rest) × P used

-- What the program computes is what the relations say: a run that is related is computed, whatever choices follow, and one
-- that is computed is related, with the choices that it used.
pub record RunsAreTaken : Type 0 where
  pub takes : (w : World) (from : Loc) (packet : Packet) (cs : List ℕ) (to : Loc) (sent : Packet) → Go w from packet cs to sent → (rest : List ℕ) → go w from packet (cs ++ rest) ≡ Some (to, sent, rest)
  pub gives : (w : World) (from : Loc) (packet : Packet) (cs : List ℕ) (to : Loc) (sent : Packet) (rest : List ℕ) → go w from packet cs ≡ Some (to, sent, rest) → Used cs rest (λ used. Go w from packet used to sent)
  pub walk_takes : (w : World) (n : ℕ) (from : Loc) (packet : Packet) (cs : List ℕ) (to : Loc) (sent : Packet) → Walk w n from packet cs to sent → (rest : List ℕ) → walk w n from packet (cs ++ rest) ≡ Some (to, sent, rest)
  pub walk_gives : (w : World) (n : ℕ) (from : Loc) (packet : Packet) (cs : List ℕ) (to : Loc) (sent : Packet) (rest : List ℕ) → walk w n from packet cs ≡ Some (to, sent, rest) → Used cs rest (λ used. Walk w n from packet used to sent)
