-- Cited by the clauses of runs of bodies: the run of a body, where each number that is set fits its field, and each variable
-- that is chosen has a width of declarations. It is `go` of `Taken` where the rules of designs are kept, since there each
-- number that is set has the width of its field.
use Rattle.std.specs.Prelude.{ℕ, List, if◌then◌else◌, Option, Some, None, option_map, option_and_then}
use Rattle.cocoon_num.specs.Packets.{Packet}
use Rattle.cocoon_num.specs.Sorts.{is_declared_width}
use Rattle.cocoon_num.specs.Tree.{Stmt, let_, set_field, if_, filter, havoc_var, havoc_field, assume, fork, send, Block, no_stmts, stmt, Role}
use Rattle.cocoon_num.specs.Values.{number, as_number}
use Rattle.cocoon_types.specs.Design.{field_width, write_field}
use Rattle.cocoon_types.specs.Runs.{falls, sends, Loc, World}
use Rattle.cocoon_types.specs.Taken.{back, by_truth, Ended, go_on, guard_at, if_reached, if_true, only_sends, Reached, take_one, where_true}
use Rattle.cocoon_types.specs.Val.{bind, bound, Env, numbers, value}
use Rattle.role_values.specs.Written.{written}

-- takes one choice that fits a width of declarations
abbrev pub take_declared : ℕ → List ℕ → (ℕ → List ℕ → Ended) → Ended
take_declared width cs f = if is_declared_width width then take_one width cs f else None

abbrev mutual
  -- a statement's run
  pub fitting_run : World → Stmt → Env → Packet → List ℕ → Ended
  fitting_run w (let_ at x width e) env packet cs = option_map (λ v. (falls (bound x.text v env) packet, cs)) (value w.context env packet e)
  fitting_run w (set_field at h f e) env packet cs =
      option_map (λ set. (falls env set, cs))
      (option_and_then (written w.context.headers packet h.text f.text) (option_and_then as_number (value w.context env packet e)))
  fitting_run w (if_ at e first second) env packet cs =
      back env (by_truth (value w.context env packet e) (fitting_all w first env packet cs) (fitting_all w second env packet cs))
  fitting_run w (filter at e) env packet cs = where_true (value w.context env packet e) (Some (falls env packet, cs))
  fitting_run w (havoc_var at x width) env packet cs =
      take_declared width cs (λ c rest. Some (falls (bound x.text (number width c) env) packet, rest))
  fitting_run w (havoc_field at h f) env packet cs =
      option_and_then (λ width. take_one width cs (λ c rest. Some (falls env (write_field w.context.headers packet h.text f.text c), rest)))
      (field_width w.context.headers h.text f.text)
  fitting_run w (assume at e) env packet cs = where_true (value w.context env packet e) (Some (falls env packet, cs))
  fitting_run w (fork at x width e body) env packet cs =
      take_declared width cs (λ c rest. where_true (value w.context (bound x.text (number width c) env) packet e)
      (only_sends (fitting_all w body (bound x.text (number width c) env) packet rest)))
  fitting_run w (send at r es) env packet cs =
      option_and_then (λ ns. where_true (guard_at w (record { role = r.text; values = ns })) (Some (sends (record { role = r.text; values = ns }) packet, cs)))
      (numbers w.context env packet es)

  -- a block's run
  pub fitting_all : World → Block → Env → Packet → List ℕ → Ended
  fitting_all w no_stmts env packet cs = Some (falls env packet, cs)
  fitting_all w (stmt s rest) env packet cs =
      go_on (fitting_run w s env packet cs) (λ env' packet' more. fitting_all w rest env' packet' more)

-- the run of a role's body
abbrev pub fitting_body : World → Role → Option Block → Loc → Packet → List ℕ → Reached
fitting_body w r None from packet cs = None
fitting_body w r (Some b) from packet cs = option_and_then (λ env. if_reached (fitting_all w b env packet cs)) (bind r.params from.values)

-- one body's run, and what is left of the choices
abbrev pub fitting_go : World → Loc → Packet → List ℕ → Reached
fitting_go w from packet cs =
    if_true (guard_at w from) (option_and_then (λ (r : Role). fitting_body w r r.body from packet cs) (w.role from.role))
