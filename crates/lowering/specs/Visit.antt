-- Cited by `body_ends`, `copy_ends`, `runs_are_visits` and `visit_is_body`. What a body does up to its first fork or
-- send, as a function: it has no choices there.
use Rattle.std.specs.Prelude.{ℕ, true, false, List, Option, Some, None}
use Rattle.cocoon_num.specs.Values.{Value, number, truth}
use Rattle.cocoon_num.specs.Tree.{Expr, Stmt, Block, let_, set_field, if_, filter, havoc_var, havoc_field, assume, fork, send, no_stmts, stmt}
use Rattle.cocoon_num.specs.Packets.{Packet}
use Rattle.cocoon_types.specs.Design.{write_field}
use Rattle.cocoon_types.specs.Val.{Env, bound, value, numbers, Context}
use Rattle.cocoon_types.specs.Runs.{Loc}

-- a fork that is reached, with what is in context there
pub record Forked : Type 0 where
  pub x : List ℕ
  pub width : ℕ
  pub e : Expr
  pub body : Block

pub data Visit : Type 0 where
  on : (env : Env) (packet : Packet) → Visit
  leaves : (to : Loc) (packet : Packet) → Visit
  copies : (f : Forked) (env : Env) (packet : Packet) → Visit
  nothing : Visit

abbrev pub with_value : Option Value → (Value → Visit) → Visit
with_value None f = nothing
with_value (Some v) f = f v

abbrev pub with_number : Value → (ℕ → Visit) → Visit
with_number (number w n) f = f n
with_number (truth b) f = nothing

abbrev pub with_numbers : Option (List ℕ) → (List ℕ → Visit) → Visit
with_numbers None f = nothing
with_numbers (Some ns) f = f ns

abbrev pub where_true : Option Value → Visit → Visit → Visit
where_true None x y = nothing
where_true (Some (truth true)) x y = x
where_true (Some (truth false)) x y = y
where_true (Some (number w n)) x y = nothing

-- variables of a branch end with it
abbrev pub back_in : Env → Visit → Visit
back_in env (on inner packet) = on env packet
back_in env (leaves to packet) = leaves to packet
back_in env (copies f inner packet) = copies f inner packet
back_in env nothing = nothing

abbrev pub then_visit : Visit → (Env → Packet → Visit) → Visit
then_visit (on env packet) f = f env packet
then_visit (leaves to packet) f = leaves to packet
then_visit (copies g env packet) f = copies g env packet
then_visit nothing f = nothing

abbrev mutual
  pub visit : Context → Stmt → Env → Packet → Visit
  visit s (let_ at x w e) env packet = with_value (value s env packet e) (λ v. on (bound x.text v env) packet)
  visit s (set_field at h f e) env packet = with_value (value s env packet e) (λ v. with_number v (λ n. on env (write_field s.headers packet h.text f.text n)))
  visit s (if_ at e first second) env packet = back_in env (where_true (value s env packet e) (visit_all s first env packet) (visit_all s second env packet))
  visit s (filter at e) env packet = where_true (value s env packet e) (on env packet) nothing
  visit s (havoc_var at x w) env packet = nothing
  visit s (havoc_field at h f) env packet = nothing
  visit s (assume at e) env packet = nothing
  visit s (fork at x w e body) env packet = copies (record { x = x.text; width = w; e = e; body = body }) env packet
  visit s (send at r es) env packet = with_numbers (numbers s env packet es) (λ ns. leaves (record { role = r.text; values = ns }) packet)

  pub visit_all : Context → Block → Env → Packet → Visit
  visit_all s no_stmts env packet = on env packet
  visit_all s (stmt x rest) env packet = then_visit (visit s x env packet) (λ env' packet'. visit_all s rest env' packet')
