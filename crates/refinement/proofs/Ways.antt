-- A run with the branches that it takes is the run: without them it ends as the run does, with the same choices left.
use Rattle.std.proofs.Common.{◌≡◌, ℕ, List, [], ◌∷◌, Bool, true, false, cond, Option, Some, None, option_map, option_and_then, refl, ap, ◌∙◌}
use Rattle.cocoon_num.specs.Packets.{Packet}
use Rattle.cocoon_num.specs.Tree.{Stmt, let_, set_field, if_, filter, havoc_var, havoc_field, assume, fork, send, Block, no_stmts, stmt, Role}
use Rattle.cocoon_num.specs.Values.{Value, number, truth, as_number, fits_width}
use Rattle.cocoon_types.specs.Design.{field_width, write_field}
use Rattle.cocoon_types.specs.Runs.{End, falls, sends, Loc, World}
use Rattle.cocoon_types.specs.Taken.{Ended, after as goes_after, back, body_go, by_truth, go, go_on, guard_at, if_reached, if_true, only_sends, reached, run, run_all, take_one, where_true}
use Rattle.cocoon_types.specs.Val.{Env, bind, bound, numbers, value}
use Rattle.refinement.specs.Plain.{plainly}
use Rattle.refinement.specs.Ways.{Arrival, Course, arrival, body_by, branch, choose, go_by, if_sends, in_branch, on_true, run_all_by, run_by, since, straight, then_on}

-- an end with the choices that are left
abbrev ended : Course → End × List ℕ
ended c = (c.end, c.rest)

abbrev all_ended : Option Course → Ended
all_ended o = option_map ended o

mapped : {A B C : Type 0} (f : B → C) (g : A → B) (o : Option A) → option_map f (option_map g o) ≡ option_map (λ x. f (g x)) o
mapped f g None = refl
mapped f g (Some x) = refl

then_mapped : {A : Type 0} (f : A → Option Course) (o : Option A) → all_ended (option_and_then f o) ≡ option_and_then (λ x. all_ended (f x)) o
then_mapped f None = refl
then_mapped f (Some x) = refl

if_mapped : (v : Option Value) (x : Option Course) → all_ended (on_true v x) ≡ where_true v (all_ended x)
if_mapped None x = refl
if_mapped (Some (truth true)) x = refl
if_mapped (Some (truth false)) x = refl
if_mapped (Some (number w n)) x = refl

branch_mapped : (v : Option Value) (env : Env) (x y : Option Course) → all_ended (branch v (option_map (in_branch true env) x) (option_map (in_branch false env) y)) ≡ back env (by_truth v (all_ended x) (all_ended y))
branch_mapped None env x y = refl
branch_mapped (Some (truth true)) env None y = refl
branch_mapped (Some (truth true)) env (Some c) y = refl
branch_mapped (Some (truth false)) env x None = refl
branch_mapped (Some (truth false)) env x (Some c) = refl
branch_mapped (Some (number w n)) env x y = refl

one_mapped : (b : Bool) (x : Option Course) (y : Ended) → all_ended x ≡ y → all_ended (cond b x None) ≡ cond b y None
one_mapped true x y h = h
one_mapped false x y h = refl

choice_mapped : (width : ℕ) (cs : List ℕ) (f : ℕ → List ℕ → Option Course) (g : ℕ → List ℕ → Ended) → ((c : ℕ) (rest : List ℕ) → all_ended (f c rest) ≡ g c rest) → all_ended (choose width cs f) ≡ take_one width cs g
choice_mapped width [] f g h = refl
choice_mapped width (c ∷ cs) f g h = one_mapped (fits_width width c) (f c cs) (g c cs) (h c cs)

sent_mapped : (o : Option Course) → all_ended (option_and_then (λ (r : Course). if_sends r.end r) o) ≡ only_sends (all_ended o)
sent_mapped None = refl
sent_mapped (Some c) = by_end c.end c.rest c.way
  where
    by_end : (e : End) (rest : List ℕ) (way : List Bool) → all_ended (if_sends e (record { end = e; rest = rest; way = way })) ≡ only_sends (Some (e, rest))
    by_end (falls env packet) rest way = refl
    by_end (sends to packet) rest way = refl

on_mapped : (o : Option Course) (f : Env → Packet → List ℕ → Option Course) (g : Env → Packet → List ℕ → Ended) → ((env : Env) (packet : Packet) (rest : List ℕ) → all_ended (f env packet rest) ≡ g env packet rest)
    → all_ended (option_and_then (λ (r : Course). then_on r.end r f) o) ≡ go_on (all_ended o) g
on_mapped None f g h = refl
on_mapped (Some c) f g h = by_end c.end c.rest c.way
  where
    by_end : (e : End) (rest : List ℕ) (way : List Bool) → all_ended (then_on e (record { end = e; rest = rest; way = way }) f) ≡ goes_after e rest g
    by_end (falls env packet) rest way = mapped ended (since way) (f env packet rest) ∙ h env packet rest
    by_end (sends to packet) rest way = refl

mutual
  same_run : (w : World) (s : Stmt) (env : Env) (packet : Packet) (cs : List ℕ) → all_ended (run_by w s env packet cs) ≡ run w s env packet cs
  same_run w (let_ at x width e) env packet cs = mapped ended (λ v. straight (falls (bound x.text v env) packet) cs) (value w.context env packet e)
  same_run w (set_field at h f e) env packet cs =
      mapped ended (λ n. straight (falls env (write_field w.context.headers packet h.text f.text n)) cs) (option_and_then as_number (value w.context env packet e))
  same_run w (if_ at e first second) env packet cs =
      branch_mapped (value w.context env packet e) env (run_all_by w first env packet cs) (run_all_by w second env packet cs)
      ∙ (λ k. back env (by_truth (value w.context env packet e) (same_all w first env packet cs k) (same_all w second env packet cs k)))
  same_run w (filter at e) env packet cs = if_mapped (value w.context env packet e) (Some (straight (falls env packet) cs))
  same_run w (havoc_var at x width) env packet cs =
      choice_mapped width cs (λ c rest. Some (straight (falls (bound x.text (number width c) env) packet) rest)) (λ c rest. Some (falls (bound x.text (number width c) env) packet, rest)) (λ c rest. refl)
  same_run w (havoc_field at h f) env packet cs =
      then_mapped (λ width. choose width cs (λ c rest. Some (straight (falls env (write_field w.context.headers packet h.text f.text c)) rest))) (field_width w.context.headers h.text f.text)
      ∙ (λ k. option_and_then (λ width. choice_mapped width cs (λ c rest. Some (straight (falls env (write_field w.context.headers packet h.text f.text c)) rest)) (λ c rest. Some (falls env (write_field w.context.headers packet h.text f.text c), rest)) (λ c rest. refl) k) (field_width w.context.headers h.text f.text))
  same_run w (assume at e) env packet cs = if_mapped (value w.context env packet e) (Some (straight (falls env packet) cs))
  same_run w (fork at x width e body) env packet cs =
      choice_mapped width cs
      (λ c rest. on_true (value w.context (bound x.text (number width c) env) packet e) (option_and_then (λ (r : Course). if_sends r.end r) (run_all_by w body (bound x.text (number width c) env) packet rest)))
      (λ c rest. where_true (value w.context (bound x.text (number width c) env) packet e) (only_sends (run_all w body (bound x.text (number width c) env) packet rest)))
      (λ c rest. if_mapped (value w.context (bound x.text (number width c) env) packet e) (option_and_then (λ (r : Course). if_sends r.end r) (run_all_by w body (bound x.text (number width c) env) packet rest))
      ∙ ap (where_true (value w.context (bound x.text (number width c) env) packet e)) (sent_mapped (run_all_by w body (bound x.text (number width c) env) packet rest) ∙ ap only_sends (same_all w body (bound x.text (number width c) env) packet rest)))
  same_run w (send at r es) env packet cs =
      then_mapped (λ ns. on_true (guard_at w (record { role = r.text; values = ns })) (Some (straight (sends (record { role = r.text; values = ns }) packet) cs))) (numbers w.context env packet es)
      ∙ (λ k. option_and_then (λ ns. if_mapped (guard_at w (record { role = r.text; values = ns })) (Some (straight (sends (record { role = r.text; values = ns }) packet) cs)) k) (numbers w.context env packet es))

  same_all : (w : World) (b : Block) (env : Env) (packet : Packet) (cs : List ℕ) → all_ended (run_all_by w b env packet cs) ≡ run_all w b env packet cs
  same_all w no_stmts env packet cs = refl
  same_all w (stmt s more) env packet cs =
      on_mapped (run_by w s env packet cs) (λ env' packet' rest. run_all_by w more env' packet' rest) (λ env' packet' rest. run_all w more env' packet' rest) (λ env' packet' rest. same_all w more env' packet' rest)
      ∙ ap (λ r. go_on r (λ env' packet' rest. run_all w more env' packet' rest)) (same_run w s env packet cs)

-- ---- bodies

arrived : (o : Option Course) → plainly (option_and_then (λ (c : Course). arrival c.end c) o) ≡ if_reached (all_ended o)
arrived None = refl
arrived (Some c) = by_end c.end c.rest c.way
  where
    by_end : (e : End) (rest : List ℕ) (way : List Bool) → plainly (arrival e (record { end = e; rest = rest; way = way })) ≡ reached e rest
    by_end (falls env packet) rest way = refl
    by_end (sends to packet) rest way = refl

then_plain : {A : Type 0} (f : A → Option Arrival) (o : Option A) → plainly (option_and_then f o) ≡ option_and_then (λ x. plainly (f x)) o
then_plain f None = refl
then_plain f (Some x) = refl

if_plain : (v : Option Value) (x : Option Arrival) → plainly (on_true v x) ≡ if_true v (plainly x)
if_plain None x = refl
if_plain (Some (truth true)) x = refl
if_plain (Some (truth false)) x = refl
if_plain (Some (number w n)) x = refl

same_body : (w : World) (r : Role) (o : Option Block) (from : Loc) (packet : Packet) (cs : List ℕ) → plainly (body_by w r o from packet cs) ≡ body_go w r o from packet cs
same_body w r None from packet cs = refl
same_body w r (Some b) from packet cs =
    then_plain (λ env. option_and_then (λ (c : Course). arrival c.end c) (run_all_by w b env packet cs)) (bind r.params from.values)
    ∙ (λ k. option_and_then (λ env. (arrived (run_all_by w b env packet cs) ∙ ap if_reached (same_all w b env packet cs)) k) (bind r.params from.values))

-- one body's run, without its branches, is the run
pub same_go : (w : World) (from : Loc) (packet : Packet) (cs : List ℕ) → plainly (go_by w from packet cs) ≡ go w from packet cs
same_go w from packet cs =
    if_plain (guard_at w from) (option_and_then (λ (r : Role). body_by w r r.body from packet cs) (w.role from.role))
    ∙ ap (if_true (guard_at w from)) (then_plain (λ (r : Role). body_by w r r.body from packet cs) (w.role from.role)
    ∙ (λ k. option_and_then (λ (r : Role). same_body w r r.body from packet cs k) (w.role from.role)))
