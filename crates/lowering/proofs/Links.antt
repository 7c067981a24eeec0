-- A body's run takes its choices as its visit says: none where the visit falls or leaves, and those of the fork where it copies.
use Rattle.std.specs.Prelude.{◌≡◌, ℕ, Bool, true, false, cond, List, [], ◌∷◌, Option, Some, None, refl}
use Rattle.std.proofs.Common.{◌∙◌, ap, subst}
use Rattle.cocoon_num.specs.Values.{Value, number, truth, fits_width}
use Rattle.cocoon_num.specs.Tree.{Stmt, Block, let_, set_field, if_, filter, havoc_var, havoc_field, assume, fork, send, no_stmts, stmt}
use Rattle.cocoon_num.specs.Packets.{Packet}
use Rattle.cocoon_types.specs.Val.{Env, bound, value}
use Rattle.cocoon_types.specs.Runs.{Loc, World, End, falls, sends, back_to}
use Rattle.cocoon_types.specs.Taken as taking
use Rattle.cocoon_types.specs.Taken.{Ended, run, run_all, back, go_on, guard_at, only_sends}
use Rattle.lowering.specs.Agrees.{EitherOf}
use Rattle.lowering.specs.Visit as seen
use Rattle.lowering.specs.Visit.{Forked, Visit, on, leaves, copies, nothing, then_visit, back_in, visit, visit_all}
use Rattle.lowering.specs.Ends.{ended, fork_of, Fits, FitsAll, Onward}

-- ---- what only sends

abbrev OnlySends : Ended → Type 0
OnlySends None = Unit {0}
OnlySends (Some r) = (to : Loc) × (packet : Packet) × (r.0 ≡ sends to packet)

only_where : (v : Option Value) (r : Ended) → OnlySends r → OnlySends (taking.where_true v r)
only_where None r h = tt
only_where (Some (truth true)) r h = h
only_where (Some (truth false)) r h = tt
only_where (Some (number w n)) r h = tt

only_only : (r : Ended) → OnlySends (only_sends r)
only_only None = tt
only_only (Some r) = by_end r.0 r.1
  where
    by_end : (e : End) (cs : List ℕ) → OnlySends (taking.only_sent e cs)
    by_end (falls env packet) cs = tt
    by_end (sends to packet) cs = (to, packet, refl)

only_cond : (b : Bool) (r : Ended) → OnlySends r → OnlySends (cond b r None)
only_cond true r h = h
only_cond false r h = tt

forks_send : (w : World) (f : Forked) (env : Env) (packet : Packet) (cs : List ℕ) → OnlySends (run w (fork_of f) env packet cs)
forks_send w f env packet [] = tt
forks_send w f env packet (c ∷ cs) =
    only_cond (fits_width f.width c) _ (only_where (value w.context (bound f.x (number f.width c) env) packet f.e) (only_sends (run_all w f.body (bound f.x (number f.width c) env) packet cs)) (only_only (run_all w f.body (bound f.x (number f.width c) env) packet cs)))

back_only : (env : Env) (r : Ended) → OnlySends r → back env r ≡ r
back_only env None h = refl
back_only env (Some r) h = by_end r.0 r.1 h.0 h.1 h.2
  where
    by_end : (e : End) (cs : List ℕ) (to : Loc) (packet : Packet) → e ≡ sends to packet → ◌≡◌ {A = Ended} (Some (back_to env e, cs)) (Some (e, cs))
    by_end (falls inner p) cs to packet h = absurd cc
    by_end (sends t p) cs to packet h = refl

on_only : (r : Ended) (K : Env → Packet → List ℕ → Ended) → OnlySends r → go_on r K ≡ r
on_only None K h = refl
on_only (Some r) K h = by_end r.0 r.1 h.0 h.1 h.2
  where
    by_end : (e : End) (cs : List ℕ) (to : Loc) (packet : Packet) → e ≡ sends to packet → taking.after e cs K ≡ Some (e, cs)
    by_end (falls inner p) cs to packet h = absurd cc
    by_end (sends t p) cs to packet h = refl

-- ---- the parts

back_ended : (w : World) (env : Env) (V : Visit) (cs : List ℕ) → back env (ended w V cs) ≡ ended w (back_in env V) cs
back_ended w env (on inner packet) cs = refl
back_ended w env (leaves to packet) cs = back_only env _ (only_where (guard_at w to) (Some (sends to packet, cs)) (to, packet, refl))
back_ended w env (copies f inner packet) cs = back_only env _ (forks_send w f inner packet cs)
back_ended w env nothing cs = refl

on_ended : (w : World) (V : Visit) (cs : List ℕ) (P : Env → Packet → Type 0) (K : Env → Packet → List ℕ → Ended) (k : Env → Packet → Visit)
    → Onward V P → ((env : Env) (packet : Packet) → P env packet → K env packet cs ≡ ended w (k env packet) cs) → go_on (ended w V cs) K ≡ ended w (then_visit V k) cs
on_ended w (on env packet) cs P K k p h = h env packet p
on_ended w (leaves to packet) cs P K k p h = on_only _ K (only_where (guard_at w to) (Some (sends to packet, cs)) (to, packet, refl))
on_ended w (copies f env packet) cs P K k p h = on_only _ K (forks_send w f env packet cs)
on_ended w nothing cs P K k p h = refl

either_run : (w : World) (b : Bool) (v : Option Value) (r t : Ended) (U V : Visit) (cs : List ℕ) → v ≡ Some (truth b) → (b ≡ true → r ≡ ended w U cs) → (b ≡ false → t ≡ ended w V cs) → taking.by_truth v r t ≡ ended w (seen.where_true v U V) cs
either_run w true v r t U V cs h f g = rw h (f refl)
either_run w false v r t U V cs h f g = rw h (g refl)

filtered : (w : World) (b : Bool) (v : Option Value) (env : Env) (packet : Packet) (cs : List ℕ) → v ≡ Some (truth b) → taking.where_true v (Some (falls env packet, cs)) ≡ ended w (seen.where_true v (on env packet) nothing) cs
filtered w true v env packet cs h = rw h refl
filtered w false v env packet cs h = rw h refl

mutual
  pub runs_as : (T G : List ℕ → List ℕ → Type 0) (W : List ℕ → Type 0) (w : World) (x : Stmt) (env : Env) (packet : Packet) (cs : List ℕ) → Fits T G W w.context x env packet → run w x env packet cs ≡ ended w (visit w.context x env packet) cs
  runs_as T G W w (let_ p x width e) env packet cs fits = rw fits.2 refl
  runs_as T G W w (set_field p h f e) env packet cs fits = rw fits.4 refl
  runs_as T G W w (if_ p e first second) env packet cs fits =
      ap (back env) (either_run w fits.1 (value w.context env packet e) (run_all w first env packet cs) (run_all w second env packet cs) (visit_all w.context first env packet) (visit_all w.context second env packet) cs fits.2
      (λ h. all_runs_as T G W w first env packet cs (subst (λ b. EitherOf b (FitsAll T G W w.context first env packet) (FitsAll T G W w.context second env packet)) h fits.3))
      (λ h. all_runs_as T G W w second env packet cs (subst (λ b. EitherOf b (FitsAll T G W w.context first env packet) (FitsAll T G W w.context second env packet)) h fits.3)))
      ∙ back_ended w env _ cs
  runs_as T G W w (filter p e) env packet cs fits = filtered w fits.1 (value w.context env packet e) env packet cs fits.2
  runs_as T G W w (havoc_var p x width) env packet cs fits = absurd fits
  runs_as T G W w (havoc_field p h f) env packet cs fits = absurd fits
  runs_as T G W w (assume p e) env packet cs fits = absurd fits
  runs_as T G W w (fork p x width e body) env packet cs fits = refl
  runs_as T G W w (send p r es) env packet cs fits = rw fits.3 refl

  pub all_runs_as : (T G : List ℕ → List ℕ → Type 0) (W : List ℕ → Type 0) (w : World) (b : Block) (env : Env) (packet : Packet) (cs : List ℕ) → FitsAll T G W w.context b env packet → run_all w b env packet cs ≡ ended w (visit_all w.context b env packet) cs
  all_runs_as T G W w no_stmts env packet cs fits = refl
  all_runs_as T G W w (stmt x rest) env packet cs fits =
      ap (λ r. go_on r (λ env' packet' more. run_all w rest env' packet' more)) (runs_as T G W w x env packet cs fits.0)
      ∙ on_ended w (visit w.context x env packet) cs (λ env' packet'. FitsAll T G W w.context rest env' packet') (λ env' packet' more. run_all w rest env' packet' more) (λ env' packet'. visit_all w.context rest env' packet')
      fits.1 (λ env' packet' f. all_runs_as T G W w rest env' packet' cs f)
