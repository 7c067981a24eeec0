-- Runs by what is given of functions and runs under definitions are the same, and end with what fits. So do runs in which
-- each number that is set has to fit its field.
use Rattle.std.proofs.Common.{◌≡◌, ℕ, ◌<◌, ◌^◌, List, [], ◌∷◌, Bool, true, false, Option, Some, None, if◌then◌else◌, option_map, option_and_then, refl, sym, ap, subst, ◌∙◌}
use Rattle.std.proofs.lemmas.Bool.{lt-ltb, ltb-true}
use Rattle.cocoon_num.specs.PacketForms.{FieldsFit, PacketFits}
use Rattle.cocoon_num.specs.Packets.{Packet}
use Rattle.cocoon_num.specs.Sorts.{Sort, bits_sort, truth_sort, is_declared_width}
use Rattle.cocoon_num.specs.Tree.{Name, Expr, Exprs, no_exprs, expr, Stmt, let_, set_field, if_, filter, havoc_var, havoc_field, assume, fork, send, Block, no_stmts, stmt, Param, Role, HeaderDecl, Design}
use Rattle.cocoon_num.specs.Values.{Value, number, truth, as_number, fits_width, with_both}
use Rattle.cocoon_types.specs.Design.{field_width, functions, layout, role_at, widths_of, write_field}
use Rattle.cocoon_types.specs.Runs.{Loc, World, End, falls, sends, back_to}
use Rattle.cocoon_types.specs.Taken.{Ended, Reached, after, back, body_go, by_truth, go, go_on, guard_at, if_reached, if_true, only_sends, reached, run, run_all, take_one, where_true}
use Rattle.cocoon_types.specs.Val.{Env, bind, bound, value, numbers}
use Rattle.role_values.specs.FittingRuns.{fitting_all, fitting_body, fitting_go, fitting_run, take_declared}
use Rattle.role_values.specs.Written.{written}
use Rattle.sound_types.specs.Ends.{EndFits, LocFits, ReachFits, RunFits, after_block}
use Rattle.sound_types.specs.Matching.{Binds, IsOfSort, Matches}
use Rattle.sound_types.specs.WellTyped.{HasType, HaveWidths, IsTyped, IsTypedRole, IsTypedStmt, scope_at}
use Rattle.sound_types.proofs.Bodies.{after_scope, after_vars}
use Rattle.sound_types.proofs.Expressions.{expression_value}
use Rattle.sound_types.proofs.Fields.{written_fits}
use Rattle.sound_types.proofs.Functions.{HaveValues}
use Rattle.sound_types.proofs.Levels.{role_in, roles_to}
use Rattle.sound_types.proofs.Members.{In}
use Rattle.sound_types.proofs.Values.{number_there, value_there}
use Rattle.sound_types.proofs.Variables.{bind_value}

-- ---- results that are the same

-- three results are one, and it holds of that
pub record Alike {X : Type 0} (P : X → Type 0) (f x y : X) : Type 0 where
  pub fitting : f ≡ x
  pub same : x ≡ y
  pub holds : P x

alike_map : {X Y : Type 0} (P : X → Type 0) (Q : Y → Type 0) (g : X → Y) (f x y : X) → ((z : X) → P z → Q (g z)) → Alike P f x y → Alike Q (g f) (g x) (g y)
alike_map P Q g f x y h a = record { fitting = ap g a.fitting; same = ap g a.same; holds = h x a.holds }

-- all are this
alike_to : {X : Type 0} (P : X → Type 0) (f x y z : X) → f ≡ z → x ≡ z → y ≡ z → P z → Alike P f x y
alike_to P f x y z p q r h = record { fitting = p ∙ sym q; same = q ∙ sym r; holds = subst P (sym q) h }

-- each is another
alike_as : {X : Type 0} (P : X → Type 0) (f x y g u v : X) → f ≡ g → x ≡ u → y ≡ v → Alike P g u v → Alike P f x y
alike_as P f x y g u v p q r a = record { fitting = p ∙ a.fitting ∙ sym q; same = q ∙ a.same ∙ sym r; holds = subst P (sym q) a.holds }

-- ---- two ways to give functions

-- what runs at a level are in
abbrev pub world_with : ℕ → Design → (List ℕ → List ℕ → Option Value) → World
world_with i d a = record { context = record { headers = d.headers; apply = a }; role = role_at i d }

-- By the first way all functions have values of their types, and what expressions give, they give by the second. Roles are
-- well typed.
pub record Agree (i : ℕ) (d : Design) (a b : List ℕ → List ℕ → Option Value) : Type 0 where
  pub have : HaveValues (functions d) a
  pub up : (env : Env) (packet : Packet) (e : Expr) (v : Value) → value (record { headers = d.headers; apply = a }) env packet e ≡ Some v → value (record { headers = d.headers; apply = b }) env packet e ≡ Some v
  pub roles : (r : Role) → In r (roles_to i d) → IsTypedRole d i r

-- the value of an expression, both ways
both_values : (i : ℕ) (d : Design) (a b : List ℕ → List ℕ → Option Value) → Agree i d a b → (vars : List Param) (there : Bool) (env : Env) (packet : Packet) → Matches (scope_at d i vars there) env packet → (t : Sort) (e : Expr)
    → HasType (scope_at d i vars there) t e
    → (v : Value) × (value (world_with i d a).context env packet e ≡ Some v) × (value (world_with i d b).context env packet e ≡ Some v) × IsOfSort t v
both_values i d a b g vars there env packet m t e h =
    let v = value_there t (value (world_with i d a).context env packet e) (expression_value (scope_at d i vars there) a g.have env packet m t e h) in
    (v.0, v.1, g.up env packet e v.0 v.1, v.2)

truth_of : (v : Value) → IsOfSort truth_sort v → (c : Bool) × (v ≡ truth c)
truth_of (number w n) h = absurd h
truth_of (truth c) h = (c, refl)

both_truths : (i : ℕ) (d : Design) (a b : List ℕ → List ℕ → Option Value) → Agree i d a b → (vars : List Param) (there : Bool) (env : Env) (packet : Packet) → Matches (scope_at d i vars there) env packet → (e : Expr)
    → HasType (scope_at d i vars there) truth_sort e
    → (c : Bool) × (value (world_with i d a).context env packet e ≡ Some (truth c)) × (value (world_with i d b).context env packet e ≡ Some (truth c))
both_truths i d a b g vars there env packet m e h =
    let v = both_values i d a b g vars there env packet m truth_sort e h in
    let c = truth_of v.0 v.3 in
    (c.0, v.1 ∙ ap Some c.1, v.2 ∙ ap Some c.1)

both_numbers : (i : ℕ) (d : Design) (a b : List ℕ → List ℕ → Option Value) → Agree i d a b → (vars : List Param) (there : Bool) (env : Env) (packet : Packet) → Matches (scope_at d i vars there) env packet → (ws : List ℕ) (es : Exprs)
    → HaveWidths (scope_at d i vars there) ws es
    → (ns : List ℕ) × (numbers (world_with i d a).context env packet es ≡ Some ns) × (numbers (world_with i d b).context env packet es ≡ Some ns) × FieldsFit ws ns
both_numbers i d a b g vars there env packet m [] no_exprs h = ([], refl, refl, tt)
both_numbers i d a b g vars there env packet m [] (expr e es) h = absurd h
both_numbers i d a b g vars there env packet m (w ∷ ws) no_exprs h = absurd h
both_numbers i d a b g vars there env packet m (w ∷ ws) (expr e es) h =
    let v = both_values i d a b g vars there env packet m (bits_sort w) e h.0 in
    let n = number_there w (Some v.0) v.3 in
    let ns = both_numbers i d a b g vars there env packet m ws es h.1 in (
      n.0 ∷ ns.0,
      (λ k. with_both (λ x xs. Some (x ∷ xs)) ((ap (option_and_then as_number) v.1 ∙ n.1) k) (ns.1 k)),
      (λ k. with_both (λ x xs. Some (x ∷ xs)) ((ap (option_and_then as_number) v.2 ∙ n.1) k) (ns.2 k)),
      (n.2, ns.3),
    )

-- the guard of a location that fits
pub both_guards : (i : ℕ) (d : Design) (a b : List ℕ → List ℕ → Option Value) → Agree i d a b → (at : Loc) → LocFits i d at
    → (c : Bool) × (guard_at (world_with i d a) at ≡ Some (truth c)) × (guard_at (world_with i d b) at ≡ Some (truth c))
both_guards i d a b g at h =
    let r = h.0 in
    let env = bind_value r.params at.values h.2 in
    let guard = (g.roles r (role_in i d at.role r h.1).0).guard in
    let c = both_truths i d a b g r.params false env.0 [] (record { variables = env.2; packet_fits = λ e. absurd (cc) }) r.guard guard in
    let w : World = world_with i d a in
    let u : World = world_with i d b in (
      c.0,
      (λ k. option_and_then (λ (x : Role). option_and_then (λ v. value w.context v [] x.guard) (bind x.params at.values)) (h.1 k)) ∙ ap (option_and_then (λ v. value w.context v [] r.guard)) env.1 ∙ c.1,
      (λ k. option_and_then (λ (x : Role). option_and_then (λ v. value u.context v [] x.guard) (bind x.params at.values)) (h.1 k)) ∙ ap (option_and_then (λ v. value u.context v [] r.guard)) env.1 ∙ c.2,
    )

-- ---- parts of runs

-- by a truth value
alike_where : (P : Ended → Type 0) (v u : Option Value) (c : Bool) (f x y : Ended) → v ≡ Some (truth c) → u ≡ Some (truth c) → P None → Alike P f x y → Alike P (where_true v f) (where_true v x) (where_true u y)
alike_where P v u c f x y p q none h =
    alike_as P (where_true v f) (where_true v x) (where_true u y) (where_true (Some (truth c)) f) (where_true (Some (truth c)) x) (where_true (Some (truth c)) y)
    (ap (λ o. where_true o f) p) (ap (λ o. where_true o x) p) (ap (λ o. where_true o y) q) (by_case c)
  where
    by_case : (c' : Bool) → Alike P (where_true (Some (truth c')) f) (where_true (Some (truth c')) x) (where_true (Some (truth c')) y)
    by_case true = h
    by_case false = record { fitting = refl; same = refl; holds = none }

alike_either : (P : Ended → Type 0) (v u : Option Value) (c : Bool) (f x y f' x' y' : Ended) → v ≡ Some (truth c) → u ≡ Some (truth c) → Alike P f x y → Alike P f' x' y'
    → Alike P (by_truth v f f') (by_truth v x x') (by_truth u y y')
alike_either P v u c f x y f' x' y' p q h k =
    alike_as P (by_truth v f f') (by_truth v x x') (by_truth u y y') (by_truth (Some (truth c)) f f') (by_truth (Some (truth c)) x x') (by_truth (Some (truth c)) y y')
    (ap (λ o. by_truth o f f') p) (ap (λ o. by_truth o x x') p) (ap (λ o. by_truth o y y') q) (by_case c)
  where
    by_case : (c' : Bool) → Alike P (by_truth (Some (truth c')) f f') (by_truth (Some (truth c')) x x') (by_truth (Some (truth c')) y y')
    by_case true = h
    by_case false = k

-- by a choice that fits
abbrev Next : Type 0
Next = ℕ → List ℕ → Ended

alike_one : (P : Ended → Type 0) (w : ℕ) (cs : List ℕ) (f x y : Next) → P None → ((c : ℕ) (rest : List ℕ) → c < 2 ^ w → Alike P (f c rest) (x c rest) (y c rest)) → Alike P (take_one w cs f) (take_one w cs x) (take_one w cs y)
alike_one P w [] f x y none h = record { fitting = refl; same = refl; holds = none }
alike_one P w (c ∷ cs) f x y none h = by_case (fits_width w c) refl
  where
    by_case : (b : Bool) → fits_width w c ≡ b → Alike P (if b then f c cs else None) (if b then x c cs else None) (if b then y c cs else None)
    by_case true e = h c cs (ltb-true c (2 ^ w) e)
    by_case false e = record { fitting = refl; same = refl; holds = none }

alike_declared : (P : Ended → Type 0) (w : ℕ) (cs : List ℕ) (f x y : Next) → is_declared_width w ≡ true → Alike P (take_one w cs f) (take_one w cs x) (take_one w cs y) → Alike P (take_declared w cs f) (take_one w cs x) (take_one w cs y)
alike_declared P w cs f x y e h =
    alike_as P (take_declared w cs f) (take_one w cs x) (take_one w cs y) (take_one w cs f) (take_one w cs x) (take_one w cs y) (ap (λ b. if b then take_one w cs f else None) e) refl refl h

-- ---- ends

-- where it sends, it fits
abbrev SendFits : ℕ → Design → Loc → Packet → Type 0
SendFits i d to packet = LocFits i d to × PacketFits (layout d) packet

-- the end of a branch
back_fits : (i : ℕ) (d : Design) (inner vars : List Param) (env : Env) → Binds vars env → (r : Ended) → RunFits (scope_at d i inner true) r → RunFits (scope_at d i vars true) (back env r)
back_fits i d inner vars env b None h = tt
back_fits i d inner vars env b (Some r) h = of_end r.0 h
  where
    of_end : (e : End) → EndFits (scope_at d i inner true) e → EndFits (scope_at d i vars true) (back_to env e)
    of_end (falls env' packet) k = record { variables = b; packet_fits = k.packet_fits }
    of_end (sends to packet) k = k

-- an end that sends
sent_fits : (i : ℕ) (d : Design) (inner vars : List Param) (r : Ended) → RunFits (scope_at d i inner true) r → RunFits (scope_at d i vars true) (only_sends r)
sent_fits i d inner vars None h = tt
sent_fits i d inner vars (Some r) h = of_end r.0 r.1 h
  where
    of_end : (e : End) (cs : List ℕ) → EndFits (scope_at d i inner true) e → RunFits (scope_at d i vars true) (only_sends (Some (e, cs)))
    of_end (falls env packet) cs k = tt
    of_end (sends to packet) cs k = k

-- where it leads
reach_fits : (i : ℕ) (d : Design) (vars : List Param) (r : Ended) → RunFits (scope_at d i vars true) r → ReachFits i d (if_reached r)
reach_fits i d vars None h = tt
reach_fits i d vars (Some r) h = of_end r.0 r.1 h
  where
    of_end : (e : End) (cs : List ℕ) → EndFits (scope_at d i vars true) e → ReachFits i d (reached e cs)
    of_end (falls env packet) cs k = tt
    of_end (sends to packet) cs k = k

-- what follows a statement
abbrev More : Type 0
More = Env → Packet → List ℕ → Ended

alike_on : (i : ℕ) (d : Design) (mid vars : List Param) (f x y : More) (r : Ended) → RunFits (scope_at d i mid true) r
    → ((env : Env) (packet : Packet) (cs : List ℕ) → Matches (scope_at d i mid true) env packet → Alike (RunFits (scope_at d i vars true)) (f env packet cs) (x env packet cs) (y env packet cs))
    → Alike (RunFits (scope_at d i vars true)) (go_on r f) (go_on r x) (go_on r y)
alike_on i d mid vars f x y None h k = record { fitting = refl; same = refl; holds = tt }
alike_on i d mid vars f x y (Some r) h k = of_end r.0 r.1 h
  where
    of_end : (e : End) (cs : List ℕ) → EndFits (scope_at d i mid true) e → Alike (RunFits (scope_at d i vars true)) (after e cs f) (after e cs x) (after e cs y)
    of_end (falls env packet) cs m = k env packet cs m
    of_end (sends to packet) cs m = record { fitting = refl; same = refl; holds = m }

-- the variables after a block
abbrev pub block_vars : Block → List Param → List Param
block_vars no_stmts ps = ps
block_vars (stmt first rest) ps = block_vars rest (after_vars first ps)

pub after_block_is : (i : ℕ) (d : Design) (b : Block) (ps : List Param) → after_block b (scope_at d i ps true) ≡ scope_at d i (block_vars b ps) true
after_block_is i d no_stmts ps = refl
after_block_is i d (stmt first rest) ps = ap (after_block rest) (after_scope first (scope_at d i ps true)) ∙ after_block_is i d rest (after_vars first ps)

-- ---- statements and blocks

written_there : (hs : List HeaderDecl) (packet : Packet) (h f : List ℕ) (w n : ℕ) → field_width hs h f ≡ Some w → n < 2 ^ w → written hs packet h f n ≡ Some (write_field hs packet h f n)
written_there hs packet h f w n e l =
    ap (option_and_then (λ width. if fits_width width n then Some (write_field hs packet h f n) else None)) e ∙ ap (λ b. if b then Some (write_field hs packet h f n) else None) (lt-ltb n (2 ^ w) l)

-- one more variable
binds_more : (i : ℕ) (d : Design) (vars : List Param) (env : Env) (packet : Packet) (x : Name) (w : ℕ) (v : Value) → Matches (scope_at d i vars true) env packet → IsOfSort (bits_sort w) v
    → Matches (scope_at d i (record { name = x; width = w } ∷ vars) true) (bound x.text v env) packet
binds_more i d vars env packet x w v m h = record { variables = (refl, h, m.variables); packet_fits = m.packet_fits }

-- the packet with a field set
matches_set : (i : ℕ) (d : Design) (vars : List Param) (env : Env) (packet : Packet) (h f : List ℕ) (w n : ℕ) → Matches (scope_at d i vars true) env packet → n < 2 ^ w → field_width d.headers h f ≡ Some w
    → Matches (scope_at d i vars true) env (write_field d.headers packet h f n)
matches_set i d vars env packet h f w n m l e = record { variables = m.variables; packet_fits = λ t. written_fits d.headers packet (m.packet_fits t) h f w n l e }

-- a condition
tested : (i : ℕ) (d : Design) (a b : List ℕ → List ℕ → Option Value) → Agree i d a b → (vars : List Param) (e : Expr) → HasType (scope_at d i vars true) truth_sort e
    → (env : Env) (packet : Packet) (cs : List ℕ) → Matches (scope_at d i vars true) env packet
    → Alike (RunFits (scope_at d i vars true)) (where_true (value (world_with i d a).context env packet e) (Some (falls env packet, cs))) (where_true (value (world_with i d a).context env packet e) (Some (falls env packet, cs)))
    (where_true (value (world_with i d b).context env packet e) (Some (falls env packet, cs)))
tested i d a b g vars e h env packet cs m =
    let c = both_truths i d a b g vars true env packet m e h in
    alike_where (RunFits (scope_at d i vars true)) (value (world_with i d a).context env packet e) (value (world_with i d b).context env packet e) c.0
    (Some (falls env packet, cs)) (Some (falls env packet, cs)) (Some (falls env packet, cs)) c.1 c.2 tt (record { fitting = refl; same = refl; holds = m })

mutual
  stmt_alike : (i : ℕ) (d : Design) (a b : List ℕ → List ℕ → Option Value) → Agree i d a b → (st : Stmt) (vars : List Param) → IsTypedStmt (scope_at d i vars true) st
      → (env : Env) (packet : Packet) (cs : List ℕ) → Matches (scope_at d i vars true) env packet
      → Alike (RunFits (scope_at d i (after_vars st vars) true)) (fitting_run (world_with i d a) st env packet cs) (run (world_with i d a) st env packet cs) (run (world_with i d b) st env packet cs)
  stmt_alike i d a b g (let_ at x w e) vars h env packet cs m =
      let v = both_values i d a b g vars true env packet m (bits_sort w) e h.1 in
      let F : Option Value → Ended = option_map (λ u. (falls (bound x.text u env) packet, cs)) in
      let va = value (world_with i d a).context env packet e in
      let vb = value (world_with i d b).context env packet e in
      alike_to (RunFits (scope_at d i (record { name = x; width = w } ∷ vars) true)) (F va) (F va) (F vb) (F (Some v.0)) (ap F v.1) (ap F v.1) (ap F v.2) (binds_more i d vars env packet x w v.0 m v.3)
  stmt_alike i d a b g (set_field at x f e) vars h env packet cs m =
      let v = both_values i d a b g vars true env packet m (bits_sort h.0) e h.2 in
      let n = number_there h.0 (Some v.0) v.3 in
      let va = value (world_with i d a).context env packet e in
      let vb = value (world_with i d b).context env packet e in
      let Set : Packet → Ended = λ set. Some (falls env set, cs) in
      let F : Option ℕ → Ended = λ o. option_map (λ set. (falls env set, cs)) (option_and_then (written d.headers packet x.text f.text) o) in
      let X : Option ℕ → Ended = option_map (λ k. (falls env (write_field d.headers packet x.text f.text k), cs)) in
      let na : option_and_then as_number va ≡ Some n.0 = ap (option_and_then as_number) v.1 ∙ n.1 in
      let nb : option_and_then as_number vb ≡ Some n.0 = ap (option_and_then as_number) v.2 ∙ n.1 in
      alike_to (RunFits (scope_at d i vars true)) (F (option_and_then as_number va)) (X (option_and_then as_number va)) (X (option_and_then as_number vb)) (Set (write_field d.headers packet x.text f.text n.0))
      (ap F na ∙ ap (option_map (λ set. (falls env set, cs))) (written_there d.headers packet x.text f.text h.0 n.0 h.1 n.2)) (ap X na) (ap X nb)
      (matches_set i d vars env packet x.text f.text h.0 n.0 m n.2 h.1)
  stmt_alike i d a b g (if_ at e first second) vars h env packet cs m =
      let c = both_truths i d a b g vars true env packet m e h.0 in
      let va = value (world_with i d a).context env packet e in
      let vb = value (world_with i d b).context env packet e in
      let P : Ended → Type 0 = λ r. RunFits (scope_at d i vars true) (back env r) in
      let one = alike_map (RunFits (scope_at d i (block_vars first vars) true)) P (λ r. r) (fitting_all (world_with i d a) first env packet cs) (run_all (world_with i d a) first env packet cs) (run_all (world_with i d b) first env packet cs)
      (back_fits i d (block_vars first vars) vars env m.variables) (block_alike i d a b g first vars h.1 env packet cs m) in
      let two = alike_map (RunFits (scope_at d i (block_vars second vars) true)) P (λ r. r) (fitting_all (world_with i d a) second env packet cs) (run_all (world_with i d a) second env packet cs) (run_all (world_with i d b) second env packet cs)
      (back_fits i d (block_vars second vars) vars env m.variables) (block_alike i d a b g second vars h.2 env packet cs m) in
      let both = alike_either P va vb c.0 (fitting_all (world_with i d a) first env packet cs) (run_all (world_with i d a) first env packet cs) (run_all (world_with i d b) first env packet cs)
      (fitting_all (world_with i d a) second env packet cs) (run_all (world_with i d a) second env packet cs) (run_all (world_with i d b) second env packet cs) c.1 c.2 one two in
      alike_map P (RunFits (scope_at d i vars true)) (back env) (by_truth va (fitting_all (world_with i d a) first env packet cs) (fitting_all (world_with i d a) second env packet cs))
      (by_truth va (run_all (world_with i d a) first env packet cs) (run_all (world_with i d a) second env packet cs)) (by_truth vb (run_all (world_with i d b) first env packet cs) (run_all (world_with i d b) second env packet cs)) (λ r k. k) both
  stmt_alike i d a b g (filter at e) vars h env packet cs m = tested i d a b g vars e h env packet cs m
  stmt_alike i d a b g (havoc_var at x w) vars h env packet cs m =
      let P = RunFits (scope_at d i (record { name = x; width = w } ∷ vars) true) in
      let F : Next = λ c rest. Some (falls (bound x.text (number w c) env) packet, rest) in
      alike_declared P w cs F F F h (alike_one P w cs F F F tt (λ c rest l. record { fitting = refl; same = refl; holds = binds_more i d vars env packet x w (number w c) m (refl, l) }))
  stmt_alike i d a b g (havoc_field at x f) vars h env packet cs m =
      let P = RunFits (scope_at d i vars true) in
      let F : Next = λ c rest. Some (falls env (write_field d.headers packet x.text f.text c), rest) in
      let X : Option ℕ → Ended = option_and_then (λ width. take_one width cs F) in
      let o = field_width d.headers x.text f.text in
      alike_as P (X o) (X o) (X o) (X (Some h.0)) (X (Some h.0)) (X (Some h.0)) (ap X h.1) (ap X h.1) (ap X h.1)
      (alike_one P h.0 cs F F F tt (λ c rest l. record { fitting = refl; same = refl; holds = matches_set i d vars env packet x.text f.text h.0 c m l h.1 }))
  stmt_alike i d a b g (assume at e) vars h env packet cs m = tested i d a b g vars e h env packet cs m
  stmt_alike i d a b g (fork at x w e body) vars h env packet cs m =
      let P = RunFits (scope_at d i vars true) in
      let more = record { name = x; width = w } ∷ vars in
      let va : ℕ → Option Value = λ c. value (world_with i d a).context (bound x.text (number w c) env) packet e in
      let vb : ℕ → Option Value = λ c. value (world_with i d b).context (bound x.text (number w c) env) packet e in
      let F : Next = λ c rest. where_true (va c) (only_sends (fitting_all (world_with i d a) body (bound x.text (number w c) env) packet rest)) in
      let X : Next = λ c rest. where_true (va c) (only_sends (run_all (world_with i d a) body (bound x.text (number w c) env) packet rest)) in
      let Y : Next = λ c rest. where_true (vb c) (only_sends (run_all (world_with i d b) body (bound x.text (number w c) env) packet rest)) in
      alike_declared P w cs F X Y h.0 (alike_one P w cs F X Y tt (λ c rest l.
      let with = bound x.text (number w c) env in
      let n = binds_more i d vars env packet x w (number w c) m (refl, l) in
      let t = both_truths i d a b g more true with packet n e h.1 in
      let f = fitting_all (world_with i d a) body with packet rest in
      let r = run_all (world_with i d a) body with packet rest in
      let q = run_all (world_with i d b) body with packet rest in
      alike_where P (va c) (vb c) t.0 (only_sends f) (only_sends r) (only_sends q) t.1 t.2 tt
      (alike_map (RunFits (scope_at d i (block_vars body more) true)) P only_sends f r q (sent_fits i d (block_vars body more) vars) (block_alike i d a b g body more h.2 with packet rest n))))
  stmt_alike i d a b g (send at r es) vars h env packet cs m =
      let P = RunFits (scope_at d i vars true) in
      let ns = both_numbers i d a b g vars true env packet m (widths_of h.0.params) es h.2 in
      let to : List ℕ → Loc = λ xs. record { role = r.text; values = xs } in
      let fits : LocFits i d (to ns.0) = (h.0, h.1, ns.3) in
      let t = both_guards i d a b g (to ns.0) fits in
      let Z : List ℕ → Ended = λ xs. Some (sends (to xs) packet, cs) in
      let X : Option (List ℕ) → Ended = option_and_then (λ xs. where_true (guard_at (world_with i d a) (to xs)) (Z xs)) in
      let Y : Option (List ℕ) → Ended = option_and_then (λ xs. where_true (guard_at (world_with i d b) (to xs)) (Z xs)) in
      let na = numbers (world_with i d a).context env packet es in
      let nb = numbers (world_with i d b).context env packet es in
      alike_as P (X na) (X na) (Y nb) (X (Some ns.0)) (X (Some ns.0)) (Y (Some ns.0)) (ap X ns.1) (ap X ns.1) (ap Y ns.2)
      (alike_where P (guard_at (world_with i d a) (to ns.0)) (guard_at (world_with i d b) (to ns.0)) t.0 (Z ns.0) (Z ns.0) (Z ns.0) t.1 t.2 tt
      (record { fitting = refl; same = refl; holds = (fits, m.packet_fits refl) }))

  pub block_alike : (i : ℕ) (d : Design) (a b : List ℕ → List ℕ → Option Value) → Agree i d a b → (block : Block) (vars : List Param) → IsTyped (scope_at d i vars true) block
      → (env : Env) (packet : Packet) (cs : List ℕ) → Matches (scope_at d i vars true) env packet
      → Alike (RunFits (scope_at d i (block_vars block vars) true)) (fitting_all (world_with i d a) block env packet cs) (run_all (world_with i d a) block env packet cs) (run_all (world_with i d b) block env packet cs)
  block_alike i d a b g no_stmts vars h env packet cs m = record { fitting = refl; same = refl; holds = m }
  block_alike i d a b g (stmt first rest) vars h env packet cs m =
      let mid = after_vars first vars in
      let later : IsTyped (scope_at d i mid true) rest = subst (λ s. IsTyped s rest) (after_scope first (scope_at d i vars true)) h.1 in
      let one = stmt_alike i d a b g first vars h.0 env packet cs m in
      let f = fitting_run (world_with i d a) first env packet cs in
      let r = run (world_with i d a) first env packet cs in
      let q = run (world_with i d b) first env packet cs in
      let F : More = λ env' packet' more. fitting_all (world_with i d a) rest env' packet' more in
      let X : More = λ env' packet' more. run_all (world_with i d a) rest env' packet' more in
      let Y : More = λ env' packet' more. run_all (world_with i d b) rest env' packet' more in
      alike_as (RunFits (scope_at d i (block_vars rest mid) true)) (go_on f F) (go_on r X) (go_on q Y) (go_on r F) (go_on r X) (go_on r Y)
      (ap (λ o. go_on o F) one.fitting) refl (ap (λ o. go_on o Y) (sym one.same))
      (alike_on i d mid (block_vars rest mid) F X Y r one.holds (λ env' packet' more n. block_alike i d a b g rest mid later env' packet' more n))

-- ---- bodies

body_alike : (i : ℕ) (d : Design) (a b : List ℕ → List ℕ → Option Value) → Agree i d a b → (r : Role) (o : Option Block) → r.body ≡ o → IsTypedRole d i r → (at : Loc) → FieldsFit (widths_of r.params) at.values
    → (packet : Packet) (cs : List ℕ) → PacketFits (layout d) packet
    → Alike (ReachFits i d) (fitting_body (world_with i d a) r o at packet cs) (body_go (world_with i d a) r o at packet cs) (body_go (world_with i d b) r o at packet cs)
body_alike i d a b g r None is t at h packet cs fits = record { fitting = refl; same = refl; holds = tt }
body_alike i d a b g r (Some block) is t at h packet cs fits =
    let env = bind_value r.params at.values h in
    let one = block_alike i d a b g block r.params (t.body block is) env.0 packet cs (record { variables = env.2; packet_fits = λ e. fits }) in
    let F : Option Env → Reached = option_and_then (λ v. if_reached (fitting_all (world_with i d a) block v packet cs)) in
    let X : Option Env → Reached = option_and_then (λ v. if_reached (run_all (world_with i d a) block v packet cs)) in
    let Y : Option Env → Reached = option_and_then (λ v. if_reached (run_all (world_with i d b) block v packet cs)) in
    let o = bind r.params at.values in
    alike_as (ReachFits i d) (F o) (X o) (Y o) (F (Some env.0)) (X (Some env.0)) (Y (Some env.0)) (ap F env.1) (ap X env.1) (ap Y env.1)
    (alike_map (RunFits (scope_at d i (block_vars block r.params) true)) (ReachFits i d) if_reached (fitting_all (world_with i d a) block env.0 packet cs) (run_all (world_with i d a) block env.0 packet cs)
    (run_all (world_with i d b) block env.0 packet cs) (reach_fits i d (block_vars block r.params)) one)

alike_true : (P : Reached → Type 0) (v u : Option Value) (c : Bool) (f x y : Reached) → v ≡ Some (truth c) → u ≡ Some (truth c) → P None → Alike P f x y → Alike P (if_true v f) (if_true v x) (if_true u y)
alike_true P v u c f x y p q none h =
    alike_as P (if_true v f) (if_true v x) (if_true u y) (if_true (Some (truth c)) f) (if_true (Some (truth c)) x) (if_true (Some (truth c)) y)
    (ap (λ o. if_true o f) p) (ap (λ o. if_true o x) p) (ap (λ o. if_true o y) q) (by_case c)
  where
    by_case : (c' : Bool) → Alike P (if_true (Some (truth c')) f) (if_true (Some (truth c')) x) (if_true (Some (truth c')) y)
    by_case true = h
    by_case false = record { fitting = refl; same = refl; holds = none }

-- a body's run from a location that fits
pub go_alike : (i : ℕ) (d : Design) (a b : List ℕ → List ℕ → Option Value) → Agree i d a b → (at : Loc) → LocFits i d at → (packet : Packet) (cs : List ℕ) → PacketFits (layout d) packet
    → Alike (ReachFits i d) (fitting_go (world_with i d a) at packet cs) (go (world_with i d a) at packet cs) (go (world_with i d b) at packet cs)
go_alike i d a b g at h packet cs fits =
    let r = h.0 in
    let c = both_guards i d a b g at h in
    let one = body_alike i d a b g r r.body refl (g.roles r (role_in i d at.role r h.1).0) at h.2 packet cs fits in
    let F : Option Role → Reached = option_and_then (λ (x : Role). fitting_body (world_with i d a) x x.body at packet cs) in
    let X : Option Role → Reached = option_and_then (λ (x : Role). body_go (world_with i d a) x x.body at packet cs) in
    let Y : Option Role → Reached = option_and_then (λ (x : Role). body_go (world_with i d b) x x.body at packet cs) in
    let o = role_at i d at.role in
    alike_true (ReachFits i d) (guard_at (world_with i d a) at) (guard_at (world_with i d b) at) c.0 (F o) (X o) (Y o) c.1 c.2 tt
    (alike_as (ReachFits i d) (F o) (X o) (Y o) (F (Some r)) (X (Some r)) (Y (Some r)) (ap F h.1) (ap X h.1) (ap Y h.1) one)
