-- The egress run for a member: the block of the fork that ingress reached, with the member as its variable.
use Rattle.std.specs.Prelude.{◌≡◌, ℕ, suc, ◌+◌, ◌-◌, ◌^◌, ◌<◌, ◌≤◌, ◌≢◌, ◌==◌, Bool, true, false, cond, List, [], ◌∷◌, ◌++◌, slice_get, Option, Some, None, option_map, option_and_then, refl}
use Rattle.std.proofs.Common.{sym, ◌∙◌, ap, subst, inl, inr, arith, rules}
use Rattle.std.proofs.Math.Nat.{mod-eq_of_lt, div-one}
use Rattle.std.proofs.lemmas.Bool.{lt-ltb, le-leb}
use Rattle.cocoon_num.specs.Values.{Value, number, truth, equal, as_number, apply_slice}
use Rattle.cocoon_num.specs.Packets.{Packet}
use Rattle.cocoon_types.specs.Val.{Env, bound, Context}
use Rattle.p4_ir.specs.P4Tree.{p_lit, p_rid, p_meta, p_binary, p_slice, P4Stmt, field_widths, set_meta, p_if, p_return}
use Rattle.p4_ir.specs.Switch.{State, p4_value, p4_run, p4_run_all, returned, then_run, choose, setting, Running, Outcome, proceeds}
use Rattle.lowering.specs.Lower.{Counts, Variable, Callees}
use Rattle.lowering.specs.LowerBlock.{Site, LoweredBlock, lower_block}
use Rattle.lowering.specs.LowerSites.{is_return, with_return, lower_site, lower_sites}
use Rattle.p4_ir.specs.Program.{block_of}
use Rattle.lowering.specs.Agrees.{Filling, run_list, Keeps, Holds, AllMade, Long, Agree, CallsRise}
use Rattle.lowering.specs.Visit.{Visit, on, leaves, copies, nothing, visit_all}
use Rattle.lowering.specs.Ends.{IsIn, Ends, FitsAll, Sent, Numbered}
use Rattle.lowering.proofs.States.{put_here, appended, block_runs, made_first, made_second, with_meta, set_moves, keeps_same, holds_kept, long_moved}
use Rattle.lowering.proofs.Rises.{block_rises}
use Rattle.lowering.proofs.Calls.{inside_meta}
use Rattle.lowering.proofs.Blocks.{block_ends}

-- ---- `return;` at the end

abbrev returning : Option Outcome → Option Outcome
returning None = None
returning (Some (proceeds s)) = Some (returned s)
returning (Some (returned s)) = Some (returned s)

one_last : (at : Running) (x : P4Stmt) (s : State) → run_list at (cond (is_return x) (x ∷ []) (x ∷ p_return ∷ [])) s ≡ returning (run_list at (x ∷ []) s)
one_last at p_return s = refl
one_last at x s = by_ran (p4_run at x s)
  where
    by_ran : (r : Option Outcome) → then_run r (run_list at (p_return ∷ [])) ≡ returning (then_run r (run_list at []))
    by_ran None = refl
    by_ran (Some (proceeds t)) = refl
    by_ran (Some (returned t)) = refl

then_returning : (r : Option Outcome) (f g : State → Option Outcome) → ((s : State) → f s ≡ returning (g s)) → then_run r f ≡ returning (then_run r g)
then_returning None f g h = refl
then_returning (Some (proceeds s)) f g h = h s
then_returning (Some (returned s)) f g h = refl

run_return : (at : Running) (xs : List P4Stmt) (s : State) → run_list at (with_return xs) s ≡ returning (run_list at xs s)
run_return at [] s = refl
run_return at (x ∷ []) s = one_last at x s
run_return at (x ∷ y ∷ ys) s = then_returning (p4_run at x s) (run_list at (with_return (y ∷ ys))) (run_list at (y ∷ ys)) (λ t. run_return at (y ∷ ys) t)

sent_of : (fill : Filling) (context : Context) (W : List ℕ → Type 0) (at : Running) (from to : ℕ) (vars : List Variable) (sites : List Site) (s : State) (V : Visit) (r : Option Outcome) → Ends fill context W at from to vars sites s V r → Sent V (returning r)
sent_of fill context W at from to vars sites s (on env packet) r e = record { after = e.after; ran = rw e.ran refl; verdict_is = e.verdict_is }
sent_of fill context W at from to vars sites s (leaves loc packet) r e =
    record { after = e.after; ran = rw e.ran refl; verdict_is = e.verdict_is; switch = e.switch; port_is = e.port_is; packet_is = e.packet_is }
sent_of fill context W at from to vars sites s (copies f env packet) r e = tt
sent_of fill context W at from to vars sites s nothing r e = record { after = e.after; ran = rw e.ran refl; verdict_is = e.verdict_is }

-- ---- the choice

choice_is : (w c : ℕ) → 1 ≤ w → w ≤ 64 → c < 2 ^ w → option_and_then as_number (apply_slice (number 64 c) (w - 1) 0) ≡ Some c
choice_is w c low high h =
    let width : w - 1 - 0 + 1 ≡ w = omega arith in
    let inside : w - 1 < 64 = omega arith in
    rw (lt-ltb (w - 1) 64 inside, le-leb 0 (w - 1) (omega arith), width, div-one c, mod-eq_of_lt h) refl

choice_set : (out : Running) (i w c : ℕ) (s : State) → out.rid ≡ Some c → 1 ≤ w → w ≤ 64 → c < 2 ^ w → (xs : List P4Stmt) → run_list out (set_meta i (p_slice p_rid (w - 1) 0) ∷ xs) s ≡ run_list out xs (with_meta s i c)
choice_set out i w c s h low high fits xs =
    ap (λ (o : Option ℕ). then_run (setting (option_and_then (λ v. apply_slice v (w - 1) 0) (option_map (number 64) o)) (λ n. with_meta s i n)) (run_list out xs)) h
    ∙ ap (λ (o : Option ℕ). then_run (option_map (λ n. proceeds (with_meta s i n)) o) (run_list out xs)) (choice_is w c low high fits)

-- ---- one block

this_site : (at : Running) (q : ℕ) (s : State) → slice_get (field_widths at.program.meta) 0 ≡ Some 8 → slice_get s.meta 0 ≡ Some q → (k : ℕ) → p4_value at s (p_binary equal (p_meta 0) (p_lit 8 k)) ≡ Some (truth (q == k))
this_site at q s h g k = rw (h, g) refl

choose_is : (b : Bool) (v : Option Value) (x y : Option Outcome) → v ≡ Some (truth b) → choose v x y ≡ cond b x y
choose_is true v x y h = rw h refl
choose_is false v x y h = rw h refl

same_number : (n : ℕ) → (n == n) ≡ true
same_number n = search rules

pub site_sends : (out : Running) (fill : Filling) (T G : List ℕ → List ℕ → Type 0) (W : List ℕ → Type 0) (context : Context) (c : Callees) → Agree out fill T G context c
    → (site : Site) (env : Env) (packet : Packet) (n : Counts) (s : State) (rid : ℕ) → 0 < n.field → out.rid ≡ Some rid → 1 ≤ site.width → site.width ≤ 64 → rid < 2 ^ site.width
    → Holds W n.field out s site.vars env → s.packet ≡ packet → s.verdict ≡ 0 → FitsAll T G W context site.body (bound site.x (number site.width rid) env) packet
    → AllMade out fill (lower_site c n site).made → Long out s → slice_get (field_widths out.program.meta) 0 ≡ Some 8 → slice_get s.meta 0 ≡ Some site.number
    → Sent (visit_all context site.body (bound site.x (number site.width rid) env) packet) (run_list out (lower_site c n site).code s)
site_sends out fill T G W context c g site env packet n s rid low is thin wide fits holds same clear typed made long first here =
    let i : ℕ = n.field in
    let k : Counts = record { app = n.app; var = suc n.var; field = suc n.field; site = n.site } in
    let vars : List Variable = record { name = site.x; expr = p_meta i } ∷ site.vars in
    let b : LoweredBlock = lower_block c vars k site.body in
    let t : State = with_meta s i rid in
    let there : slice_get t.meta i ≡ Some rid = put_here s.meta i rid (inside_meta out s i site.width long made.0) in
    let kept : Keeps i s t = (set_moves s i i rid (omega arith)).keeps in
    let e : Ends fill context W out k.field b.next.field b.vars b.sites t (visit_all context site.body (bound site.x (number site.width rid) env) packet) (run_list out b.code t)
    = block_ends out fill T G W context c g site.body vars (bound site.x (number site.width rid) env) packet k t (omega arith)
    (refl, (λ w u l. rw (made.0, l.same i low (omega arith) ∙ there) refl), holds_kept W out i (suc i) s t site.vars env (omega arith) kept holds) same clear typed made.1
    (long_moved out i s t (set_moves s i i rid (omega arith)) long) in
    let inner : List P4Stmt = set_meta i (p_slice p_rid (site.width - 1) 0) ∷ with_return b.code in
    let run : p4_run_all out (block_of inner) s ≡ returning (run_list out b.code t) = block_runs out inner s ∙ choice_set out i site.width rid s is thin wide fits (with_return b.code) ∙ run_return out b.code t in
    let whole : p4_run out (p_if (p_binary equal (p_meta 0) (p_lit 8 site.number)) (block_of inner)) s ≡ returning (run_list out b.code t)
    = choose_is true (p4_value out s (p_binary equal (p_meta 0) (p_lit 8 site.number))) (p4_run_all out (block_of inner) s) (Some (proceeds s))
    (this_site out site.number s first here site.number ∙ ap (λ (b : Bool). Some (truth b)) (same_number site.number)) ∙ run in
    subst (λ r. Sent (visit_all context site.body (bound site.x (number site.width rid) env) packet) r) (sym (ap (λ r. then_run r (run_list out [])) whole ∙ ends_there (run_list out b.code t)))
    (sent_of fill context W out k.field b.next.field b.vars b.sites t (visit_all context site.body (bound site.x (number site.width rid) env) packet) (run_list out b.code t) e)
  where
    ends_there : (r : Option Outcome) → then_run (returning r) (run_list out []) ≡ returning r
    ends_there None = refl
    ends_there (Some (proceeds a)) = refl
    ends_there (Some (returned a)) = refl

-- ---- the block of the site that was set, among others

other_number : (q k : ℕ) → q ≢ k → (q == k) ≡ false
other_number q k h = search rules

-- a site with another number does nothing
skips : (out : Running) (site : Site) (c : Callees) (n : Counts) (s : State) (q : ℕ) (xs : List P4Stmt) → slice_get (field_widths out.program.meta) 0 ≡ Some 8 → slice_get s.meta 0 ≡ Some q → q ≢ site.number
    → run_list out ((lower_site c n site).code ++ xs) s ≡ run_list out xs s
skips out site c n s q xs first here differs =
    ap (λ r. then_run r (run_list out xs)) (choose_is false (p4_value out s (p_binary equal (p_meta 0) (p_lit 8 site.number))) _ (Some (proceeds s))
    (this_site out q s first here site.number ∙ ap (λ (b : Bool). Some (truth b)) (other_number q site.number differs)))

above : (k : ℕ) (x : Site) (xs : List Site) → Numbered k xs → IsIn x xs → k ≤ x.number
above k x [] h i = absurd i
above k x (y ∷ ys) h i = elim i [
  | inl e ↦ rw (e, h.0) (omega arith)
  | inr j ↦ omega (arith, above (suc k) x ys h.1 j)
]

-- a run that returns in its first part is the whole run
ended_early : (V : Visit) (at : Running) (r : Option Outcome) (k : State → Option Outcome) → Sent V r → Sent V (then_run r k)
ended_early (on env packet) at r k e = record { after = e.after; ran = rw e.ran refl; verdict_is = e.verdict_is }
ended_early (leaves to packet) at r k e = record { after = e.after; ran = rw e.ran refl; verdict_is = e.verdict_is; switch = e.switch; port_is = e.port_is; packet_is = e.packet_is }
ended_early (copies f env packet) at r k e = tt
ended_early nothing at r k e = record { after = e.after; ran = rw e.ran refl; verdict_is = e.verdict_is }

site_rises : (c : Callees) → CallsRise c → (x : Site) (n : Counts) → n.field ≤ (lower_site c n x).next.field
site_rises c g x n =
    omega (arith, block_rises c g x.body (record { name = x.x; expr = p_meta n.field } ∷ x.vars) (record { app = n.app; var = suc n.var; field = suc n.field; site = n.site }))

pub sites_send : (out : Running) (fill : Filling) (T G : List ℕ → List ℕ → Type 0) (W : List ℕ → Type 0) (context : Context) (c : Callees) → Agree out fill T G context c
    → (k : ℕ) (sites : List Site) (site : Site) → Numbered k sites → IsIn site sites
    → (env : Env) (packet : Packet) (n : Counts) (low : ℕ) (s : State) (rid : ℕ) → 0 < n.field → low ≤ n.field → out.rid ≡ Some rid → 1 ≤ site.width → site.width ≤ 64 → rid < 2 ^ site.width
    → Holds W low out s site.vars env → s.packet ≡ packet → s.verdict ≡ 0 → FitsAll T G W context site.body (bound site.x (number site.width rid) env) packet
    → AllMade out fill (lower_sites c n sites).made → Long out s → slice_get (field_widths out.program.meta) 0 ≡ Some 8 → slice_get s.meta 0 ≡ Some site.number
    → Sent (visit_all context site.body (bound site.x (number site.width rid) env) packet) (run_list out (lower_sites c n sites).code s)
sites_send out fill T G W context c g k [] site nums i env packet n low s rid a up is thin wide fits holds same clear typed made long first here = absurd i
sites_send out fill T G W context c g k (x ∷ xs) site nums i env packet n low s rid a up is thin wide fits holds same clear typed made long first here =
    elim i [
      | inl e ↦
          rw (appended out (lower_site c n x).code (lower_sites c (lower_site c n x).next xs).code s)
          (ended_early (visit_all context site.body (bound site.x (number site.width rid) env) packet) out (run_list out (lower_site c n x).code s) (run_list out (lower_sites c (lower_site c n x).next xs).code)
          (subst (λ (z : Site). Sent (visit_all context site.body (bound site.x (number site.width rid) env) packet) (run_list out (lower_site c n z).code s)) e
          (site_sends out fill T G W context c g site env packet n s rid a is thin wide fits (holds_kept W out low n.field s s site.vars env up (keeps_same low s) holds) same clear typed
          (subst (λ (z : Site). AllMade out fill (lower_site c n z).made) (sym e) (made_first out fill (lower_site c n x).made (lower_sites c (lower_site c n x).next xs).made made)) long first here)))
      | inr j ↦
          let higher : suc k ≤ site.number = above (suc k) site xs nums.1 j in
          let up2 : n.field ≤ (lower_site c n x).next.field = site_rises c g.rise x n in
          let differs : site.number ≢ x.number = (λ h. absurd (omega (arith, nums.0))) in
          rw (skips out x c n s site.number (lower_sites c (lower_site c n x).next xs).code first here differs)
          (sites_send out fill T G W context c g (suc k) xs site nums.1 j env packet (lower_site c n x).next low s rid (omega arith) (omega arith) is thin wide fits holds same clear typed
          (made_second out fill (lower_site c n x).made (lower_sites c (lower_site c n x).next xs).made made) long first here)
    ]
