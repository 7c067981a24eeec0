-- The code of a block ends as the block's visit does.
use Rattle.std.specs.Prelude.{◌≡◌, ℕ, zero, suc, ◌<◌, ◌≤◌, Bool, true, false, cond, List, [], ◌∷◌, ◌++◌, length, slice_get, Option, Some, None, option_map, option_and_then, refl}
use Rattle.std.proofs.Common.{sym, ◌∙◌, ap, subst, inl, inr, arith}
use Rattle.cocoon_num.specs.Values.{Value, number, truth, as_number}
use Rattle.cocoon_num.specs.Tree.{Param, Expr, HeaderDecl, Stmt, Block, let_, set_field, if_, filter, havoc_var, havoc_field, assume, fork, send, no_stmts, stmt}
use Rattle.cocoon_num.specs.Names.{same_name}
use Rattle.cocoon_num.specs.Packets.{Packet}
use Rattle.cocoon_types.specs.Design.{read_in, write_in, read_field, write_field}
use Rattle.cocoon_types.specs.Val.{Env, bound, value, numbers, Context}
use Rattle.p4_ir.specs.P4Tree.{P4Expr, p_port, p_meta, P4Stmt, field_widths, set_meta, set_header}
use Rattle.p4_ir.specs.Switch.{State, p4_value, p4_run, returned, then_run, setting, set_in_header, Running, Outcome, proceeds}
use Rattle.std.specs.List.{slice_set}
use Rattle.lowering.specs.Lower.{then_called, Counts, Variable, Lowered, LoweredAll, Callees, lower_expr, lower_exprs, place_in, header_place, field_place}
use Rattle.lowering.specs.LowerBlock.{Site, forked, fork_args, fork_function, in_block, ports_kept, for_port, copy_code, LoweredBlock, lower_stmt, lower_block, if_stmt, filter_code, send_code, second_of}
use Rattle.lowering.specs.Agrees.{run_list, Keeps, Moves, Holds, ReadsAs, NumbersAt, Reaches, ReachesAll, AllMade, Filling, Long, EitherOf, Agree}
use Rattle.lowering.specs.Visit.{Forked, Visit, on, leaves, copies, nothing, then_visit, back_in, visit, visit_all}
use Rattle.lowering.specs.Ends.{IsIn, Copies, GoesOn, Ends, Onward, Fits, FitsAll}
use Rattle.lowering.proofs.States.{put_here, run_both, appended, block_runs, made_first, made_second, keeps_both, keeps_same, moves_same, moves_both, holds_kept, long_moved, with_meta, set_moves, site_keeps}
use Rattle.lowering.proofs.Expressions.{expr_reaches, exprs_reach}
use Rattle.lowering.proofs.Rises.{block_rises, stmt_rises}
use Rattle.lowering.proofs.Calls.{inside_meta}

-- ---- a field is set

abbrev put_head : Option (List ℕ) → Packet → ℕ → ℕ → ℕ → Packet
put_head o packet h f n = elim o [ None ↦ packet | Some ns ↦ slice_set packet h (slice_set ns f n) ]

in_write : (b : Bool) (ns : List ℕ) (m n i : ℕ) (x y : Option Value) (v : Value) (rest : List ℕ) → (y ≡ Some v → rest ≡ slice_set ns i n) → cond b x y ≡ Some v
    → cond b (n ∷ ns) (m ∷ rest) ≡ slice_set (m ∷ ns) (cond b zero (suc i)) n
in_write true ns m n i x y v rest h e = refl
in_write false ns m n i x y v rest h e = ap (λ r. m ∷ r) (h e)

written_in : (ps : List Param) (ns : List ℕ) (f : List ℕ) (n : ℕ) (v : Value) → read_in ps ns f ≡ Some v → write_in ps ns f n ≡ slice_set ns (place_in ps f) n
written_in [] ns f n v e = absurd cc
written_in (p ∷ ps) [] f n v e = absurd cc
written_in (p ∷ ps) (m ∷ ns) f n v e = in_write (same_name f p.name.text) ns m n (place_in ps f) (Some (number p.width m)) (read_in ps ns f) v (write_in ps ns f n) (written_in ps ns f n v) e

deeper : (o : Option (List ℕ)) (ns : List ℕ) (packet : Packet) (h f n : ℕ) → put_head o (ns ∷ packet) (suc h) f n ≡ ns ∷ put_head o packet h f n
deeper None ns packet h f n = refl
deeper (Some ms) ns packet h f n = refl

at_write : (b : Bool) (ns : List ℕ) (packet other : Packet) (wrote : List ℕ) (h i j n : ℕ) (x y : Option Value) (v : Value)
    → (x ≡ Some v → wrote ≡ slice_set ns i n) → (y ≡ Some v → other ≡ set_in_header packet h j n) → cond b x y ≡ Some v
    → cond b (wrote ∷ packet) (ns ∷ other) ≡ set_in_header (ns ∷ packet) (cond b zero (suc h)) (cond b i j) n
at_write true ns packet other wrote h i j n x y v f g e = ap (λ r. r ∷ packet) (f e)
at_write false ns packet other wrote h i j n x y v f g e = ap (λ r. ns ∷ r) (g e) ∙ sym (deeper (slice_get packet h) ns packet h j n)

pub written : (ds : List HeaderDecl) (packet : Packet) (h f : List ℕ) (n : ℕ) (v : Value) → read_field ds packet h f ≡ Some v
    → write_field ds packet h f n ≡ set_in_header packet (header_place ds h) (field_place ds h f) n
written [] packet h f n v e = absurd cc
written (d ∷ ds) [] h f n v e = absurd cc
written (d ∷ ds) (ns ∷ packet) h f n v e =
    at_write (same_name h d.name.text) ns packet (write_field ds packet h f n) (write_in d.fields ns f n) (header_place ds h) (place_in d.fields f) (field_place ds h f) n
    (read_in d.fields ns f) (read_field ds packet h f) v (written_in d.fields ns f n v) (written ds packet h f n v) e

sets_field : (hs ds : List HeaderDecl) (a packet : Packet) (h f : List ℕ) (n : ℕ) (v : Value) → hs ≡ ds → a ≡ packet → read_field ds packet h f ≡ Some v
    → set_in_header a (header_place hs h) (field_place hs h f) n ≡ write_field ds packet h f n
sets_field hs ds a packet h f n v p q e = rw (p, q) (sym (written ds packet h f n v e))

-- ---- what follows a visit

in_first : (x : Site) (xs ys : List Site) → IsIn x xs → IsIn x (xs ++ ys)
in_first x [] ys h = absurd h
in_first x (y ∷ xs) ys h = elim h [ inl e ↦ inl e | inr k ↦ inr (in_first x xs ys k) ]

in_second : (x : Site) (xs ys : List Site) → IsIn x ys → IsIn x (xs ++ ys)
in_second x [] ys h = h
in_second x (y ∷ xs) ys h = inr (in_second x xs ys h)

-- what a fork gives, among more sites and at a higher count
copies_in : (fill : Filling) (context : Context) (W : List ℕ → Type 0) (at : Running) (mid to : ℕ) (xs ys : List Site) (f : Forked) (env : Env) (packet : Packet) (r t : Option Outcome)
    → mid ≤ to → ((x : Site) → IsIn x xs → IsIn x ys) → ((a : State) → r ≡ Some (returned a) → t ≡ Some (returned a)) → Copies fill context W at mid xs f env packet r → Copies fill context W at to ys f env packet t
copies_in fill context W at mid to xs ys f env packet r t h k l e = record {
  after = e.after;
  ran = l e.after e.ran;
  verdict_is = e.verdict_is;
  packet_is = e.packet_is;
  long = e.long;
  site = e.site;
  is_in = k e.site e.is_in;
  block_is = e.block_is;
  site_is = e.site_is;
  ns = e.ns;
  args = e.args;
  group_is = e.group_is;
  level = e.level;
  rises = omega (arith, e.rises);
  holds = e.holds;
}

follows : (fill : Filling) (context : Context) (W : List ℕ → Type 0) (at : Running) (from mid to : ℕ) (vars more : List Variable) (xs ys : List Site) (s : State) (V : Visit) (r : Option Outcome) (K : Env → Packet → Visit) (k : State → Option Outcome) (P : Env → Packet → Type 0)
    → from ≤ mid → mid ≤ to → Ends fill context W at from mid vars xs s V r → Onward V P
    → ((env : Env) (packet : Packet) → P env packet → (g : GoesOn W at from mid vars s env packet r) → Ends fill context W at mid to more ys g.after (K env packet) (k g.after))
    → Ends fill context W at from to more (xs ++ ys) s (then_visit V K) (then_run r k)
follows fill context W at from mid to vars more xs ys s (on env packet) r K k P up high e p f = rw e.ran (wider (K env packet) (k e.after) (f env packet p e))
  where
    wider : (V : Visit) (r : Option Outcome) → Ends fill context W at mid to more ys e.after V r → Ends fill context W at from to more (xs ++ ys) s V r
    wider (on env packet) r g = record { after = g.after; ran = g.ran; keeps = keeps_both from mid s e.after g.after up e.keeps g.keeps; packet_is = g.packet_is; verdict_is = g.verdict_is; holds = g.holds }
    wider (leaves loc packet) r g = g
    wider (copies x env packet) r g = copies_in fill context W at to to ys (xs ++ ys) x env packet r r (omega arith) (λ z h. in_second z xs ys h) (λ a h. h) g
    wider nothing r g = g
follows fill context W at from mid to vars more xs ys s (leaves loc packet) r K k P up high e p f =
    record { after = e.after; ran = rw e.ran refl; verdict_is = e.verdict_is; switch = e.switch; port_is = e.port_is; packet_is = e.packet_is }
follows fill context W at from mid to vars more xs ys s (copies x env packet) r K k P up high e p f =
    copies_in fill context W at mid to xs (xs ++ ys) x env packet r (then_run r k) high (λ z h. in_first z xs ys h) (λ a h. rw h refl) e
follows fill context W at from mid to vars more xs ys s nothing r K k P up high e p f = record { after = e.after; ran = rw e.ran refl; verdict_is = e.verdict_is }

-- after code that goes on, as one run
after_code : (fill : Filling) (context : Context) (W : List ℕ → Type 0) (at : Running) (from to : ℕ) (vars : List Variable) (sites : List Site) (s : State) (V : Visit) (xs ys : List P4Stmt) (mid : State)
    → run_list at xs s ≡ Some (proceeds mid) → Ends fill context W at from to vars sites s V (run_list at ys mid) → Ends fill context W at from to vars sites s V (run_list at (xs ++ ys) s)
after_code fill context W at from to vars sites s V xs ys mid h e = rw (run_both at xs ys s mid h) e

-- a branch that ended, as the `if` around it
as_branch : (fill : Filling) (context : Context) (W : List ℕ → Type 0) (at : Running) (from low high to : ℕ) (vars inner : List Variable) (xs ys : List Site) (env : Env) (s mid : State) (V : Visit) (r : Option Outcome)
    → from ≤ low → low ≤ high → high ≤ to → ((x : Site) → IsIn x xs → IsIn x ys) → Keeps from s mid → Holds W from at s vars env → Ends fill context W at low high inner xs mid V r → Ends fill context W at from to vars ys s (back_in env V) (then_run r (λ t. Some (proceeds t)))
as_branch fill context W at from low high to vars inner xs ys env s mid (on x packet) r a b c i k h e =
    record {
      after = e.after;
      ran = rw e.ran refl;
      keeps = keeps_both from low s mid e.after a k e.keeps;
      packet_is = e.packet_is;
      verdict_is = e.verdict_is;
      holds = holds_kept W at from to s e.after vars env (omega arith) (keeps_both from low s mid e.after a k e.keeps) h;
    }
as_branch fill context W at from low high to vars inner xs ys env s mid (leaves loc packet) r a b c i k h e =
    record { after = e.after; ran = rw e.ran refl; verdict_is = e.verdict_is; switch = e.switch; port_is = e.port_is; packet_is = e.packet_is }
as_branch fill context W at from low high to vars inner xs ys env s mid (copies x y packet) r a b c i k h e =
    copies_in fill context W at high to xs ys x y packet r (then_run r (λ t. Some (proceeds t))) c i (λ a h. rw h refl) e
as_branch fill context W at from low high to vars inner xs ys env s mid nothing r a b c i k h e = record { after = e.after; ran = rw e.ran refl; verdict_is = e.verdict_is }

if_true : (at : Running) (e : P4Expr) (first second : List P4Stmt) (s : State) → p4_value at s e ≡ Some (truth true) → p4_run at (if_stmt e first second) s ≡ run_list at first s
if_true at e first [] s h = rw h (block_runs at first s)
if_true at e first (x ∷ second) s h = rw h (block_runs at first s)

if_false : (at : Running) (e : P4Expr) (first second : List P4Stmt) (s : State) → p4_value at s e ≡ Some (truth false) → p4_run at (if_stmt e first second) s ≡ run_list at second s
if_false at e first [] s h = rw h refl
if_false at e first (x ∷ second) s h = rw h (block_runs at (x ∷ second) s)

as_is : (headers : List HeaderDecl) (a b : Packet) → b ≡ a → ReadsAs headers a b
as_is headers a b h x f v e = rw h e

sends_second : (at : Running) (s : State) (es : List P4Expr) (a p : ℕ) → NumbersAt at s es (a ∷ p ∷ []) → option_and_then as_number (p4_value at s (second_of es)) ≡ Some p
sends_second at s [] a p h = absurd h
sends_second at s (x ∷ []) a p h = absurd h.1
sends_second at s (x ∷ y ∷ es) a p h = h.1.0

-- ---- statements

if_ends : (at : Running) (fill : Filling) (T G : List ℕ → List ℕ → Type 0) (W : List ℕ → Type 0) (context : Context) (c : Callees) → Agree at fill T G context c
    → (e : Expr) (first second : Block) (vars : List Variable) (env : Env) (packet : Packet) (n : Counts) (s : State)
    → 0 < n.field → Holds W n.field at s vars env → s.packet ≡ packet → s.verdict ≡ 0 → (b : Bool) → value context env packet e ≡ Some (truth b) → Long at s
    → (a : Reaches at n.field (lower_expr c vars n e).next.field (lower_expr c vars n e).code s (lower_expr c vars n e).expr (truth b))
    → (b ≡ true → Ends fill context W at (lower_expr c vars n e).next.field (lower_block c vars (lower_expr c vars n e).next first).next.field (lower_block c vars (lower_expr c vars n e).next first).vars (lower_block c vars (lower_expr c vars n e).next first).sites a.after
    (visit_all context first env packet) (run_list at (lower_block c vars (lower_expr c vars n e).next first).code a.after))
    → (b ≡ false → Ends fill context W at (lower_block c vars (lower_expr c vars n e).next first).next.field (lower_block c vars (lower_block c vars (lower_expr c vars n e).next first).next second).next.field
    (lower_block c vars (lower_block c vars (lower_expr c vars n e).next first).next second).vars (lower_block c vars (lower_block c vars (lower_expr c vars n e).next first).next second).sites a.after
    (visit_all context second env packet) (run_list at (lower_block c vars (lower_block c vars (lower_expr c vars n e).next first).next second).code a.after))
    → Ends fill context W at n.field (lower_block c vars (lower_block c vars (lower_expr c vars n e).next first).next second).next.field vars (lower_stmt c vars n (if_ 0 e first second)).sites s (visit context (if_ 0 e first second) env packet)
    (run_list at (lower_stmt c vars n (if_ 0 e first second)).code s)
if_ends at fill T G W context c g e first second vars env packet n s low holds same clear true is long a f h =
    let q : Lowered = lower_expr c vars n e in
    let one : LoweredBlock = lower_block c vars q.next first in
    let two : LoweredBlock = lower_block c vars one.next second in
    rw is (after_code fill context W at n.field two.next.field vars (one.sites ++ two.sites) s _ q.code (if_stmt q.expr one.code two.code ∷ []) a.after a.runs
    (rw (if_true at q.expr one.code two.code a.after (a.gives a.after (moves_same q.next.field a.after)))
    (as_branch fill context W at n.field q.next.field one.next.field two.next.field vars one.vars one.sites (one.sites ++ two.sites) env s a.after (visit_all context first env packet) (run_list at one.code a.after)
    a.rises (block_rises c g.rise first vars q.next) (block_rises c g.rise second vars one.next) (λ z h. in_first z one.sites two.sites h) a.moves.keeps holds (f refl))))
if_ends at fill T G W context c g e first second vars env packet n s low holds same clear false is long a f h =
    let q : Lowered = lower_expr c vars n e in
    let one : LoweredBlock = lower_block c vars q.next first in
    let two : LoweredBlock = lower_block c vars one.next second in
    rw is (after_code fill context W at n.field two.next.field vars (one.sites ++ two.sites) s _ q.code (if_stmt q.expr one.code two.code ∷ []) a.after a.runs
    (rw (if_false at q.expr one.code two.code a.after (a.gives a.after (moves_same q.next.field a.after)))
    (as_branch fill context W at n.field one.next.field two.next.field two.next.field vars two.vars two.sites (one.sites ++ two.sites) env s a.after (visit_all context second env packet) (run_list at two.code a.after)
    (omega (arith, a.rises, block_rises c g.rise first vars q.next)) (block_rises c g.rise second vars one.next) (omega arith) (λ z h. in_second z one.sites two.sites h) a.moves.keeps holds (h refl))))

filter_ends : (at : Running) (fill : Filling) (T G : List ℕ → List ℕ → Type 0) (W : List ℕ → Type 0) (context : Context) (c : Callees) → Agree at fill T G context c
    → (e : Expr) (vars : List Variable) (env : Env) (packet : Packet) (n : Counts) (s : State)
    → 0 < n.field → Holds W n.field at s vars env → s.packet ≡ packet → s.verdict ≡ 0 → (b : Bool) → value context env packet e ≡ Some (truth b)
    → Reaches at n.field (lower_expr c vars n e).next.field (lower_expr c vars n e).code s (lower_expr c vars n e).expr (truth b)
    → Ends fill context W at n.field (lower_expr c vars n e).next.field vars [] s (visit context (filter 0 e) env packet) (run_list at (lower_stmt c vars n (filter 0 e)).code s)
filter_ends at fill T G W context c g e vars env packet n s low holds same clear true is a =
    let q : Lowered = lower_expr c vars n e in
    rw is (after_code fill context W at n.field q.next.field vars [] s (on env packet) q.code (filter_code q.expr) a.after a.runs (record {
      after = a.after;
      ran = rw (a.gives a.after (moves_same q.next.field a.after)) refl;
      keeps = a.moves.keeps;
      packet_is = a.moves.packet ∙ same;
      verdict_is = a.verdict_same ∙ clear;
      holds = holds_kept W at n.field q.next.field s a.after vars env a.rises a.moves.keeps holds;
    }))
filter_ends at fill T G W context c g e vars env packet n s low holds same clear false is a =
    let q : Lowered = lower_expr c vars n e in
    rw is (after_code fill context W at n.field q.next.field vars [] s nothing q.code (filter_code q.expr) a.after a.runs (record {
      after = a.after;
      ran = rw (a.gives a.after (moves_same q.next.field a.after)) refl;
      verdict_is = a.verdict_same ∙ clear;
    }))

fork_made : (at : Running) (fill : Filling) (saves : Bool) (x : List ℕ) (w : ℕ) (body : Block) (vars : List Variable) (r : Lowered) → AllMade at fill (forked x w body saves vars r).made → AllMade at fill r.made
fork_made at fill true x w body vars r h = made_first at fill r.made _ h
fork_made at fill false x w body vars r h = h

-- the port's variable, read from the field in which the port was kept
port_value : (at : Running) (n j p w : ℕ) (s t : State) (v : Value) (e : P4Expr) → 0 < j → at.port ≡ Some p → slice_get (field_widths at.program.meta) j ≡ Some 16 → slice_get t.meta j ≡ Some p
    → n ≤ suc j → Keeps n s t → ((to : State) → Keeps n s to → p4_value at to e ≡ Some v) → (to : State) → Keeps (suc j) t to → p4_value at to (for_port j e) ≡ Some v
port_value at n j p w s t v p_port low is own there up k h to l =
    let got : ◌≡◌ {A = Option Value} (Some (number 16 p)) (Some v) = rw is at (h s (keeps_same n s)) in
    rw (own, l.same j low (omega arith) ∙ there) got
port_value at n j p w s t v e low is own there up k h to l = h to (keeps_both n (suc j) s t to up k l)

ports_hold : (W : List ℕ → Type 0) (at : Running) (n j p : ℕ) (s t : State) (vars : List Variable) (env : Env) → 0 < j → at.port ≡ Some p → slice_get (field_widths at.program.meta) j ≡ Some 16 → slice_get t.meta j ≡ Some p
    → n ≤ suc j → Keeps n s t → Holds W n at s vars env → Holds W (suc j) at t (ports_kept j vars) env
ports_hold W at n j p s t [] [] low is own there up k h = tt
ports_hold W at n j p s t (v ∷ vars) (b ∷ env) low is own there up k h =
    (h.0, (λ w. port_value at n j p 16 s t b.value v.expr low is own there up k (h.1 w)), ports_hold W at n j p s t vars env low is own there up k h.2)
ports_hold W at n j p s t [] (b ∷ env) low is own there up k h = h
ports_hold W at n j p s t (v ∷ vars) [] low is own there up k h = h

saves_port : (at : Running) (j p : ℕ) (xs : List P4Stmt) (s : State) → at.port ≡ Some p → run_list at (set_meta j p_port ∷ xs) s ≡ run_list at xs (with_meta s j p)
saves_port at j p xs s h = ap (λ (o : Option ℕ). then_run (setting (option_map (number 16) o) (λ n. with_meta s j n)) (run_list at xs)) h

copies_now : (at : Running) (q m : ℕ) (e : P4Expr) (s t : State) → t ≡ with_meta s 0 q → option_and_then as_number (p4_value at t e) ≡ Some m → run_list at (copy_code q e) s ≡ Some (returned (record t { group = m; verdict = 2 }))
copies_now at q m e s t h g = rw (h, rw h at g) refl

fork_ends : (at : Running) (fill : Filling) (W : List ℕ → Type 0) (context : Context) (p : ℕ) → at.port ≡ Some p
    → (saves : Bool) (x : List ℕ) (w : ℕ) (e : Expr) (body : Block) (vars : List Variable) (env : Env) (packet : Packet) (n : Counts) (s : State) (r : Lowered)
    → 0 < n.field → Holds W n.field at s vars env → s.packet ≡ packet → Long at s → (ns : List ℕ) → numbers context env packet (fork_args e) ≡ Some ns
    → AllMade at fill (forked x w body saves vars r).made → Reaches at n.field r.next.field r.code s r.expr (number 16 (fill.group (fork_function e) ns))
    → Copies fill context W at (forked x w body saves vars r).next.field (forked x w body saves vars r).sites (record { x = x; width = w; e = e; body = body }) env packet
    (run_list at (forked x w body saves vars r).code s)
fork_ends at fill W context p is true x w e body vars env packet n s r low holds same long ns args made a =
    let j : ℕ = r.next.field in
    let own = made_second at fill r.made _ made in
    let long2 : Long at a.after = long_moved at n.field s a.after a.moves long in
    let t0 : State = with_meta a.after j p in
    let t1 : State = with_meta t0 0 r.next.site in
    let m0 : Moves j a.after t0 = set_moves a.after j j p (omega arith) in
    let k1 : Keeps (suc j) t0 t1 = site_keeps t0 (suc j) r.next.site in
    let k : Keeps n.field s t1 = keeps_both n.field j s a.after t1 a.rises a.moves.keeps (keeps_both j (suc j) a.after t0 t1 (omega arith) m0.keeps k1) in
    let there : slice_get t1.meta j ≡ Some p = k1.same j (omega (arith, a.rises)) (omega arith) ∙ put_here a.after.meta j p (inside_meta at a.after j 16 long2 own.0) in
    let g : p4_value at t1 r.expr ≡ Some (number 16 (fill.group (fork_function e) ns)) = a.gives t1 (record { keeps = keeps_both j (suc j) a.after t0 t1 (omega arith) m0.keeps k1; packet = refl }) in
    record {
      after = record t1 { group = fill.group (fork_function e) ns; verdict = 2 };
      ran = run_both at r.code (set_meta j p_port ∷ copy_code r.next.site r.expr) s a.after a.runs ∙ saves_port at j p (copy_code r.next.site r.expr) a.after is ∙ copies_now at r.next.site (fill.group (fork_function e) ns) r.expr t0 t1 refl (rw g refl);
      verdict_is = refl;
      packet_is = a.moves.packet ∙ same;
      long = record { long = k.long ∙ long.long; some = rw k.long long.some };
      site = record { number = r.next.site; vars = ports_kept j vars; x = x; width = w; body = body };
      is_in = inl refl;
      block_is = refl;
      site_is = put_here t0.meta 0 r.next.site (rw m0.keeps.long long2.some);
      ns = ns;
      args = args;
      group_is = refl;
      level = suc j;
      rises = omega arith;
      holds = ports_hold W at n.field j p s (record t1 { group = fill.group (fork_function e) ns; verdict = 2 }) vars env (omega (arith, a.rises)) is own.0 there (omega (arith, a.rises)) (record { long = k.long; same = k.same }) holds;
    }
fork_ends at fill W context p is false x w e body vars env packet n s r low holds same long ns args made a =
    let j : ℕ = r.next.field in
    let long2 : Long at a.after = long_moved at n.field s a.after a.moves long in
    let t1 : State = with_meta a.after 0 r.next.site in
    let k1 : Keeps j a.after t1 = site_keeps a.after j r.next.site in
    let k : Keeps n.field s t1 = keeps_both n.field j s a.after t1 a.rises a.moves.keeps k1 in
    let g : p4_value at t1 r.expr ≡ Some (number 16 (fill.group (fork_function e) ns)) = a.gives t1 (record { keeps = k1; packet = refl }) in
    record {
      after = record t1 { group = fill.group (fork_function e) ns; verdict = 2 };
      ran = run_both at r.code (copy_code r.next.site r.expr) s a.after a.runs ∙ copies_now at r.next.site (fill.group (fork_function e) ns) r.expr a.after t1 refl (rw g refl);
      verdict_is = refl;
      packet_is = a.moves.packet ∙ same;
      long = record { long = k.long ∙ long.long; some = rw k.long long.some };
      site = record { number = r.next.site; vars = vars; x = x; width = w; body = body };
      is_in = inl refl;
      block_is = refl;
      site_is = put_here a.after.meta 0 r.next.site long2.some;
      ns = ns;
      args = args;
      group_is = refl;
      level = j;
      rises = omega arith;
      holds = holds_kept W at n.field j s _ vars env a.rises (record { long = k.long; same = k.same }) holds;
    }

mutual
  pub stmt_ends : (at : Running) (fill : Filling) (T G : List ℕ → List ℕ → Type 0) (W : List ℕ → Type 0) (context : Context) (c : Callees) → Agree at fill T G context c
      → (x : Stmt) (vars : List Variable) (env : Env) (packet : Packet) (n : Counts) (s : State)
      → 0 < n.field → Holds W n.field at s vars env → s.packet ≡ packet → s.verdict ≡ 0 → Fits T G W context x env packet → AllMade at fill (lower_stmt c vars n x).made → Long at s
      → Ends fill context W at n.field (lower_stmt c vars n x).next.field (lower_stmt c vars n x).vars (lower_stmt c vars n x).sites s (visit context x env packet) (run_list at (lower_stmt c vars n x).code s)
  stmt_ends at fill T G W context c g (let_ p x w e) vars env packet n s low holds same clear fits made long =
      let q : Lowered = lower_expr c vars n e in
      let r : ℕ = q.next.field in
      let own = made_second at fill q.made _ made in
      let a : Reaches at n.field q.next.field q.code s q.expr (number w fits.1)
      = expr_reaches at fill T G W context c g e vars env packet n s (number w fits.1) low holds (as_is context.headers packet s.packet same) fits.0 (made_first at fill q.made _ made) long fits.2 in
      let to : State = with_meta a.after r fits.1 in
      let k : Keeps r a.after to = (set_moves a.after r r fits.1 (omega arith)).keeps in
      let up : n.field ≤ r = a.rises in
      let there : r < length a.after.meta = inside_meta at a.after r w (long_moved at n.field s a.after a.moves long) own.0 in
      rw fits.2 (after_code fill context W at n.field (suc r) (record { name = x.text; expr = p_meta r } ∷ vars) [] s (on (bound x.text (number w fits.1) env) packet) q.code (set_meta r q.expr ∷ []) a.after a.runs (record {
        after = to;
        ran = rw (a.gives a.after (moves_same r a.after)) refl;
        keeps = keeps_both n.field r s a.after to up a.moves.keeps k;
        packet_is = a.moves.packet ∙ same;
        verdict_is = a.verdict_same ∙ clear;
        holds = (
          refl,
          (λ v t l. rw (own.0, l.same r (omega arith) (omega arith), put_here a.after.meta r fits.1 there) refl),
          holds_kept W at n.field (suc r) s to vars env (omega arith) (keeps_both n.field r s a.after to up a.moves.keeps k) holds,
        );
      }))
  stmt_ends at fill T G W context c g (set_field p h f e) vars env packet n s low holds same clear fits made long =
      let q : Lowered = lower_expr c vars n e in
      let a : Reaches at n.field q.next.field q.code s q.expr (number fits.1 fits.2)
      = expr_reaches at fill T G W context c g e vars env packet n s (number fits.1 fits.2) low holds (as_is context.headers packet s.packet same) fits.0 made long fits.4 in
      rw fits.4 (after_code fill context W at n.field q.next.field vars [] s (on env (write_field context.headers packet h.text f.text fits.2)) q.code (set_header (header_place c.headers h.text) (field_place c.headers h.text f.text) q.expr ∷ []) a.after a.runs (record {
        after = record a.after { packet = set_in_header a.after.packet (header_place c.headers h.text) (field_place c.headers h.text f.text) fits.2 };
        ran = rw (a.gives a.after (moves_same q.next.field a.after)) refl;
        keeps = record { long = a.moves.keeps.long; same = a.moves.keeps.same };
        packet_is = sets_field c.headers context.headers a.after.packet packet h.text f.text fits.2 fits.3 g.headers (a.moves.packet ∙ same) fits.5;
        verdict_is = a.verdict_same ∙ clear;
        holds = holds_kept W at n.field q.next.field s _ vars env a.rises (record { long = a.moves.keeps.long; same = a.moves.keeps.same }) holds;
      }))
  stmt_ends at fill T G W context c g (if_ p e first second) vars env packet n s low holds same clear fits made long =
      let q : Lowered = lower_expr c vars n e in
      let a : Reaches at n.field q.next.field q.code s q.expr (truth fits.1)
      = expr_reaches at fill T G W context c g e vars env packet n s (truth fits.1) low holds (as_is context.headers packet s.packet same) fits.0 (made_first at fill q.made _ made) long fits.2 in
      if_ends at fill T G W context c g e first second vars env packet n s low holds same clear fits.1 fits.2 long a
      (λ h. block_ends at fill T G W context c g first vars env packet q.next a.after (omega (arith, a.rises)) (holds_kept W at _ _ s a.after vars env a.rises a.moves.keeps holds) (a.moves.packet ∙ same) (a.verdict_same ∙ clear)
      (subst (λ b. EitherOf b (FitsAll T G W context first env packet) (FitsAll T G W context second env packet)) h fits.3)
      (made_first at fill (lower_block c vars q.next first).made _ (made_second at fill q.made _ made)) (long_moved at n.field s a.after a.moves long))
      (λ h. block_ends at fill T G W context c g second vars env packet (lower_block c vars q.next first).next a.after (omega (arith, a.rises, block_rises c g.rise first vars q.next))
      (holds_kept W at _ _ s a.after vars env (omega (arith, a.rises, block_rises c g.rise first vars q.next)) a.moves.keeps holds) (a.moves.packet ∙ same) (a.verdict_same ∙ clear)
      (subst (λ b. EitherOf b (FitsAll T G W context first env packet) (FitsAll T G W context second env packet)) h fits.3)
      (made_second at fill (lower_block c vars q.next first).made _ (made_second at fill q.made _ made)) (long_moved at n.field s a.after a.moves long))
  stmt_ends at fill T G W context c g (filter p e) vars env packet n s low holds same clear fits made long =
      filter_ends at fill T G W context c g e vars env packet n s low holds same clear fits.1 fits.2
      (expr_reaches at fill T G W context c g e vars env packet n s (truth fits.1) low holds (as_is context.headers packet s.packet same) fits.0 made long fits.2)
  stmt_ends at fill T G W context c g (havoc_var p x w) vars env packet n s low holds same clear fits made long = absurd fits
  stmt_ends at fill T G W context c g (havoc_field p h f) vars env packet n s low holds same clear fits made long = absurd fits
  stmt_ends at fill T G W context c g (assume p e) vars env packet n s low holds same clear fits made long = absurd fits
  stmt_ends at fill T G W context c g (fork p x w e body) vars env packet n s low holds same clear fits made long =
      let q : LoweredAll = lower_exprs c vars n (fork_args e) in
      let port : (p : ℕ) × (at.port ≡ Some p) = g.port (fork_function e) fits.1 fits.3 in
      let made2 = fork_made at fill (in_block c.port body) x.text w body vars (then_called q (c.group (fork_function e))) made in
      let a : ReachesAll at n.field q.next.field q.code s q.exprs fits.1
      = exprs_reach at fill T G W context c g (fork_args e) vars env packet n s fits.1 low holds (as_is context.headers packet s.packet same) fits.0 (made_first at fill q.made _ made2) long fits.2 in
      let b : Reaches at q.next.field (c.group (fork_function e) q.exprs q.next).next.field (c.group (fork_function e) q.exprs q.next).code a.after (c.group (fork_function e) q.exprs q.next).expr (number 16 (fill.group (fork_function e) fits.1))
      = g.groups (fork_function e) q.exprs fits.1 q.next a.after (omega (arith, a.rises)) fits.3 a.gives (made_second at fill q.made _ made2) (long_moved at n.field s a.after a.moves long) in
      fork_ends at fill W context port.0 port.1 (in_block c.port body) x.text w e body vars env packet n s (then_called q (c.group (fork_function e))) low holds same long fits.1 fits.2 made
      (record {
        after = b.after;
        runs = run_both at q.code (c.group (fork_function e) q.exprs q.next).code s a.after a.runs ∙ b.runs;
        moves = moves_both _ _ s a.after b.after a.rises a.moves b.moves;
        verdict_same = b.verdict_same ∙ a.verdict_same;
        rises = omega (arith, a.rises, b.rises);
        gives = b.gives;
      })
  stmt_ends at fill T G W context c g (send p r es) vars env packet n s low holds same clear fits made long =
      let q : LoweredAll = lower_exprs c vars n es in
      let a : ReachesAll at n.field q.next.field q.code s q.exprs (fits.1 ∷ fits.2 ∷ [])
      = exprs_reach at fill T G W context c g es vars env packet n s (fits.1 ∷ fits.2 ∷ []) low holds (as_is context.headers packet s.packet same) fits.0 made long fits.3 in
      let sends : State = record a.after { verdict = 1 } in
      rw fits.3 (after_code fill context W at n.field q.next.field vars [] s (leaves (record { role = r.text; values = fits.1 ∷ fits.2 ∷ [] }) packet) q.code (send_code q.exprs) a.after a.runs (record {
        after = record sends { egress_port = fits.2 };
        ran = rw (sends_second at sends q.exprs fits.1 fits.2 (a.gives sends (record { keeps = record { long = refl; same = λ i x y. refl }; packet = refl }))) refl;
        verdict_is = refl;
        switch = fits.1;
        port_is = refl;
        packet_is = a.moves.packet ∙ same;
      }))

  pub block_ends : (at : Running) (fill : Filling) (T G : List ℕ → List ℕ → Type 0) (W : List ℕ → Type 0) (context : Context) (c : Callees) → Agree at fill T G context c
      → (b : Block) (vars : List Variable) (env : Env) (packet : Packet) (n : Counts) (s : State)
      → 0 < n.field → Holds W n.field at s vars env → s.packet ≡ packet → s.verdict ≡ 0 → FitsAll T G W context b env packet → AllMade at fill (lower_block c vars n b).made → Long at s
      → Ends fill context W at n.field (lower_block c vars n b).next.field (lower_block c vars n b).vars (lower_block c vars n b).sites s (visit_all context b env packet) (run_list at (lower_block c vars n b).code s)
  block_ends at fill T G W context c g no_stmts vars env packet n s low holds same clear fits made long =
      record { after = s; ran = refl; keeps = keeps_same n.field s; packet_is = same; verdict_is = clear; holds = holds }
  block_ends at fill T G W context c g (stmt x rest) vars env packet n s low holds same clear fits made long =
      let one : LoweredBlock = lower_stmt c vars n x in
      let up : n.field ≤ one.next.field = stmt_rises c g.rise x vars n in
      rw (appended at one.code (lower_block c one.vars one.next rest).code s)
      (follows fill context W at n.field one.next.field (lower_block c one.vars one.next rest).next.field one.vars (lower_block c one.vars one.next rest).vars one.sites (lower_block c one.vars one.next rest).sites s (visit context x env packet) (run_list at one.code s)
      (λ env' packet'. visit_all context rest env' packet') (run_list at (lower_block c one.vars one.next rest).code) (λ env' packet'. FitsAll T G W context rest env' packet') up (block_rises c g.rise rest one.vars one.next)
      (stmt_ends at fill T G W context c g x vars env packet n s low holds same clear fits.0 (made_first at fill one.made _ made) long) fits.1
      (λ env' packet' f w. block_ends at fill T G W context c g rest one.vars env' packet' one.next w.after (omega arith) w.holds w.packet_is w.verdict_is f (made_second at fill one.made _ made)
      (record { long = w.keeps.long ∙ long.long; some = rw w.keeps.long long.some })))
