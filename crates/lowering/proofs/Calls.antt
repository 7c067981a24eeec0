-- The lowering of a call goes on to the function's value, by table or by the body over fields.
use Rattle.std.specs.Prelude.{◌≡◌, ℕ, suc, ◌^◌, ◌<◌, ◌≤◌, Bool, true, false, cond, List, [], ◌∷◌, map, length, slice_get, Option, Some, None, option_and_then, refl}
use Rattle.std.proofs.Common.{◌∙◌, ap, arith}
use Rattle.std.proofs.lemmas.Option.{slice_get_within}
use Rattle.std.proofs.lemmas.Bool.{lt-ltb}
use Rattle.cocoon_num.specs.Values.{Value, number, truth, as_number}
use Rattle.cocoon_num.specs.Tree.{Param, Expr, FunctionDecl, HeaderDecl, ResultKind, of_width, of_truth}
use Rattle.cocoon_num.specs.Names.{same_name}
use Rattle.cocoon_num.specs.Packets.{Packet}
use Rattle.cocoon_types.specs.Design.{widths_of}
use Rattle.cocoon_types.specs.Tables.{Defs, look_up}
use Rattle.cocoon_types.specs.Val.{Env, bound, bind, value, apply_in, Context}
use Rattle.p4_ir.specs.P4Tree.{P4Expr, field_widths, program_layout, apply_table}
use Rattle.p4_ir.specs.Switch.{State, p4_value, all_there, Running, proceeds}
use Rattle.lowering.specs.Lower.{Counts, Lowered, FieldName, key_name, var_name, Callees, callees, lower_expr, lower_call, lower_group, by_group, params_before_last, sets, fields_from, numbers_from, past, variables_from, by_table, closed, after_args, kind_width, kept, read_back}
use Rattle.lowering.specs.Agrees.{run_list, Moves, Holds, ReadsAs, NumbersAt, Reaches, AllMade, Filling, Long, FitAll, GroupTakesIn, GroupsReach, EitherOf, TakesIn, Takes, IsOf, BodyFits, FunctionsFit, inner_context, CallsReach, Agree, code_of}
use Rattle.lowering.proofs.States.{put_here, run_both, made_first, made_second, moves_same, moves_both, long_moved, with_meta, set_moves}
use Rattle.lowering.proofs.Rises.{calls_rise}
use Rattle.lowering.proofs.Expressions.{expr_reaches, same_name_equal}

-- ---- fields that are set one after another

abbrev pub FilledAt : State → ℕ → List ℕ → Type 0
FilledAt s i [] = Unit {0}
FilledAt s i (n ∷ ns) = (slice_get s.meta i ≡ Some n) × FilledAt s (suc i) ns

pub record SetsTo (at : Running) (i : ℕ) (ps : List Param) (es : List P4Expr) (ns : List ℕ) (s : State) : Type 0 where
  pub after : State
  pub runs : run_list at (sets i es) s ≡ Some (proceeds after)
  pub moves : Moves i s after
  pub verdict_same : after.verdict ≡ s.verdict
  pub rises : i ≤ past i ps
  pub filled : FilledAt after i ns

pub inside_meta : (at : Running) (s : State) (i w : ℕ) → Long at s → slice_get (field_widths at.program.meta) i ≡ Some w → i < length s.meta
inside_meta at s i w l h = rw l.long (slice_get_within (field_widths at.program.meta) i w h)

pub sets_reach : (at : Running) (fill : Filling) (called : ℕ → FieldName) (j i k : ℕ) (ps : List Param) (es : List P4Expr) (ns : List ℕ) (s : State)
    → 0 < i → FitAll ps ns → k ≤ i → ((t : State) → Moves k s t → NumbersAt at t es ns) → AllMade at fill (fields_from called j i ps) → Long at s → SetsTo at i ps es ns s
sets_reach at fill called j i k [] [] [] s low fit h gives made long = record { after = s; runs = refl; moves = moves_same i s; verdict_same = refl; rises = omega arith; filled = tt }
sets_reach at fill called j i k [] (e ∷ es) [] s low fit h gives made long = absurd (gives s (moves_same k s))
sets_reach at fill called j i k [] es (n ∷ ns) s low fit h gives made long = absurd fit
sets_reach at fill called j i k (p ∷ ps) es [] s low fit h gives made long = absurd fit
sets_reach at fill called j i k (p ∷ ps) [] (n ∷ ns) s low fit h gives made long = absurd (gives s (moves_same k s))
sets_reach at fill called j i k (p ∷ ps) (e ∷ es) (n ∷ ns) s low fit h gives made long =
    let t : State = with_meta s i n in
    let m : Moves i s (with_meta s i n) = set_moves s i i n (omega arith) in
    let rest : SetsTo at (suc i) ps es ns (with_meta s i n)
    = sets_reach at fill called (suc j) (suc i) k ps es ns (with_meta s i n) (omega arith) fit.1 (omega arith) (λ t l. (gives t (moves_both k k s (with_meta s i n) t (omega arith) (set_moves s k i n h) l)).1) made.1 (long_moved at i s (with_meta s i n) m long) in
    record {
      after = rest.after;
      runs = rw (gives s (moves_same k s)).0 rest.runs;
      moves = moves_both i (suc i) s (with_meta s i n) rest.after (omega arith) m rest.moves;
      verdict_same = rest.verdict_same;
      rises = omega (arith, rest.rises);
      filled = (rest.moves.keeps.same i low (omega arith) ∙ put_here s.meta i n (inside_meta at s i p.width long made.0), rest.filled);
    }

pub past_rises : (i : ℕ) (ps : List Param) → i ≤ past i ps
past_rises i [] = omega arith
past_rises i (p ∷ ps) = omega (arith, past_rises (suc i) ps)

keys_there : (i : ℕ) (ps : List Param) (ns : List ℕ) (s : State) → FitAll ps ns → FilledAt s i ns → all_there s.meta (numbers_from i ps) ≡ Some ns
keys_there i [] [] s fit f = refl
keys_there i [] (n ∷ ns) s fit f = absurd fit
keys_there i (p ∷ ps) [] s fit f = absurd fit
keys_there i (p ∷ ps) (n ∷ ns) s fit f = rw (f.0, keys_there (suc i) ps ns s fit.1 f.1) refl

-- ---- the parameters' variables

abbrev pub env_of : List Param → List ℕ → Env
env_of [] ns = []
env_of (p ∷ ps) [] = []
env_of (p ∷ ps) (n ∷ ns) = bound p.name.text (number p.width n) (env_of ps ns)

pub binds : (ps : List Param) (ns : List ℕ) → FitAll ps ns → bind ps ns ≡ Some (env_of ps ns)
binds [] [] fit = refl
binds [] (n ∷ ns) fit = absurd fit
binds (p ∷ ps) [] fit = absurd fit
binds (p ∷ ps) (n ∷ ns) fit = rw (lt-ltb n (2 ^ p.width) fit.0, binds ps ns fit.1) refl

params_hold : (at : Running) (fill : Filling) (called : ℕ → FieldName) (j i k : ℕ) (ps : List Param) (ns : List ℕ) (s : State) → 0 < i → FitAll ps ns → FilledAt s i ns
    → AllMade at fill (fields_from called j i ps) → past i ps ≤ k → Holds (λ x. Unit {0}) k at s (variables_from i ps) (env_of ps ns)
params_hold at fill called j i k [] [] s low fit f made h = tt
params_hold at fill called j i k [] (n ∷ ns) s low fit f made h = absurd fit
params_hold at fill called j i k (p ∷ ps) [] s low fit f made h = absurd fit
params_hold at fill called j i k (p ∷ ps) (n ∷ ns) s low fit f made h =
    (refl, (λ w t l. rw (made.0, l.same i low (omega (arith, past_rises (suc i) ps)) ∙ f.0) refl), params_hold at fill called (suc j) (suc i) k ps ns s (omega arith) fit.1 f.1 made.1 h)

-- ---- results

pub read_is : (at : Running) (t : State) (k : ResultKind) (i : ℕ) (v : Value) → IsOf k v → slice_get (field_widths at.program.meta) i ≡ Some (kind_width k)
    → slice_get t.meta i ≡ Some (code_of v) → p4_value at t (read_back k i) ≡ Some v
read_is at t (of_width w) i (number u n) h g e = rw (g, e, ap width_or h.1) refl
  where
    width_or : Value → ℕ
    width_or (number w n) = w
    width_or (truth b) = 0
read_is at t (of_width w) i (truth b) h g e = absurd cc
read_is at t of_truth i (number u n) h g e = absurd cc
read_is at t of_truth i (truth true) h g e = rw (g, e) refl
read_is at t of_truth i (truth false) h g e = rw (g, e) refl

pub kept_is : (at : Running) (t : State) (k : ResultKind) (e : P4Expr) (v : Value) → IsOf k v → p4_value at t e ≡ Some v → option_and_then as_number (p4_value at t (kept k e)) ≡ Some (code_of v)
kept_is at t (of_width w) e (number u n) h g = rw g refl
kept_is at t (of_width w) e (truth b) h g = absurd cc
kept_is at t of_truth e (number u n) h g = absurd cc
kept_is at t of_truth e (truth true) h g = rw g refl
kept_is at t of_truth e (truth false) h g = rw g refl

-- ---- by table

pub by_table_reaches : (at : Running) (fill : Filling) (d : FunctionDecl) (es : List P4Expr) (ns : List ℕ) (v : Value) (n : Counts) (s : State)
    → ((ns : List ℕ) (v : Value) → FitAll d.params ns → look_up fill.defs d.name.text ns ≡ Some v → IsOf d.result v)
    → 0 < n.field → FitAll d.params ns → look_up fill.defs d.name.text ns ≡ Some v → ((t : State) → Moves n.field s t → NumbersAt at t es ns)
    → AllMade at fill (by_table d es n).made → Long at s
    → Reaches at n.field (by_table d es n).next.field (by_table d es n).code s (by_table d es n).expr v
by_table_reaches at fill d es ns v n s fits low fit e gives made long =
    let r : ℕ = past n.field d.params in
    let own = made_second at fill (fields_from (key_name n.app) 0 n.field d.params) _ made in
    let a : SetsTo at n.field d.params es ns s = sets_reach at fill (key_name n.app) 0 n.field n.field d.params es ns s low fit (omega arith) gives (made_first at fill _ _ made) long in
    let is : IsOf d.result v = fits ns v fit e in
    let inside : r < length a.after.meta = inside_meta at a.after r (kind_width d.result) (long_moved at n.field s a.after a.moves long) own.0 in
    record {
      after = with_meta a.after (past n.field d.params) (code_of v);
      runs = run_both at (sets n.field es) (apply_table n.app ∷ []) s a.after a.runs ∙ rw (own.1.0.0, own.1.0.2, keys_there n.field d.params ns a.after fit a.filled, own.1.0.3 ns v fit e) refl;
      moves = moves_both n.field r s a.after _ a.rises a.moves (set_moves a.after r r (code_of v) (omega arith));
      verdict_same = a.verdict_same;
      rises = omega (arith, a.rises);
      gives = λ t m. read_is at t d.result r v is own.0 (m.keeps.same r (omega (arith, a.rises)) (omega arith) ∙ put_here a.after.meta r (code_of v) inside);
    }

-- ---- by a body

nothing_read : (headers : List HeaderDecl) (packet : Packet) → ReadsAs headers [] packet
nothing_read [] packet h f v e = absurd cc
nothing_read (d ∷ ds) packet h f v e = absurd cc

pub closed_reaches : (at : Running) (fill : Filling) (T G : List ℕ → List ℕ → Type 0) (context : Context) (c : Callees) → Agree at fill T G context c
    → (d : FunctionDecl) (x : Expr) (es : List P4Expr) (ns : List ℕ) (v : Value) (n : Counts) (s : State)
    → Takes T (λ x. Unit {0}) context (env_of d.params ns) [] x → IsOf d.result v → value context (env_of d.params ns) [] x ≡ Some v
    → 0 < n.field → FitAll d.params ns → ((t : State) → Moves n.field s t → NumbersAt at t es ns)
    → AllMade at fill (closed d es n (lower_expr c (variables_from n.field d.params) (after_args d n) x)).made → Long at s
    → Reaches at n.field (closed d es n (lower_expr c (variables_from n.field d.params) (after_args d n) x)).next.field
    (closed d es n (lower_expr c (variables_from n.field d.params) (after_args d n) x)).code s
    (closed d es n (lower_expr c (variables_from n.field d.params) (after_args d n) x)).expr v
closed_reaches at fill T G context c g d x es ns v n s takes is e low fit gives made long =
    let k : ℕ = past n.field d.params in
    let q : Lowered = lower_expr c (variables_from n.field d.params) (after_args d n) x in
    let r : ℕ = q.next.field in
    let later = made_second at fill (fields_from var_name n.var n.field d.params) _ made in
    let own = made_second at fill q.made _ later in
    let first = made_first at fill (fields_from var_name n.var n.field d.params) _ made in
    let a : SetsTo at n.field d.params es ns s = sets_reach at fill var_name n.var n.field n.field d.params es ns s low fit (omega arith) gives first long in
    let b : Reaches at k q.next.field q.code a.after q.expr v
    = expr_reaches at fill T G (λ x. Unit {0}) context c g x (variables_from n.field d.params) (env_of d.params ns) [] (after_args d n) a.after v (omega (arith, a.rises))
    (params_hold at fill var_name n.var n.field k d.params ns a.after low fit a.filled first (omega arith))
    (nothing_read context.headers a.after.packet) takes (made_first at fill q.made _ later) (long_moved at n.field s a.after a.moves long) e in
    let long2 : Long at b.after = long_moved at k a.after b.after b.moves (long_moved at n.field s a.after a.moves long) in
    record {
      after = with_meta b.after r (code_of v);
      runs = run_both at (sets n.field es) _ s a.after a.runs ∙ run_both at q.code _ a.after b.after b.runs ∙ rw (kept_is at b.after d.result q.expr v is (b.gives b.after (moves_same r b.after))) refl;
      moves = moves_both n.field k s a.after _ a.rises a.moves (moves_both k r a.after b.after _ b.rises b.moves (set_moves b.after r r (code_of v) (omega arith)));
      verdict_same = b.verdict_same ∙ a.verdict_same;
      rises = omega (arith, a.rises, b.rises);
      gives = λ t m. read_is at t d.result r v is own.0 (m.keeps.same r (omega (arith, a.rises, b.rises)) (omega arith) ∙ put_here b.after.meta r (code_of v) (inside_meta at b.after r (kind_width d.result) long2 own.0));
    }

-- ---- the first of the name

choose_call : (at : Running) (fill : Filling) (b : Bool) (X Y : Lowered) (A B : Type 0) (p q : Option Value) (v : Value) (n : ℕ) (s : State)
    → (b ≡ true → A → p ≡ Some v → AllMade at fill X.made → Reaches at n X.next.field X.code s X.expr v)
    → (B → q ≡ Some v → AllMade at fill Y.made → Reaches at n Y.next.field Y.code s Y.expr v)
    → EitherOf b A B → cond b p q ≡ Some v → AllMade at fill (cond b X Y).made → Reaches at n (cond b X Y).next.field (cond b X Y).code s (cond b X Y).expr v
choose_call at fill true X Y A B p q v n s f g h e m = f refl h e m
choose_call at fill false X Y A B p q v n s f g h e m = g h e m

abbrev lowered_by : List HeaderDecl → List FunctionDecl → FunctionDecl → List P4Expr → Counts → Option Expr → Lowered
lowered_by headers earlier d es n body = elim body [
  | None ↦ by_table d es n
  | Some e ↦ closed d es n (lower_expr (record { headers = headers; call = lower_call headers earlier; group = lower_group earlier; port = [] }) (variables_from n.field d.params) (after_args d n) e)
]

abbrev value_by : List HeaderDecl → Defs → List FunctionDecl → FunctionDecl → List ℕ → List ℕ → Option Expr → Option Value
value_by headers defs earlier d f xs body = elim body [
  | None ↦ look_up defs f xs
  | Some e ↦ option_and_then (λ env. value (record { headers = headers; apply = apply_in headers defs earlier }) env [] e) (bind d.params xs)
]

body_reaches : (at : Running) (fill : Filling) (headers : List HeaderDecl) (earlier : List FunctionDecl)
    → Agree at fill (TakesIn earlier) (λ f ns. ⊥) (inner_context headers fill.defs earlier) (callees headers earlier [])
    → (d : FunctionDecl) (body : Option Expr) → BodyFits headers fill.defs d earlier body
    → (f : List ℕ) → f ≡ d.name.text → (es : List P4Expr) (ns : List ℕ) (v : Value) (n : Counts) (s : State) → 0 < n.field → FitAll d.params ns
    → value_by headers fill.defs earlier d f ns body ≡ Some v → ((t : State) → Moves n.field s t → NumbersAt at t es ns)
    → AllMade at fill (lowered_by headers earlier d es n body).made → Long at s
    → Reaches at n.field (lowered_by headers earlier d es n body).next.field (lowered_by headers earlier d es n body).code s (lowered_by headers earlier d es n body).expr v
body_reaches at fill headers earlier g d None fits f same es ns v n s low fit e gives made long =
    by_table_reaches at fill d es ns v n s fits low fit (rw same at e) gives made long
body_reaches at fill headers earlier g d (Some x) fits f same es ns v n s low fit e gives made long =
    let h : value (inner_context headers fill.defs earlier) (env_of d.params ns) [] x ≡ Some v = rw (binds d.params ns fit) at e in
    let b = fits ns (env_of d.params ns) fit (binds d.params ns fit) in
    closed_reaches at fill (TakesIn earlier) (λ f ns. ⊥) (inner_context headers fill.defs earlier) (callees headers earlier []) g d x es ns v n s b.0 (b.1 v h) h low fit gives made long

group_reaches : (at : Running) (fill : Filling) (d : FunctionDecl) (es : List P4Expr) (ns : List ℕ) (n : Counts) (s : State)
    → 0 < n.field → FitAll (params_before_last d.params) ns → ((t : State) → Moves n.field s t → NumbersAt at t es ns)
    → AllMade at fill (by_group d es n).made → Long at s
    → Reaches at n.field (by_group d es n).next.field (by_group d es n).code s (by_group d es n).expr (number 16 (fill.group d.name.text ns))
group_reaches at fill d es ns n s low fit gives made long =
    let ps : List Param = params_before_last d.params in
    let r : ℕ = past n.field ps in
    let own = made_second at fill (fields_from (key_name n.app) 0 n.field (params_before_last d.params)) _ made in
    let a : SetsTo at n.field ps es ns s = sets_reach at fill (key_name n.app) 0 n.field n.field ps es ns s low fit (omega arith) gives (made_first at fill _ _ made) long in
    let inside : r < length a.after.meta = inside_meta at a.after r 16 (long_moved at n.field s a.after a.moves long) own.0 in
    record {
      after = with_meta a.after r (fill.group d.name.text ns);
      runs = run_both at (sets n.field es) (apply_table n.app ∷ []) s a.after a.runs ∙ rw (own.1.0.0, own.1.0.2, keys_there n.field ps ns a.after fit a.filled, own.1.0.3 ns fit) refl;
      moves = moves_both n.field r s a.after _ a.rises a.moves (set_moves a.after r r (fill.group d.name.text ns) (omega arith));
      verdict_same = a.verdict_same;
      rises = omega (arith, a.rises);
      gives = λ t m. rw (own.0, m.keeps.same r (omega (arith, a.rises)) (omega arith) ∙ put_here a.after.meta r (fill.group d.name.text ns) inside) refl;
    }

choose_group : (at : Running) (fill : Filling) (b : Bool) (X Y : Lowered) (A B : Type 0) (v : Value) (n : ℕ) (s : State)
    → (b ≡ true → A → AllMade at fill X.made → Reaches at n X.next.field X.code s X.expr v)
    → (B → AllMade at fill Y.made → Reaches at n Y.next.field Y.code s Y.expr v)
    → EitherOf b A B → AllMade at fill (cond b X Y).made → Reaches at n (cond b X Y).next.field (cond b X Y).code s (cond b X Y).expr v
choose_group at fill true X Y A B v n s f g h m = f refl h m
choose_group at fill false X Y A B v n s f g h m = g h m

pub groups_reach : (at : Running) (fill : Filling) (headers : List HeaderDecl) (fs : List FunctionDecl) (port : List ℕ) → GroupsReach at fill (GroupTakesIn fs) (callees headers fs port)
groups_reach at fill headers [] port f es ns n s low takes gives made long = absurd takes
groups_reach at fill headers (d ∷ earlier) port f es ns n s low takes gives made long =
    choose_group at fill (same_name f d.name.text) (by_group d es n) (lower_group earlier f es n) (FitAll (params_before_last d.params) ns) (GroupTakesIn earlier f ns) (number 16 (fill.group f ns)) n.field s
    (λ b fit m. rw (same_name_equal f d.name.text b) (group_reaches at fill d es ns n s low fit gives m long))
    (λ t m. groups_reach at fill headers earlier port f es ns n s low t gives m long) takes made

pub calls_reach : (at : Running) (fill : Filling) (headers : List HeaderDecl) (fs : List FunctionDecl) (port : List ℕ) → program_layout at.program ≡ map (λ (h : HeaderDecl). widths_of h.fields) headers
    → FunctionsFit headers fill.defs fs → CallsReach at fill (TakesIn fs) (inner_context headers fill.defs fs) (callees headers fs port)
calls_reach at fill headers [] port layout fits f es ns v n s low takes e gives made long = absurd takes
calls_reach at fill headers (d ∷ earlier) port layout fits f es ns v n s low takes e gives made long =
    choose_call at fill (same_name f d.name.text) (lowered_by headers earlier d es n d.body) (lower_call headers earlier f es n) (FitAll d.params ns) (TakesIn earlier f ns)
    (value_by headers fill.defs earlier d f ns d.body) (apply_in headers fill.defs earlier f ns) v n.field s
    (λ b fit h m. body_reaches at fill headers earlier
    (record { headers = refl; layout = layout; calls = calls_reach at fill headers earlier [] layout fits.1; groups = λ f es ns n s low h. absurd h; port = λ f ns h. absurd h; rise = calls_rise headers earlier [] })
    d d.body fits.0 f (same_name_equal f d.name.text b) es ns v n s low fit h gives m long)
    (λ t h m. calls_reach at fill headers earlier port layout fits.1 f es ns v n s low t h gives m long)
    takes e made

pub functions_agree : (at : Running) (fill : Filling) (headers : List HeaderDecl) (fs : List FunctionDecl) (port : List ℕ) (p : ℕ) → at.port ≡ Some p → program_layout at.program ≡ map (λ (h : HeaderDecl). widths_of h.fields) headers
    → FunctionsFit headers fill.defs fs → Agree at fill (TakesIn fs) (GroupTakesIn fs) (inner_context headers fill.defs fs) (callees headers fs port)
functions_agree at fill headers fs port p is layout fits =
    record { headers = refl; layout = layout; calls = calls_reach at fill headers fs port layout fits; groups = groups_reach at fill headers fs port; port = λ f ns h. (p, is); rise = calls_rise headers fs port }

-- the same where no fork is taken, as in egress
pub functions_agree_plain : (at : Running) (fill : Filling) (headers : List HeaderDecl) (fs : List FunctionDecl) (port : List ℕ) → program_layout at.program ≡ map (λ (h : HeaderDecl). widths_of h.fields) headers
    → FunctionsFit headers fill.defs fs → Agree at fill (TakesIn fs) (λ f ns. ⊥) (inner_context headers fill.defs fs) (callees headers fs port)
functions_agree_plain at fill headers fs port layout fits =
    record { headers = refl; layout = layout; calls = calls_reach at fill headers fs port layout fits; groups = λ f es ns n s low h. absurd h; port = λ f ns h. absurd h; rise = calls_rise headers fs port }
