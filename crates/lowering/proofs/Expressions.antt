-- The code of an expression goes on to a state in which it has the expression's value.
use Rattle.std.specs.Prelude.{◌≡◌, ℕ, zero, suc, ◌<◌, Bool, true, false, ◌&&◌, ◌==◌, cond, List, [], ◌∷◌, ◌++◌, map, Option, Some, None, option_and_then, refl}
use Rattle.std.proofs.Common.{◌∙◌, subst, arith}
use Rattle.std.proofs.lemmas.Map.Views.{exact_unsigned_eq}
use Rattle.cocoon_num.specs.Values.{Value, number, truth, BinaryOp, implies, or_, not_, with_both, with_all, as_number, apply_unary, apply_binary, apply_slice, apply_pick}
use Rattle.cocoon_num.specs.Tree.{Param, Expr, name, Exprs, HeaderDecl, field, lit, true_or_false, call, unary, binary, slice, pick, no_exprs, expr}
use Rattle.cocoon_num.specs.Names.{same_name}
use Rattle.cocoon_num.specs.Packets.{Packet, Layout}
use Rattle.cocoon_types.specs.Design.{read_field, read_in, widths_of}
use Rattle.cocoon_types.specs.Val.{Env, variable, value, numbers, Context}
use Rattle.p4_ir.specs.P4Tree.{P4Expr}
use Rattle.p4_ir.specs.Switch.{State, p4_value, header_field, numbered, Running}
use Rattle.lowering.specs.Lower.{Counts, Variable, Lowered, LoweredAll, Callees, lower_expr, lower_exprs, variable_expr, place_in, header_place, field_place, p_operation}
use Rattle.lowering.specs.Agrees.{Keeps, Holds, ReadsAs, NumbersAt, Reaches, ReachesAll, AllMade, Filling, Long, Takes, TakesAll, Agree}
use Rattle.lowering.proofs.States.{run_both, made_first, made_second, moves_same, moves_both, holds_kept, long_moved}

-- ---- names

both_true : (a b : Bool) → (a && b) ≡ true → (a ≡ true) × (b ≡ true)
both_true true b h = (refl, h)
both_true false b h = absurd cc

pub same_name_equal : (x y : List ℕ) → same_name x y ≡ true → x ≡ y
same_name_equal [] [] h = refl
same_name_equal [] (y ∷ ys) h = absurd cc
same_name_equal (x ∷ xs) [] h = absurd cc
same_name_equal (x ∷ xs) (y ∷ ys) h =
    let b : ((x == y) ≡ true) × (same_name xs ys ≡ true) = both_true (x == y) (same_name xs ys) h in
    let p : x ≡ y = exact_unsigned_eq x y b.0 in
    let q : xs ≡ ys = same_name_equal xs ys b.1 in cc

by_name : (b : Bool) (x y : Option Value) (e f : P4Expr) (at : Running) (t : State) (v : Value) → (b ≡ true → x ≡ Some v → p4_value at t e ≡ Some v) → (y ≡ Some v → p4_value at t f ≡ Some v) → cond b x y ≡ Some v → p4_value at t (cond b e f) ≡ Some v
by_name true x y e f at t v g h k = g refl k
by_name false x y e f at t v g h k = h k

pub variable_reads : (W : List ℕ → Type 0) (at : Running) (n : ℕ) (s : State) (vars : List Variable) (env : Env) (x : List ℕ) (v : Value) → Holds W n at s vars env → W x → variable env x ≡ Some v → (t : State) → Keeps n s t → p4_value at t (variable_expr vars x) ≡ Some v
variable_reads W at n s [] [] x v h w e t k = absurd cc
variable_reads W at n s (y ∷ vars) (b ∷ env) x v h w e t k =
    rw h.0 (by_name (same_name x b.name) (Some b.value) (variable env x) y.expr (variable_expr vars x) at t v
    (λ q g. h.1 (subst W (same_name_equal x b.name q) w) t k ∙ g) (λ g. variable_reads W at n s vars env x v h.2 w g t k) e)
variable_reads W at n s [] (b ∷ env) x v h w e t k = absurd h
variable_reads W at n s (y ∷ vars) [] x v h w e t k = absurd cc

either_field : (b : Bool) (x y : Option Value) (v : Value) (layout : Layout) (packet : Packet) (ws ns : List ℕ) (i h j : ℕ)
    → (x ≡ Some v → numbered ws ns i ≡ Some v) → (y ≡ Some v → header_field layout packet h j ≡ Some v)
    → cond b x y ≡ Some v → header_field (ws ∷ layout) (ns ∷ packet) (cond b zero (suc h)) (cond b i j) ≡ Some v
either_field true x y v layout packet ws ns i h j f g e = f e
either_field false x y v layout packet ws ns i h j f g e = g e

either_place : (b : Bool) (x y : Option Value) (v : Value) (w m : ℕ) (ws ns : List ℕ) (i : ℕ) → (x ≡ Some v → ◌≡◌ {A = Option Value} (Some (number w m)) (Some v)) → (y ≡ Some v → numbered ws ns i ≡ Some v)
    → cond b x y ≡ Some v → numbered (w ∷ ws) (m ∷ ns) (cond b zero (suc i)) ≡ Some v
either_place true x y v w m ws ns i f g e = f e
either_place false x y v w m ws ns i f g e = g e

in_header : (ps : List Param) (ns : List ℕ) (f : List ℕ) (v : Value) → read_in ps ns f ≡ Some v → numbered (widths_of ps) ns (place_in ps f) ≡ Some v
in_header [] ns f v e = absurd cc
in_header (p ∷ ps) [] f v e = absurd cc
in_header (p ∷ ps) (n ∷ ns) f v e = either_place (same_name f p.name.text) _ (read_in ps ns f) v p.width n (widths_of ps) ns (place_in ps f) (λ g. g) (in_header ps ns f v) e

pub field_reads : (ds : List HeaderDecl) (packet : Packet) (h f : List ℕ) (v : Value) → read_field ds packet h f ≡ Some v
    → header_field (map (λ (d : HeaderDecl). widths_of d.fields) ds) packet (header_place ds h) (field_place ds h f) ≡ Some v
field_reads [] packet h f v e = absurd cc
field_reads (d ∷ ds) [] h f v e = absurd cc
field_reads (d ∷ ds) (ns ∷ packet) h f v e =
    either_field (same_name h d.name.text) (read_in d.fields ns f) (read_field ds packet h f) v _ packet _ ns (place_in d.fields f) (header_place ds h) (field_place ds h f) (in_header d.fields ns f v) (field_reads ds packet h f v) e

-- ---- values that are there

pub first_of_two : (f : Value → Value → Option Value) (a b : Option Value) (v : Value) → with_both f a b ≡ Some v → (x y : Value) × (a ≡ Some x) × (b ≡ Some y) × (f x y ≡ Some v)
first_of_two f None b v e = absurd cc
first_of_two f (Some x) None v e = absurd cc
first_of_two f (Some x) (Some y) v e = (x, y, refl, refl, e)

pub three_of : (f : Value → Value → Value → Option Value) (c a b : Option Value) (v : Value) → with_all f c a b ≡ Some v → (w x y : Value) × (c ≡ Some w) × (a ≡ Some x) × (b ≡ Some y) × (f w x y ≡ Some v)
three_of f None a b v e = absurd cc
three_of f (Some w) None b v e = absurd cc
three_of f (Some w) (Some x) None v e = absurd cc
three_of f (Some w) (Some x) (Some y) v e = (w, x, y, refl, refl, refl, e)

pub then_some : {A : Type 0} (f : A → Option Value) (a : Option A) (v : Value) → option_and_then f a ≡ Some v → (x : A) × (a ≡ Some x) × (f x ≡ Some v)
then_some f None v e = absurd cc
then_some f (Some x) v e = (x, refl, e)

pub all_some : (a : Option ℕ) (b : Option (List ℕ)) (ns : List ℕ) → with_both (λ n rest. Some (n ∷ rest)) a b ≡ Some ns → (m : ℕ) × (rest : List ℕ) × (a ≡ Some m) × (b ≡ Some rest) × (m ∷ rest ≡ ns)
all_some None b ns e = absurd cc
all_some (Some m) None ns e = absurd cc
all_some (Some m) (Some rest) ns e = (m, rest, refl, refl, cc)

implied : (x y : Value) → with_both (apply_binary or_) (apply_unary not_ x) (Some y) ≡ apply_binary implies x y
implied (number w n) (number u m) = refl
implied (number w n) (truth c) = refl
implied (truth b) (number u m) = refl
implied (truth b) (truth c) = refl

operation : (at : Running) (t : State) (op : BinaryOp) (a b : P4Expr) (x y : Value) → p4_value at t a ≡ Some x → p4_value at t b ≡ Some y → p4_value at t (p_operation op a b) ≡ apply_binary op x y
operation at t implies a b x y g h = rw (g, h) (implied x y)
operation at t op a b x y g h = rw (g, h) refl

-- ---- expressions

mutual
  pub expr_reaches : (at : Running) (fill : Filling) (T G : List ℕ → List ℕ → Type 0) (W : List ℕ → Type 0) (context : Context) (c : Callees) → Agree at fill T G context c
      → (e : Expr) (vars : List Variable) (env : Env) (packet : Packet) (n : Counts) (s : State) (v : Value)
      → 0 < n.field → Holds W n.field at s vars env → ReadsAs context.headers packet s.packet → Takes T W context env packet e → AllMade at fill (lower_expr c vars n e).made → Long at s
      → value context env packet e ≡ Some v
      → Reaches at n.field (lower_expr c vars n e).next.field (lower_expr c vars n e).code s (lower_expr c vars n e).expr v
  expr_reaches at fill T G W context c g (name p x) vars env packet n s v low holds reads takes made long e =
      record { after = s; runs = refl; moves = moves_same n.field s; verdict_same = refl; rises = omega arith; gives = λ t m. variable_reads W at n.field s vars env x v holds takes e t m.keeps }
  expr_reaches at fill T G W context c g (field p h f) vars env packet n s v low holds reads takes made long e =
      record { after = s; runs = refl; moves = moves_same n.field s; verdict_same = refl; rises = omega arith; gives = λ t m. rw (g.headers, g.layout, m.packet) (field_reads context.headers s.packet h.text f.text v (reads h.text f.text v e)) }
  expr_reaches at fill T G W context c g (lit p w x) vars env packet n s v low holds reads takes made long e =
      record { after = s; runs = refl; moves = moves_same n.field s; verdict_same = refl; rises = omega arith; gives = λ t m. e }
  expr_reaches at fill T G W context c g (true_or_false p b) vars env packet n s v low holds reads takes made long e =
      record { after = s; runs = refl; moves = moves_same n.field s; verdict_same = refl; rises = omega arith; gives = λ t m. e }
  expr_reaches at fill T G W context c g (call p f es) vars env packet n s v low holds reads takes made long e =
      let w : (ns : List ℕ) × (numbers context env packet es ≡ Some ns) × (context.apply f.text ns ≡ Some v) = then_some (context.apply f.text) (numbers context env packet es) v e in
      let r : LoweredAll = lower_exprs c vars n es in
      let q : Lowered = c.call f.text (lower_exprs c vars n es).exprs (lower_exprs c vars n es).next in
      let a : ReachesAll at n.field (lower_exprs c vars n es).next.field (lower_exprs c vars n es).code s (lower_exprs c vars n es).exprs w.0
      = exprs_reach at fill T G W context c g es vars env packet n s w.0 low holds reads takes.0 (made_first at fill _ _ made) long w.1 in
      let b : Reaches at (lower_exprs c vars n es).next.field _ _ a.after _ v
      = g.calls f.text (lower_exprs c vars n es).exprs w.0 v (lower_exprs c vars n es).next a.after (omega (arith, a.rises)) (takes.1 w.0 w.1) w.2 a.gives (made_second at fill (lower_exprs c vars n es).made _ made) (long_moved at _ s a.after a.moves long) in
      record { after = b.after; runs = run_both at r.code q.code s a.after a.runs ∙ b.runs; moves = moves_both _ _ s a.after b.after a.rises a.moves b.moves; verdict_same = b.verdict_same ∙ a.verdict_same; rises = omega (arith, a.rises, b.rises); gives = b.gives }
  expr_reaches at fill T G W context c g (unary p op x) vars env packet n s v low holds reads takes made long e =
      let w : (u : Value) × (value context env packet x ≡ Some u) × (apply_unary op u ≡ Some v) = then_some (apply_unary op) (value context env packet x) v e in
      let a : Reaches at n.field (lower_expr c vars n x).next.field (lower_expr c vars n x).code s (lower_expr c vars n x).expr w.0
      = expr_reaches at fill T G W context c g x vars env packet n s w.0 low holds reads takes made long w.1 in
      record { after = a.after; runs = a.runs; moves = a.moves; verdict_same = a.verdict_same; rises = a.rises; gives = λ t m. rw (a.gives t m) w.2 }
  expr_reaches at fill T G W context c g (binary p op x y) vars env packet n s v low holds reads takes made long e =
      let w : (u z : Value) × (value context env packet x ≡ Some u) × (value context env packet y ≡ Some z) × (apply_binary op u z ≡ Some v) = first_of_two (apply_binary op) (value context env packet x) (value context env packet y) v e in
      let a : Reaches at n.field (lower_expr c vars n x).next.field (lower_expr c vars n x).code s (lower_expr c vars n x).expr w.0
      = expr_reaches at fill T G W context c g x vars env packet n s w.0 low holds reads takes.0 (made_first at fill _ _ made) long w.2 in
      let b : Reaches at (lower_expr c vars n x).next.field (lower_expr c vars (lower_expr c vars n x).next y).next.field (lower_expr c vars (lower_expr c vars n x).next y).code a.after (lower_expr c vars (lower_expr c vars n x).next y).expr w.1
      = expr_reaches at fill T G W context c g y vars env packet (lower_expr c vars n x).next a.after w.1 (omega (arith, a.rises)) (holds_kept W at _ _ s a.after vars env a.rises a.moves.keeps holds) (rw a.moves.packet reads) takes.1 (made_second at fill (lower_expr c vars n x).made _ made) (long_moved at _ s a.after a.moves long) w.3 in
      record {
        after = b.after;
        runs = run_both at (lower_expr c vars n x).code (lower_expr c vars (lower_expr c vars n x).next y).code s a.after a.runs ∙ b.runs;
        moves = moves_both _ _ s a.after b.after a.rises a.moves b.moves;
        verdict_same = b.verdict_same ∙ a.verdict_same;
        rises = omega (arith, a.rises, b.rises);
        gives = λ t m. operation at t op _ _ w.0 w.1 (a.gives t (moves_both _ _ a.after b.after t b.rises b.moves m)) (b.gives t m) ∙ w.4;
      }
  expr_reaches at fill T G W context c g (slice p x hi lo) vars env packet n s v low holds reads takes made long e =
      let w : (u : Value) × (value context env packet x ≡ Some u) × (apply_slice u hi lo ≡ Some v) = then_some (λ u. apply_slice u hi lo) (value context env packet x) v e in
      let a : Reaches at n.field (lower_expr c vars n x).next.field (lower_expr c vars n x).code s (lower_expr c vars n x).expr w.0
      = expr_reaches at fill T G W context c g x vars env packet n s w.0 low holds reads takes made long w.1 in
      record { after = a.after; runs = a.runs; moves = a.moves; verdict_same = a.verdict_same; rises = a.rises; gives = λ t m. rw (a.gives t m) w.2 }
  expr_reaches at fill T G W context c g (pick p x y z) vars env packet n s v low holds reads takes made long e =
      let w : (i j k : Value) × (value context env packet x ≡ Some i) × (value context env packet y ≡ Some j) × (value context env packet z ≡ Some k) × (apply_pick i j k ≡ Some v) = three_of apply_pick (value context env packet x) (value context env packet y) (value context env packet z) v e in
      let l : Counts = (lower_expr c vars n x).next in
      let l2 : Counts = (lower_expr c vars l y).next in
      let a : Reaches at n.field (lower_expr c vars n x).next.field (lower_expr c vars n x).code s (lower_expr c vars n x).expr w.0
      = expr_reaches at fill T G W context c g x vars env packet n s w.0 low holds reads takes.0 (made_first at fill _ _ made) long w.3 in
      let b : Reaches at l.field (lower_expr c vars l y).next.field (lower_expr c vars l y).code a.after (lower_expr c vars l y).expr w.1
      = expr_reaches at fill T G W context c g y vars env packet l a.after w.1 (omega (arith, a.rises)) (holds_kept W at _ _ s a.after vars env a.rises a.moves.keeps holds) (rw a.moves.packet reads) takes.1
      (made_first at fill (lower_expr c vars l y).made _ (made_second at fill (lower_expr c vars n x).made _ made)) (long_moved at _ s a.after a.moves long) w.4 in
      let d : Reaches at l2.field (lower_expr c vars l2 z).next.field (lower_expr c vars l2 z).code b.after (lower_expr c vars l2 z).expr w.2
      = expr_reaches at fill T G W context c g z vars env packet l2 b.after w.2 (omega (arith, a.rises, b.rises)) (holds_kept W at _ _ a.after b.after vars env b.rises b.moves.keeps (holds_kept W at _ _ s a.after vars env a.rises a.moves.keeps holds)) (rw (b.moves.packet, a.moves.packet) reads) takes.2
      (made_second at fill (lower_expr c vars l y).made _ (made_second at fill (lower_expr c vars n x).made _ made)) (long_moved at _ a.after b.after b.moves (long_moved at _ s a.after a.moves long)) w.5 in
      record {
        after = d.after;
        runs = run_both at (lower_expr c vars n x).code ((lower_expr c vars l y).code ++ (lower_expr c vars l2 z).code) s a.after a.runs ∙ run_both at (lower_expr c vars l y).code (lower_expr c vars l2 z).code a.after b.after b.runs ∙ d.runs;
        moves = moves_both _ _ s a.after d.after a.rises a.moves (moves_both _ _ a.after b.after d.after b.rises b.moves d.moves);
        verdict_same = d.verdict_same ∙ b.verdict_same ∙ a.verdict_same;
        rises = omega (arith, a.rises, b.rises, d.rises);
        gives = λ t m. rw (a.gives t (moves_both _ _ a.after b.after t b.rises b.moves (moves_both _ _ b.after d.after t d.rises d.moves m)), b.gives t (moves_both _ _ b.after d.after t d.rises d.moves m), d.gives t m) w.6;
      }

  pub exprs_reach : (at : Running) (fill : Filling) (T G : List ℕ → List ℕ → Type 0) (W : List ℕ → Type 0) (context : Context) (c : Callees) → Agree at fill T G context c
      → (es : Exprs) (vars : List Variable) (env : Env) (packet : Packet) (n : Counts) (s : State) (ns : List ℕ)
      → 0 < n.field → Holds W n.field at s vars env → ReadsAs context.headers packet s.packet → TakesAll T W context env packet es → AllMade at fill (lower_exprs c vars n es).made → Long at s
      → numbers context env packet es ≡ Some ns
      → ReachesAll at n.field (lower_exprs c vars n es).next.field (lower_exprs c vars n es).code s (lower_exprs c vars n es).exprs ns
  exprs_reach at fill T G W context c g no_exprs vars env packet n s ns low holds reads takes made long e =
      record { after = s; runs = refl; moves = moves_same n.field s; verdict_same = refl; rises = omega arith; gives = λ t m. subst (λ (o : List ℕ). NumbersAt at t [] o) (inside e) tt }
    where
      inside : {ms : List ℕ} → ◌≡◌ {A = Option (List ℕ)} (Some []) (Some ms) → [] ≡ ms
      inside h = cc
  exprs_reach at fill T G W context c g (expr x es) vars env packet n s ns low holds reads takes made long e =
      let w : (m : ℕ) × (rest : List ℕ) × (option_and_then as_number (value context env packet x) ≡ Some m) × (numbers context env packet es ≡ Some rest) × (m ∷ rest ≡ ns) = all_some (option_and_then as_number (value context env packet x)) (numbers context env packet es) ns e in
      let u : (u : Value) × (value context env packet x ≡ Some u) × (as_number u ≡ Some w.0) = then_number (value context env packet x) w.0 w.2 in
      let l : Counts = (lower_expr c vars n x).next in
      let a : Reaches at n.field (lower_expr c vars n x).next.field (lower_expr c vars n x).code s (lower_expr c vars n x).expr u.0
      = expr_reaches at fill T G W context c g x vars env packet n s u.0 low holds reads takes.0 (made_first at fill _ _ made) long u.1 in
      let b : ReachesAll at l.field (lower_exprs c vars l es).next.field (lower_exprs c vars l es).code a.after (lower_exprs c vars l es).exprs w.1
      = exprs_reach at fill T G W context c g es vars env packet l a.after w.1 (omega (arith, a.rises)) (holds_kept W at _ _ s a.after vars env a.rises a.moves.keeps holds) (rw a.moves.packet reads) takes.1
      (made_second at fill (lower_expr c vars n x).made _ made) (long_moved at _ s a.after a.moves long) w.3 in
      record {
        after = b.after;
        runs = run_both at (lower_expr c vars n x).code (lower_exprs c vars l es).code s a.after a.runs ∙ b.runs;
        moves = moves_both _ _ s a.after b.after a.rises a.moves b.moves;
        verdict_same = b.verdict_same ∙ a.verdict_same;
        rises = omega (arith, a.rises, b.rises);
        gives = λ t m. subst (λ (o : List ℕ). NumbersAt at t ((lower_expr c vars n x).expr ∷ (lower_exprs c vars l es).exprs) o) w.4
            (rw (a.gives t (moves_both _ _ a.after b.after t b.rises b.moves m)) u.2, b.gives t m);
      }
    where
      then_number : (o : Option Value) (m : ℕ) → option_and_then as_number o ≡ Some m → (u : Value) × (o ≡ Some u) × (as_number u ≡ Some m)
      then_number None m h = absurd cc
      then_number (Some u) m h = (u, refl, h)
