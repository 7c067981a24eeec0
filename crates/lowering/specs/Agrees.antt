-- Cited by `expression_reaches`, `body_ends`, `copy_ends` and `visit_is_body`. How a state of the program agrees with
-- a state of the design, and what is asked of definitions and functions.
use Rattle.std.specs.Prelude.{◌≡◌, ℕ, ◌^◌, ◌<◌, ◌≤◌, Bool, true, false, List, [], ◌∷◌, map, length, slice_get, Option, Some, None, option_and_then}
use Rattle.cocoon_num.specs.Values.{Value, number, truth, as_number}
use Rattle.cocoon_num.specs.Tree.{Param, Expr, name, Exprs, FunctionDecl, HeaderDecl, ResultKind, of_width, of_truth, field, lit, true_or_false, call, unary, binary, slice, pick, no_exprs, expr}
use Rattle.cocoon_num.specs.Names.{same_name}
use Rattle.cocoon_num.specs.Packets.{Packet}
use Rattle.cocoon_types.specs.Design.{read_field, widths_of}
use Rattle.cocoon_types.specs.Tables.{Defs, look_up}
use Rattle.cocoon_types.specs.Val.{Env, bind, value, numbers, apply_in, Context}
use Rattle.p4_ir.specs.P4Tree.{P4Expr, P4Stmt, TableRows, field_widths, program_layout}
use Rattle.p4_ir.specs.Switch.{State, p4_value, p4_run, then_run, table_numbered, rows_numbered, table_result, Running, Outcome, proceeds}
use Rattle.lowering.specs.Lower.{Counts, Made, a_field, a_table, a_group, params_before_last, Variable, Callees}

-- ---- code as a list

abbrev pub run_list : Running → List P4Stmt → State → Option Outcome
run_list at [] s = Some (proceeds s)
run_list at (x ∷ xs) s = then_run (p4_run at x s) (run_list at xs)

-- a value as a table's result: a truth value is 1 or 0
abbrev pub code_of : Value → ℕ
code_of (number w n) = n
code_of (truth true) = 1
code_of (truth false) = 0

-- ---- what was made is there

-- what rows are made from: the definitions, and the number of a function's group at some arguments
pub record Filling : Type 0 where
  pub defs : Defs
  pub group : List ℕ → List ℕ → ℕ

-- as many numbers as parameters, that fit them
abbrev pub FitAll : List Param → List ℕ → Type 0
FitAll [] [] = Unit {0}
FitAll (p ∷ ps) (n ∷ ns) = (n < 2 ^ p.width) × FitAll ps ns
FitAll [] (n ∷ ns) = ⊥
FitAll (p ∷ ps) [] = ⊥

abbrev pub IsMade : Running → Filling → Made → Type 0
IsMade at fill (a_field called i width) = slice_get (field_widths at.program.meta) i ≡ Some width
IsMade at fill (a_table t f ps) = (table_numbered at.tables t.number ≡ Some t)
    × (r : TableRows) × (rows_numbered at.rows t.number ≡ Some r)
    × ((ns : List ℕ) (v : Value) → FitAll ps ns → look_up fill.defs f ns ≡ Some v → table_result r.rows r.otherwise ns ≡ code_of v)
IsMade at fill (a_group t f ps) = (table_numbered at.tables t.number ≡ Some t)
    × (r : TableRows) × (rows_numbered at.rows t.number ≡ Some r) × ((ns : List ℕ) → FitAll ps ns → table_result r.rows r.otherwise ns ≡ fill.group f ns)

abbrev pub AllMade : Running → Filling → List Made → Type 0
AllMade at fill [] = Unit {0}
AllMade at fill (m ∷ ms) = IsMade at fill m × AllMade at fill ms

-- a state has a number for each meta field
pub record Long (at : Running) (s : State) : Type 0 where
  pub long : length s.meta ≡ length (field_widths at.program.meta)
  pub some : 0 < length s.meta

-- ---- states

-- meta fields below n are as they were, but for the field `site`, which is the first
pub record Keeps (n : ℕ) (from to : State) : Type 0 where
  pub long : length to.meta ≡ length from.meta
  pub same : (i : ℕ) → 0 < i → i < n → slice_get to.meta i ≡ slice_get from.meta i

-- and the packet too
pub record Moves (n : ℕ) (from to : State) : Type 0 where
  pub keeps : Keeps n from to
  pub packet : to.packet ≡ from.packet

-- each variable that is wanted is read as its value, as long as fields below n are kept
abbrev pub Holds : (List ℕ → Type 0) → ℕ → Running → State → List Variable → Env → Type 0
Holds W n at s [] [] = Unit {0}
Holds W n at s (x ∷ vars) (b ∷ env) = (x.name ≡ b.name) × (W b.name → (to : State) → Keeps n s to → p4_value at to x.expr ≡ Some b.value) × Holds W n at s vars env
Holds W n at s [] (b ∷ env) = ⊥
Holds W n at s (x ∷ vars) [] = ⊥

-- what can be read in the one packet is the same in the other
abbrev pub ReadsAs : List HeaderDecl → Packet → Packet → Type 0
ReadsAs headers packet other = (h f : List ℕ) (v : Value) → read_field headers packet h f ≡ Some v → read_field headers other h f ≡ Some v

abbrev pub NumbersAt : Running → State → List P4Expr → List ℕ → Type 0
NumbersAt at s [] [] = Unit {0}
NumbersAt at s (e ∷ es) (n ∷ ns) = (option_and_then as_number (p4_value at s e) ≡ Some n) × NumbersAt at s es ns
NumbersAt at s [] (n ∷ ns) = ⊥
NumbersAt at s (e ∷ es) [] = ⊥

-- From a state the code goes on to one in which, and as long as fields below `to` and the packet are kept, e has the
-- value v. It touches only fields from `from` on.
pub record Reaches (at : Running) (from to : ℕ) (code : List P4Stmt) (s : State) (e : P4Expr) (v : Value) : Type 0 where
  pub after : State
  pub runs : run_list at code s ≡ Some (proceeds after)
  pub moves : Moves from s after
  pub verdict_same : after.verdict ≡ s.verdict
  pub rises : from ≤ to
  pub gives : (t : State) → Moves to after t → p4_value at t e ≡ Some v

pub record ReachesAll (at : Running) (from to : ℕ) (code : List P4Stmt) (s : State) (es : List P4Expr) (ns : List ℕ) : Type 0 where
  pub after : State
  pub runs : run_list at code s ≡ Some (proceeds after)
  pub moves : Moves from s after
  pub verdict_same : after.verdict ≡ s.verdict
  pub rises : from ≤ to
  pub gives : (t : State) → Moves to after t → NumbersAt at t es ns

-- ---- what typing gives

abbrev pub EitherOf : Bool → Type 0 → Type 0 → Type 0
EitherOf true A B = A
EitherOf false A B = B

-- numbers that a function takes
abbrev pub TakesIn : List FunctionDecl → List ℕ → List ℕ → Type 0
TakesIn [] f ns = ⊥
TakesIn (d ∷ earlier) f ns = EitherOf (same_name f d.name.text) (FitAll d.params ns) (TakesIn earlier f ns)

-- the names in an expression are wanted, and each call has arguments that the function takes
abbrev mutual
  pub Takes : (List ℕ → List ℕ → Type 0) → (List ℕ → Type 0) → Context → Env → Packet → Expr → Type 0
  Takes T W s env packet (name at x) = W x
  Takes T W s env packet (field at h f) = Unit {0}
  Takes T W s env packet (lit at w n) = Unit {0}
  Takes T W s env packet (true_or_false at b) = Unit {0}
  Takes T W s env packet (call at f es) = TakesAll T W s env packet es × ((ns : List ℕ) → numbers s env packet es ≡ Some ns → T f.text ns)
  Takes T W s env packet (unary at op a) = Takes T W s env packet a
  Takes T W s env packet (binary at op a b) = Takes T W s env packet a × Takes T W s env packet b
  Takes T W s env packet (slice at a high low) = Takes T W s env packet a
  Takes T W s env packet (pick at c a b) = Takes T W s env packet c × Takes T W s env packet a × Takes T W s env packet b

  pub TakesAll : (List ℕ → List ℕ → Type 0) → (List ℕ → Type 0) → Context → Env → Packet → Exprs → Type 0
  TakesAll T W s env packet no_exprs = Unit {0}
  TakesAll T W s env packet (expr e es) = Takes T W s env packet e × TakesAll T W s env packet es

abbrev pub IsOf : ResultKind → Value → Type 0
IsOf (of_width w) v = (n : ℕ) × (v ≡ number w n)
IsOf of_truth v = (b : Bool) × (v ≡ truth b)

abbrev pub inner_context : List HeaderDecl → Defs → List FunctionDecl → Context
inner_context headers defs functions = record { headers = headers; apply = apply_in headers defs functions }

abbrev pub BodyFits : List HeaderDecl → Defs → FunctionDecl → List FunctionDecl → Option Expr → Type 0
BodyFits headers defs d earlier None =
    (ns : List ℕ) (v : Value) → FitAll d.params ns → look_up defs d.name.text ns ≡ Some v → IsOf d.result v
BodyFits headers defs d earlier (Some e) =
    (ns : List ℕ) (env : Env) → FitAll d.params ns → bind d.params ns ≡ Some env
    → Takes (TakesIn earlier) (λ x. Unit {0}) (inner_context headers defs earlier) env [] e
    × ((v : Value) → value (inner_context headers defs earlier) env [] e ≡ Some v → IsOf d.result v)

-- tables and bodies give what their function declares
abbrev pub FunctionsFit : List HeaderDecl → Defs → List FunctionDecl → Type 0
FunctionsFit headers defs [] = Unit {0}
FunctionsFit headers defs (d ∷ earlier) = BodyFits headers defs d earlier d.body × FunctionsFit headers defs earlier

-- ---- calls

abbrev pub CallsRise : Callees → Type 0
CallsRise c = ((f : List ℕ) (es : List P4Expr) (n : Counts) → n.field ≤ (c.call f es n).next.field) × ((f : List ℕ) (es : List P4Expr) (n : Counts) → n.field ≤ (c.group f es n).next.field)

-- the lowering of each call goes on to the function's value
abbrev pub CallsReach : Running → Filling → (List ℕ → List ℕ → Type 0) → Context → Callees → Type 0
CallsReach at fill T context c =
    (f : List ℕ) (es : List P4Expr) (ns : List ℕ) (v : Value) (n : Counts) (s : State)
    → 0 < n.field → T f ns → context.apply f ns ≡ Some v → ((t : State) → Moves n.field s t → NumbersAt at t es ns)
    → AllMade at fill (c.call f es n).made → Long at s
    → Reaches at n.field (c.call f es n).next.field (c.call f es n).code s (c.call f es n).expr v

-- arguments that a fork's function takes before the choice
abbrev pub GroupTakesIn : List FunctionDecl → List ℕ → List ℕ → Type 0
GroupTakesIn [] f ns = ⊥
GroupTakesIn (d ∷ earlier) f ns = EitherOf (same_name f d.name.text) (FitAll (params_before_last d.params) ns) (GroupTakesIn earlier f ns)

-- a fork's table gives the number of the group
abbrev pub GroupsReach : Running → Filling → (List ℕ → List ℕ → Type 0) → Callees → Type 0
GroupsReach at fill G c =
    (f : List ℕ) (es : List P4Expr) (ns : List ℕ) (n : Counts) (s : State)
    → 0 < n.field → G f ns → ((t : State) → Moves n.field s t → NumbersAt at t es ns)
    → AllMade at fill (c.group f es n).made → Long at s
    → Reaches at n.field (c.group f es n).next.field (c.group f es n).code s (c.group f es n).expr (number 16 (fill.group f ns))

pub record Agree (at : Running) (fill : Filling) (T G : List ℕ → List ℕ → Type 0) (context : Context) (c : Callees) : Type 0 where
  pub headers : c.headers ≡ context.headers
  pub layout : program_layout at.program ≡ map (λ (h : HeaderDecl). widths_of h.fields) context.headers
  pub calls : CallsReach at fill T context c
  pub groups : GroupsReach at fill G c
  pub port : (f ns : List ℕ) → G f ns → (p : ℕ) × (at.port ≡ Some p)
  pub rise : CallsRise c
