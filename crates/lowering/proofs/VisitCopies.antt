-- What leaves where a visit reaches a fork: the fork's block, for a member of its group.
use Rattle.std.specs.Prelude.{◌≡◌, ℕ, Bool, true, false, cond, List, [], ◌∷◌, ◌++◌, Option, Some, None, option_and_then, option_map, refl}
use Rattle.std.proofs.Common.{sym, ◌∙◌, ap, subst}
use Rattle.cocoon_num.specs.Names.{named}
use Rattle.cocoon_num.specs.Packets.{Layout, Packet}
use Rattle.cocoon_num.specs.Tree.{Name, Expr, call, Exprs, FunctionDecl, HeaderDecl}
use Rattle.cocoon_num.specs.Values.{Value, number, truth}
use Rattle.cocoon_types.specs.Tables.{Defs, look_up}
use Rattle.cocoon_types.specs.Val.{Env, apply_in, bound, numbers, value}
use Rattle.p4_ir.specs.P4Tree.{Program, program_layout}
use Rattle.p4_ir.specs.Switch.{Departure, Outcome, sent_by, state_of}
use Rattle.lowering.specs.Agrees.{inner_context}
use Rattle.lowering.specs.Ends.{Sent}
use Rattle.lowering.specs.LowerBlock.{fork_args, fork_function, exprs_before_last}
use Rattle.lowering.specs.Visit.{Visit, on, leaves, copies, nothing, where_true}
use Rattle.lowering.specs.Departs.{departure, left_by}
use Rattle.lowering.specs.Serving.{is_true}
use Rattle.lowering.specs.Forks.{EndsIn, ForkIs}
use Rattle.lowering.proofs.Conditions.{applied, numbers_end}
use Rattle.lowering.proofs.Reaching.{AtFork}

-- ---- the condition

of_call : (headers : List HeaderDecl) (defs : Defs) (fs : List FunctionDecl) (at : ℕ) (g : Name) (es : Exprs) (x : List ℕ) (w n : ℕ) (env : Env) (packet : Packet) (ns : List ℕ) (d : FunctionDecl)
    → EndsIn x es → named (λ (d : FunctionDecl). d.name) g.text fs ≡ Some d → d.body ≡ None → numbers (inner_context headers defs fs) env packet (exprs_before_last es) ≡ Some ns
    → value (inner_context headers defs fs) (bound x (number w n) env) packet (call at g es) ≡ look_up defs g.text (ns ++ (n ∷ []))
of_call headers defs fs at g es x w n env packet ns d ends named_d none h =
    ap (option_and_then (apply_in headers defs fs g.text)) (numbers_end (inner_context headers defs fs) x w n env packet es ends ns h)
    ∙ applied headers defs fs g.text (ns ++ (n ∷ [])) d named_d none

-- it is what the function gives at the arguments and the choice
pub condition_is : (headers : List HeaderDecl) (defs : Defs) (fs : List FunctionDecl) (x : List ℕ) (w : ℕ) (e : Expr) → ForkIs fs x w e → (n : ℕ) (env : Env) (packet : Packet) (ns : List ℕ)
    → numbers (inner_context headers defs fs) env packet (fork_args e) ≡ Some ns
    → value (inner_context headers defs fs) (bound x (number w n) env) packet e ≡ look_up defs (fork_function e) (ns ++ (n ∷ []))
condition_is headers defs fs x w e k n env packet ns =
    subst (λ z. numbers (inner_context headers defs fs) env packet (fork_args z) ≡ Some ns → value (inner_context headers defs fs) (bound x (number w n) env) packet z ≡ look_up defs (fork_function z) (ns ++ (n ∷ [])))
    (sym k.is_call) (λ h. of_call headers defs fs k.at k.function k.args x w n env packet ns k.decl k.ends k.declared k.runtime h)

pub declared_is : (fs : List FunctionDecl) (x : List ℕ) (w : ℕ) (e : Expr) (k : ForkIs fs x w e) → named (λ (d : FunctionDecl). d.name) (fork_function e) fs ≡ Some k.decl
declared_is fs x w e k = subst (λ z. named (λ (d : FunctionDecl). d.name) (fork_function z) fs ≡ Some k.decl) (sym k.is_call) k.declared

-- ---- the block

-- what the egress run of a copy sends is what the block leaves
pub sent_shows : (p : Program) (layout : Layout) → program_layout p ≡ layout → (payload : List ℕ) (V : Visit) (ran : Option Outcome) → Sent V ran → AtFork (λ f env packet. ⊥) V
    → option_and_then (sent_by p payload) (option_map state_of ran) ≡ option_and_then (departure layout payload) (left_by V)
sent_shows p layout same payload (on env packet) ran e none = rw (e.ran, e.verdict_is) refl
sent_shows p layout same payload (leaves to packet) ran e none = rw (e.ran, e.verdict_is, e.port_is, e.packet_is, same) refl
sent_shows p layout same payload (copies f env packet) ran e none = absurd none
sent_shows p layout same payload nothing ran e none = rw (e.ran, e.verdict_is) refl

-- ---- the choice

pub true_is : (v : Option Value) → is_true v ≡ true → v ≡ Some (truth true)
true_is None h = absurd cc
true_is (Some (number w n)) h = absurd cc
true_is (Some (truth true)) h = refl
true_is (Some (truth false)) h = absurd cc

none_left : (v : Option Value) (V : Visit) → is_true v ≡ false → left_by (where_true v V nothing) ≡ None
none_left None V h = refl
none_left (Some (number w n)) V h = refl
none_left (Some (truth true)) V h = absurd cc
none_left (Some (truth false)) V h = refl

-- a copy leaves if its choice is a member, and the fork takes it if it fits and the condition is true
pub chosen : (member fits : Bool) (v : Option Value) (V : Visit) (sent : Departure) (layout : Layout) (payload : List ℕ)
    → (member ≡ true → (fits ≡ true) × (v ≡ Some (truth true)) × (sent ≡ option_and_then (departure layout payload) (left_by V)))
    → (member ≡ false → fits ≡ true → is_true v ≡ false)
    → cond member sent None ≡ option_and_then (departure layout payload) (cond fits (left_by (where_true v V nothing)) None)
chosen true fits v V sent layout payload h g = let k = h refl in rw (k.0, k.1) k.2
chosen false true v V sent layout payload h g = sym (ap (option_and_then (departure layout payload)) (none_left v V (g refl refl)))
chosen false false v V sent layout payload h g = refl
