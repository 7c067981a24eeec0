-- What holds of each fork of a body holds of the fork that a visit reaches.
use Rattle.std.specs.Prelude.{◌≡◌, ℕ, Bool, true, false, List, Option, Some, None, refl}
use Rattle.std.proofs.Common.{ap, subst}
use Rattle.cocoon_num.specs.Packets.{Packet}
use Rattle.cocoon_num.specs.Tree.{Stmt, let_, set_field, if_, filter, havoc_var, havoc_field, assume, fork, send, Block, no_stmts, stmt}
use Rattle.cocoon_num.specs.Values.{Value, number, truth}
use Rattle.cocoon_types.specs.Design.{write_field}
use Rattle.cocoon_types.specs.Val.{Context, Env, bound, numbers, value}
use Rattle.lowering.specs.Agrees.{EitherOf}
use Rattle.lowering.specs.Ends.{Fits, FitsAll, Onward}
use Rattle.lowering.specs.LowerBlock.{fork_args, fork_function}
use Rattle.lowering.specs.Visit.{Forked, Visit, on, leaves, copies, nothing, back_in, then_visit, visit, visit_all, where_true, with_number, with_numbers, with_value}
use Rattle.lowering.specs.Forks.{AllForks, OfFork, StmtForks}

-- it holds of the fork that is reached, if one is
abbrev pub AtFork : (Forked → Env → Packet → Type 0) → Visit → Type 0
AtFork P (on env packet) = Unit {0}
AtFork P (leaves to packet) = Unit {0}
AtFork P (copies f env packet) = P f env packet
AtFork P nothing = Unit {0}

-- ---- the parts of a visit

at_value : (P : Forked → Env → Packet → Type 0) (v : Option Value) (k : Value → Visit) → ((v : Value) → AtFork P (k v)) → AtFork P (with_value v k)
at_value P None k h = tt
at_value P (Some v) k h = h v

at_number : (P : Forked → Env → Packet → Type 0) (v : Value) (k : ℕ → Visit) → ((n : ℕ) → AtFork P (k n)) → AtFork P (with_number v k)
at_number P (number w n) k h = h n
at_number P (truth b) k h = tt

at_numbers : (P : Forked → Env → Packet → Type 0) (ns : Option (List ℕ)) (k : List ℕ → Visit) → ((ns : List ℕ) → AtFork P (k ns)) → AtFork P (with_numbers ns k)
at_numbers P None k h = tt
at_numbers P (Some ns) k h = h ns

at_either : (P : Forked → Env → Packet → Type 0) (v : Option Value) (U V : Visit) → (v ≡ Some (truth true) → AtFork P U) → (v ≡ Some (truth false) → AtFork P V) → AtFork P (where_true v U V)
at_either P None U V h g = tt
at_either P (Some (truth true)) U V h g = h refl
at_either P (Some (truth false)) U V h g = g refl
at_either P (Some (number w n)) U V h g = tt

at_back : (P : Forked → Env → Packet → Type 0) (env : Env) (V : Visit) → AtFork P V → AtFork P (back_in env V)
at_back P env (on inner packet) h = tt
at_back P env (leaves to packet) h = tt
at_back P env (copies f inner packet) h = h
at_back P env nothing h = tt

at_then : (P : Forked → Env → Packet → Type 0) (Q : Env → Packet → Type 0) (V : Visit) (k : Env → Packet → Visit) → AtFork P V → Onward V Q → ((env : Env) (packet : Packet) → Q env packet → AtFork P (k env packet)) → AtFork P (then_visit V k)
at_then P Q (on env packet) k h q g = g env packet q
at_then P Q (leaves to packet) k h q g = tt
at_then P Q (copies f env packet) k h q g = h
at_then P Q nothing k h q g = tt

always : (V : Visit) → Onward V (λ env packet. Unit {0})
always (on env packet) = tt
always (leaves to packet) = tt
always (copies f env packet) = tt
always nothing = tt

-- ---- what is said of each fork

abbrev pub Of : OfFork → Forked → Env → Packet → Type 0
Of P f env packet = P f.x f.width f.e

mutual
  stmt_reached : (P : OfFork) (c : Context) (s : Stmt) (env : Env) (packet : Packet) → StmtForks P s → AtFork (Of P) (visit c s env packet)
  stmt_reached P c (let_ at x w e) env packet h = at_value (Of P) (value c env packet e) (λ v. on (bound x.text v env) packet) (λ v. tt)
  stmt_reached P c (set_field at hd f e) env packet h =
      at_value (Of P) (value c env packet e) (λ v. with_number v (λ n. on env (write_field c.headers packet hd.text f.text n))) (λ v. at_number (Of P) v (λ n. on env (write_field c.headers packet hd.text f.text n)) (λ n. tt))
  stmt_reached P c (if_ at e a b) env packet h =
      at_back (Of P) env _ (at_either (Of P) (value c env packet e) (visit_all c a env packet) (visit_all c b env packet) (λ q. reached P c a env packet h.0) (λ q. reached P c b env packet h.1))
  stmt_reached P c (filter at e) env packet h = at_either (Of P) (value c env packet e) (on env packet) nothing (λ q. tt) (λ q. tt)
  stmt_reached P c (havoc_var at x w) env packet h = tt
  stmt_reached P c (havoc_field at hd f) env packet h = tt
  stmt_reached P c (assume at e) env packet h = tt
  stmt_reached P c (fork at x w e body) env packet h = h
  stmt_reached P c (send at r es) env packet h = at_numbers (Of P) (numbers c env packet es) (λ ns. leaves (record { role = r.text; values = ns }) packet) (λ ns. tt)

  pub reached : (P : OfFork) (c : Context) (b : Block) (env : Env) (packet : Packet) → AllForks P b → AtFork (Of P) (visit_all c b env packet)
  reached P c no_stmts env packet h = tt
  reached P c (stmt s rest) env packet h =
      at_then (Of P) (λ env packet. Unit {0}) (visit c s env packet) (λ env' packet'. visit_all c rest env' packet') (stmt_reached P c s env packet h.0) (always (visit c s env packet))
      (λ env' packet' q. reached P c rest env' packet' h.1)

-- ---- what fits

-- the arguments before the choice have numbers, which are right for a group
abbrev pub Grouped : (List ℕ → List ℕ → Type 0) → Context → Forked → Env → Packet → Type 0
Grouped G c f env packet = (ns : List ℕ) × (numbers c env packet (fork_args f.e) ≡ Some ns) × G (fork_function f.e) ns

truth_is : (v : Option Value) (b d : Bool) → v ≡ Some (truth b) → v ≡ Some (truth d) → b ≡ d
truth_is v b d h g = inside (subst (λ o. o ≡ Some (truth d)) h g)
  where
    bool_of : Option Value → Bool
    bool_of (Some (truth c)) = c
    bool_of _ = false

    inside : ◌≡◌ {A = Option Value} (Some (truth b)) (Some (truth d)) → b ≡ d
    inside e = ap bool_of e

mutual
  stmt_grouped : (T G : List ℕ → List ℕ → Type 0) (W : List ℕ → Type 0) (c : Context) (s : Stmt) (env : Env) (packet : Packet) → Fits T G W c s env packet → AtFork (Grouped G c) (visit c s env packet)
  stmt_grouped T G W c (let_ at x w e) env packet h = at_value (Grouped G c) (value c env packet e) (λ v. on (bound x.text v env) packet) (λ v. tt)
  stmt_grouped T G W c (set_field at hd f e) env packet h =
      at_value (Grouped G c) (value c env packet e) (λ v. with_number v (λ n. on env (write_field c.headers packet hd.text f.text n))) (λ v. at_number (Grouped G c) v (λ n. on env (write_field c.headers packet hd.text f.text n)) (λ n. tt))
  stmt_grouped T G W c (if_ at e a b) env packet h =
      at_back (Grouped G c) env _ (at_either (Grouped G c) (value c env packet e) (visit_all c a env packet) (visit_all c b env packet)
      (λ q. grouped T G W c a env packet (subst (λ d. EitherOf d (FitsAll T G W c a env packet) (FitsAll T G W c b env packet)) (truth_is (value c env packet e) h.1 true h.2 q) h.3))
      (λ q. grouped T G W c b env packet (subst (λ d. EitherOf d (FitsAll T G W c a env packet) (FitsAll T G W c b env packet)) (truth_is (value c env packet e) h.1 false h.2 q) h.3)))
  stmt_grouped T G W c (filter at e) env packet h = at_either (Grouped G c) (value c env packet e) (on env packet) nothing (λ q. tt) (λ q. tt)
  stmt_grouped T G W c (havoc_var at x w) env packet h = tt
  stmt_grouped T G W c (havoc_field at hd f) env packet h = tt
  stmt_grouped T G W c (assume at e) env packet h = tt
  stmt_grouped T G W c (fork at x w e body) env packet h = (h.1, h.2, h.3)
  stmt_grouped T G W c (send at r es) env packet h = at_numbers (Grouped G c) (numbers c env packet es) (λ ns. leaves (record { role = r.text; values = ns }) packet) (λ ns. tt)

  pub grouped : (T G : List ℕ → List ℕ → Type 0) (W : List ℕ → Type 0) (c : Context) (b : Block) (env : Env) (packet : Packet) → FitsAll T G W c b env packet → AtFork (Grouped G c) (visit_all c b env packet)
  grouped T G W c no_stmts env packet h = tt
  grouped T G W c (stmt s rest) env packet h =
      at_then (Grouped G c) (λ env' packet'. FitsAll T G W c rest env' packet') (visit c s env packet) (λ env' packet'. visit_all c rest env' packet') (stmt_grouped T G W c s env packet h.0) h.1
      (λ env' packet' q. grouped T G W c rest env' packet' q)

-- a block in which no fork fits reaches none
pub no_fork : (c : Context) (V : Visit) → AtFork (Grouped (λ g ns. ⊥) c) V → AtFork (λ f env packet. ⊥) V
no_fork c (on env packet) q = tt
no_fork c (leaves to packet) q = tt
no_fork c (copies f env packet) q = q.2
no_fork c nothing q = tt
