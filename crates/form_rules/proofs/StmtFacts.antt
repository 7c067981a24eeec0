-- The faults of a statement with its blocks: its own, and those of its parts.
use Rattle.std.proofs.Common.{◌≡◌, ℕ, ◌+◌, ◌<◌, ◌&&◌, ◌||◌, Bool, true, false, not, List, [], ◌∷◌, map, drop, length, get_or, Option, Some, None, is_some, rules, refl, sym, ap, subst, ◌∙◌}
use Rattle.std.proofs.lemmas.List.{drop_more}
use Rattle.std.specs.Prelude.{option_map}
use Rattle.std.specs.List.{list_any}
use Rattle.cocoon_num.specs.Tree.{Name, Design, Expr, Stmt, Block, stmt, if_, fork}
use Rattle.cocoon_syntax.specs.TreeOf.{block_of, host_of, name_of, param_of, stmt_of, switch_of}
use Rattle.cocoon_syntax.specs.declared.stmt.Stmt.{Stmt as Statement}
use Rattle.cocoon_syntax.specs.declared.stmt.StmtKind.{the_lemmas}
use Rattle.cocoon_types.specs.FirstFault.{Fault}
use Rattle.cocoon_types.specs.Noting.{Notes, NotingLaws}
use Rattle.cocoon_types.specs.RuleParts.{unless, stmt_at}
use Rattle.cocoon_types.specs.Rules.{Rule, not_switch_form, not_wire, last_choice, fork_form}
use Rattle.cocoon_types.specs.FormRules.{fork_condition}
use Rattle.cocoon_types.specs.Among.{among, AmongLaws}
use Rattle.form_rules.specs.declared.wires.Wire.{Wire}
use Rattle.form_rules.specs.declared.sends.Sender.{Sender}
use Rattle.form_rules.specs.declared.stmts.Asked.{Asked}
use Rattle.form_rules.specs.Stmts.{stmts_of, stmts_in, is_fork, has_fork, holds_fork, fields_at, may_have, sends_own, forks_well}
use Rattle.form_rules.specs.Tested.{choice_fails, wire_fails, send_fails, fork_fails, beside_forks, at_stmt, in_stmt, in_block}
use Rattle.form_rules.proofs.Membership.{or_assoc, or_false, any-append, among-none}

-- ---- the token index of a statement

pub stands-at : (s : Statement) → stmt_at (stmt_of s) ≡ s.at
stands-at s = search (rules, the_lemmas)

-- a test by another name
pub moved : (rule : Rule) (a b : Bool) (m n : ℕ) {o p : Option Fault} → a ≡ b → n ≡ m → Notes (among rule (unless a m)) o p → Notes (among rule (unless b n)) o p
moved rule a b m n {o} {p} e h k = subst (λ l. Notes (among rule l) o p) (λ i. unless (e i) (sym h i)) k

-- ---- a rule at a statement

-- what a wire may not have or read
pub wire-notes : AmongLaws → (w : Wire) (s : Statement) (may : Bool) {o p q : Option Fault}
    → may ≡ may_have (host_of w.host.now) (switch_of w.switch.now) (name_of w.name.now) (stmt_of s)
    → Notes (among not_wire (unless may s.at)) o p → Notes (among not_wire (fields_at (stmt_of s))) p q → Notes (among not_wire (wire_fails (Some w) (stmt_of s))) o q
wire-notes laws w s may {o} {p} {q} e m n =
    laws.append not_wire (unless (may_have (host_of w.host.now) (switch_of w.switch.now) (name_of w.name.now) (stmt_of s)) (stmt_at (stmt_of s))) (fields_at (stmt_of s)) o p q
    (moved not_wire may (may_have (host_of w.host.now) (switch_of w.switch.now) (name_of w.name.now) (stmt_of s)) s.at (stmt_at (stmt_of s)) e (stands-at s) m) n

-- a `send` of the first switch role
pub send-notes : (s : Sender) (a : Statement) (own : Bool) {o p : Option Fault} → own ≡ sends_own s.out.now (option_map (λ q. param_of q.now) s.own) (stmt_of a)
    → Notes (among not_switch_form (unless own a.at)) o p → Notes (among not_switch_form (send_fails (Some s) (stmt_of a))) o p
send-notes s a own e m = moved not_switch_form own (sends_own s.out.now (option_map (λ q. param_of q.now) s.own) (stmt_of a)) a.at (stmt_at (stmt_of a)) e (stands-at a) m

-- a fork of it
pub fork-form-notes : (d : Design) (so : Option Sender) (at w : ℕ) (x : Name) (e : Expr) (b : Block) (formed forks : Bool) {o p : Option Fault} → is_some so ≡ true
    → formed ≡ (fork_condition d x.text e && not forks) → forks ≡ holds_fork b
    → Notes (among fork_form (unless formed at)) o p → Notes (among fork_form (fork_fails d so (fork at x w e b))) o p
fork-form-notes d None at w x e b formed forks h i k m = absurd (apart h)
  where
    apart : false ≡ true → ⊥
    apart q = cc
fork-form-notes d (Some s) at w x e b formed forks {o} {p} h i k m =
    subst (λ t. Notes (among fork_form (unless t at)) o p) (i ∙ ap (λ t. fork_condition d x.text e && not t) k) m

-- nothing is asked
pub no-fork-form : (d : Design) (so : Option Sender) (a : Stmt) → is_some so ≡ false → fork_fails d so a ≡ []
no-fork-form d None a h = refl
no-fork-form d (Some s) a h = absurd (apart h)
  where
    apart : true ≡ false → ⊥
    apart q = cc

-- ---- statements

well : (d : Design) (so : Option Sender) (a : Stmt) (f : Fault) → forks_well d a ≡ true → among fork_form (fork_fails d so a) f ≡ false
well d None a f e = among-none fork_form f
well d (Some s) a f e = ap (λ b. among fork_form (unless b (stmt_at a)) f) e ∙ among-none fork_form f

three : (a b c : Bool) → ((a || b) || c) ≡ ((a || c) || b)
three true b c = refl
three false true true = refl
three false true false = refl
three false false true = refl
three false false false = refl

-- a statement itself
pub itself : NotingLaws → (asked : Asked) (a : Stmt) {o p q r : Option Fault} → Notes (among last_choice (choice_fails a)) o p → Notes (among not_wire (wire_fails asked.wire a)) p q
    → Notes (among not_switch_form (send_fails asked.sender a)) q r → Notes (beside_forks asked a) o r
itself laws asked a {o} {p} {q} {r} m n k = laws.in_turn _ _ o q r (laws.in_turn _ _ o p q m n) k

module _ (laws : NotingLaws) (d : Design) (asked : Asked) where
  -- one without a block
  pub plain : (a : Stmt) {o p : Option Fault} → stmts_of a ≡ a ∷ [] → forks_well d a ≡ true → Notes (beside_forks asked a) o p → Notes (in_stmt d asked a) o p
  plain a {o} {p} e h m =
      laws.alike (beside_forks asked a) (in_stmt d asked a) o p
      (λ f. sym (ap (list_any (λ b. at_stmt d asked b f)) e ∙ or_false (at_stmt d asked a f) ∙ ap (λ b. beside_forks asked a f || b) (well d asked.sender a f h) ∙ or_false (beside_forks asked a f))) m

  pub if-notes : (at : ℕ) (e : Expr) (a b : Block) {o p q r : Option Fault} → Notes (beside_forks asked (if_ at e a b)) o p → Notes (in_block d asked a) p q → Notes (in_block d asked b) q r
      → Notes (in_stmt d asked (if_ at e a b)) o r
  if-notes at e a b {o} {p} {q} {r} m n k =
      laws.alike _ (in_stmt d asked (if_ at e a b)) o r
      (λ f. sym ((λ i. (ap (λ t. beside_forks asked (if_ at e a b) f || t) (well d asked.sender (if_ at e a b) f refl) ∙ or_false (beside_forks asked (if_ at e a b) f)) i
      || any-append (λ s. at_stmt d asked s f) (stmts_in a) (stmts_in b) i)
      ∙ or_assoc (beside_forks asked (if_ at e a b) f) (in_block d asked a f) (in_block d asked b f)))
      (laws.in_turn _ _ o q r (laws.in_turn _ _ o p q m n) k)

  pub fork-notes : (at : ℕ) (x : Name) (w : ℕ) (e : Expr) (b : Block) {o p q r : Option Fault} → Notes (beside_forks asked (fork at x w e b)) o p → Notes (in_block d asked b) p q
      → Notes (among fork_form (fork_fails d asked.sender (fork at x w e b))) q r → Notes (in_stmt d asked (fork at x w e b)) o r
  fork-notes at x w e b {o} {p} {q} {r} m n k =
      laws.alike _ (in_stmt d asked (fork at x w e b)) o r
      (λ f. three (beside_forks asked (fork at x w e b) f) (in_block d asked b f) (among fork_form (fork_fails d asked.sender (fork at x w e b)) f))
      (laws.in_turn _ _ o q r (laws.in_turn _ _ o p q m n) k)

  -- ---- a block, statement by statement

  pub block-notes : (b rest : Block) (a : Stmt) {o p q : Option Fault} → b ≡ stmt a rest → Notes (in_stmt d asked a) o p → Notes (in_block d asked rest) p q → Notes (in_block d asked b) o q
  block-notes b rest a {o} {p} {q} e m n =
      laws.alike _ (in_block d asked b) o q
      (λ f. sym (ap (λ c. in_block d asked c f) e ∙ any-append (λ s. at_stmt d asked s f) (stmts_of a) (stmts_in rest)))
      (laws.in_turn _ _ o p q m n)

-- the next statement, and the rest
pub rest-step : (ss : List Statement) (i : ℕ) (a : Statement) → i < length ss → a ≡ get_or ss i a
    → block_of (map stmt_of (drop i ss)) ≡ stmt (stmt_of a) (block_of (map stmt_of (drop (i + 1) ss)))
rest-step ss i a l h = ap (λ (xs : List Statement). block_of (map stmt_of xs)) (drop_more ss i a l ∙ ap (λ (y : Statement). y ∷ drop (i + 1) ss) (sym h))

-- ---- forks

pub if-forks : (at : ℕ) (e : Expr) (a b : Block) → has_fork (if_ at e a b) ≡ (holds_fork a || holds_fork b)
if-forks at e a b = any-append is_fork (stmts_in a) (stmts_in b)

pub forks-more : (so more now whole : Bool) (a : Stmt) (b rest : Block) → now ≡ (so || more) → more ≡ has_fork a → b ≡ stmt a rest → (so || holds_fork b) ≡ whole → (now || holds_fork rest) ≡ whole
forks-more so more now whole a b rest hn hm hb h =
    (λ i. (hn ∙ ap (λ x. so || x) hm) i || holds_fork rest)
    ∙ sym (or_assoc so (has_fork a) (holds_fork rest))
    ∙ ap (λ x. so || x) (sym (ap holds_fork hb ∙ any-append is_fork (stmts_of a) (stmts_in rest))) ∙ h
