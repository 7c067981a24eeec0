-- Cited by the clauses of the walk over a body: what is asked of its statements, and the faults that stand at each.
use Rattle.std.specs.Prelude.{ℕ, ◌||◌, Bool, not, List, [], ◌++◌, Option, Some, None, option_map}
use Rattle.std.specs.List.{list_any}
use Rattle.cocoon_num.specs.Tree.{name, Exprs, Stmt, Block, Design}
use Rattle.cocoon_syntax.specs.TreeOf.{host_of, name_of, param_of, switch_of}
use Rattle.cocoon_types.specs.FirstFault.{Fault}
use Rattle.cocoon_types.specs.FormRules.{is_choice}
use Rattle.cocoon_types.specs.Parts.{parts_of}
use Rattle.cocoon_types.specs.RuleParts.{unless, stmt_at}
use Rattle.cocoon_types.specs.Rules.{not_switch_form, not_wire, last_choice, fork_form}
use Rattle.cocoon_types.specs.SameTrees.{same_expr}
use Rattle.cocoon_types.specs.Among.{among}
use Rattle.form_rules.specs.Stmts.{stmts_of, stmts_in, fields_at, may_have, sends_own, forks_well}
use Rattle.form_rules.specs.declared.wires.Wire.{Wire}
use Rattle.form_rules.specs.declared.sends.Sender.{Sender}
use Rattle.form_rules.specs.declared.stmts.Asked.{Asked}

-- a variable occurs in one of some expressions
abbrev pub any_mentions : List ℕ → Exprs → Bool
any_mentions x es = list_any (λ a. same_expr a (name 0 x)) (parts_of es)

-- ---- the token indices at which a rule fails at a statement

-- a choice
abbrev pub choice_fails : Stmt → List ℕ
choice_fails a = unless (not (is_choice a)) (stmt_at a)

-- a wire may have the statement, its expressions aside
abbrev pub wire_may_have : Wire → Stmt → Bool
wire_may_have w a = may_have (host_of w.host.now) (switch_of w.switch.now) (name_of w.name.now) a

-- what a wire may not have or read, where the body is that of a wire
abbrev pub wire_fails : Option Wire → Stmt → List ℕ
wire_fails None a = []
wire_fails (Some w) a = unless (wire_may_have w a) (stmt_at a) ++ fields_at a

-- a `send` to anything but SwOut[s, e], where the body is that of the first switch role
abbrev pub send_fails : Option Sender → Stmt → List ℕ
send_fails None a = []
send_fails (Some s) a = unless (sends_own s.out.now (option_map (λ p. param_of p.now) s.own) a) (stmt_at a)

-- a fork that is not of its form, where it is that
abbrev pub fork_fails : Design → Option Sender → Stmt → List ℕ
fork_fails d None a = []
fork_fails d (Some s) a = unless (forks_well d a) (stmt_at a)

-- ---- faults

-- the fault stands at a statement, by another rule than that on forks
abbrev pub beside_forks : Asked → Stmt → Fault → Bool
beside_forks asked a f =
    (among last_choice (choice_fails a) f || among not_wire (wire_fails asked.wire a) f)
    || among not_switch_form (send_fails asked.sender a) f

-- it stands at a statement
abbrev pub at_stmt : Design → Asked → Stmt → Fault → Bool
at_stmt d asked a f = beside_forks asked a f || among fork_form (fork_fails d asked.sender a) f

-- it stands in a statement, its blocks included
abbrev pub in_stmt : Design → Asked → Stmt → Fault → Bool
in_stmt d asked a f = list_any (λ b. at_stmt d asked b f) (stmts_of a)

-- it stands in a block
abbrev pub in_block : Design → Asked → Block → Fault → Bool
in_block d asked b f = list_any (λ a. at_stmt d asked a f) (stmts_in b)
