-- Private clauses of `ways` cite it: the ways through statements, where those that send count as many as the leaves behind
-- them, and as the code counts them, with numbers of 64 bits, which stop at the last.
use Rattle.std.specs.Prelude.{ℕ, List, [], ◌∷◌, if◌then◌else◌}
use Rattle.cocoon_num.specs.Names.{same_name}
use Rattle.cocoon_num.specs.Tree.{Stmt, if_, fork, send, Block, no_stmts, stmt}
use Rattle.cocoon_types.specs.Limits as spec
use Rattle.cocoon_types.specs.Limits.{either, followed_by, one_going}
use Rattle.obligation_gen.specs.declared.ways.RoleLeaves.{RoleLeaves}
use Rattle.obligation_gen.specs.declared.ways.Ways.{Ways}

-- the leaves behind a way that sends to a role, where those of some roles are told, and each other has one
abbrev pub leaves_in : List RoleLeaves → List ℕ → ℕ
leaves_in [] x = 1
leaves_in (r ∷ rs) x = if same_name x r.name.now then r.leaves else leaves_in rs x

-- what does not send has no leaf
abbrev pub sent_only : spec.Ways → spec.Ways
sent_only a = record { ended = a.ended; going = 0 }

abbrev mutual
  -- the ways through a statement, where this many leaves stand behind a way that sends to a role
  pub weighed : (List ℕ → ℕ) → Stmt → spec.Ways
  weighed leaves (if_ at e a b) = either (weighed_in leaves a) (weighed_in leaves b)
  weighed leaves (fork at x w e b) = sent_only (weighed_in leaves b)
  weighed leaves (send at r es) = record { ended = leaves r.text; going = 0 }
  weighed leaves _ = one_going

  -- those through a block
  pub weighed_in : (List ℕ → ℕ) → Block → spec.Ways
  weighed_in leaves no_stmts = one_going
  weighed_in leaves (stmt first rest) = followed_by (weighed leaves first) (weighed_in leaves rest)

-- ---- as the code counts them

-- the ways that the code's stand for
abbrev pub ways_of : Ways → spec.Ways
ways_of w = record { ended = w.ended; going = w.going }

-- the ways as they are reported
abbrev pub reported_ways : spec.Ways → Ways
reported_ways w = record { ended = spec.reported w.ended; going = spec.reported w.going }
