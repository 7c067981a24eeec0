use Rattle.std.specs.Prelude.{true, false, refl}
use Rattle.cocoon_resolve.proofs.RoleNames.{name_joins}
use Rattle.cocoon_resolve.proofs.counts.new_name.Goals as goal

pub returns-then-is_new : goal.returns-then-is_new
returns-then-is_new c =
    name_joins c.args.name.now c.args.seen.now.keys c.insert.new.self.keys c.in_ok-key.key true 1 (c.in_ok-key.ensures.items_if_clones_equal (λ x y h. h))
    c.in_ok-is_new.ensures.keys (rw c.if-is_new.true at c.in_ok-is_new.ensures.added) refl

pub returns-else-is_new : goal.returns-else-is_new
returns-else-is_new c =
    name_joins c.args.name.now c.args.seen.now.keys c.insert.new.self.keys c.in_ok-key.key false 0 (c.in_ok-key.ensures.items_if_clones_equal (λ x y h. h))
    c.in_ok-is_new.ensures.keys (rw c.if-is_new.false at c.in_ok-is_new.ensures.added) refl
