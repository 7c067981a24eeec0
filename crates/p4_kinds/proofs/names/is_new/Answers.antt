use Rattle.p4_kinds.proofs.NameFacts.{name_joins}
use Rattle.p4_kinds.proofs.names.is_new.Goals as goal

pub returns : goal.returns
returns c =
    name_joins c.args.name.now c.args.names.now.keys c.insert.new.self.keys c.in_ok-key.key c.in_ok-is_new.is_new (c.in_ok-key.ensures.items_if_clones_equal (λ x y h. h))
    c.in_ok-is_new.ensures.keys c.in_ok-is_new.ensures.added
