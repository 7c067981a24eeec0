use Rattle.std.proofs.Common.{◌∙◌, ap, ◌++◌, ◌∷◌, []}
use Rattle.declarations.proofs.role_table.RoleTable.append_new.Goals as goal

pub returns : goal.returns
returns c = record {
  names = λ ns h. c.in_ok-append.ensures ns h;
  list = c.push.new.self;
  only = c.in_ok-push.ensures.items ∙ ap (λ l. l ++ c.args.place ∷ []) c.new-places.ensures.items;
  places = c.in_ok-push-2.ensures.items;
}
