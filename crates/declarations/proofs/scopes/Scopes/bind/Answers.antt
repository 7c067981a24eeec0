use Rattle.std.proofs.Common.{◌≡◌, ◌∷◌, ◌++◌, [], subst, sym, ◌∙◌, ap, rules}
use Rattle.declarations.specs.Widths.{width_in}
use Rattle.declarations.specs.Kept.{IsKept}
use Rattle.declarations.proofs.Keeping.{binding}
use Rattle.declarations.proofs.scopes.Scopes.bind.Goals as goal

pub invariant_of-self-2 : goal.invariant_of-self-2
invariant_of-self-2 c =
    let same : c.bytes.result.now ≡ c.in_ok-text.text.items = search rules in
    let kept = binding c.self.inside.bound.items (record { at = c.args.name.now.at; name = c.in_ok-text.text; width = c.args.width; hides = c.width-hides.result })
    c.self.inside.widths c.insert.new.self c.in_ok-key.key c.self.invariant c.in_ok-insert.ensures.updates (search rules)
    (c.width-hides.ensures ∙ (λ i. width_in (sym c.self.view_is i) (same i))) in
    subst (λ xs. IsKept xs c.insert.new.self)
    (sym (c.in_ok-push.ensures.items ∙ ap (λ xs. xs ++ (record { at = c.args.name.now.at; name = c.in_ok-text.text; width = c.args.width; hides = c.width-hides.result }) ∷ []) c.in_ok-reserve.ensures.items))
    kept
