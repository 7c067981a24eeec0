use Rattle.std.proofs.Common.{rules, arith, ◌≡◌, ◌+◌, ◌++◌, ◌∷◌, [], map, take, inl, inr, sym, subst}
use Rattle.std.proofs.lemmas.List.{length-map, take_all}
use Rattle.cocoon_num.specs.Tokens.{brackets_after, operators_after}
use Rattle.parsing.proofs.Depths.{Shallow, is_shallow_yet, one_shallow, one_is_deep, taken_one}
use Rattle.parsing.proofs.deep.first_deep.Goals.{then-brackets-most_open-via-then-brackets-most_open, then-brackets-most_open-via-else-brackets-most_open+then-operators-most_operators}
use Rattle.parsing.proofs.deep.first_deep.Goals as goal

pub returns-then-brackets-most_open-clause-deep : goal.returns-then-brackets-most_open-clause-deep
returns-then-brackets-most_open-clause-deep g c text =
    let bounds = g.D.Depth.bounds in
    let kind_at = g.D.Depth.kind_at text in
    let tokens = c.args.tokens.now in
    let at = c.loop-at.at in
    let token = c.index-tokens-at.result in
    let b : c.open_after-brackets.result ≡ brackets_after c.loop-at.brackets (kind_at token) = search rules in
    let o : c.count_after-operators.result ≡ operators_after bounds.operators c.loop-at.operators (kind_at token) = search rules in
    let next : take (at + 1) (map kind_at tokens) ≡ take at (map kind_at tokens) ++ kind_at token ∷ [] = taken_one kind_at tokens at token (omega arith) c.index-tokens-at.is in
    record {
      within = omega (arith, length-map tokens kind_at);
      before = is_shallow_yet bounds _ _ _ (c.loop-at.invariant.shallow text);
      deep = one_is_deep bounds _ _ _ _ _ next (c.loop-at.invariant.shallow text) (elim c.then-brackets-most_open.branch [
        | then-brackets-most_open-via-then-brackets-most_open w ↦ inl (omega (arith, b, c.most_open-most_open.ensures.is))
        | then-brackets-most_open-via-else-brackets-most_open+then-operators-most_operators w ↦ inr (omega (arith, o, c.most_operators-most_operators.ensures.is))
      ]);
    }

pub loop-at-preserved : goal.loop-at-preserved
loop-at-preserved g c = record {
  few_brackets = omega (arith, c.most_open-most_open.ensures.is);
  few_operators = omega (arith, c.most_operators-most_operators.ensures.is);
  shallow = λ text.
      let bounds = g.D.Depth.bounds in
      let kind_at = g.D.Depth.kind_at text in
      let tokens = c.args.tokens.now in
      let at = c.loop-at.at in
      let token = c.index-tokens-at.result in
      let b : c.open_after-brackets.result ≡ brackets_after c.loop-at.brackets (kind_at token) = search rules in
      let o : c.count_after-operators.result ≡ operators_after bounds.operators c.loop-at.operators (kind_at token) = search rules in
      let next : take (at + 1) (map kind_at tokens) ≡ take at (map kind_at tokens) ++ kind_at token ∷ [] = taken_one kind_at tokens at token (omega arith) c.index-tokens-at.is in
      subst (λ n. Shallow bounds (take (at + 1) (map kind_at tokens)) n c.count_after-operators.result) (sym b)
      (subst (λ n. Shallow bounds (take (at + 1) (map kind_at tokens)) (brackets_after c.loop-at.brackets (kind_at token)) n) (sym o)
      (one_shallow bounds _ _ _ _ _ next (c.loop-at.invariant.shallow text) (omega (arith, b, c.most_open-most_open.ensures.is)) (omega (arith, o, c.most_operators-most_operators.ensures.is))));
}

pub returns-clause-deep : goal.returns-clause-deep
returns-clause-deep g c text =
    let bounds = g.D.Depth.bounds in
    let kind_at = g.D.Depth.kind_at text in
    let tokens = c.args.tokens.now in
    let all : take c.loop-at.at (map kind_at tokens) ≡ map kind_at tokens = take_all c.loop-at.at (map kind_at tokens) (omega (arith, length-map tokens kind_at)) in
    is_shallow_yet bounds _ _ _ (subst (λ ks. Shallow bounds ks c.loop-at.brackets c.loop-at.operators) all (c.loop-at.invariant.shallow text))
