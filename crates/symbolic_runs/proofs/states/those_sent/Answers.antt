use Rattle.std.proofs.Common.{◌≡◌, List, [], ◌∷◌, ◌++◌, All, true, false, rules, sym, ap, subst, ◌∙◌}
use Rattle.std.specs.Prelude.{filter, is_some}
use Rattle.std.proofs.lemmas.List.{append-nil}
use Rattle.std.proofs.lemmas.List.Elements.{All-append}
use Rattle.obligation_laws.specs.Following.{has_sent}
use Rattle.symbolic_runs.specs.Reading.{IsThere, states_of}
use Rattle.symbolic_runs.proofs.Growing.{head_all, one_all, tail_all}
use Rattle.symbolic_runs.proofs.Lists.{empty_of, sent_more, sent_past}
use Rattle.symbolic_runs.proofs.states.those_sent.Goals as goal

pub loop-state-preserved-in-Continue-1 : goal.loop-state-preserved-in-Continue-1
loop-state-preserved-in-Continue-1 c =
    let s = c.in-Some.state in
    let out = c.loop-state.sent.items in
    let rest = c.next.new.self.rest.items in
    let front : c.loop-state.state-iterator.rest.items ≡ s ∷ rest = c.in-Some.ensures.steps.0 in
    let yes : is_some s.sent ≡ true = search rules in
    let items : c.push.new.self.items ≡ out ++ s ∷ [] = search rules in
    record {
      read = λ a. ap (λ o. states_of a o ++ filter has_sent (states_of a rest)) items ∙ sent_more a out rest s yes
          ∙ ap (λ r. states_of a out ++ filter has_sent (states_of a r)) (sym front) ∙ c.loop-state.invariant.read a;
      there = λ a all.
          let h = c.loop-state.invariant.there a all in
          let both = subst (All (IsThere a)) front h.1 in (
            subst (All (IsThere a)) (sym items) (All-append (IsThere a) out (s ∷ []) h.0 (one_all (IsThere a) s (head_all (IsThere a) s rest both))),
            tail_all (IsThere a) s rest both,
          );
    }

pub loop-state-preserved : goal.loop-state-preserved
loop-state-preserved c =
    let s = c.in-Some.state in
    let out = c.loop-state.sent.items in
    let rest = c.next.new.self.rest.items in
    let front : c.loop-state.state-iterator.rest.items ≡ s ∷ rest = c.in-Some.ensures.steps.0 in
    let no : is_some s.sent ≡ false = search rules in
    record {
      read = λ a. sent_past a out rest s no ∙ ap (λ r. states_of a out ++ filter has_sent (states_of a r)) (sym front) ∙ c.loop-state.invariant.read a;
      there = λ a all. let h = c.loop-state.invariant.there a all in (h.0, tail_all (IsThere a) s rest (subst (All (IsThere a)) front h.1));
    }

pub returns : goal.returns
returns c = λ a f k.
    let out = c.loop-state.sent.items in
    let end : c.loop-state.state-iterator.rest.items ≡ [] = empty_of c.loop-state.state-iterator.rest.items (sym c.loop-state.state-iterator.rest.ok.0 ∙ c.in-None.ensures.steps.0) in
    record {
      there = (c.loop-state.invariant.there a k.there).0;
      are = sym (append-nil (states_of a out)) ∙ ap (λ r. states_of a out ++ filter has_sent (states_of a r)) (sym end) ∙ c.loop-state.invariant.read a ∙ ap (filter has_sent) k.are;
      next = k.next;
    }
