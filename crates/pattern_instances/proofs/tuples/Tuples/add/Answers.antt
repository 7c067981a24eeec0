use Rattle.std.proofs.Common.{◌≡◌, ℕ, [], ◌∷◌, ◌++◌, Vec, not, sym, ap, subst, ◌∙◌}
use Rattle.std.specs.declared.alloc.Global.{Global}
use Rattle.std.proofs.lemmas.List.{map-append}
use Rattle.numbering.specs.KeyPlaces.{Holds, first_place}
use Rattle.pattern_instances.specs.Found.{HasTuples, tuple_ids, with_ids}
use Rattle.pattern_instances.proofs.Adding.{with-new, with-old}
use Rattle.pattern_instances.proofs.tuples.Tuples.add.Goals as goal

pub returns-in_ok-push : goal.returns-in_ok-push
returns-in_ok-push c = λ tuples h.
    let x = c.args.tuple.items in
    let same : c.deref-2.result.now ≡ x = c.deref-2.ensures.value ∙ c.in_ok-key.ensures ∙ c.deref.ensures.value in
    let again : c.deref-then-is_none.result.now ≡ x = c.deref-then-is_none.ensures.value ∙ c.in_ok-key.ensures ∙ c.deref.ensures.value in
    let place : c.place.result ≡ first_place x tuples = c.place.ensures tuples h.keys_ ∙ ap (λ k. first_place k tuples) same in
    let new : with_ids tuples x ≡ tuples ++ x ∷ [] = with-new tuples x c.place.result place (c.is_none.ensures ∙ ap not c.if-is_none.true) in
    subst (HasTuples (record { tuples = c.push.new.self; keys = c.append.new.self })) (sym new) (record {
      keys_ = subst (λ k. Holds c.append.new.self (tuples ++ k ∷ [])) again (c.in_ok-append.ensures tuples h.keys_);
      are = ap tuple_ids c.in_ok-push.ensures.items ∙ map-append (λ (v : Vec ℕ Global). v.items) c.args.self.now.tuples.items (c.args.tuple ∷ []) ∙ ap (λ ts. ts ++ x ∷ []) h.are;
    })

pub returns-else-is_none : goal.returns-else-is_none
returns-else-is_none c = λ tuples h.
    let x = c.args.tuple.items in
    let same : c.deref-2.result.now ≡ x = c.deref-2.ensures.value ∙ c.in_ok-key.ensures ∙ c.deref.ensures.value in
    let place : c.place.result ≡ first_place x tuples = c.place.ensures tuples h.keys_ ∙ ap (λ k. first_place k tuples) same in
    subst (HasTuples (record { tuples = c.args.self.now.tuples; keys = c.args.self.now.keys })) (sym (with-old tuples x c.place.result place (c.is_none.ensures ∙ ap not c.if-is_none.false))) h
