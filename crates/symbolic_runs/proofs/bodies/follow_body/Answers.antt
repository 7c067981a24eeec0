use Rattle.std.proofs.Common.{◌≡◌, ℕ, List, [], ◌∷◌, All, map, option_map, Some, None, rules, refl, sym, ap, subst, ◌∙◌}
use Rattle.std.proofs.lemmas.List.Elements.{All-nil}
use Rattle.std.proofs.lemmas.Result.{IfOk-weaker}
use Rattle.cocoon_syntax.specs.TreeOf.{block_of, role_of, stmt_of}
use Rattle.bv_terms.specs.Arenas.{inputs_in}
use Rattle.bv_terms.proofs.ReplaceFacts.{keeps-both}
use Rattle.obligation_laws.specs.Following.{Followed, follow_all}
use Rattle.symbolic_runs.specs.Fitting.{CanFollow, Stands}
use Rattle.symbolic_runs.specs.Reading.{Follows, from_place, place_of, state_of, states_of, world_in}
use Rattle.symbolic_runs.proofs.FromPlaces.{followed_body, on_ok, sent_stand}
use Rattle.symbolic_runs.proofs.Stepping.{reads_self}
use Rattle.symbolic_runs.proofs.bodies.follow_body.Goals as goal

pub returns-in_default-clause-states : goal.returns-in_default-clause-states
returns-in_default-clause-states c =
    let a = c.args.terms.now in
    let s = c.args.state in
    let none : from_place (world_in c.args.world.now) (state_of a s) (inputs_in a) ≡ ([], inputs_in a) = c.body_at.ensures.none (search rules) a (state_of a s) (inputs_in a) refl in
    ap (states_of a) c.new.ensures.items ∙ sym (ap (λ (r : Followed). r.0) none)

pub returns-in_default-clause-next : goal.returns-in_default-clause-next
returns-in_default-clause-next c =
    let a = c.args.terms.now in
    let s = c.args.state in
    let none : from_place (world_in c.args.world.now) (state_of a s) (inputs_in a) ≡ ([], inputs_in a) = c.body_at.ensures.none (search rules) a (state_of a s) (inputs_in a) refl in
    sym (ap (λ (r : Followed). r.1) none)

pub returns-in_default-clause-stand : goal.returns-in_default-clause-stand
returns-in_default-clause-stand c = subst (All (Stands c.args.world.now c.args.terms.now [])) (sym c.new.ensures.items) (All-nil (Stands c.args.world.now c.args.terms.now []))

pub follow_block-requires-clause-can : goal.follow_block-requires-clause-can
follow_block-requires-clause-can c =
    let w = c.args.world.now in
    let a = c.args.terms.now in
    let s = c.args.state in
    let found = c.in-Some.ensures.found in
    let reads = c.in_ok-enter.ensures a (state_of a s) (place_of a found.place) (reads_self a s c.requires.stands.there) (ap (option_map (place_of a)) found.is) in
    subst (λ ss. CanFollow w a ss (block_of (map stmt_of c.in-Some.body.now))) (sym c.in_ok-states.ensures)
    (followed_body w c.know.ensures a s c.enter.new.state (role_of c.in-Some.role.now) (block_of (map stmt_of c.in-Some.body.now)) c.requires.stands found reads).can

pub returns-clause-states : goal.returns-clause-states
returns-clause-states c =
    let w = c.args.world.now in
    let a = c.args.terms.now in
    let z = c.follow_block.new.terms in
    let s = c.args.state in
    let found = c.in-Some.ensures.found in
    let e = c.enter.new.state in
    let b = block_of (map stmt_of c.in-Some.body.now) in
    let reads = c.in_ok-enter.ensures a (state_of a s) (place_of a found.place) (reads_self a s c.requires.stands.there) (ap (option_map (place_of a)) found.is) in
    let by = followed_body w c.know.ensures a s e (role_of c.in-Some.role.now) b c.requires.stands found reads in
    let k : Follows z c.in_ok-states-2.states.items (follow_all (world_in w) b (states_of a (e ∷ []), inputs_in a)) =
    subst (λ ss. Follows z c.in_ok-states-2.states.items (follow_all (world_in w) b (states_of a ss, inputs_in a))) c.in_ok-states.ensures c.in_ok-states-2.ensures.follows in
    IfOk-weaker c.those_sent.result _ _ (λ v h. (h z _ k).are ∙ ap (λ (r : Followed). r.0) by.is) c.those_sent.ensures

pub returns-clause-next : goal.returns-clause-next
returns-clause-next c =
    let w = c.args.world.now in
    let a = c.args.terms.now in
    let z = c.follow_block.new.terms in
    let s = c.args.state in
    let found = c.in-Some.ensures.found in
    let e = c.enter.new.state in
    let b = block_of (map stmt_of c.in-Some.body.now) in
    let reads = c.in_ok-enter.ensures a (state_of a s) (place_of a found.place) (reads_self a s c.requires.stands.there) (ap (option_map (place_of a)) found.is) in
    let by = followed_body w c.know.ensures a s e (role_of c.in-Some.role.now) b c.requires.stands found reads in
    let k : Follows z c.in_ok-states-2.states.items (follow_all (world_in w) b (states_of a (e ∷ []), inputs_in a)) =
    subst (λ ss. Follows z c.in_ok-states-2.states.items (follow_all (world_in w) b (states_of a ss, inputs_in a))) c.in_ok-states.ensures c.in_ok-states-2.ensures.follows in
    on_ok c.those_sent.result (k.next ∙ ap (λ (r : Followed). r.1) by.is)

pub returns-clause-stand : goal.returns-clause-stand
returns-clause-stand c =
    let w = c.args.world.now in
    let a = c.args.terms.now in
    let z = c.follow_block.new.terms in
    let s = c.args.state in
    let found = c.in-Some.ensures.found in
    let e = c.enter.new.state in
    let b = block_of (map stmt_of c.in-Some.body.now) in
    let reads = c.in_ok-enter.ensures a (state_of a s) (place_of a found.place) (reads_self a s c.requires.stands.there) (ap (option_map (place_of a)) found.is) in
    let by = followed_body w c.know.ensures a s e (role_of c.in-Some.role.now) b c.requires.stands found reads in
    let k : Follows z c.in_ok-states-2.states.items (follow_all (world_in w) b (states_of a (e ∷ []), inputs_in a)) =
    subst (λ ss. Follows z c.in_ok-states-2.states.items (follow_all (world_in w) b (states_of a ss, inputs_in a))) c.in_ok-states.ensures c.in_ok-states-2.ensures.follows in
    IfOk-weaker c.those_sent.result _ _ (λ v h. sent_stand w c.know.ensures a z e b v.items by.can (h z _ k)) c.those_sent.ensures
