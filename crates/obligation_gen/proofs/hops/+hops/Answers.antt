use Rattle.std.proofs.Common.{◌≡◌, ◌++◌, sym, subst, rules, arith}
use Rattle.std.proofs.lemmas.Result.{IfOk-weaker}
use Rattle.bv_terms.specs.Arenas.{inputs_in}
use Rattle.bv_terms.proofs.ReplaceFacts.{keeps-both}
use Rattle.obligation_laws.specs.Following.{Followed}
use Rattle.obligation_laws.specs.Leaves as laws
use Rattle.obligation_laws.specs.Leaves.{onward}
use Rattle.symbolic_runs.specs.Reading.{state_of, states_of, world_in}
use Rattle.obligation_gen.specs.Bodies.{design_in, new_in}
use Rattle.obligation_gen.specs.ShownTrees.{ShowsLeaves}
use Rattle.obligation_gen.proofs.Bodies.{Gone, first_stands, hopped, leaves_in, on_ok_weaker, one_gone}
use Rattle.obligation_gen.proofs.hops.+hops.Goals as goal

pub go_on-from_way-requires : goal.go_on-from_way-requires
go_on-from_way-requires t c =
    let h = c.args.hops.now in
    let f = onward (new_in h) (laws.hops (world_in h.world) (new_in h) c.args.bodies) in (
      omega arith,
      (
        c.requires.level,
        (
          c.requires.sizes,
          first_stands h f c.args.terms.now c.loop-state.terms c.args.states.items c.loop-state.state-iterator.rest.items c.loop-state.leaves.items c.in-Some.state c.next.new.self.rest.items c.in-Some.ensures.steps.0
              c.loop-state.invariant,
        ),
      ),
    )

pub go_on-returns-in_err-more-clause-kept : goal.go_on-returns-in_err-more-clause-kept
go_on-returns-in_err-more-clause-kept t c = keeps-both c.args.terms.now c.loop-state.terms c.from_way.new.terms c.loop-state.invariant.kept c.from_way.ensures.kept

pub go_on-returns-in_err-append-clause-kept : goal.go_on-returns-in_err-append-clause-kept
go_on-returns-in_err-append-clause-kept t c = keeps-both c.args.terms.now c.loop-state.terms c.from_way.new.terms c.loop-state.invariant.kept c.from_way.ensures.kept

pub go_on-loop-state-preserved : goal.go_on-loop-state-preserved
go_on-loop-state-preserved t c =
    let h = c.args.hops.now in
    let f = onward (new_in h) (laws.hops (world_in h.world) (new_in h) c.args.bodies) in
    let start = c.args.terms.now in
    let now = c.loop-state.terms in
    let new = c.from_way.new.terms in
    let all = c.args.states.items in
    let left = c.loop-state.state-iterator.rest.items in
    let rest = c.next.new.self.rest.items in
    let leaves = c.loop-state.leaves.items in
    let more = c.in_ok-more.more.items in
    let items : c.append.new.self.items ≡ leaves ++ more = search rules in
    subst (Gone h f start new all rest) (sym items)
    (one_gone h f start now new all left leaves more c.in-Some.state rest c.in-Some.ensures.steps.0 c.from_way.ensures.kept c.loop-state.invariant c.in_ok-more.ensures.leaves c.in_ok-more.ensures.next)

pub hop-returns-clause-leaves : goal.hop-returns-clause-leaves
hop-returns-clause-leaves t c =
    let h = c.args.hops.now in
    let a = c.args.terms.now in
    let m = c.follow_body.new.terms in
    let same = hopped (world_in h.world) (new_in h) c.args.bodies (state_of a c.args.state) (inputs_in a) (states_of m c.in_ok-states.states.items) (inputs_in m) c.requires.bodies c.in_ok-states.ensures.states c.in_ok-states.ensures.next in
    IfOk-weaker c.go_on.result _ _ (λ v k. subst (λ (z : Followed). ShowsLeaves (design_in h) c.go_on.new.terms v.items (leaves_in (new_in h) z)) same k) c.go_on.ensures.leaves

pub hop-returns-clause-next : goal.hop-returns-clause-next
hop-returns-clause-next t c =
    let h = c.args.hops.now in
    let a = c.args.terms.now in
    let m = c.follow_body.new.terms in
    let same = hopped (world_in h.world) (new_in h) c.args.bodies (state_of a c.args.state) (inputs_in a) (states_of m c.in_ok-states.states.items) (inputs_in m) c.requires.bodies c.in_ok-states.ensures.states c.in_ok-states.ensures.next in
    on_ok_weaker c.go_on.result _ _ (λ k. subst (λ (z : Followed). inputs_in c.go_on.new.terms ≡ z.1) same k) c.go_on.ensures.next
