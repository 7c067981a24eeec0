use Rattle.std.proofs.Common.{◌≡◌, ◌+◌, ◌-◌, ℕ, true, false, Option, Some, None, IfSome, option_map, ap, subst, sym, ◌∙◌}
use Rattle.cocoon_num.specs.PacketForms.{FieldsFit}
use Rattle.cocoon_resolve.specs.Readers.{field_widths, HasRole}
use Rattle.cocoon_syntax.specs.TreeOf.{design_of}
use Rattle.refinement.specs.Segments.{is_new}
use Rattle.role_meaning.specs.Goings.{led_of}
use Rattle.role_meaning.specs.Located.{loc_of, role_name, sent_of}
use Rattle.role_meaning.specs.declared.place.Led.{Led}
use Rattle.role_meaning.proofs.Chains.{all_on, none_on, old_on, one_on}
use Rattle.role_meaning.proofs.following.go_on.Goals as goal
use Rattle.role_meaning.proofs.following.go_on.Goals.{then-loop-bodies-test+else-is_new_role, else-loop-bodies-test}

pub returns-in-None-clause-runs : goal.returns-in-None-clause-runs
returns-in-None-clause-runs c = λ defined stands.
    let d = design_of c.args.checked.now in
    let led = c.loop-bodies.led in
    let new : is_new c.args.above d (role_name d led.to.role) ≡ true = sym c.is_new_role.ensures ∙ c.if-is_new_role.true in
    sym (none_on c.args.above d defined c.args.most c.loop-bodies.bodies (loc_of d led.to) (sent_of d led.packet) led.rest.now c.loop-bodies-test.true new
    (ap (option_map (led_of d)) (sym c.in-None.is) ∙ c.in_ok-next.ensures.runs defined stands)) ∙ c.loop-bodies.invariant.runs defined stands

pub loop-bodies-preserved : goal.loop-bodies-preserved
loop-bodies-preserved c =
    let d = design_of c.args.checked.now in
    let led = c.loop-bodies.led in
    let next = c.in-Some.next in
    let new : is_new c.args.above d (role_name d led.to.role) ≡ true = sym c.is_new_role.ensures ∙ c.if-is_new_role.true in
    record {
      runs = λ defined stands. sym (one_on c.args.above d defined c.args.most c.loop-bodies.bodies (loc_of d led.to) (loc_of d next.to) (sent_of d led.packet) (sent_of d next.packet) led.rest.now next.rest.now c.loop-bodies-test.true new
          (ap (option_map (led_of d)) (sym c.in-Some.is) ∙ c.in_ok-next.ensures.runs defined stands)) ∙ c.loop-bodies.invariant.runs defined stands;
      at = subst (λ (o : Option Led). IfSome o (λ r. HasRole d r.to.role (c.args.above + 1))) c.in-Some.is c.in_ok-next.ensures.at;
      fits = subst (λ (o : Option Led). IfSome o (λ r. FieldsFit (field_widths d) r.packet.fields)) c.in-Some.is c.in_ok-next.ensures.fits;
    }

pub returns-clause-runs : goal.returns-clause-runs
returns-clause-runs c = λ defined stands.
    let d = design_of c.args.checked.now in
    let led = c.loop-bodies.led in
    let more = c.args.most - c.loop-bodies.bodies in
    elim c.loop-bodies-test.branch [
      | then-loop-bodies-test+else-is_new_role w ↦
          sym (old_on c.args.above d defined more c.loop-bodies.bodies (loc_of d led.to) (sent_of d led.packet) led.rest.now (sym w.is_new_role.ensures ∙ w.if-is_new_role.false)) ∙ c.loop-bodies.invariant.runs defined stands
      | else-loop-bodies-test w ↦
          sym (all_on c.args.above d defined c.args.most c.loop-bodies.bodies (loc_of d led.to) (sent_of d led.packet) led.rest.now w.loop-bodies-test.false) ∙ c.loop-bodies.invariant.runs defined stands
    ]
