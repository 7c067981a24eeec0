use Rattle.std.proofs.Common.{◌≡◌, ◌<◌, true, IfSome, length, Option, Some, None, option_map, refl, sym, subst, ap, ◌∙◌, arith}
use Rattle.cocoon_num.specs.PacketForms.{AreBytes}
use Rattle.p4_ir.specs.Switch.{p4_run_all, state_of}
use Rattle.p4_run.specs.Frames.{headers_in, left_in}
use Rattle.p4_run.specs.Controls.{running_in}
use Rattle.p4_run.specs.RegisterStates.{state_in}
use Rattle.p4_run.specs.Running.{layout_in, program_in, rows_in}
use Rattle.p4_run.specs.Visits.{after_ingress, AreHeaders, ingress_left}
use Rattle.p4_run.proofs.VisitSteps.{are_bytes, headers_of, short_left}
use Rattle.p4_run.proofs.WidthFacts.{Widths}
use Rattle.p4_run.proofs.FitFacts.{declared_at}
use Rattle.p4_run.proofs.loaded.Loaded.ingress.Goals as goal

none_or_some : {A : Type 0} (o : Option A) (x : A) → o ≡ None → o ≡ Some x → ⊥
none_or_some o x n s = cc

pub returns-then-bytes-self-clause-next : goal.returns-then-bytes-self-clause-next
returns-then-bytes-self-clause-next c =
    let l = c.args.self.now in
    let p = program_in l in
    let layout = layout_in l in
    let bytes = c.args.bytes.now in
    let w : Widths p = declared_at p l.kinds in
    let all : AreBytes bytes = are_bytes bytes (λ k. omega (arith, c.type_inv.bytes k)) in
    let none : ingress_left p (rows_in l) c.args.port bytes ≡ None = short_left p (rows_in l) c.args.port bytes w.whole all (subst (λ n. length bytes < n) l.bytes_are c.if-bytes-self.true) in
    sym (ap after_ingress none)

pub returns-then-bytes-self-clause-left : goal.returns-then-bytes-self-clause-left
returns-then-bytes-self-clause-left c =
    let l = c.args.self.now in
    let p = program_in l in
    let layout = layout_in l in
    let bytes = c.args.bytes.now in
    let w : Widths p = declared_at p l.kinds in
    let all : AreBytes bytes = are_bytes bytes (λ k. omega (arith, c.type_inv.bytes k)) in
    let none : ingress_left p (rows_in l) c.args.port bytes ≡ None = short_left p (rows_in l) c.args.port bytes w.whole all (subst (λ n. length bytes < n) l.bytes_are c.if-bytes-self.true) in
    subst (λ o. IfSome o (λ s. left_in l c.args.frame.now ≡ s)) (sym none) tt

pub returns-then-bytes-self-clause-headers : goal.returns-then-bytes-self-clause-headers
returns-then-bytes-self-clause-headers c =
    let l = c.args.self.now in
    let p = program_in l in
    let layout = layout_in l in
    let bytes = c.args.bytes.now in
    let w : Widths p = declared_at p l.kinds in
    let all : AreBytes bytes = are_bytes bytes (λ k. omega (arith, c.type_inv.bytes k)) in
    let none : ingress_left p (rows_in l) c.args.port bytes ≡ None = short_left p (rows_in l) c.args.port bytes w.whole all (subst (λ n. length bytes < n) l.bytes_are c.if-bytes-self.true) in
    subst (λ o. AreHeaders layout o (headers_in c.args.frame.now)) (sym none) tt

pub returns-clause-next : goal.returns-clause-next
returns-clause-next c =
    let l = c.args.self.now in
    let p = program_in l in
    let layout = layout_in l in
    let is : ingress_left p (rows_in l) c.args.port c.args.bytes.now ≡ Some (state_in layout c.run_ingress.new.registers) =
    c.enter.ensures.left (rows_in l)
    ∙ ap (λ n. option_map state_of (p4_run_all (running_in p (rows_in l).tables true n) p.ingress.body (state_in layout c.enter.new.registers))) (sym c.enter.ensures.own)
    ∙ c.run_ingress.ensures.left in
    c.next_after_ingress.ensures layout ∙ ap after_ingress (sym is)

pub returns-clause-left : goal.returns-clause-left
returns-clause-left c =
    let l = c.args.self.now in
    let p = program_in l in
    let layout = layout_in l in
    let is : ingress_left p (rows_in l) c.args.port c.args.bytes.now ≡ Some (state_in layout c.run_ingress.new.registers) =
    c.enter.ensures.left (rows_in l)
    ∙ ap (λ n. option_map state_of (p4_run_all (running_in p (rows_in l).tables true n) p.ingress.body (state_in layout c.enter.new.registers))) (sym c.enter.ensures.own)
    ∙ c.run_ingress.ensures.left in
    subst (λ o. IfSome o (λ s. state_in layout c.run_ingress.new.registers ≡ s)) (sym is) refl

pub returns-clause-headers : goal.returns-clause-headers
returns-clause-headers c =
    let l = c.args.self.now in
    let p = program_in l in
    let layout = layout_in l in
    let is : ingress_left p (rows_in l) c.args.port c.args.bytes.now ≡ Some (state_in layout c.run_ingress.new.registers) =
    c.enter.ensures.left (rows_in l)
    ∙ ap (λ n. option_map state_of (p4_run_all (running_in p (rows_in l).tables true n) p.ingress.body (state_in layout c.enter.new.registers))) (sym c.enter.ensures.own)
    ∙ c.run_ingress.ensures.left in
    let w : Widths p = declared_at p l.kinds in
    subst (λ o. AreHeaders layout o c.leave.new.bytes.items) (sym is)
    (headers_of layout c.run_ingress.new.registers c.leave.new.bytes.items w.whole c.run_ingress.ensures.fit.fields c.leave.ensures.bytes)

pub returns-clause-kept : goal.returns-clause-kept
returns-clause-kept c =
    let l = c.args.self.now in
    let p = program_in l in
    let layout = layout_in l in
    let is : ingress_left p (rows_in l) c.args.port c.args.bytes.now ≡ Some (state_in layout c.run_ingress.new.registers) =
    c.enter.ensures.left (rows_in l)
    ∙ ap (λ n. option_map state_of (p4_run_all (running_in p (rows_in l).tables true n) p.ingress.body (state_in layout c.enter.new.registers))) (sym c.enter.ensures.own)
    ∙ c.run_ingress.ensures.left in
    λ none. absurd (none_or_some _ _ none is)
