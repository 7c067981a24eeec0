use Rattle.std.proofs.Common.{◌≡◌, ℕ, suc, ◌+◌, ◌≤◌, List, [], ◌∷◌, map, length, Some, sym, ap, subst, ◌∙◌, arith}
use Rattle.std.specs.List.{AllZip}
use Rattle.cocoon_num.specs.Tree.{HeaderDecl}
use Rattle.cocoon_resolve.specs.Readers.{all_widths}
use Rattle.cocoon_syntax.specs.TreeOf.{design_of, header_of}
use Rattle.cocoon_types.specs.Design.{field_width}
use Rattle.bv_terms.specs.Arenas.{inputs_in}
use Rattle.obligation_laws.specs.Shown.{HasWidth}
use Rattle.expr_terms.specs.Variables.{AreThere, terms_at}
use Rattle.obligation_laws.specs.States.{choice_width, input_term, with_choice, with_field}
use Rattle.obligation_laws.specs.Following.{next_input}
use Rattle.symbolic_runs.specs.Reading.{Reads, state_of}
use Rattle.symbolic_runs.proofs.Standing.{follows_one}
use Rattle.symbolic_runs.proofs.Stepping.{choice_fits, fields_many, reads_self}
use Rattle.symbolic_runs.proofs.steps.choose_field.Goals as goal

pub set_field-requires : goal.set_field-requires
set_field-requires c =
    let w = c.args.world.now in
    let a = c.args.terms.now in
    let s = c.args.state.now in
    let t = state_of a s in
    let can = c.requires in
    let i = next_input (inputs_in a) c.field_width-width.result in
    let headers : map header_of c.deref-3.result.now ≡ (design_of w.checked.now).headers = ap (map header_of) c.deref-3.ensures.value ∙ ap (λ x. (design_of x).headers) c.design.ensures.is in
    subst (λ hs. length (all_widths hs) ≤ length c.choose.new.self.fields.items) (sym headers)
    (fields_many w can.vars c.choose.new.terms c.choose.new.self (with_choice i t) (c.in_ok-term.ensures.reads t (reads_self a s can.stands.there)) (choice_fits w can.vars i t can.stands.fits))

pub returns-clause-follows : goal.returns-clause-follows
returns-clause-follows c =
    let w = c.args.world.now in
    let a = c.args.terms.now in
    let b = c.choose.new.terms in
    let s = c.args.state.now in
    let t = state_of a s in
    let n = inputs_in a in
    let h = c.args.header.now.text in
    let f = c.args.field.now.text in
    let hs = (design_of w.checked.now).headers in
    let i = next_input n c.field_width-width.result in
    let first : map header_of c.deref.result.now ≡ hs = ap (map header_of) c.deref.ensures.value ∙ ap (λ x. (design_of x).headers) c.design.ensures.is in
    let third : map header_of c.deref-3.result.now ≡ hs = ap (map header_of) c.deref-3.ensures.value ∙ ap (λ x. (design_of x).headers) c.design.ensures.is in
    let width : c.field_width-width.result ≡ choice_width hs h f = c.field_width-width.ensures.width ∙ (λ j. choice_width (first j) (c.bytes-header.ensures j) (c.bytes-field.ensures j)) in
    let last = next_input n (choice_width hs h f) in
    let one_more : n + 1 ≡ suc n = omega arith in
    follows_one b c.set_field.new.self (with_choice last (with_field hs h f (input_term last) t)) (suc n)
    (subst (λ (p : List HeaderDecl × List ℕ × List ℕ × ℕ). Reads b c.set_field.new.self (with_field p.0 p.1 p.2 (input_term (next_input n p.3)) (with_choice (next_input n p.3) t)))
    (λ j. (third j, c.bytes-header.ensures j, c.bytes-field.ensures j, width j))
    (c.set_field.ensures b (with_choice i t) (input_term i) (c.in_ok-term.ensures.reads t (reads_self a s c.requires.stands.there)) c.in_ok-term.ensures.made))
    (c.in_ok-term.ensures.next ∙ one_more)
