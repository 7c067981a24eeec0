use Rattle.std.proofs.Common.{◌≡◌, ◌<◌, ◌∙◌, ◌+◌, false, length, drop, map, subst, sym, ap, rules, arith}
use Rattle.std.proofs.lemmas.List.{length-map}
use Rattle.std.proofs.lemmas.List.Elements.{All-drop}
use Rattle.cocoon_num.specs.Names.{same_name}
use Rattle.cocoon_syntax.specs.TreeOf.{header_of, param_of}
use Rattle.bv_terms.specs.Arenas.{term_at}
use Rattle.obligation_laws.specs.TermOf.{field_term}
use Rattle.expr_terms.specs.Variables.{AreThere, terms_at}
use Rattle.expr_terms.proofs.Lists.{header_past}
use Rattle.expr_terms.proofs.fields.field.Goals as goal

pub returns-then-is_same-clause-there : goal.returns-then-is_same-clause-there
returns-then-is_same-clause-there c = λ nodes h. c.field_in.ensures.there nodes (c.loop-declared.invariant.there nodes h)

pub loop-declared-preserved : goal.loop-declared-preserved
loop-declared-preserved c =
    let x = c.declared-item.result in
    let rest = c.loop-declared.rest.now in
    let other : same_name c.args.header.now x.name.text ≡ false = search rules in
    let size : c.len.result ≡ length x.fields.items = omega (arith, c.len.ensures, x.fields.ok.0) in
    let is : c.after-rest.result.now ≡ drop (length (header_of x).fields) rest = c.after-rest.ensures ∙ ap (λ n. drop n rest) (size ∙ sym (length-map x.fields.items param_of)) in
    record {
      same = λ nodes.
          c.loop-declared.invariant.same nodes
          ∙ header_past header_of (term_at nodes) c.args.headers.now rest c.loop-declared.declared-index x c.args.header.now c.args.field.now c.loop-declared-test.true c.declared-item.is other
          ∙ ap (λ ids. field_term (map header_of (drop (c.loop-declared.declared-index + 1) c.args.headers.now)) (terms_at nodes ids) c.args.header.now c.args.field.now) (sym is);
      there = λ nodes h. subst (AreThere nodes) (sym is) (All-drop (λ k. k < length nodes) (length (header_of x).fields) rest (c.loop-declared.invariant.there nodes h));
    }
