use Rattle.std.proofs.Common.{◌==◌, ◌%◌, ◌<◌, ◌≤◌, not, length, map, rules, refl, subst, sym, ap, ◌∙◌}
use Rattle.std.proofs.lemmas.List.{drop_all}
use Rattle.cocoon_num.specs.Packets.{total}
use Rattle.cocoon_syntax.specs.TreeOf.{header_of, param_of}
use Rattle.cocoon_types.specs.Design.{widths_of}
use Rattle.cocoon_types.specs.Noting.{Notes}
use Rattle.cocoon_types.specs.Rules.{header_width, too_wide}
use Rattle.cocoon_types.specs.TypeRules.{wide_params}
use Rattle.type_rules.specs.Tests.{fails_among, fails_if, in_headers}
use Rattle.type_rules.proofs.DeclSteps.{headers_step}
use Rattle.type_rules.proofs.types.note_headers.Goals as goal

pub loop-header-preserved : goal.loop-header-preserved
loop-header-preserved c = λ last h.
    let within : c.loop-header.header-index < length c.args.headers.now = search rules in
    let x = c.header-item.result in
    c.loop-header.invariant last
    (headers_step c.noting_laws.ensures c.args.headers.now c.loop-header.header-index x within c.header-item.is
    (subst (λ ps. Notes (fails_among too_wide (wide_params (map param_of ps))) c.loop-header.noted c.note_widths.new.noted) c.deref.ensures.value c.note_widths.ensures)
    (subst (λ n. Notes (fails_if header_width (not (n == 0)) x.name.at) c.note_widths.new.noted c.note_if.new.noted)
    (c.spare_bits.ensures ∙ ap (λ ps. total (widths_of (map param_of ps)) % 8) c.deref-in-loop-header.ensures.value) c.note_if.ensures) h)

pub returns : goal.returns
returns c =
    let all : length c.args.headers.now ≤ c.loop-header.header-index = search rules in
    c.loop-header.invariant c.loop-header.noted
    (subst (λ xs. Notes (in_headers (map header_of xs)) c.loop-header.noted c.loop-header.noted) (sym (drop_all c.loop-header.header-index c.args.headers.now all))
    (c.noting_laws.ensures.nothing _ c.loop-header.noted (λ f. refl)))
