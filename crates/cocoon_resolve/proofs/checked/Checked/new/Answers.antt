use Rattle.std.proofs.Common.{◌≤◌, ◌/◌, length, map, sym, ap, subst, ◌∙◌}
use Rattle.cocoon_num.specs.Packets.{total}
use Rattle.cocoon_syntax.specs.TreeOf.{design_of, header_of}
use Rattle.cocoon_resolve.specs.Kept.{AreDeclared}
use Rattle.cocoon_resolve.specs.Readers.{all_widths}
use Rattle.cocoon_resolve.proofs.Bounds.{fields-declared, few-fields}
use Rattle.cocoon_resolve.proofs.checked.Checked.new.Goals as goal

pub widths-requires : goal.widths-requires
widths-requires c = subst (λ hs. AreDeclared (all_widths (map header_of hs))) (sym c.deref.ensures.value) (fields-declared (design_of c.args.design) c.requires.resolves.rules)

pub bytes-header_bytes-requires : goal.bytes-header_bytes-requires
bytes-header_bytes-requires c = subst (λ ws. length ws ≤ 64)
    (sym (c.deref-2.ensures.value ∙ c.in_ok-field_widths.ensures ∙ ap (λ hs. all_widths (map header_of hs)) c.deref.ensures.value))
    (few-fields (design_of c.args.design) c.requires.resolves.limits)

pub invariant_of-result : goal.invariant_of-result
invariant_of-result c =
    let read = c.requires.read in
    let widths = c.in_ok-field_widths.ensures ∙ ap (λ hs. all_widths (map header_of hs)) c.deref.ensures.value in
    record {
      resolves = c.requires.resolves;
      read = read;
      spelled = c.headers_are_spelled.ensures read.0 (design_of c.args.design) read.1;
      named = c.functions_are_named.ensures read.0 (design_of c.args.design) read.1;
      declares = c.requires.declares;
      assumes = c.in_ok-assumptions.ensures;
      read_back = c.in_ok-bodies.ensures;
      widths_are = widths;
      bytes_are = c.bytes-header_bytes.ensures ∙ ap (λ ws. total ws / 8) (c.deref-2.ensures.value ∙ widths);
    }
