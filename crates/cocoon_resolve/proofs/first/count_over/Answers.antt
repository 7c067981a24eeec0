use Rattle.std.proofs.Common.{◌≡◌, ◌∙◌, sym, ap, subst, length, map, option_map}
use Rattle.cocoon_num.specs.Packets.{total}
use Rattle.cocoon_num.specs.Tree.{HeaderDecl}
use Rattle.cocoon_syntax.specs.TreeOf.{design_of, header_of}
use Rattle.cocoon_types.specs.Limits.{counts, first_above, most, reported}
use Rattle.cocoon_resolve.proofs.first.count_over.Goals as goal

pub returns-in-Fields : goal.returns-in-Fields
returns-in-Fields c =
    let n = total (map (λ (h : HeaderDecl). length h.fields) (map header_of c.args.design.now.headers.items)) in
    let e : c.field_count.result ≡ reported n = c.field_count.ensures ∙ ap (λ xs. reported (total (map (λ (h : HeaderDecl). length h.fields) (map header_of xs)))) c.deref-in-Fields.ensures.value in
    let one : c.over-in-Fields.result ≡ option_map reported (first_above c.most_of-most.result (counts (design_of c.args.design.now) c.args.name)) =
    subst (λ l. c.over-in-Fields.result ≡ option_map reported (first_above c.most_of-most.result (counts (design_of c.args.design.now) l))) (sym c.in-Fields.is) (c.over-in-Fields.ensures n e) in
    subst (λ m. c.over-in-Fields.result ≡ option_map reported (first_above m (counts (design_of c.args.design.now) c.args.name))) c.most_of-most.ensures one
