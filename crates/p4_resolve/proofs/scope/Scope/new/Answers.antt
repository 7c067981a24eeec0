use Rattle.std.proofs.Common.{◌∙◌, ◌<◌, ◌^◌, ap, length, map, subst, sym, arith}
use Rattle.std.proofs.lemmas.List.{length-map}
use Rattle.p4_ir.specs.Program as ir
use Rattle.p4_texts.specs.Meant.{names_of}
use Rattle.p4_texts.specs.TreeOf.{field_of, header_of, member_of, text_of}
use Rattle.numbering.specs.NameNumbers.{Numbers}
use Rattle.p4_resolve.specs.Scopes.{EachFew, EachNumbers, member_names}
use Rattle.p4_resolve.proofs.CountFacts.{few}
use Rattle.p4_resolve.proofs.scope.Scope.new.Goals as goal

pub returns-clause-known : goal.returns-clause-known
returns-clause-known c = λ h m. record {
  program_headers = ap (map ir.header_of) c.declared-program.ensures.headers ∙ h;
  program_meta = ap (map ir.field_of) c.declared-program.ensures.meta ∙ m;
  meta = subst (λ fs. Numbers c.in_ok-meta.meta (names_of (map field_of fs))) c.items.ensures c.in_ok-meta.ensures;
  headers = subst (λ ms. Numbers c.in_ok-headers.headers (member_names (map member_of ms))) c.items-2.ensures c.in_ok-headers.ensures;
  fields = subst (λ hs. EachNumbers c.in_ok-fields.fields.items (map header_of hs)) c.items-3.ensures c.in_ok-fields.ensures;
}

pub field_names-requires : goal.field_names-requires
field_names-requires c =
    let here = subst (λ fs. length (map field_of fs) < 2 ^ 32) (sym c.items.ensures) (few (text_of c.args.text.now) c.requires.few).meta in
    omega (arith, here, length-map c.items.result.now field_of)

pub names_of_members-requires : goal.names_of_members-requires
names_of_members-requires c =
    let here = subst (λ ms. length (map member_of ms) < 2 ^ 32) (sym c.items-2.ensures) (few (text_of c.args.text.now) c.requires.few).members in
    omega (arith, here, length-map c.items-2.result.now member_of)

pub names_of_headers-requires : goal.names_of_headers-requires
names_of_headers-requires c = record { few = subst (λ hs. EachFew (map header_of hs)) (sym c.items-3.ensures) (few (text_of c.args.text.now) c.requires.few).fields }
