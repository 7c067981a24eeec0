use Rattle.std.proofs.Common.{◌≡◌, ◌∷◌, [], ◌++◌, codes, map, Err, rules, ap, ap₂, sym, subst, refl, ◌∙◌}
use Rattle.cocoon_num.specs.Tokens.{mark}
use Rattle.p4_ir.specs.P4Tree.{P4Header}
use Rattle.p4_ir.specs.Program as ir
use Rattle.p4_texts.specs.KindFaults.{field_pieces, fixed}
use Rattle.p4_texts.specs.Meant.{field_meant, header_meant, rest_after}
use Rattle.p4_texts.specs.TreeOf.{field_of, header_of}
use Rattle.p4_resolve.specs.FieldForms.{header_own}
use Rattle.p4_resolve.specs.Judged.{Breaks, Passes, Sees, StopsBy}
use Rattle.p4_resolve.proofs.FieldForms.{head_keeps, header_head}
use Rattle.p4_resolve.proofs.NameFacts.{seen_more, was_new}
use Rattle.p4_resolve.proofs.PieceFacts.{all_passed, handed_on, one_stopped, passed, started, stopped_by}
use Rattle.p4_resolve.proofs.headers.header.Goals as goal

pub returns-clause-keeps : goal.returns-clause-keeps
returns-clause-keeps c = λ names seen.
    let h = header_of c.args.header.now in
    let own = header_own names h in
    let at = c.args.at in
    let written = c.args.header.now.fields in
    let close = fixed (mark (codes "}") ∷ []) in
    let name : c.rest_after-name.result.now ≡ (header_meant h).name = c.rest_after-name.ensures ∙ ap (rest_after (codes "ht_")) c.bytes.ensures in
    let new = was_new c.rest_after-name.result.now c.args.before.now.keys c.is_new.new.names.keys c.in_ok-is_new.is_new names seen c.in_ok-is_new.ensures in
    let keeps = head_keeps names h c.rest_after-name.result.now c.in_ok-is_new.is_new c.header_fits.result (map field_of c.items.result.now) name new (ap (map field_of) c.items.ensures) c.header_fits.ensures in
    let opened = passed at own at c.in_ok-open.open (header_head names h) (field_pieces [] h.fields ++ (close ∷ [])) (started at own) (keeps ∙ c.in_ok-open.ensures.passed.0) c.in_ok-open.ensures.passed.1 in
    let inside = subst (λ fs. Passes c.in_ok-open.open (field_pieces [] (map field_of fs)) c.in_ok-fields.close) c.items-2.ensures c.in_ok-fields.ensures.passes in
    let closed = all_passed at own c.in_ok-open.open c.in_ok-fields.close (field_pieces [] h.fields) (close ∷ []) opened inside in
    let made_name = c.in_ok-named.ensures.0 ∙ name in
    record {
      passes = passed at own c.in_ok-fields.close c.after-end.result close [] closed refl c.after-end.ensures;
      seen = subst (λ n. Sees c.is_new.new.names.keys (names ++ (n ∷ []))) (sym c.in_ok-named.ensures.0) (seen_more c.rest_after-name.result.now c.args.before.now.keys c.is_new.new.names.keys c.in_ok-is_new.is_new names seen c.in_ok-is_new.ensures);
      is = ap₂ (λ n fs. let made : P4Header = record { name = n; fields = fs } in made) made_name
          (ap (map ir.field_of) c.in_ok-named.ensures.1 ∙ c.in_ok-fields.ensures.fields ∙ ap (λ fs. map field_meant (map field_of fs)) c.items-2.ensures);
    }

pub returns-in_err-open-clause-stops : goal.returns-in_err-open-clause-stops
returns-in_err-open-clause-stops c = λ names seen.
    let h = header_of c.args.header.now in
    let own = header_own names h in
    let at = c.args.at in
    let name : c.rest_after-name.result.now ≡ (header_meant h).name = c.rest_after-name.ensures ∙ ap (rest_after (codes "ht_")) c.bytes.ensures in
    let new = was_new c.rest_after-name.result.now c.args.before.now.keys c.is_new.new.names.keys c.in_ok-is_new.is_new names seen c.in_ok-is_new.ensures in
    let keeps = head_keeps names h c.rest_after-name.result.now c.in_ok-is_new.is_new c.header_fits.result (map field_of c.items.result.now) name new (ap (map field_of) c.items.ensures) c.header_fits.ensures in
    let e : c.from_residual-in_err-open.result ≡ Err c.in_err-open.field-0.0 = search rules in
    handed_on c.from_residual-in_err-open.result c.in_err-open.field-0.0 (StopsBy at own) e
    (stopped_by at own at (header_head names h) (field_pieces [] h.fields ++ (fixed (mark (codes "}") ∷ []) ∷ [])) c.in_err-open.field-0.0 (started at own) (subst (λ b. Breaks at b c.in_err-open.field-0.0) (sym keeps) c.in_err-open.ensures.breaks))

pub returns-in_err-fields-clause-stops : goal.returns-in_err-fields-clause-stops
returns-in_err-fields-clause-stops c = λ names seen.
    let h = header_of c.args.header.now in
    let own = header_own names h in
    let at = c.args.at in
    let close = fixed (mark (codes "}") ∷ []) in
    let name : c.rest_after-name.result.now ≡ (header_meant h).name = c.rest_after-name.ensures ∙ ap (rest_after (codes "ht_")) c.bytes.ensures in
    let new = was_new c.rest_after-name.result.now c.args.before.now.keys c.is_new.new.names.keys c.in_ok-is_new.is_new names seen c.in_ok-is_new.ensures in
    let keeps = head_keeps names h c.rest_after-name.result.now c.in_ok-is_new.is_new c.header_fits.result (map field_of c.items.result.now) name new (ap (map field_of) c.items.ensures) c.header_fits.ensures in
    let opened = passed at own at c.in_ok-open.open (header_head names h) (field_pieces [] h.fields ++ (close ∷ [])) (started at own) (keeps ∙ c.in_ok-open.ensures.passed.0) c.in_ok-open.ensures.passed.1 in
    let e : c.from_residual-in_err-fields.result ≡ Err c.in_err-fields.field-0.0 = search rules in
    handed_on c.from_residual-in_err-fields.result c.in_err-fields.field-0.0 (StopsBy at own) e
    (one_stopped at own c.in_ok-open.open (field_pieces [] h.fields) (close ∷ []) c.in_err-fields.field-0.0 opened
    (subst (λ fs. StopsBy c.in_ok-open.open (field_pieces [] (map field_of fs)) c.in_err-fields.field-0.0) c.items-2.ensures c.in_err-fields.ensures.stops))
