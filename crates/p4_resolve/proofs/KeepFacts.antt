-- From what is known of a declaration to what is known of its piece.
use Rattle.std.proofs.Common.{◌≡◌, ℕ, ◌+◌, Bool, List, [], ◌∷◌, ◌++◌, length, Vec, Global, sym, ap, subst, ◌∙◌}
use Rattle.p4_ir.specs.P4Tree.{P4Field}
use Rattle.p4_texts.specs.KindFaults.{Piece}
use Rattle.p4_resolve.specs.FieldForms.{Declares, Keeps, field_fits}
use Rattle.p4_resolve.specs.Judged.{Breaks, Sees, StopsBy, index}
use Rattle.p4_resolve.specs.declared.fault.KindFault.{KindFault}
use Rattle.p4_resolve.proofs.PieceFacts.{started, passed, stopped_by}

pub keeps_one : (x : Piece) (meant : P4Field) (at : ℕ) (names : List (List ℕ)) (name : List ℕ) (width : ℕ) (named : Bool) (keys : List (Vec ℕ Global)) (field : P4Field) (end : ℕ)
    → length x.tokens ≡ 6 → x.keeps ≡ field_fits names name width named → meant ≡ record { name = name; width = width } → Declares at names name width named keys field end
    → Keeps at (x ∷ []) names field.name keys meant field end
keeps_one x meant at names name width named keys field end six fits m d = record {
  passes = passed at (x ∷ []) at end x [] (started at (x ∷ [])) (fits ∙ d.fits) (d.ends ∙ ap (λ n. index (at + n)) (sym six));
  seen = subst (λ (f : P4Field). Sees keys (names ++ (f.name ∷ []))) (sym d.is) d.seen;
  is = d.is ∙ sym m;
}

pub stops_one : (x : Piece) (at : ℕ) (fits : Bool) (fault : KindFault) → x.keeps ≡ fits → Breaks at fits fault → StopsBy at (x ∷ []) fault
stops_one x at fits fault e b = stopped_by at (x ∷ []) at x [] fault (started at (x ∷ [])) (subst (λ k. Breaks at k fault) (sym e) b)
