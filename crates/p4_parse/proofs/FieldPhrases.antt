-- Fields, as the plain reader takes them.
use Rattle.std.specs.Prelude.{◌≡◌, ℕ, ◌+◌, ◌≤◌, Bool, true, false, List, [], ◌∷◌, ◌++◌, length, map, drop, slice_get, Option, Some, None, codes, refl}
use Rattle.std.proofs.Common.{sym, ◌∙◌, ap, subst, arith}
use Rattle.std.proofs.lemmas.Option.{slice_get_within}
use Rattle.std.proofs.lemmas.List.{map-append}
use Rattle.cocoon_num.specs.Names.{same_name}
use Rattle.cocoon_num.specs.Tokens.{Kind, a_name, keyword, plain, literal, mark, finish}
use Rattle.p4_texts.specs.Machine.{Goals, fields, stuck}
use Rattle.p4_texts.specs.Written.{FieldText, each_then, field_then}
use Rattle.p4_texts.specs.TreeOf.{field_of}
use Rattle.p4_parse.specs.Fields.{field_phrase, field_tokens}
use Rattle.p4_parse.specs.Phrases.{Read, Refused, is_mark}
use Rattle.p4_texts.specs.declared.written.WrittenField.{WrittenField}
use Rattle.p4_parse.proofs.Tokens.{drop_some, drop_none, mark_is}

pub record FieldsSoFar (ts : List Kind) (pos : ℕ) (fs : List FieldText) (next : ℕ) : Type 0 where
  pub within : next ≤ length ts
  pub forward : pos ≤ next
  pub are : drop pos ts ≡ each_then field_then fs (drop next ts)
  pub goes : (hs : Goals) → stuck (fields ∷ hs) (drop pos ts) ≡ stuck (fields ∷ hs) (drop next ts)

bit_by : (b : Bool) (x : List ℕ) (hs : Goals) (ks : List Kind) → same_name (codes "bit") x ≡ b → stuck (fields ∷ hs) (a_name x ∷ ks) ≡ stuck (field_phrase ++ (fields ∷ hs)) (a_name x ∷ ks)
bit_by true x hs ks e = rw e refl
bit_by false x hs ks e = rw e refl

-- where no `}` stands, a field does, or the reader is stuck
field_at : (o : Option Kind) (ts : List Kind) (pos : ℕ) → slice_get ts pos ≡ o → is_mark (codes "}") o ≡ false → (hs : Goals) → stuck (fields ∷ hs) (drop pos ts) ≡ stuck (field_phrase ++ (fields ∷ hs)) (drop pos ts)
field_at None ts pos e h hs = let d = drop_none ts pos e in ap (stuck (fields ∷ hs)) d ∙ ap (stuck (field_phrase ++ (fields ∷ hs))) (sym d)
field_at (Some (a_name x)) ts pos e h hs = let d = drop_some ts pos (a_name x) e in ap (stuck (fields ∷ hs)) d ∙ bit_by (same_name (codes "bit") x) x hs (drop (pos + 1) ts) refl ∙ ap (stuck (field_phrase ++ (fields ∷ hs))) (sym d)
field_at (Some (keyword x)) ts pos e h hs = let d = drop_some ts pos (keyword x) e in ap (stuck (fields ∷ hs)) d ∙ ap (stuck (field_phrase ++ (fields ∷ hs))) (sym d)
field_at (Some (plain n)) ts pos e h hs = let d = drop_some ts pos (plain n) e in ap (stuck (fields ∷ hs)) d ∙ ap (stuck (field_phrase ++ (fields ∷ hs))) (sym d)
field_at (Some (literal w n)) ts pos e h hs = let d = drop_some ts pos (literal w n) e in ap (stuck (fields ∷ hs)) d ∙ ap (stuck (field_phrase ++ (fields ∷ hs))) (sym d)
field_at (Some (mark m)) ts pos e h hs = let d = drop_some ts pos (mark m) e in ap (stuck (fields ∷ hs)) d ∙ rw h refl ∙ ap (stuck (field_phrase ++ (fields ∷ hs))) (sym d)
field_at (Some finish) ts pos e h hs = let d = drop_some ts pos finish e in ap (stuck (fields ∷ hs)) d ∙ ap (stuck (field_phrase ++ (fields ∷ hs))) (sym d)

appended : (fs : List FieldText) (f : FieldText) (ks : List Kind) → each_then field_then (fs ++ f ∷ []) ks ≡ each_then field_then fs (field_then f ks)
appended [] f ks = refl
appended (x ∷ fs) f ks = ap (field_then x) (appended fs f ks)

pub one_field_more : (ts : List Kind) (pos next after : ℕ) (xs ys : List WrittenField) (x : WrittenField) → ys ≡ xs ++ x ∷ [] → FieldsSoFar ts pos (map field_of xs) next → is_mark (codes "}") (slice_get ts next) ≡ false
    → Read field_phrase field_tokens ts next x after → FieldsSoFar ts pos (map field_of ys) after
one_field_more ts pos next after xs ys x e s m r =
    let a = r.after in
    let f = s.forward in
    let mapped : map field_of ys ≡ map field_of xs ++ field_of x ∷ [] = ap (λ z. map field_of z) e ∙ map-append field_of xs (x ∷ []) in
    subst (λ z. FieldsSoFar ts pos z after) (sym mapped) (record {
      within = r.within;
      forward = omega (arith, a, f);
      are = s.are ∙ ap (each_then field_then (map field_of xs)) r.are ∙ sym (appended (map field_of xs) (field_of x) (drop after ts));
      goes = λ hs. s.goes hs ∙ field_at (slice_get ts next) ts next refl m hs ∙ r.goes (fields ∷ hs);
    })

pub field_stopped : (ts : List Kind) (pos next i : ℕ) (fs : List FieldText) → FieldsSoFar ts pos fs next → is_mark (codes "}") (slice_get ts next) ≡ false → Refused field_phrase ts next i → Refused (fields ∷ []) ts pos i
field_stopped ts pos next i fs s m r = record { within = r.within; there = λ hs. s.goes hs ∙ field_at (slice_get ts next) ts next refl m hs ∙ r.there (fields ∷ hs) }

pub all_fields : {A : Type 0} (f : A → List Kind → List Kind) (ts : List Kind) (pos next : ℕ) (x : A) (fs : List FieldText) → FieldsSoFar ts pos fs next → is_mark (codes "}") (slice_get ts next) ≡ true
    → ((ks : List Kind) → f x ks ≡ each_then field_then fs (mark (codes "}") ∷ ks)) → Read (fields ∷ []) f ts pos x (next + 1)
all_fields f ts pos next x fs s m h =
    let k = mark_is (codes "}") (slice_get ts next) m in
    let l = slice_get_within ts next (mark (codes "}")) k in
    let g = s.forward in
    let d = drop_some ts next (mark (codes "}")) k in
    record {
      after = omega (arith, g);
      within = omega (arith, l);
      are = s.are ∙ ap (each_then field_then fs) d ∙ sym (h (drop (next + 1) ts));
      goes = λ hs. s.goes hs ∙ ap (stuck (fields ∷ hs)) d;
    }
