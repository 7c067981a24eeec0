-- The fields of a path, and the terms of the fields.
use Rattle.std.proofs.Common.{◌≡◌, ℕ, ◌&&◌, List, [], ◌∷◌, ◌++◌, length, drop, take, cond, Bool, true, false, Option, Some, if◌then◌else◌, option_map, option_and_then, refl, sym, ap, subst, ◌∙◌}
use Rattle.cocoon_num.specs.Names.{named, same_name}
use Rattle.cocoon_num.specs.Tree.{Expr, Name, Param, HeaderDecl}
use Rattle.cocoon_types.specs.Design.{field_width}
use Rattle.cocoon_types.specs.ReadBack.{FieldValue, field_value, with_field}
use Rattle.bv_terms.specs.TermTrees.{Term}
use Rattle.obligation_laws.specs.TermOf.{field_term, term_in}
use Rattle.obligation_laws.specs.States.{set_in, set_term}
use Rattle.obligation_laws.proofs.Relating.{Extends, Pairing, Rel, rel_more}

-- the fields of one header
abbrev pub HeaderRel : Pairing → ℕ → (header : List ℕ) → List Param → List FieldValue → List Term → Type 0
HeaderRel pairs n h [] [] [] = Unit {0}
HeaderRel pairs n h (p ∷ ps) (v ∷ vs) (t ∷ ts) = (v.header ≡ h) × (v.field ≡ p.name.text) × Rel pairs n v.value t × HeaderRel pairs n h ps vs ts
HeaderRel pairs n h _ _ _ = ⊥

-- those of each header
abbrev pub FieldsRel : Pairing → ℕ → List HeaderDecl → List FieldValue → List Term → Type 0
FieldsRel pairs n [] [] [] = Unit {0}
FieldsRel pairs n [] _ _ = ⊥
FieldsRel pairs n (d ∷ ds) vs ts =
    (here rest : List FieldValue) × (these later : List Term) × (vs ≡ here ++ rest) × (ts ≡ these ++ later) × HeaderRel pairs n d.name.text d.fields here these × FieldsRel pairs n ds rest later

and_true : (a b : Bool) → a ≡ true → (a && b) ≡ b
and_true true b h = refl
and_true false b h = absurd (cc)

and_false : (a b : Bool) → a ≡ false → (a && b) ≡ false
and_false true b h = absurd (cc)
and_false false b h = refl

-- ---- lists by headers

dropped : (pairs : Pairing) (n : ℕ) (h : List ℕ) (ps : List Param) (vs : List FieldValue) (ts us : List Term) → HeaderRel pairs n h ps vs ts → drop (length ps) (ts ++ us) ≡ us
dropped pairs n h [] [] [] us k = refl
dropped pairs n h [] [] (t ∷ ts) us k = absurd k
dropped pairs n h [] (v ∷ vs) ts us k = absurd k
dropped pairs n h (p ∷ ps) [] ts us k = absurd k
dropped pairs n h (p ∷ ps) (v ∷ vs) [] us k = absurd k
dropped pairs n h (p ∷ ps) (v ∷ vs) (t ∷ ts) us k = dropped pairs n h ps vs ts us k.3

kept_front : (pairs : Pairing) (n : ℕ) (h : List ℕ) (ps : List Param) (vs : List FieldValue) (ts us : List Term) → HeaderRel pairs n h ps vs ts → take (length ps) (ts ++ us) ≡ ts
kept_front pairs n h [] [] [] us k = refl
kept_front pairs n h [] [] (t ∷ ts) us k = absurd k
kept_front pairs n h [] (v ∷ vs) ts us k = absurd k
kept_front pairs n h (p ∷ ps) [] ts us k = absurd k
kept_front pairs n h (p ∷ ps) (v ∷ vs) [] us k = absurd k
kept_front pairs n h (p ∷ ps) (v ∷ vs) (t ∷ ts) us k = ap (λ xs. t ∷ xs) (kept_front pairs n h ps vs ts us k.3)

pub header_more : (pairs : Pairing) (n : ℕ) (more : Pairing) (next : ℕ) → Extends pairs n more next → (h : List ℕ) (ps : List Param) (vs : List FieldValue) (ts : List Term) → HeaderRel pairs n h ps vs ts → HeaderRel more next h ps vs ts
header_more pairs n more next x h [] [] [] k = tt
header_more pairs n more next x h [] [] (t ∷ ts) k = absurd k
header_more pairs n more next x h [] (v ∷ vs) ts k = absurd k
header_more pairs n more next x h (p ∷ ps) [] ts k = absurd k
header_more pairs n more next x h (p ∷ ps) (v ∷ vs) [] k = absurd k
header_more pairs n more next x h (p ∷ ps) (v ∷ vs) (t ∷ ts) k = (k.0, k.1, rel_more pairs n more next x v.value t k.2, header_more pairs n more next x h ps vs ts k.3)

pub fields_more : (pairs : Pairing) (n : ℕ) (more : Pairing) (next : ℕ) → Extends pairs n more next → (ds : List HeaderDecl) (vs : List FieldValue) (ts : List Term) → FieldsRel pairs n ds vs ts → FieldsRel more next ds vs ts
fields_more pairs n more next x [] [] [] k = tt
fields_more pairs n more next x [] [] (t ∷ ts) k = absurd k
fields_more pairs n more next x [] (v ∷ vs) ts k = absurd k
fields_more pairs n more next x (d ∷ ds) vs ts k =
    (k.0, k.1, k.2, k.3, k.4, k.5, header_more pairs n more next x d.name.text d.fields k.0 k.2 k.6, fields_more pairs n more next x ds k.1 k.3 k.7)

-- ---- reading

one_of : (pairs : Pairing) (n : ℕ) (a b r : Bool) (e f : Expr) (t u : Term) → a ≡ r → b ≡ r → (r ≡ true → Rel pairs n e t) → (r ≡ false → Rel pairs n f u) → Rel pairs n (if a then e else f) (if b then t else u)
one_of pairs n true true true e f t u i j h k = h refl
one_of pairs n false false false e f t u i j h k = k refl
one_of pairs n false b true e f t u i j h k = absurd (cc)
one_of pairs n true false true e f t u i j h k = absurd (cc)
one_of pairs n true b false e f t u i j h k = absurd (cc)
one_of pairs n false true false e f t u i j h k = absurd (cc)

-- the width of a field of a header
abbrev width_in : List Param → List ℕ → Option ℕ
width_in ps f = option_map (λ (p : Param). p.width) (named (λ (p : Param). p.name) f ps)

later_width : (b : Bool) (p : Param) (ps : List Param) (f : List ℕ) (w : ℕ) → b ≡ false → option_map (λ (q : Param). q.width) (if b then Some p else named (λ (q : Param). q.name) f ps) ≡ Some w → width_in ps f ≡ Some w
later_width true p ps f w e h = absurd (cc)
later_width false p ps f w e h = h

in_header : (pairs : Pairing) (n : ℕ) (h f : Name) (d : List ℕ) → same_name h.text d ≡ true → (ps : List Param) (here rest : List FieldValue) (these later : List Term) → HeaderRel pairs n d ps here these
    → (w : ℕ) → width_in ps f.text ≡ Some w → Rel pairs n (field_value (here ++ rest) h f) (term_in ps (these ++ later) f.text)
in_header pairs n h f d s [] here rest these later k w is = absurd (cc)
in_header pairs n h f d s (p ∷ ps) [] rest these later k w is = absurd k
in_header pairs n h f d s (p ∷ ps) (v ∷ here) rest [] later k w is = absurd k
in_header pairs n h f d s (p ∷ ps) (v ∷ here) rest (t ∷ these) later k w is =
    let same : (same_name h.text v.header && same_name f.text v.field) ≡ same_name f.text p.name.text =
    and_true (same_name h.text v.header) (same_name f.text v.field) (ap (same_name h.text) k.0 ∙ s) ∙ ap (same_name f.text) k.1 in
    one_of pairs n (same_name h.text v.header && same_name f.text v.field) (same_name f.text p.name.text) (same_name f.text p.name.text) v.value (field_value (here ++ rest) h f) t (term_in ps (these ++ later) f.text) same refl
    (λ e. k.2)
    (λ e. in_header pairs n h f d s ps here rest these later k.3 w (later_width (same_name f.text p.name.text) p ps f.text w e is))

else_of : (b : Bool) (x y : Expr) → b ≡ false → (if b then x else y) ≡ y
else_of true x y h = absurd (cc)
else_of false x y h = refl

past_header : (pairs : Pairing) (n : ℕ) (h f : Name) (d : List ℕ) → same_name h.text d ≡ false → (ps : List Param) (here rest : List FieldValue) (these : List Term) → HeaderRel pairs n d ps here these
    → field_value (here ++ rest) h f ≡ field_value rest h f
past_header pairs n h f d s [] [] rest these k = refl
past_header pairs n h f d s [] (v ∷ here) rest these k = absurd k
past_header pairs n h f d s (p ∷ ps) [] rest these k = absurd k
past_header pairs n h f d s (p ∷ ps) (v ∷ here) rest [] k = absurd k
past_header pairs n h f d s (p ∷ ps) (v ∷ here) rest (t ∷ these) k =
    else_of (same_name h.text v.header && same_name f.text v.field) v.value (field_value (here ++ rest) h f)
    (and_false (same_name h.text v.header) (same_name f.text v.field) (ap (same_name h.text) k.0 ∙ s))
    ∙ past_header pairs n h f d s ps here rest these k.3

pub field_rel : (pairs : Pairing) (n : ℕ) (ds : List HeaderDecl) (vs : List FieldValue) (ts : List Term) → FieldsRel pairs n ds vs ts → (h f : Name) (w : ℕ) → field_width ds h.text f.text ≡ Some w
    → Rel pairs n (field_value vs h f) (field_term ds ts h.text f.text)
field_rel pairs n [] vs ts k h f w is = absurd (cc)
field_rel pairs n (d ∷ ds) vs ts k h f w is =
    subst (λ z. Rel pairs n (field_value z h f) (field_term (d ∷ ds) ts h.text f.text)) (sym k.4)
    (subst (λ z. Rel pairs n (field_value (k.0 ++ k.1) h f) (field_term (d ∷ ds) z h.text f.text)) (sym k.5) (by (field_rel pairs n ds k.1 k.3 k.7 h f w) (same_name h.text d.name.text) refl is))
  where
    by : (field_width ds h.text f.text ≡ Some w → Rel pairs n (field_value k.1 h f) (field_term ds k.3 h.text f.text)) → (b : Bool) → same_name h.text d.name.text ≡ b
        → option_and_then (λ (c : HeaderDecl). width_in c.fields f.text) (cond b (Some d) (named (λ (c : HeaderDecl). c.name) h.text ds)) ≡ Some w
        → Rel pairs n (field_value (k.0 ++ k.1) h f) (if b then term_in d.fields (k.2 ++ k.3) f.text else field_term ds (drop (length d.fields) (k.2 ++ k.3)) h.text f.text)
    by later true e is = in_header pairs n h f d.name.text e d.fields k.0 k.1 k.2 k.3 k.6 w is
    by later false e is =
        subst (λ z. Rel pairs n z (field_term ds (drop (length d.fields) (k.2 ++ k.3)) h.text f.text)) (sym (past_header pairs n h f d.name.text e d.fields k.0 k.1 k.2 k.6))
        (subst (λ z. Rel pairs n (field_value k.1 h f) (field_term ds z h.text f.text)) (sym (dropped pairs n d.name.text d.fields k.0 k.2 k.3 k.6)) (later is))

-- ---- setting

-- the values of one header with a field set, and those behind it
abbrev SetRel : Pairing → ℕ → (header : List ℕ) → List Param → List FieldValue → List Term → (rest : List FieldValue) (later : List Term) → Type 0
SetRel pairs n d ps vs ts rest later = (here : List FieldValue) × (these : List Term) × (vs ≡ here ++ rest) × (ts ≡ these ++ later) × HeaderRel pairs n d ps here these

set_one : (pairs : Pairing) (n : ℕ) (h f : Name) (d : List ℕ) → same_name h.text d ≡ true → (e : Expr) (u : Term) → Rel pairs n e u → (ps : List Param) (here rest : List FieldValue) (these later : List Term) → HeaderRel pairs n d ps here these
    → (w : ℕ) → width_in ps f.text ≡ Some w → SetRel pairs n d ps (with_field (here ++ rest) h f e) (set_in ps (these ++ later) f.text u) rest later
set_one pairs n h f d s e u r [] here rest these later k w is = absurd (cc)
set_one pairs n h f d s e u r (p ∷ ps) [] rest these later k w is = absurd k
set_one pairs n h f d s e u r (p ∷ ps) (v ∷ here) rest [] later k w is = absurd k
set_one pairs n h f d s e u r (p ∷ ps) (v ∷ here) rest (t ∷ these) later k w is =
    let same : (same_name h.text v.header && same_name f.text v.field) ≡ same_name f.text p.name.text =
    and_true (same_name h.text v.header) (same_name f.text v.field) (ap (same_name h.text) k.0 ∙ s) ∙ ap (same_name f.text) k.1 in
    subst (λ b. SetRel pairs n d (p ∷ ps) (if b then (record v { value = e }) ∷ (here ++ rest) else v ∷ with_field (here ++ rest) h f e) (if same_name f.text p.name.text then u ∷ (these ++ later) else t ∷ set_in ps (these ++ later) f.text u) rest later)
    (sym same)
    (by (same_name f.text p.name.text) (λ q. set_one pairs n h f d s e u r ps here rest these later k.3 w (later_width (same_name f.text p.name.text) p ps f.text w q is)) refl)
  where
    by : (b : Bool) → (same_name f.text p.name.text ≡ false → SetRel pairs n d ps (with_field (here ++ rest) h f e) (set_in ps (these ++ later) f.text u) rest later) → same_name f.text p.name.text ≡ b
        → SetRel pairs n d (p ∷ ps) (if b then (record v { value = e }) ∷ (here ++ rest) else v ∷ with_field (here ++ rest) h f e) (if b then u ∷ (these ++ later) else t ∷ set_in ps (these ++ later) f.text u) rest later
    by true later_set q = (record v { value = e } ∷ here, u ∷ these, refl, refl, (k.0, k.1, r, k.3))
    by false later_set q = let m = later_set q in (v ∷ m.0, t ∷ m.1, ap (λ xs. v ∷ xs) m.2, ap (λ xs. t ∷ xs) m.3, (k.0, k.1, k.2, m.4))

set_past : (pairs : Pairing) (n : ℕ) (h f : Name) (d : List ℕ) → same_name h.text d ≡ false → (e : Expr) (ps : List Param) (here rest : List FieldValue) (these : List Term) → HeaderRel pairs n d ps here these
    → with_field (here ++ rest) h f e ≡ here ++ with_field rest h f e
set_past pairs n h f d s e [] [] rest these k = refl
set_past pairs n h f d s e [] (v ∷ here) rest these k = absurd k
set_past pairs n h f d s e (p ∷ ps) [] rest these k = absurd k
set_past pairs n h f d s e (p ∷ ps) (v ∷ here) rest [] k = absurd k
set_past pairs n h f d s e (p ∷ ps) (v ∷ here) rest (t ∷ these) k =
    else_list (same_name h.text v.header && same_name f.text v.field) (record v { value = e } ∷ (here ++ rest)) (v ∷ with_field (here ++ rest) h f e)
    (and_false (same_name h.text v.header) (same_name f.text v.field) (ap (same_name h.text) k.0 ∙ s))
    ∙ ap (λ xs. v ∷ xs) (set_past pairs n h f d s e ps here rest these k.3)
  where
    else_list : (b : Bool) (xs ys : List FieldValue) → b ≡ false → (if b then xs else ys) ≡ ys
    else_list true xs ys h = absurd (cc)
    else_list false xs ys h = refl

pub set_rel : (pairs : Pairing) (n : ℕ) (ds : List HeaderDecl) (vs : List FieldValue) (ts : List Term) → FieldsRel pairs n ds vs ts → (h f : Name) (w : ℕ) → field_width ds h.text f.text ≡ Some w
    → (e : Expr) (u : Term) → Rel pairs n e u → FieldsRel pairs n ds (with_field vs h f e) (set_term ds ts h.text f.text u)
set_rel pairs n [] vs ts k h f w is e u r = absurd (cc)
set_rel pairs n (d ∷ ds) vs ts k h f w is e u r =
    subst (λ z. FieldsRel pairs n (d ∷ ds) (with_field z h f e) (set_term (d ∷ ds) ts h.text f.text u)) (sym k.4)
    (subst (λ z. FieldsRel pairs n (d ∷ ds) (with_field (k.0 ++ k.1) h f e) (set_term (d ∷ ds) z h.text f.text u)) (sym k.5) (by (λ q. set_rel pairs n ds k.1 k.3 k.7 h f w q e u r) (same_name h.text d.name.text) refl is))
  where
    by : (field_width ds h.text f.text ≡ Some w → FieldsRel pairs n ds (with_field k.1 h f e) (set_term ds k.3 h.text f.text u)) → (b : Bool) → same_name h.text d.name.text ≡ b
        → option_and_then (λ (c : HeaderDecl). width_in c.fields f.text) (cond b (Some d) (named (λ (c : HeaderDecl). c.name) h.text ds)) ≡ Some w
        → FieldsRel pairs n (d ∷ ds) (with_field (k.0 ++ k.1) h f e)
        (if b then set_in d.fields (k.2 ++ k.3) f.text u else take (length d.fields) (k.2 ++ k.3) ++ set_term ds (drop (length d.fields) (k.2 ++ k.3)) h.text f.text u)
    by later true q is =
        let m = set_one pairs n h f d.name.text q e u r d.fields k.0 k.1 k.2 k.3 k.6 w is in
        (m.0, k.1, m.1, k.3, m.2, m.3, m.4, k.7)
    by later false q is =
        let rest = later is in (
          k.0,
          with_field k.1 h f e,
          k.2,
          set_term ds k.3 h.text f.text u,
          set_past pairs n h f d.name.text q e d.fields k.0 k.1 k.2 k.6,
          λ i. kept_front pairs n d.name.text d.fields k.0 k.2 k.3 k.6 i ++ set_term ds (dropped pairs n d.name.text d.fields k.0 k.2 k.3 k.6 i) h.text f.text u,
          k.6,
          rest,
        )
