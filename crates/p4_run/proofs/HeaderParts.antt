-- The fields of one header among those of all.
use Rattle.std.proofs.Common.{◌≡◌, ℕ, zero, suc, ◌+◌, ◌-◌, ◌<◌, ◌^◌, List, [], ◌∷◌, ◌++◌, length, take, drop, set, get_or}
use Rattle.std.proofs.Common.{slice_get, slice_set, Option, Some, None, option_and_then, min, refl, sym, ◌∙◌, ap, subst, arith}
use Rattle.std.proofs.lemmas.List.{drop-drop, drop-set-add, drop-set-lt, get_or-append-add, get_or-drop, get_or-take, get_or_append_left, length-drop, length-take, take-set-le}
use Rattle.std.proofs.lemmas.Option.{slice_get-get_or}
use Rattle.cocoon_num.specs.PacketForms.{FieldsFit}
use Rattle.cocoon_num.specs.Packets.{Layout, Packet}
use Rattle.cocoon_num.specs.Values.{number, with_both}
use Rattle.packed_fields.specs.AtOnce.{grouped, widths_in}
use Rattle.packed_fields.proofs.Packing.{fit_length}
use Rattle.packed_fields.proofs.Steps.{field_fits}
use Rattle.p4_ir.specs.Switch.{header_field, numbered, set_in_header}
use Rattle.p4_run.specs.Places.{starts_from}

-- the index of the first field of a header
abbrev pub begin : Layout → ℕ → ℕ
begin [] h = 0
begin (ws ∷ layout) zero = 0
begin (ws ∷ layout) (suc h) = length ws + begin layout h

pub start_at : (k : ℕ) (layout : Layout) (h : ℕ) → h < length layout → get_or (starts_from k layout) h 0 ≡ k + begin layout h
start_at k [] h l = absurd (omega arith)
start_at k (ws ∷ layout) zero l = omega arith
start_at k (ws ∷ layout) (suc h) l = start_at (k + length ws) layout h (omega arith) ∙ omega arith

pub starts_count : (k : ℕ) (layout : Layout) → length (starts_from k layout) ≡ length layout
starts_count k [] = refl
starts_count k (ws ∷ layout) = ap suc (starts_count (k + length ws) layout)

-- ---- reading

some_is : {A : Type 0} (x y : A) → ◌≡◌ {A = Option A} (Some x) (Some y) → x ≡ y
some_is x y h = cc

fit_parts : (us vs ns : List ℕ) → FieldsFit (us ++ vs) ns → FieldsFit us (take (length us) ns) × FieldsFit vs (drop (length us) ns)
fit_parts [] vs ns h = (tt, h)
fit_parts (u ∷ us) vs [] h = absurd h
fit_parts (u ∷ us) vs (n ∷ ns) h = let r = fit_parts us vs ns h.1 in ((h.0, r.0), r.1)

part_is : (layout : Layout) (ns : List ℕ) (h : ℕ) (ws : List ℕ) → slice_get layout h ≡ Some ws → slice_get (grouped layout ns) h ≡ Some (take (length ws) (drop (begin layout h) ns))
part_is [] ns h ws e = absurd (cc)
part_is (vs ∷ layout) ns zero ws e = ap (λ us. Some (take (length us) ns)) (some_is vs ws e)
part_is (vs ∷ layout) ns (suc h) ws e =
    part_is layout (drop (length vs) ns) h ws e ∙ ap (λ xs. Some (take (length ws) xs)) (drop-drop (begin layout h) (length vs) ns)

part_fits : (layout : Layout) (ns : List ℕ) (h : ℕ) (ws : List ℕ) → slice_get layout h ≡ Some ws → FieldsFit (widths_in layout) ns → FieldsFit ws (take (length ws) (drop (begin layout h) ns))
part_fits [] ns h ws e f = absurd (cc)
part_fits (vs ∷ layout) ns zero ws e f = subst (λ us. FieldsFit us (take (length us) ns)) (some_is vs ws e) (fit_parts vs (widths_in layout) ns f).0
part_fits (vs ∷ layout) ns (suc h) ws e f =
    subst (λ xs. FieldsFit ws (take (length ws) xs)) (drop-drop (begin layout h) (length vs) ns) (part_fits layout (drop (length vs) ns) h ws e (fit_parts vs (widths_in layout) ns f).1)

pub record FieldAt (layout : Layout) (ns ws : List ℕ) (h f : ℕ) : Type 0 where
  pub within : begin layout h + f < length ns
  pub small : get_or ns (begin layout h + f) 0 < 2 ^ get_or ws f 0
  pub value : header_field layout (grouped layout ns) h f ≡ Some (number (get_or ws f 0) (get_or ns (begin layout h + f) 0))

pub field_at : (layout : Layout) (ns ws : List ℕ) (h f : ℕ) → slice_get layout h ≡ Some ws → f < length ws → FieldsFit (widths_in layout) ns → FieldAt layout ns ws h f
field_at layout ns ws h f e l fit =
    let part = take (length ws) (drop (begin layout h) ns) in
    let fits : FieldsFit ws part = part_fits layout ns h ws e fit in
    let many : length ws ≡ length part = fit_length ws part fits in
    let taken : length part ≡ min (length ws) (length (drop (begin layout h) ns)) = length-take (length ws) (drop (begin layout h) ns) in
    let dropped : length (drop (begin layout h) ns) ≡ length ns - begin layout h = length-drop (begin layout h) ns in
    let within : begin layout h + f < length ns = omega arith in
    let same : get_or part f 0 ≡ get_or ns (begin layout h + f) 0 = get_or-take (length ws) (drop (begin layout h) ns) f 0 l ∙ get_or-drop (begin layout h) ns f 0 in
    let in_part : f < length part = omega arith in
    record {
      within = within;
      small = subst (λ n. n < 2 ^ get_or ws f 0) same (field_fits ws part f fits l);
      value = ap (option_and_then (λ widths. option_and_then (λ xs. numbered widths xs f) (slice_get (grouped layout ns) h))) e
          ∙ ap (option_and_then (λ xs. numbered ws xs f)) (part_is layout ns h ws e)
          ∙ (λ i. with_both (λ w n. Some (number w n)) (slice_get-get_or ws f 0 l i) (slice_get-get_or part f 0 in_part i))
          ∙ ap (λ n. Some (number (get_or ws f 0) n)) same;
    }

-- no value where there is no header, or no field in it
pub no_header : (layout : Layout) (p : Packet) (h f : ℕ) → slice_get layout h ≡ None → header_field layout p h f ≡ None
no_header layout p h f e = ap (option_and_then (λ widths. option_and_then (λ xs. numbered widths xs f) (slice_get p h))) e

no_number : (o n : Option ℕ) → o ≡ None → with_both (λ w m. Some (number w m)) o n ≡ None
no_number None n e = refl
no_number (Some w) n e = absurd (cc)

in_none : (ws : List ℕ) (o : Option (List ℕ)) (f : ℕ) → slice_get ws f ≡ None → option_and_then (λ xs. numbered ws xs f) o ≡ None
in_none ws None f e = refl
in_none ws (Some xs) f e = no_number (slice_get ws f) (slice_get xs f) e

pub no_field : (layout : Layout) (p : Packet) (ws : List ℕ) (h f : ℕ) → slice_get layout h ≡ Some ws → slice_get ws f ≡ None → header_field layout p h f ≡ None
no_field layout p ws h f e g =
    ap (option_and_then (λ widths. option_and_then (λ xs. numbered widths xs f) (slice_get p h))) e ∙ in_none ws (slice_get p h) f g

-- ---- setting

take_set : (m : ℕ) (xs : List ℕ) (i x : ℕ) → take m (set xs i x) ≡ set (take m xs) i x
take_set zero xs i x = refl
take_set (suc m) [] i x = refl
take_set (suc m) (y ∷ xs) zero x = refl
take_set (suc m) (y ∷ xs) (suc i) x = ap (λ zs. y ∷ zs) (take_set m xs i x)

later_header : (p : List ℕ) (ps : Packet) (h f n : ℕ) → set_in_header (p ∷ ps) (suc h) f n ≡ p ∷ set_in_header ps h f n
later_header p ps h f n = by_header (slice_get ps h)
  where
    by_header : (o : Option (List ℕ))
        → elim o [ None ↦ p ∷ ps | Some ns ↦ slice_set (p ∷ ps) (suc h) (slice_set ns f n) ] ≡ p ∷ (elim o [ None ↦ ps | Some ns ↦ slice_set ps h (slice_set ns f n) ])
    by_header None = refl
    by_header (Some ns) = refl

pub set_at : (layout : Layout) (ns ws : List ℕ) (h f n : ℕ) → slice_get layout h ≡ Some ws → f < length ws
    → grouped layout (slice_set ns (begin layout h + f) n) ≡ set_in_header (grouped layout ns) h f n
set_at [] ns ws h f n e l = absurd (cc)
set_at (vs ∷ layout) ns ws zero f n e l =
    let k : 0 + f ≡ f = omega arith in
    let same : vs ≡ ws = some_is vs ws e in
    let m : f < length vs = subst (λ us. f < length us) (sym same) l in
    ap (λ i. grouped (vs ∷ layout) (slice_set ns i n)) k
    ∙ (λ i. take_set (length vs) ns f n i ∷ grouped layout (drop-set-lt (length vs) ns f n m i))
set_at (vs ∷ layout) ns ws (suc h) f n e l =
    let b = begin layout h + f in
    let k : length vs + begin layout h + f ≡ length vs + b = omega arith in
    ap (λ i. grouped (vs ∷ layout) (slice_set ns i n)) k
    ∙ (λ i. take-set-le (length vs) ns (length vs + b) n (omega arith) i ∷ grouped layout (drop-set-add (length vs) ns b n i))
    ∙ ap (λ ps. take (length vs) ns ∷ ps) (set_at layout (drop (length vs) ns) ws h f n e l)
    ∙ sym (later_header (take (length vs) ns) (grouped layout (drop (length vs) ns)) h f n)

pub width_at : (layout : Layout) (ws : List ℕ) (h f : ℕ) → slice_get layout h ≡ Some ws → f < length ws → get_or (widths_in layout) (begin layout h + f) 0 ≡ get_or ws f 0
width_at [] ws h f e l = absurd (cc)
width_at (vs ∷ layout) ws zero f e l =
    let k : 0 + f ≡ f = omega arith in
    let same : vs ≡ ws = some_is vs ws e in
    ap (λ i. get_or (vs ++ widths_in layout) i 0) k ∙ get_or_append_left vs (widths_in layout) 0 f (subst (λ us. f < length us) (sym same) l) ∙ ap (λ us. get_or us f 0) same
width_at (vs ∷ layout) ws (suc h) f e l =
    let k : length vs + begin layout h + f ≡ length vs + (begin layout h + f) = omega arith in
    ap (λ i. get_or (vs ++ widths_in layout) i 0) k ∙ get_or-append-add vs (widths_in layout) (begin layout h + f) 0 ∙ width_at layout ws h f e l

-- a number that fits its width is set
pub fit_set : (ws ns : List ℕ) (i n : ℕ) → FieldsFit ws ns → n < 2 ^ get_or ws i 0 → FieldsFit ws (slice_set ns i n)
fit_set [] [] i n f l = tt
fit_set [] (m ∷ ns) i n f l = absurd f
fit_set (w ∷ ws) [] i n f l = absurd f
fit_set (w ∷ ws) (m ∷ ns) zero n f l = (l, f.1)
fit_set (w ∷ ws) (m ∷ ns) (suc i) n f l = (f.0, fit_set ws ns i n f.1 l)
