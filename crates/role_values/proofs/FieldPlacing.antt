-- Where fields lie among the numbers of all, and what setting one of them does.
use Rattle.std.proofs.Common.{◌≡◌, ℕ, suc, ◌+◌, ◌-◌, ◌<◌, ◌≤◌, ◌^◌, List, [], ◌∷◌, ◌++◌, map, take, drop, set, length, get_or, Bool, true, false, Option, Some, None, option_map, option_and_then, if◌then◌else◌, refl, sym, ap, subst, ◌∙◌, arith}
use Rattle.std.proofs.lemmas.List.{drop-set-lt, drop-set-add, take-set-le, drop_more, length-drop}
use Rattle.std.proofs.Math.Seq.{take-set-lt}
use Rattle.cocoon_num.specs.Names.{same_name, named}
use Rattle.cocoon_num.specs.Packets.{Packet}
use Rattle.cocoon_num.specs.PacketForms.{FieldsFit}
use Rattle.cocoon_num.specs.Tree.{HeaderDecl, Param}
use Rattle.cocoon_num.specs.Values.{fits_width}
use Rattle.cocoon_resolve.specs.Readers.{all_widths}
use Rattle.cocoon_types.specs.Design.{field_width, widths_of, write_field, write_in}
use Rattle.role_values.specs.FieldPlaces.{later, place_in, place_of}
use Rattle.role_values.specs.Flat.{packet_of}
use Rattle.role_values.specs.Written.{written}
use Rattle.role_values.specs.declared.fields.FieldPlace.{FieldPlace}
use Rattle.role_values.specs.DeclaredWidths.{AllDeclared}
use Rattle.role_values.proofs.FieldSteps.{counted, declared_first, declared_rest, fit_first, fit_long, fit_rest, header_at}

pub later_more : (a b : ℕ) (x : Option FieldPlace) → option_map (later a) (option_map (later b) x) ≡ option_map (later (a + b)) x
later_more a b None = refl
later_more a b (Some p) = let e : a + (b + p.index) ≡ a + b + p.index = omega arith in ap (λ i. Some (record { index = i; width = p.width })) e

pub later_none : (x : Option FieldPlace) → option_map (later 0) x ≡ x
later_none None = refl
later_none (Some p) = let e : 0 + p.index ≡ p.index = omega arith in ap (λ i. Some (record { index = i; width = p.width })) e

-- ---- widths

width_later : (a : ℕ) (x : Option FieldPlace) → option_map (λ (p : FieldPlace). p.width) (option_map (later a) x) ≡ option_map (λ (p : FieldPlace). p.width) x
width_later a None = refl
width_later a (Some p) = refl

if_width : (b : Bool) (x y : Option FieldPlace) (v : Option Param) (q : Param) → option_map (λ (p : FieldPlace). p.width) x ≡ Some q.width
    → option_map (λ (p : FieldPlace). p.width) y ≡ option_map (λ (p : Param). p.width) v
    → option_map (λ (p : FieldPlace). p.width) (if b then x else y) ≡ option_map (λ (p : Param). p.width) (if b then Some q else v)
if_width true x y v q h k = h
if_width false x y v q h k = k

width_in : (ps : List Param) (f : List ℕ) → option_map (λ (p : FieldPlace). p.width) (place_in ps f) ≡ option_map (λ (p : Param). p.width) (named (λ (p : Param). p.name) f ps)
width_in [] f = refl
width_in (p ∷ ps) f =
    if_width (same_name f p.name.text) (Some (record { index = 0; width = p.width })) (option_map (later 1) (place_in ps f)) (named (λ (p : Param). p.name) f ps) p refl
    (width_later 1 (place_in ps f) ∙ width_in ps f)

if_header : (b : Bool) (x y : Option FieldPlace) (v : Option HeaderDecl) (q : HeaderDecl) (k : HeaderDecl → Option ℕ) → option_map (λ (p : FieldPlace). p.width) x ≡ k q
    → option_map (λ (p : FieldPlace). p.width) y ≡ option_and_then k v
    → option_map (λ (p : FieldPlace). p.width) (if b then x else y) ≡ option_and_then k (if b then Some q else v)
if_header true x y v q k g h = g
if_header false x y v q k g h = h

pub place_width : (hs : List HeaderDecl) (h f : List ℕ) → option_map (λ (p : FieldPlace). p.width) (place_of hs h f) ≡ field_width hs h f
place_width [] h f = refl
place_width (d ∷ ds) h f =
    if_header (same_name h d.name.text) (place_in d.fields f) (option_map (later (length d.fields)) (place_of ds h f)) (named (λ (d : HeaderDecl). d.name) h ds) d
    (λ (d : HeaderDecl). option_map (λ (p : Param). p.width) (named (λ (p : Param). p.name) f d.fields)) (width_in d.fields f)
    (width_later (length d.fields) (place_of ds h f) ∙ place_width ds h f)

-- ---- one header

if_some : {A : Type 0} (b : Bool) (x : A) (y : Option A) (z : A) (P : A → Type 0) → (b ≡ true → P x) → (b ≡ false → (w : A) → y ≡ Some w → P w) → (if b then Some x else y) ≡ Some z → P z
if_some true x y z P f g h = let e : x ≡ z = cc in subst P e (f refl)
if_some false x y z P f g h = g refl z h

mapped : (a : ℕ) (x : Option FieldPlace) (z : FieldPlace) → option_map (later a) x ≡ Some z → (p : FieldPlace) × (x ≡ Some p) × (later a p ≡ z)
mapped a None z h = absurd (cc)
mapped a (Some p) z h = (p, refl, cc)

-- what a place among some numbers is
record Sets (ws ns : List ℕ) (p : FieldPlace) (n : ℕ) (new : List ℕ) : Type 0 where
  within : p.index < length ws
  sets : set ns p.index n ≡ new
  fits : n < 2 ^ p.width → FieldsFit ws (set ns p.index n)

in_first : (q : Param) (ps : List Param) (m n : ℕ) (ns f : List ℕ) → same_name f q.name.text ≡ true → FieldsFit (q.width ∷ widths_of ps) (m ∷ ns)
    → Sets (q.width ∷ widths_of ps) (m ∷ ns) (record { index = 0; width = q.width }) n (write_in (q ∷ ps) (m ∷ ns) f n)
in_first q ps m n ns f e h = record {
  within = omega arith;
  sets = ap (λ b. if b then n ∷ ns else m ∷ write_in ps ns f n) (sym e);
  fits = λ l. (l, h.1);
}

next : FieldPlace → FieldPlace
next p = record { index = suc p.index; width = p.width }

next_is : (p : FieldPlace) → next p ≡ later 1 p
unfolding next
next_is p = let e : suc p.index ≡ 1 + p.index = omega arith in ap (λ i. record { index = i; width = p.width }) e

in_rest : (q : Param) (ps : List Param) (m n : ℕ) (ns f : List ℕ) (p : FieldPlace) → same_name f q.name.text ≡ false → FieldsFit (q.width ∷ widths_of ps) (m ∷ ns)
    → Sets (widths_of ps) ns p n (write_in ps ns f n) → Sets (q.width ∷ widths_of ps) (m ∷ ns) (next p) n (write_in (q ∷ ps) (m ∷ ns) f n)
unfolding next
in_rest q ps m n ns f p e h s = record {
  within = let l : p.index < length (widths_of ps) = s.within in omega arith;
  sets = ap (λ r. m ∷ r) s.sets ∙ ap (λ b. if b then n ∷ ns else m ∷ write_in ps ns f n) (sym e);
  fits = λ l. (h.0, s.fits l);
}

sets_in : (ps : List Param) (ns f : List ℕ) (p : FieldPlace) (n : ℕ) → place_in ps f ≡ Some p → FieldsFit (widths_of ps) ns → Sets (widths_of ps) ns p n (write_in ps ns f n)
sets_in [] ns f p n e h = absurd (cc)
sets_in (q ∷ ps) [] f p n e h = absurd h
sets_in (q ∷ ps) (m ∷ ns) f p n e h =
    if_some (same_name f q.name.text) (record { index = 0; width = q.width }) (option_map (later 1) (place_in ps f)) p
    (λ r. Sets (q.width ∷ widths_of ps) (m ∷ ns) r n (write_in (q ∷ ps) (m ∷ ns) f n))
    (λ same. in_first q ps m n ns f same h)
    (λ other w k.
    let found = mapped 1 (place_in ps f) w k in
    subst (λ r. Sets (q.width ∷ widths_of ps) (m ∷ ns) r n (write_in (q ∷ ps) (m ∷ ns) f n)) (next_is found.0 ∙ found.2)
    (in_rest q ps m n ns f found.0 other h (sets_in ps ns f found.0 n found.1 h.1)))
    e

pub place_within : (ps : List Param) (f : List ℕ) (p : FieldPlace) → place_in ps f ≡ Some p → p.index < length ps
place_within [] f p e = absurd (cc)
place_within (q ∷ ps) f p e =
    if_some (same_name f q.name.text) (record { index = 0; width = q.width }) (option_map (later 1) (place_in ps f)) p (λ r. r.index < length (q ∷ ps))
    (λ same. omega arith)
    (λ other w k.
    let found = mapped 1 (place_in ps f) w k in
    let l : found.0.index < length ps = place_within ps f found.0 found.1 in
    subst (λ (r : FieldPlace). r.index < length (q ∷ ps)) found.2 (omega arith))
    e

-- ---- all headers

fit_join : (ws vs ns : List ℕ) → FieldsFit ws (take (length ws) ns) → FieldsFit vs (drop (length ws) ns) → FieldsFit (ws ++ vs) ns
fit_join [] vs ns h k = k
fit_join (w ∷ ws) vs [] h k = absurd h
fit_join (w ∷ ws) vs (n ∷ ns) h k = (h.0, fit_join ws vs ns h.1 k)

-- what a place among the numbers of all fields is
pub record Places (hs : List HeaderDecl) (ns h f : List ℕ) (p : FieldPlace) (n : ℕ) : Type 0 where
  pub within : p.index < length ns
  pub sets : packet_of hs (set ns p.index n) ≡ write_field hs (packet_of hs ns) h f n
  pub fits : n < 2 ^ p.width → FieldsFit (all_widths hs) (set ns p.index n)

in_header : (d : HeaderDecl) (ds : List HeaderDecl) (ns h f : List ℕ) (p : FieldPlace) (n : ℕ) → same_name h d.name.text ≡ true → FieldsFit (widths_of d.fields ++ all_widths ds) ns
    → place_in d.fields f ≡ Some p → Places (d ∷ ds) ns h f p n
in_header d ds ns h f p n e fit found =
    let ws = widths_of d.fields in
    let k = length d.fields in
    let many : length ws ≡ k = counted d.fields in
    let l : p.index < k = place_within d.fields f p found in
    let long : length ws ≤ length ns = fit_long ws (all_widths ds) ns fit in
    let own : FieldsFit ws (take k ns) = subst (λ m. FieldsFit ws (take m ns)) many (fit_first ws (all_widths ds) ns fit) in
    let others : FieldsFit (all_widths ds) (drop k ns) = subst (λ m. FieldsFit (all_widths ds) (drop m ns)) many (fit_rest ws (all_widths ds) ns fit) in
    let s = sets_in d.fields (take k ns) f p n found own in
    record {
      within = omega arith;
      sets =
          (λ i. (take-set-lt k ns p.index n l ∙ s.sets) i ∷ packet_of ds (drop-set-lt k ns p.index n l i))
          ∙ ap (λ b. if b then write_in d.fields (take k ns) f n ∷ packet_of ds (drop k ns) else take k ns ∷ write_field ds (packet_of ds (drop k ns)) h f n) (sym e);
      fits = λ small.
          fit_join ws (all_widths ds) (set ns p.index n)
          (subst (λ m. FieldsFit ws (take m (set ns p.index n))) (sym many) (subst (FieldsFit ws) (sym (take-set-lt k ns p.index n l)) (s.fits small)))
          (subst (λ m. FieldsFit (all_widths ds) (drop m (set ns p.index n))) (sym many) (subst (FieldsFit (all_widths ds)) (sym (drop-set-lt k ns p.index n l)) others));
    }

in_others : (d : HeaderDecl) (ds : List HeaderDecl) (ns h f : List ℕ) (p : FieldPlace) (n : ℕ) → same_name h d.name.text ≡ false → FieldsFit (widths_of d.fields ++ all_widths ds) ns
    → Places ds (drop (length d.fields) ns) h f p n → Places (d ∷ ds) ns h f (later (length d.fields) p) n
in_others d ds ns h f p n e fit s =
    let ws = widths_of d.fields in
    let k = length d.fields in
    let many : length ws ≡ k = counted d.fields in
    let long : length ws ≤ length ns = fit_long ws (all_widths ds) ns fit in
    let own : FieldsFit ws (take k ns) = subst (λ m. FieldsFit ws (take m ns)) many (fit_first ws (all_widths ds) ns fit) in
    let kept : take k (set ns (k + p.index) n) ≡ take k ns = take-set-le k ns (k + p.index) n (omega arith) in
    let moved : drop k (set ns (k + p.index) n) ≡ set (drop k ns) p.index n = drop-set-add k ns p.index n in
    let l : p.index < length (drop k ns) = s.within in
    record {
      within = let left : length (drop k ns) ≡ length ns - k = length-drop k ns in omega arith;
      sets =
          (λ i. kept i ∷ packet_of ds (moved i)) ∙ ap (λ r. take k ns ∷ r) s.sets
          ∙ ap (λ b. if b then write_in d.fields (take k ns) f n ∷ packet_of ds (drop k ns) else take k ns ∷ write_field ds (packet_of ds (drop k ns)) h f n) (sym e);
      fits = λ small.
          fit_join ws (all_widths ds) (set ns (k + p.index) n)
          (subst (λ m. FieldsFit ws (take m (set ns (k + p.index) n))) (sym many) (subst (FieldsFit ws) (sym kept) own))
          (subst (λ m. FieldsFit (all_widths ds) (drop m (set ns (k + p.index) n))) (sym many) (subst (FieldsFit (all_widths ds)) (sym moved) (s.fits small)));
    }

by_name : (b : Bool) (x y : Option FieldPlace) (z : FieldPlace) (P : FieldPlace → Type 0) → (b ≡ true → x ≡ Some z → P z) → (b ≡ false → y ≡ Some z → P z) → (if b then x else y) ≡ Some z → P z
by_name true x y z P f g h = f refl h
by_name false x y z P f g h = g refl h

pub places : (hs : List HeaderDecl) (ns h f : List ℕ) (p : FieldPlace) (n : ℕ) → place_of hs h f ≡ Some p → FieldsFit (all_widths hs) ns → Places hs ns h f p n
places [] ns h f p n e fit = absurd (cc)
places (d ∷ ds) ns h f p n e fit =
    by_name (same_name h d.name.text) (place_in d.fields f) (option_map (later (length d.fields)) (place_of ds h f)) p (λ r. Places (d ∷ ds) ns h f r n)
    (λ same found. in_header d ds ns h f p n same fit found)
    (λ other found.
    let was = mapped (length d.fields) (place_of ds h f) p found in
    let rest : FieldsFit (all_widths ds) (drop (length d.fields) ns) = subst (λ m. FieldsFit (all_widths ds) (drop m ns)) (counted d.fields) (fit_rest (widths_of d.fields) (all_widths ds) ns fit) in
    subst (λ r. Places (d ∷ ds) ns h f r n) was.2 (in_others d ds ns h f was.0 n other fit (places ds (drop (length d.fields) ns) h f was.0 n was.1 rest)))
    e

-- ---- what is written

if_same : {A : Type 0} (b : Bool) (x : A) → b ≡ true → (if b then Some x else None) ≡ Some x
if_same true x h = refl
if_same false x h = absurd (cc)

if_other : {A : Type 0} (b : Bool) (x : A) → b ≡ false → (if b then Some x else None) ≡ None
if_other true x h = absurd (cc)
if_other false x h = refl

pub written_none : (hs : List HeaderDecl) (packet : Packet) (h f : List ℕ) (n : ℕ) → place_of hs h f ≡ None → written hs packet h f n ≡ None
written_none hs packet h f n e =
    ap (λ (w : Option ℕ). option_and_then (λ width. if fits_width width n then Some (write_field hs packet h f n) else None) w)
    (sym (place_width hs h f) ∙ ap (option_map (λ (p : FieldPlace). p.width)) e)

written_at : (hs : List HeaderDecl) (packet : Packet) (h f : List ℕ) (n : ℕ) (p : FieldPlace) → place_of hs h f ≡ Some p
    → written hs packet h f n ≡ (if fits_width p.width n then Some (write_field hs packet h f n) else None)
written_at hs packet h f n p e =
    ap (λ (w : Option ℕ). option_and_then (λ width. if fits_width width n then Some (write_field hs packet h f n) else None) w)
    (sym (place_width hs h f) ∙ ap (option_map (λ (p : FieldPlace). p.width)) e)

pub written_over : (hs : List HeaderDecl) (packet : Packet) (h f : List ℕ) (n : ℕ) (p : FieldPlace) → place_of hs h f ≡ Some p → fits_width p.width n ≡ false → written hs packet h f n ≡ None
written_over hs packet h f n p e o = written_at hs packet h f n p e ∙ if_other (fits_width p.width n) (write_field hs packet h f n) o

pub written_some : (hs : List HeaderDecl) (packet : Packet) (h f : List ℕ) (n : ℕ) (p : FieldPlace) → place_of hs h f ≡ Some p → fits_width p.width n ≡ true
    → written hs packet h f n ≡ Some (write_field hs packet h f n)
written_some hs packet h f n p e o = written_at hs packet h f n p e ∙ if_same (fits_width p.width n) (write_field hs packet h f n) o

-- ---- steps of the loops

place_step : {A : Type 0} (f : A → Param) (xs : List A) (i : ℕ) (x : A) (y : List ℕ) → i < length xs → x ≡ get_or xs i x
    → place_in (map f (drop i xs)) y ≡ (if same_name y (f x).name.text then Some (record { index = 0; width = (f x).width }) else option_map (later 1) (place_in (map f (drop (i + 1) xs)) y))
place_step f xs i x y l e = ap (λ zs. place_in (map f zs) y) (drop_more xs i x l ∙ ap (λ z. z ∷ drop (i + 1) xs) (sym e))

pub place_here : {A : Type 0} (f : A → Param) (xs : List A) (i : ℕ) (x : A) (y : List ℕ) → i < length xs → x ≡ get_or xs i x → same_name y (f x).name.text ≡ true
    → option_map (later i) (place_in (map f (drop i xs)) y) ≡ Some (record { index = i; width = (f x).width })
place_here f xs i x y l e h =
    ap (option_map (later i))
    (place_step f xs i x y l e ∙ ap (λ b. if b then Some (record { index = 0; width = (f x).width }) else option_map (later 1) (place_in (map f (drop (i + 1) xs)) y)) h)
    ∙ (let o : i + 0 ≡ i = omega arith in ap (λ k. Some (record { index = k; width = (f x).width })) o)

pub place_past : {A : Type 0} (f : A → Param) (xs : List A) (i : ℕ) (x : A) (y : List ℕ) → i < length xs → x ≡ get_or xs i x → same_name y (f x).name.text ≡ false
    → option_map (later i) (place_in (map f (drop i xs)) y) ≡ option_map (later (i + 1)) (place_in (map f (drop (i + 1) xs)) y)
place_past f xs i x y l e h =
    ap (option_map (later i))
    (place_step f xs i x y l e ∙ ap (λ b. if b then Some (record { index = 0; width = (f x).width }) else option_map (later 1) (place_in (map f (drop (i + 1) xs)) y)) h)
    ∙ later_more i 1 (place_in (map f (drop (i + 1) xs)) y)

pub places_here : {A : Type 0} (f : A → HeaderDecl) (xs : List A) (i before : ℕ) (x : A) (y z : List ℕ) → i < length xs → x ≡ get_or xs i x → same_name y (f x).name.text ≡ true
    → option_map (later before) (place_of (map f (drop i xs)) y z) ≡ option_map (later before) (place_in (f x).fields z)
places_here f xs i before x y z l e h =
    ap (λ hs. option_map (later before) (place_of hs y z)) (header_at f xs i x l e)
    ∙ ap (λ b. option_map (later before) (if b then place_in (f x).fields z else option_map (later (length (f x).fields)) (place_of (map f (drop (i + 1) xs)) y z))) h

pub places_past : {A : Type 0} (f : A → HeaderDecl) (xs : List A) (i before : ℕ) (x : A) (y z : List ℕ) → i < length xs → x ≡ get_or xs i x → same_name y (f x).name.text ≡ false
    → option_map (later before) (place_of (map f (drop i xs)) y z) ≡ option_map (later (before + length (f x).fields)) (place_of (map f (drop (i + 1) xs)) y z)
places_past f xs i before x y z l e h =
    ap (λ hs. option_map (later before) (place_of hs y z)) (header_at f xs i x l e)
    ∙ ap (λ b. option_map (later before) (if b then place_in (f x).fields z else option_map (later (length (f x).fields)) (place_of (map f (drop (i + 1) xs)) y z))) h
    ∙ later_more before (length (f x).fields) (place_of (map f (drop (i + 1) xs)) y z)

-- the width of a place is that of a field
width_declared : (ps : List Param) (f : List ℕ) (p : FieldPlace) → place_in ps f ≡ Some p → AllDeclared (widths_of ps) → p.width ≤ 64
width_declared [] f p e d = absurd (cc)
width_declared (q ∷ ps) f p e d =
    if_some (same_name f q.name.text) (record { index = 0; width = q.width }) (option_map (later 1) (place_in ps f)) p (λ r. r.width ≤ 64)
    (λ same. d.1)
    (λ other w k.
    let found = mapped 1 (place_in ps f) w k in
    subst (λ (r : FieldPlace). r.width ≤ 64) found.2 (width_declared ps f found.0 found.1 d.2))
    e

pub place_declared : (hs : List HeaderDecl) (h f : List ℕ) (p : FieldPlace) → place_of hs h f ≡ Some p → AllDeclared (all_widths hs) → p.width ≤ 64
place_declared [] h f p e d = absurd (cc)
place_declared (q ∷ hs) h f p e d =
    by_name (same_name h q.name.text) (place_in q.fields f) (option_map (later (length q.fields)) (place_of hs h f)) p (λ r. r.width ≤ 64)
    (λ same found. width_declared q.fields f p found (declared_first (widths_of q.fields) (all_widths hs) d))
    (λ other found.
    let was = mapped (length q.fields) (place_of hs h f) p found in
    subst (λ (r : FieldPlace). r.width ≤ 64) was.2 (place_declared hs h f was.0 was.1 (declared_rest (widths_of q.fields) (all_widths hs) d)))
    e
