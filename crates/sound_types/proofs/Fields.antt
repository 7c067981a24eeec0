-- Fields of a packet that fits its headers are read and set.
use Rattle.std.proofs.Common.{◌≡◌, ℕ, ◌<◌, ◌^◌, List, [], ◌∷◌, map, cond, Bool, true, false, Option, Some, if◌then◌else◌, option_map, option_and_then, refl, subst}
use Rattle.cocoon_num.specs.Names.{same_name, named}
use Rattle.cocoon_num.specs.PacketForms.{FieldsFit, PacketFits}
use Rattle.cocoon_num.specs.Packets.{Packet}
use Rattle.cocoon_num.specs.Sorts.{bits_sort}
use Rattle.cocoon_num.specs.Tree.{Param, HeaderDecl}
use Rattle.cocoon_num.specs.Values.{Value, number}
use Rattle.cocoon_types.specs.Design.{field_width, read_field, read_in, widths_of, write_field, write_in}
use Rattle.sound_types.specs.Matching.{HasValue}
use Rattle.sound_types.proofs.Variables.{width_among}

-- the widths of some headers
abbrev pub widths : List HeaderDecl → List (List ℕ)
widths hs = map (λ (h : HeaderDecl). widths_of h.fields) hs

by_name : (p : Param) (ps : List Param) (n : ℕ) (ns : List ℕ) (f : List ℕ) (w : ℕ) → n < 2 ^ p.width → (width_among ps f ≡ Some w → HasValue (bits_sort w) (read_in ps ns f)) → (same : Bool)
    → option_map (λ (q : Param). q.width) (cond same (Some p) (named (λ (q : Param). q.name) f ps)) ≡ Some w → HasValue (bits_sort w) (if same then Some (number p.width n) else read_in ps ns f)
by_name p ps n ns f w h k true e = let is : p.width ≡ w = cc in subst (λ y. HasValue (bits_sort y) (Some (number p.width n))) is (refl, h)
by_name p ps n ns f w h k false e = k e

read_value : (ps : List Param) (ns : List ℕ) → FieldsFit (widths_of ps) ns → (f : List ℕ) (w : ℕ) → width_among ps f ≡ Some w → HasValue (bits_sort w) (read_in ps ns f)
read_value [] [] h f w e = absurd (cc)
read_value [] (n ∷ ns) h f w e = absurd h
read_value (p ∷ ps) [] h f w e = absurd h
read_value (p ∷ ps) (n ∷ ns) h f w e = by_name p ps n ns f w h.0 (read_value ps ns h.1 f w) (same_name f p.name.text) e

by_header : (d : HeaderDecl) (hs : List HeaderDecl) (h f : List ℕ) (w : ℕ) (x y : Option Value) → (width_among d.fields f ≡ Some w → HasValue (bits_sort w) x) → (field_width hs h f ≡ Some w → HasValue (bits_sort w) y) → (same : Bool)
    → option_and_then (λ (c : HeaderDecl). width_among c.fields f) (cond same (Some d) (named (λ (c : HeaderDecl). c.name) h hs)) ≡ Some w → HasValue (bits_sort w) (if same then x else y)
by_header d hs h f w x y p q true e = p e
by_header d hs h f w x y p q false e = q e

pub field_value : (hs : List HeaderDecl) (packet : Packet) → PacketFits (widths hs) packet → (h f : List ℕ) (w : ℕ) → field_width hs h f ≡ Some w → HasValue (bits_sort w) (read_field hs packet h f)
field_value [] [] fits h f w e = absurd (cc)
field_value [] (ns ∷ packet) fits h f w e = absurd fits
field_value (d ∷ hs) [] fits h f w e = absurd fits
field_value (d ∷ hs) (ns ∷ packet) fits h f w e =
    by_header d hs h f w (read_in d.fields ns f) (read_field hs packet h f) (read_value d.fields ns fits.0 f w) (field_value hs packet fits.1 h f w) (same_name h d.name.text) e

set_name : (p : Param) (ps : List Param) (m n : ℕ) (ns : List ℕ) (f : List ℕ) (w : ℕ) → FieldsFit (widths_of (p ∷ ps)) (m ∷ ns) → n < 2 ^ w → (width_among ps f ≡ Some w → FieldsFit (widths_of ps) (write_in ps ns f n)) → (same : Bool)
    → option_map (λ (q : Param). q.width) (cond same (Some p) (named (λ (q : Param). q.name) f ps)) ≡ Some w → FieldsFit (widths_of (p ∷ ps)) (if same then n ∷ ns else m ∷ write_in ps ns f n)
set_name p ps m n ns f w fits l k true e = let is : w ≡ p.width = cc in (subst (λ y. n < 2 ^ y) is l, fits.1)
set_name p ps m n ns f w fits l k false e = (fits.0, k e)

write_value : (ps : List Param) (ns : List ℕ) → FieldsFit (widths_of ps) ns → (f : List ℕ) (w n : ℕ) → n < 2 ^ w → width_among ps f ≡ Some w → FieldsFit (widths_of ps) (write_in ps ns f n)
write_value [] [] h f w n l e = absurd (cc)
write_value [] (m ∷ ns) h f w n l e = absurd h
write_value (p ∷ ps) [] h f w n l e = absurd h
write_value (p ∷ ps) (m ∷ ns) h f w n l e = set_name p ps m n ns f w h l (write_value ps ns h.1 f w n l) (same_name f p.name.text) e

set_header : (d : HeaderDecl) (hs : List HeaderDecl) (ns : List ℕ) (packet : Packet) (h f : List ℕ) (w n : ℕ) → FieldsFit (widths_of d.fields) ns → PacketFits (widths hs) packet
    → (width_among d.fields f ≡ Some w → FieldsFit (widths_of d.fields) (write_in d.fields ns f n)) → (field_width hs h f ≡ Some w → PacketFits (widths hs) (write_field hs packet h f n)) → (same : Bool)
    → option_and_then (λ (c : HeaderDecl). width_among c.fields f) (cond same (Some d) (named (λ (c : HeaderDecl). c.name) h hs)) ≡ Some w
    → PacketFits (widths (d ∷ hs)) (if same then write_in d.fields ns f n ∷ packet else ns ∷ write_field hs packet h f n)
set_header d hs ns packet h f w n here later p q true e = (p e, later)
set_header d hs ns packet h f w n here later p q false e = (here, q e)

-- the packet with a field set fits, where the number fits the field
pub written_fits : (hs : List HeaderDecl) (packet : Packet) → PacketFits (widths hs) packet → (h f : List ℕ) (w n : ℕ) → n < 2 ^ w → field_width hs h f ≡ Some w → PacketFits (widths hs) (write_field hs packet h f n)
written_fits [] [] fits h f w n l e = absurd (cc)
written_fits [] (ns ∷ packet) fits h f w n l e = absurd fits
written_fits (d ∷ hs) [] fits h f w n l e = absurd fits
written_fits (d ∷ hs) (ns ∷ packet) fits h f w n l e =
    set_header d hs ns packet h f w n fits.0 fits.1 (write_value d.fields ns fits.0 f w n l) (written_fits hs packet fits.1 h f w n l) (same_name h d.name.text) e
