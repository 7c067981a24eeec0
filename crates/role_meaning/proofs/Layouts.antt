-- The fields of a design's headers, one after another, and the layout of its packets.
use Rattle.std.proofs.Common.{◌≡◌, ℕ, suc, ◌+◌, ◌/◌, ◌%◌, ◌<◌, ◌≤◌, ◌&&◌, Bool, true, List, [], ◌∷◌, ◌++◌, map, length, take, drop, get_or, nat_lt, nat_le, if◌then◌else◌, Option, Some, None, refl, sym, ap, ◌∙◌, arith}
use Rattle.std.proofs.lemmas.Bool.{lt-ltb, le-ltb}
use Rattle.cocoon_num.specs.Lists.{each}
use Rattle.cocoon_num.specs.PacketForms.{AllWhole, AreBytes}
use Rattle.cocoon_num.specs.Packets.{header_bytes, header_fields, Layout, leave, Packet, total}
use Rattle.cocoon_num.specs.Sorts.{is_declared_width}
use Rattle.cocoon_num.specs.Tree.{HeaderDecl, Param}
use Rattle.cocoon_resolve.specs.Readers.{all_widths}
use Rattle.cocoon_types.specs.Design.{widths_of}
use Rattle.packed_fields.specs.AtOnce.{bytes_in, entered_at_once, grouped, widths_in}
use Rattle.role_values.specs.DeclaredWidths.{AllDeclared}
use Rattle.role_values.specs.Flat.{packet_of}

-- the widths of these headers, header by header
abbrev pub layout_of : List HeaderDecl → Layout
layout_of hs = map (λ (h : HeaderDecl). widths_of h.fields) hs

pub widths_same : (hs : List HeaderDecl) → widths_in (layout_of hs) ≡ all_widths hs
widths_same [] = refl
widths_same (d ∷ ds) = ap (λ ws. widths_of d.fields ++ ws) (widths_same ds)

counted : (ps : List Param) → length (widths_of ps) ≡ length ps
counted [] = refl
counted (p ∷ ps) = ap suc (counted ps)

pub grouped_same : (hs : List HeaderDecl) (ns : List ℕ) → grouped (layout_of hs) ns ≡ packet_of hs ns
grouped_same [] ns = refl
grouped_same (d ∷ ds) ns =
    ap (λ k. take k ns ∷ grouped (layout_of ds) (drop k ns)) (counted d.fields) ∙ ap (λ p. take (length d.fields) ns ∷ p) (grouped_same ds (drop (length d.fields) ns))

both : (a b : Bool) → a ≡ true → b ≡ true → (a && b) ≡ true
both a b h k = (λ i. h i && k i)

declared : (w : ℕ) → 1 ≤ w → w ≤ 64 → is_declared_width w ≡ true
declared w l m = both (nat_le 1 w) (nat_le w 64) (grind (arith, l)) (grind (arith, m))

pub each_declared : (ws : List ℕ) → AllDeclared ws → each is_declared_width ws ≡ true
each_declared [] h = refl
each_declared (w ∷ ws) h = both (is_declared_width w) (each is_declared_width ws) (declared w h.0 h.1) (each_declared ws h.2)

pub are_bytes : (bs : List ℕ) → ((k : ℕ) → get_or bs k 0 < 256) → AreBytes bs
are_bytes [] f = tt
are_bytes (b ∷ bs) f = (f 0, are_bytes bs (λ k. f (suc k)))

total_both : (ws vs : List ℕ) → total (ws ++ vs) ≡ total ws + total vs
total_both [] vs = omega arith
total_both (w ∷ ws) vs = rw (total_both ws vs) (omega arith)

pub whole_total : (hs : List HeaderDecl) → AllWhole (layout_of hs) → total (all_widths hs) % 8 ≡ 0
whole_total [] h = refl
whole_total (d ∷ ds) h =
    let e : total (widths_of d.fields ++ all_widths ds) ≡ total (widths_of d.fields) + total (all_widths ds) = total_both (widths_of d.fields) (all_widths ds) in
    let r : total (all_widths ds) % 8 ≡ 0 = whole_total ds h.1 in
    let f : total (widths_of d.fields) % 8 ≡ 0 = h.0 in
    omega arith

-- ---- entering

end_of : List HeaderDecl → List ℕ → ℕ → Bool → Option (Packet × List ℕ)
end_of hs bytes n b = if b then None else Some (packet_of hs (header_fields (all_widths hs) (take n bytes)), drop n bytes)

entered_is : (hs : List HeaderDecl) (bytes : List ℕ) (n : ℕ) → n ≡ total (all_widths hs) / 8 → entered_at_once (layout_of hs) bytes ≡ end_of hs bytes n (nat_lt (length bytes) n)
unfolding end_of
entered_is hs bytes n e =
    let count : bytes_in (layout_of hs) ≡ n = ap (λ ws. total ws / 8) (widths_same hs) ∙ sym e in
    (λ i. if nat_lt (length bytes) (count i) then None else Some (grouped (layout_of hs) (header_fields (widths_same hs i) (take (count i) bytes)), drop (count i) bytes))
    ∙ ap (λ p. if nat_lt (length bytes) n then None else Some (p, drop n bytes)) (grouped_same hs (header_fields (all_widths hs) (take n bytes)))

pub entered_short : (hs : List HeaderDecl) (bytes : List ℕ) (n : ℕ) → n ≡ total (all_widths hs) / 8 → length bytes < n → entered_at_once (layout_of hs) bytes ≡ None
unfolding end_of
entered_short hs bytes n e l = entered_is hs bytes n e ∙ ap (end_of hs bytes n) (lt-ltb (length bytes) n l)

pub entered_long : (hs : List HeaderDecl) (bytes : List ℕ) (n : ℕ) → n ≡ total (all_widths hs) / 8 → n ≤ length bytes
    → entered_at_once (layout_of hs) bytes ≡ Some (packet_of hs (header_fields (all_widths hs) (take n bytes)), drop n bytes)
unfolding end_of
entered_long hs bytes n e l = entered_is hs bytes n e ∙ ap (end_of hs bytes n) (le-ltb (length bytes) n l)

-- ---- leaving

pub left_is : (hs : List HeaderDecl) (fields payload : List ℕ) → leave (layout_of hs) (grouped (layout_of hs) fields) payload ≡ header_bytes (widths_in (layout_of hs)) fields ++ payload
    → leave (layout_of hs) (packet_of hs fields) payload ≡ header_bytes (all_widths hs) fields ++ payload
left_is hs fields payload h =
    ap (λ p. leave (layout_of hs) p payload) (sym (grouped_same hs fields)) ∙ h ∙ ap (λ ws. header_bytes ws fields ++ payload) (widths_same hs)
