-- The fields of a packet, one after another, are those that it was cut from.
use Rattle.std.proofs.Common.{◌≡◌, ◌+◌, ◌-◌, ◌++◌, ℕ, List, [], ◌∷◌, length, take, drop, map, Option, Some, None, slice_get, refl, sym, ap, ◌∙◌, arith}
use Rattle.std.proofs.lemmas.List.{length-append, length-drop, length-map, take-append-drop}
use Rattle.cocoon_num.specs.Tree.{Design, HeaderDecl, Param}
use Rattle.cocoon_types.specs.Design.{widths_of}
use Rattle.cocoon_resolve.specs.Readers.{all_widths}
use Rattle.role_values.specs.Flat.{packet_of}
use Rattle.step_cases.specs.Stepping.{all_fields}

pub flat_again : (hs : List HeaderDecl) (ns : List ℕ) → length ns ≡ length (all_widths hs) → all_fields (packet_of hs ns) ≡ ns
flat_again [] [] e = refl
flat_again [] (n ∷ ns) e = absurd (cc)
flat_again (h ∷ hs) ns e =
    let k = length h.fields in
    let widths : length (widths_of h.fields) ≡ k = length-map h.fields (λ (p : Param). p.width) in
    let all : length (widths_of h.fields ++ all_widths hs) ≡ length (widths_of h.fields) + length (all_widths hs) = length-append (widths_of h.fields) (all_widths hs) in
    let left : length (drop k ns) ≡ length ns - k = length-drop k ns in
    ap (λ rest. take k ns ++ rest) (flat_again hs (drop k ns) (omega (arith, left, widths, all, e))) ∙ take-append-drop k ns
