-- A packet of zeros.
use Rattle.std.proofs.Common.{◌≡◌, ℕ, ◌+◌, ◌<◌, get_or, List, [], ◌∷◌, ◌++◌, map, take, drop, length, refl, sym, ap, ap₂, ◌∙◌, pow_pos}
use Rattle.std.proofs.Math.Seq.{drop-append_seam, take-append_seam}
use Rattle.std.proofs.lemmas.List.{length-map, map-append, take_more}
use Rattle.cocoon_num.specs.PacketForms.{FieldsFit}
use Rattle.cocoon_num.specs.Tree.{HeaderDecl, Param}
use Rattle.cocoon_resolve.specs.Readers.{all_widths}
use Rattle.cocoon_types.specs.Design.{widths_of}
use Rattle.role_values.specs.Flat.{packet_of}
use Rattle.lower_net.specs.Idle.{zeros}

-- zeros fit all widths
pub zeros_fit : (ws : List ℕ) → FieldsFit ws (zeros ws)
zeros_fit [] = tt
zeros_fit (w ∷ ws) = (pow_pos w, zeros_fit ws)

one_header : (ps : List Param) (rest : List ℕ) → take (length ps) (zeros (widths_of ps) ++ rest) ≡ zeros (widths_of ps)
one_header ps rest =
    ap (λ n. take n (zeros (widths_of ps) ++ rest)) (sym (length-map (widths_of ps) (λ (w : ℕ). 0) ∙ length-map ps (λ (p : Param). p.width)))
    ∙ take-append_seam (zeros (widths_of ps)) rest

past_header : (ps : List Param) (rest : List ℕ) → drop (length ps) (zeros (widths_of ps) ++ rest) ≡ rest
past_header ps rest =
    ap (λ n. drop n (zeros (widths_of ps) ++ rest)) (sym (length-map (widths_of ps) (λ (w : ℕ). 0) ∙ length-map ps (λ (p : Param). p.width)))
    ∙ drop-append_seam (zeros (widths_of ps)) rest

-- header by header
pub still : (hs : List HeaderDecl) → packet_of hs (zeros (all_widths hs)) ≡ map (λ (ws : List ℕ). map (λ (w : ℕ). 0) ws) (map (λ (h : HeaderDecl). widths_of h.fields) hs)
still [] = refl
still (h ∷ hs) =
    ap (packet_of (h ∷ hs)) (map-append (λ (w : ℕ). 0) (widths_of h.fields) (all_widths hs))
    ∙ ap₂ (λ (x : List ℕ) (xs : List (List ℕ)). x ∷ xs) (one_header h.fields (zeros (all_widths hs)))
    (ap (packet_of hs) (past_header h.fields (zeros (all_widths hs))) ∙ still hs)

-- one zero more
pub zeros_more : (ws : List ℕ) (i : ℕ) → i < length ws → zeros (take i ws) ++ 0 ∷ [] ≡ zeros (take (i + 1) ws)
zeros_more ws i l = sym (ap zeros (take_more ws i 0 l) ∙ map-append (λ (w : ℕ). 0) (take i ws) (get_or ws i 0 ∷ []))
