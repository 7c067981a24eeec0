-- Headers that enter and leave one after another.
use Rattle.std.specs.Prelude.{◌≡◌, ℕ, ◌*◌, ◌/◌, ◌%◌, ◌≤◌, ◌==◌, ◌&&◌, nat_lt, Bool, true, false, List, [], ◌∷◌, ◌++◌, length, drop, Option, Some, None, option_map, cond, IfSome, IsTrue, refl}
use Rattle.std.proofs.Common.{eqb-true, sym, ◌∙◌, ap, subst, arith}
use Rattle.std.proofs.lemmas.List.{drop_all, append_assoc, append-nil}
use Rattle.cocoon_num.specs.Packets.{Packet, Layout, total, byte_count, enter}
use Rattle.cocoon_num.specs.PacketForms.{FieldsFit, PacketFits}
use Rattle.cocoon_num.specs.Lists.{each}
use Rattle.cocoon_num.specs.Sorts.{is_declared_width}
use Rattle.reference_programs.specs.Widths.{is_header}
use Rattle.reference_programs.proofs.Packing.{cut_fits}

-- these headers stand before those that entered
abbrev pub behind : Packet → Option (Packet × List ℕ) → Option (Packet × List ℕ)
behind prefix entered = option_map (λ e. (prefix ++ e.0, e.1)) entered

pub both_true : (a b : Bool) → IsTrue (a && b) → IsTrue a × IsTrue b
both_true true b h = (refl, h)
both_true false b h = cc h

-- a header of so many bytes has eight times as many bits
pub whole : (ws : List ℕ) (n : ℕ) → IsTrue (is_header ws) → byte_count ws ≡ n → total ws ≡ 8 * n
whole ws n h e =
    let none_left : total ws % 8 ≡ 0 = eqb-true (total ws % 8) 0 (both_true (each is_declared_width ws) (total ws % 8 == 0) h).1 in
    omega arith

-- and of so many bits as many bytes are made
pub whole_bits : (ws : List ℕ) (n : ℕ) → IsTrue (is_header ws) → n ≡ total ws → 8 * (n / 8) ≡ n
whole_bits ws n h e = omega (arith, whole ws (byte_count ws) h refl)

-- one more header of a packet that enters
abbrev with_header : List ℕ → Option (Packet × List ℕ) → Option (Packet × List ℕ)
with_header fields entered = option_map (λ e. (fields ∷ e.0, e.1)) entered

header_fits : (ws fields : List ℕ) (layout : Layout) (o : Option (Packet × List ℕ)) → FieldsFit ws fields → IfSome o (λ e. PacketFits layout e.0)
    → IfSome (with_header fields o) (λ e. PacketFits (ws ∷ layout) e.0)
header_fits ws fields layout None f h = tt
header_fits ws fields layout (Some e) f h = (f, h)

test_fits : (b : Bool) (layout : Layout) (o : Option (Packet × List ℕ)) → IfSome o (λ e. PacketFits layout e.0) → IfSome (cond b None o) (λ e. PacketFits layout e.0)
test_fits true layout o h = tt
test_fits false layout o h = h

-- the packet that enters has its layout
pub enter_fits : (layout : Layout) (bytes : List ℕ) → IfSome (enter layout bytes) (λ e. PacketFits layout e.0)
enter_fits [] bytes = tt
enter_fits (ws ∷ layout) bytes =
    test_fits (nat_lt (length bytes) (byte_count ws)) (ws ∷ layout) _
    (header_fits ws _ layout (enter layout (drop (byte_count ws) bytes)) (cut_fits ws _) (enter_fits layout (drop (byte_count ws) bytes)))

pub entered_fits : (layout : Layout) (bytes : List ℕ) (packet : Packet) (payload : List ℕ) → Some (packet, payload) ≡ enter layout bytes → PacketFits layout packet
entered_fits layout bytes packet payload e =
    let P : Option (Packet × List ℕ) → Type 0 = λ o. IfSome o (λ e. PacketFits layout e.0) in
    subst P (sym e) (enter_fits layout bytes)

-- where no header is left, those so far are a packet of the layout
pub all_entered : (layout : Layout) (prefix : Packet) (bytes rest : List ℕ) (i : ℕ) → length layout ≤ i → behind prefix (enter (drop i layout) rest) ≡ enter layout bytes
    → PacketFits layout prefix
all_entered layout prefix bytes rest i h e =
    let none : drop i layout ≡ [] = drop_all i layout h in
    let all : Some (prefix ++ [], rest) ≡ enter layout bytes = ap (λ l. behind prefix (enter l rest)) (sym none) ∙ e in
    subst (PacketFits layout) (append-nil prefix) (entered_fits layout bytes (prefix ++ []) rest all)
