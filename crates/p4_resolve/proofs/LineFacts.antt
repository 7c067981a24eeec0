-- Lines that name headers, each that of its place.
use Rattle.std.proofs.Common.{◌≡◌, ℕ, zero, suc, ◌+◌, ◌<◌, ◌==◌, ◌&&◌, Bool, true, false, List, [], ◌∷◌, ◌++◌, length, map, drop, get_or, nat_eq, Option, slice_get, refl, sym, ap, subst, ◌∙◌, arith, add-one}
use Rattle.p4_texts.specs.TreeOf.{member_of}
use Rattle.p4_texts.specs.declared.written.WrittenMember.{WrittenMember}
use Rattle.p4_resolve.specs.Judged.{Rest}
use Rattle.std.specs.List.{starts_with}
use Rattle.std.proofs.lemmas.List.{at_drop_more}
use Rattle.std.proofs.lemmas.Bool.Decides.{nat_tests}
use Rattle.cocoon_num.specs.Names.{same_name}
use Rattle.cocoon_num.specs.Tokens as tokens
use Rattle.p4_ir.specs.P4Tree.{P4Header}
use Rattle.p4_texts.specs.KindFaults.{Piece, line_pieces, member_pieces}
use Rattle.p4_texts.specs.Written.{MemberText, member_then}
use Rattle.p4_resolve.specs.Lines.{line_fits, member_fits}
use Rattle.p4_resolve.proofs.NameFacts as names

pub begins_is : (p s : List ℕ) → starts_with nat_eq s p ≡ tokens.begins p s
begins_is = names.begins_is

pub two_parts : (p r x : List ℕ) → same_name x (p ++ r) ≡ (tokens.begins p x && same_name (drop (length p) x) r)
two_parts [] r x = refl
two_parts (a ∷ p) r [] = refl
two_parts (a ∷ p) r (b ∷ x) = ap (λ t. (b == a) && t) (two_parts p r x) ∙ swapped (b == a) (a == b) (tokens.begins p x) (same_name (drop (length p) x) r) (symm b a)
  where
    swapped : (s t u v : Bool) → s ≡ t → (s && (u && v)) ≡ ((t && u) && v)
    swapped true true u v h = refl
    swapped false false u v h = refl
    swapped true false u v h = absurd cc
    swapped false true u v h = absurd cc

    symm : (m n : ℕ) → (m == n) ≡ (n == m)
    symm m n = grind (arith, nat_tests)

-- the piece of a line of the struct, under the header of its place
abbrev pub member_piece : Option P4Header → MemberText → Piece
member_piece h m = record { tokens = member_then m []; keeps = member_fits h m }

pub member_left : (hs : List P4Header) (i : ℕ) (m : MemberText) (ms : List MemberText) → member_pieces (drop i hs) (m ∷ ms) ≡ member_piece (slice_get hs i) m ∷ member_pieces (drop (suc i) hs) ms
member_left [] zero m ms = refl
member_left [] (suc i) m ms = refl
member_left (h ∷ hs) zero m ms = refl
member_left (h ∷ hs) (suc i) m ms = member_left hs i m ms

abbrev pub line_piece : (List ℕ → List tokens.Kind → List tokens.Kind) → Option P4Header → List ℕ → Piece
line_piece line h x = record { tokens = line x []; keeps = line_fits h x }

pub line_left : (line : List ℕ → List tokens.Kind → List tokens.Kind) (hs : List P4Header) (i : ℕ) (x : List ℕ) (xs : List (List ℕ)) → line_pieces line (drop i hs) (x ∷ xs) ≡ line_piece line (slice_get hs i) x ∷ line_pieces line (drop (suc i) hs) xs
line_left line [] zero x xs = refl
line_left line [] (suc i) x xs = refl
line_left line (h ∷ hs) zero x xs = refl
line_left line (h ∷ hs) (suc i) x xs = line_left line hs i x xs

pub members_left : (begin : ℕ) (ps : List Piece) (at : ℕ) (hs : List P4Header) (ms : List WrittenMember) (i : ℕ) (m : WrittenMember) → i < length ms → m ≡ get_or ms i m
    → Rest begin ps at (member_pieces (drop i hs) (map member_of (drop i ms))) → Rest begin ps at (member_piece (slice_get hs i) (member_of m) ∷ member_pieces (drop (i + 1) hs) (map member_of (drop (i + 1) ms)))
members_left begin ps at hs ms i m h e r =
    subst (λ rs. Rest begin ps at rs)
    (at_drop_more (λ xs. member_pieces (drop i hs) (map member_of xs)) ms i m h
    ∙ ap (λ x. member_pieces (drop i hs) (member_of x ∷ map member_of (drop (i + 1) ms))) (sym e)
    ∙ member_left hs i (member_of m) (map member_of (drop (i + 1) ms))
    ∙ ap (λ n. member_piece (slice_get hs i) (member_of m) ∷ member_pieces (drop n hs) (map member_of (drop (i + 1) ms))) (sym (add-one i))) r

pub lines_left : (line : List ℕ → List tokens.Kind → List tokens.Kind) (begin : ℕ) (ps : List Piece) (at : ℕ) (hs : List P4Header) (xs : List (List ℕ)) (i : ℕ) (x : List ℕ) → i < length xs → x ≡ get_or xs i x
    → Rest begin ps at (line_pieces line (drop i hs) (drop i xs)) → Rest begin ps at (line_piece line (slice_get hs i) x ∷ line_pieces line (drop (i + 1) hs) (drop (i + 1) xs))
lines_left line begin ps at hs xs i x h e r =
    subst (λ rs. Rest begin ps at rs)
    (at_drop_more (λ ys. line_pieces line (drop i hs) ys) xs i x h
    ∙ ap (λ y. line_pieces line (drop i hs) (y ∷ drop (i + 1) xs)) (sym e)
    ∙ line_left line hs i x (drop (i + 1) xs)
    ∙ ap (λ n. line_piece line (slice_get hs i) x ∷ line_pieces line (drop n hs) (drop (i + 1) xs)) (sym (add-one i))) r
