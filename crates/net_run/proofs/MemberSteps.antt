-- What departs from a visit, one member more at a time.
use Rattle.std.proofs.Common.{◌≡◌, ℕ, suc, zero, ◌<◌, ◌≤◌, ◌==◌, ◌||◌, Bool, true, false, if◌then◌else◌, IfSome, List, [], ◌∷◌, ◌++◌, drop, length, map, slice_index_or, Option, Some, None, option_and_then, refl, sym, subst, ◌∙◌, ap, arith}
use Rattle.std.proofs.lemmas.Bool.Decides.{nat_tests}
use Rattle.std.proofs.lemmas.List.{append_assoc}
use Rattle.cocoon_num.specs.Lists.{has_number}
use Rattle.cocoon_num.specs.PacketForms.{AllWhole, AreBytes}
use Rattle.packed_fields.specs.AtOnce.{bytes_in}
use Rattle.p4_ir.specs.P4Tree.{Program, program_layout, RowsFile}
use Rattle.p4_ir.specs.Switch.{Departure, egress_of, State, switch_go}
use Rattle.p4_run.specs.Visits.{after_egress, after_ingress, AreHeaders, copy_departs, departs, ingress_left}
use Rattle.p4_run.specs.declared.visits.Next.{Next}
use Rattle.p4_run.specs.declared.visits.Next.TheVariants.{Drop, Port, Copies}
use Rattle.p4_run.proofs.VisitLaws.{visit_alone, visit_of_member}
use Rattle.net_run.specs.Departures.{Departed, departing, departures, members_after, put, ways_after}

-- ---- lists

abbrev pub alone : List ℕ → List (List ℕ)
alone ns = map (λ rid. rid ∷ []) ns

pub split_ways : (rows : RowsFile) (next : Next) (visit : List ℕ → Departure) (headers bytes : List ℕ) → visit [] ≡ departs next headers bytes
    → put [] (departs next headers bytes) [] ++ departing visit (alone (members_after rows next)) ≡ departing visit (ways_after rows next)
split_ways rows Drop visit headers bytes e = refl
split_ways rows (Port port) visit headers bytes e = ap (λ o. put [] o []) (sym e)
split_ways rows (Copies group) visit headers bytes e = refl

put_front : (way : List ℕ) (o : Departure) (rest : List Departed) → put way o rest ≡ put way o [] ++ rest
put_front way None rest = refl
put_front way (Some d) rest = refl

pub member_put : (was now whole : List Departed) (visit : List ℕ → Departure) (m : ℕ) (here rest : List ℕ) (o : Departure) → here ≡ m ∷ rest → visit (m ∷ []) ≡ o → now ≡ was ++ put (m ∷ []) o []
    → was ++ departing visit (alone here) ≡ whole → now ++ departing visit (alone rest) ≡ whole
member_put was now whole visit m here rest o h v n is =
    ap (λ xs. xs ++ departing visit (alone rest)) n ∙ append_assoc was (put (m ∷ []) o []) (departing visit (alone rest))
    ∙ ap (λ xs. was ++ xs) (sym (put_front (m ∷ []) o (departing visit (alone rest)))) ∙ ap (λ x. was ++ put (m ∷ []) x (departing visit (alone rest))) (sym v)
    ∙ ap (λ ms. was ++ departing visit (alone ms)) (sym h) ∙ is

same_number : (n : ℕ) → (n == n) ≡ true
same_number n = grind (arith, nat_tests)

or_true : (a : Bool) → (a || true) ≡ true
or_true true = refl
or_true false = refl

pub is_listed : (ms : List ℕ) (i d : ℕ) → i < length ms → has_number (slice_index_or ms i d) ms ≡ true
is_listed [] i d l = absurd (omega (arith, l))
is_listed (m ∷ ms) zero d l = ap (λ b. b || has_number m ms) (same_number m)
is_listed (m ∷ ms) (suc i) d l = ap (λ b. (slice_index_or ms i d == m) || b) (is_listed ms i d (omega (arith, l))) ∙ or_true (slice_index_or ms i d == m)

-- ---- a copy

abbrev Copied : Program → RowsFile → (rid : ℕ) → (headers bytes : List ℕ) → State → Option State → Next → Type 0
Copied p rows rid headers bytes state o next =
    AreHeaders (program_layout p) (option_and_then (egress_of p rows rid) o) headers
    × (copy_departs rows.groups next rid (after_egress (option_and_then (egress_of p rows rid) o)) headers bytes ≡ departs (after_egress (egress_of p rows rid state)) headers bytes)

by_verdict : (p : Program) (rows : RowsFile) (rid : ℕ) (headers bytes : List ℕ) (s : State) (one two : Bool)
    → has_number rid (members_after rows (if one then Port s.egress_port else if two then Copies s.group else Drop)) ≡ true
    → copy_departs rows.groups (if one then Port s.egress_port else if two then Copies s.group else Drop) rid (after_egress (egress_of p rows rid s)) headers bytes ≡ departs (after_egress (egress_of p rows rid s)) headers bytes
by_verdict p rows rid headers bytes s true two h = absurd (cc)
by_verdict p rows rid headers bytes s false true h = ap (λ b. if b then departs (after_egress (egress_of p rows rid s)) headers bytes else None) h
by_verdict p rows rid headers bytes s false false h = absurd (cc)

copied : (p : Program) (rows : RowsFile) (rid : ℕ) (headers bytes : List ℕ) (state : State) (o : Option State) → IfSome o (λ s. state ≡ s)
    → AreHeaders (program_layout p) (egress_of p rows rid state) headers → has_number rid (members_after rows (after_ingress o)) ≡ true → Copied p rows rid headers bytes state o (after_ingress o)
copied p rows rid headers bytes state None e a h = absurd (cc)
copied p rows rid headers bytes state (Some s) e a h = (
  subst (λ x. AreHeaders (program_layout p) (egress_of p rows rid x) headers) e a,
  by_verdict p rows rid headers bytes s (s.verdict == 1) (s.verdict == 2) h ∙ ap (λ x. departs (after_egress (egress_of p rows rid x)) headers bytes) (sym e),
)

-- what departs for a member is what egress leaves for it
pub member_departs : (p : Program) (rows : RowsFile) (port rid : ℕ) (headers bytes : List ℕ) (state : State) → AllWhole (program_layout p) → AreBytes bytes → length headers ≡ bytes_in (program_layout p)
    → IfSome (ingress_left p rows port bytes) (λ s. state ≡ s) → AreHeaders (program_layout p) (egress_of p rows rid state) headers
    → has_number rid (members_after rows (after_ingress (ingress_left p rows port bytes))) ≡ true
    → switch_go p rows 0 port bytes (rid ∷ []) ≡ departs (after_egress (egress_of p rows rid state)) headers bytes
member_departs p rows port rid headers bytes state w f size e a h =
    let k = copied p rows rid headers bytes state (ingress_left p rows port bytes) e a h in
    visit_of_member p rows 0 port rid bytes headers w f size k.0 ∙ k.1

-- ---- bytes

pub none_left : (xs : List ℕ) (n : ℕ) → length xs ≤ n → drop n xs ≡ []
none_left [] zero l = refl
none_left [] (suc n) l = refl
none_left (x ∷ xs) zero l = absurd (omega (arith, l))
none_left (x ∷ xs) (suc n) l = none_left xs n (omega (arith, l))

-- ---- before the first copy

pub before_copies : (p : Program) (rows : RowsFile) (port : ℕ) (headers bytes : List ℕ) (next : Next) (ms : List ℕ) (made : List Departed) → AllWhole (program_layout p) → AreBytes bytes
    → length headers ≡ bytes_in (program_layout p) → AreHeaders (program_layout p) (ingress_left p rows port bytes) headers → next ≡ after_ingress (ingress_left p rows port bytes)
    → ms ≡ members_after rows next → made ≡ put [] (departs next headers bytes) [] → made ++ departing (switch_go p rows 0 port bytes) (alone ms) ≡ departures p rows port bytes
before_copies p rows port headers bytes next ms made w f size a e g h =
    let go = switch_go p rows 0 port bytes in
    ap (λ xs. xs ++ departing go (alone ms)) h ∙ ap (λ k. put [] (departs next headers bytes) [] ++ departing go (alone k)) g
    ∙ ap (λ n. put [] (departs n headers bytes) [] ++ departing go (alone (members_after rows n))) e
    ∙ split_ways rows (after_ingress (ingress_left p rows port bytes)) go headers bytes (visit_alone p rows 0 port bytes headers w f size a)
