-- A text has at least as many tokens as headers, as members, as meta fields, and as fields of a header.
use Rattle.std.proofs.Common.{◌≡◌, ℕ, suc, ◌+◌, ◌<◌, ◌≤◌, ◌^◌, List, [], ◌∷◌, ◌++◌, length, length-append, map, take, get_or, zero, sym, subst, ◌∙◌, arith}
use Rattle.cocoon_num.specs.Tokens.{Kind, mark}
use Rattle.std.specs.Prelude.{codes}
use Rattle.p4_ir.specs.P4Text.{architecture, said}
use Rattle.p4_texts.specs.Written.{FieldText, HeaderText, MemberText, ProgramText, each_then, field_then, header_then, member_then, parser_then, text_tokens}
use Rattle.numbering.specs.NameNumbers.{Numbers}
use Rattle.numbering.specs.declared.name_table.NameTable.{NameTable}
use Rattle.p4_texts.specs.TreeOf.{header_of}
use Rattle.p4_texts.specs.declared.written.WrittenHeader.{WrittenHeader}
use Rattle.p4_resolve.specs.Scopes.{EachFew}
use Rattle.std.proofs.lemmas.List.{length-map, length-take-le}

-- each item has a token at least
counted : {A : Type 0} (one : A → List Kind → List Kind) → ((x : A) (ks : List Kind) → suc (length ks) ≤ length (one x ks)) → (xs : List A) (ks : List Kind)
    → length xs + length ks ≤ length (each_then one xs ks)
counted one h [] ks = omega arith
counted one h (x ∷ xs) ks = let more = h x (each_then one xs ks) in let rest = counted one h xs ks in omega (arith, more, rest)

fields_counted : (fs : List FieldText) (ks : List Kind) → length fs + length ks ≤ length (each_then field_then fs ks)
fields_counted fs ks = counted field_then (λ f ls. omega arith) fs ks

members_counted : (ms : List MemberText) (ks : List Kind) → length ms + length ks ≤ length (each_then member_then ms ks)
members_counted ms ks = counted member_then (λ m ls. omega arith) ms ks

headers_counted : (hs : List HeaderText) (ks : List Kind) → length hs + length ks ≤ length (each_then header_then hs ks)
headers_counted hs ks = counted header_then (λ h ls. let own = fields_counted h.fields (mark (codes "}") ∷ ls) in omega (arith, own)) hs ks

each_few : (hs : List HeaderText) (ks : List Kind) → length (each_then header_then hs ks) < 2 ^ 32 → EachFew hs
each_few [] ks l = tt
each_few (h ∷ hs) ks l =
    let own = fields_counted h.fields (mark (codes "}") ∷ each_then header_then hs ks) in
    (omega (arith, own, l), each_few hs ks (omega (arith, own, l)))

pub record Few (t : ProgramText) : Type 0 where
  pub meta : length t.rest.meta < 2 ^ 32
  pub members : length t.rest.members < 2 ^ 32
  pub fields : EachFew t.headers

-- the fixed pieces are any
few_parts : (a s m : List Kind) (hs : List HeaderText) (ms : List MemberText) (fs : List FieldText) (ks : List Kind)
    → length (a ++ each_then header_then hs (s ++ each_then member_then ms (m ++ each_then field_then fs ks))) < 2 ^ 32
    → (length fs < 2 ^ 32) × (length ms < 2 ^ 32) × EachFew hs
few_parts a s m hs ms fs ks l =
    let meta = each_then field_then fs ks in
    let members = each_then member_then ms (m ++ meta) in
    let headers = each_then header_then hs (s ++ members) in
    let in_all = length-append a headers in
    let in_headers = headers_counted hs (s ++ members) in
    let in_members = members_counted ms (m ++ meta) in
    let in_meta = fields_counted fs ks in
    let after_s = length-append s members in
    let after_m = length-append m meta in
    (omega (arith, l, in_all, in_headers, after_s, in_members, after_m, in_meta), omega (arith, l, in_all, in_headers, after_s, in_members), each_few hs (s ++ members) (omega (arith, l, in_all)))

pub few : (t : ProgramText) → length (text_tokens t) < 2 ^ 32 → Few t
few t l =
    let parts = few_parts architecture (said (codes "struct Headers {")) (said (codes "} struct Meta {")) t.headers t.rest.members t.rest.meta (mark (codes "}") ∷ parser_then t.rest []) l in
    record { meta = parts.0; members = parts.1; fields = parts.2 }

-- a header of few has few fields
pub few_at : (hs : List WrittenHeader) (i : ℕ) (h : WrittenHeader) → i < length hs → h ≡ get_or hs i h → EachFew (map header_of hs) → length (header_of h).fields < 2 ^ 32
few_at [] i h l e k = absurd (let none : i < 0 = l in omega (arith, none))
few_at (x ∷ hs) zero h l e k = subst (λ (y : WrittenHeader). length (header_of y).fields < 2 ^ 32) (sym e) k.0
few_at (x ∷ hs) (suc i) h l e k = few_at hs i h (omega (arith, l)) e k.1

-- there is a number for one more
pub room : (t : NameTable) (names : List (List ℕ)) (i n : ℕ) → Numbers t names → length names ≡ i → i < n → n < 2 ^ 32 → t.count + 1 < 2 ^ 32
room t names i n h e l m = omega (arith, h.count, e, l, m)

pub taken_twice : {A B C : Type 0} (f : B → C) (g : A → B) (xs : List A) (i : ℕ) → i < length xs → length (map f (map g (take i xs))) ≡ i
taken_twice f g xs i l = length-map (map g (take i xs)) f ∙ length-map (take i xs) g ∙ length-take-le i xs (omega (arith, l))
