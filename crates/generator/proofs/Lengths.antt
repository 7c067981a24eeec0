-- The texts that are generated have few bytes.
use Rattle.std.proofs.Common.{◌≡◌, ◌≤◌, ◌<◌, ◌+◌, ◌*◌, ◌^◌, ℕ, zero, suc, Bool, true, false, if◌then◌else◌, List, ◌++◌, length, refl, arith}
use Rattle.std.proofs.lemmas.Fmt.{length-decimal-le}
use Rattle.std.proofs.lemmas.List.{length-append}
use Rattle.std.specs.Prelude.{◌==◌, codes, decimal}
use Rattle.generator.specs.Definitions.{address, default_of, definitions_text, next, numbered, row_of, rows_of, switch_text, table_text}
use Rattle.generator.specs.declared.definitions.Table.{Table}
use Rattle.generator.specs.declared.definitions.Table.TheVariants.{Hosts, Access, SwitchOf, PortOf, HostAt}

both : (xs ys : List ℕ) (m n : ℕ) → length xs ≤ m → length ys ≤ n → length (xs ++ ys) ≤ m + n
both xs ys m n h k = let e = length-append xs ys in omega (arith, e, h, k)

digits : (n : ℕ) → n < 1000000000 → length (decimal n) ≤ 9
digits n h = length-decimal-le 9 n (omega arith) h (omega (arith, h))

number : (before : List ℕ) (n : ℕ) → length before ≤ 31 → n < 1000000000 → length (numbered before n) ≤ 40
number before n h k = both before (decimal n) 31 9 h (digits n k)

-- a number behind some text, and some text behind it
numbered_then : (before : List ℕ) (n : ℕ) (behind : List ℕ) (k : ℕ) → length before ≤ 31 → n < 1000000000 → length behind ≤ k → length (numbered before n ++ behind) ≤ 40 + k
numbered_then before n behind k h l m = both (numbered before n) behind 40 k (number before n h l) m

either : (b : Bool) (m n k : ℕ) → m ≤ k → n ≤ k → (if b then m else n) ≤ k
either true m n k h l = h
either false m n k h l = l

next_few : (hosts host : ℕ) → hosts ≤ 200 → host < hosts → next hosts host ≤ 200
next_few hosts host few in_ = either (host + 1 == hosts) 0 (host + 1) 200 (omega arith) (omega (arith, few, in_))

address_few : (host : ℕ) → host ≤ 200 → address host < 1000000000
address_few host h = omega (arith, h)

row_short : (t : Table) (hosts host : ℕ) → hosts ≤ 200 → host < hosts → length (row_of t hosts host) ≤ 120
row_short Hosts hosts host few in_ =
    let a : length (codes "define cHost(32w") ≡ 16 = refl in
    let b : length (codes ") = true;\n") ≡ 10 = refl in
    let h = numbered_then (codes "define cHost(32w") (address host) (codes ") = true;\n") 40 (omega (arith, a)) (address_few host (omega (arith, few, in_))) (omega (arith, b)) in omega (arith, h)
row_short Access hosts host few in_ =
    let a : length (codes "define acl(32w") ≡ 14 = refl in
    let b : length (codes ", 32w") ≡ 5 = refl in
    let d : length (codes ") = true;\n") ≡ 10 = refl in
    numbered_then (codes "define acl(32w") (address host) _ 80 (omega (arith, a)) (address_few host (omega (arith, few, in_)))
    (numbered_then (codes ", 32w") (address (next hosts host)) (codes ") = true;\n") 40 (omega (arith, b)) (address_few (next hosts host) (next_few hosts host few in_)) (omega (arith, d)))
row_short SwitchOf hosts host few in_ =
    let a : length (codes "define swOf(32w") ≡ 15 = refl in
    let b : length (codes ") = 16w1;\n") ≡ 10 = refl in
    let h = numbered_then (codes "define swOf(32w") (address host) (codes ") = 16w1;\n") 40 (omega (arith, a)) (address_few host (omega (arith, few, in_))) (omega (arith, b)) in omega (arith, h)
row_short PortOf hosts host few in_ =
    let a : length (codes "define portOf(32w") ≡ 17 = refl in
    let b : length (codes ") = 16w") ≡ 7 = refl in
    let d : length (codes ";\n") ≡ 2 = refl in
    numbered_then (codes "define portOf(32w") (address host) _ 80 (omega (arith, a)) (address_few host (omega (arith, few, in_)))
    (numbered_then (codes ") = 16w") host (codes ";\n") 40 (omega (arith, b)) (omega (arith, few, in_)) (omega (arith, d)))
row_short HostAt hosts host few in_ =
    let a : length (codes "define hostAt(16w1, 16w") ≡ 23 = refl in
    let b : length (codes ") = 32w") ≡ 7 = refl in
    let d : length (codes ";\n") ≡ 2 = refl in
    numbered_then (codes "define hostAt(16w1, 16w") host _ 80 (omega (arith, a)) (omega (arith, few, in_))
    (numbered_then (codes ") = 32w") (address host) (codes ";\n") 40 (omega (arith, b)) (address_few host (omega (arith, few, in_))) (omega (arith, d)))

rows_short : (t : Table) (hosts count : ℕ) → hosts ≤ 200 → count ≤ hosts → length (rows_of t hosts count) ≤ count * 120
rows_short t hosts zero few le = omega arith
rows_short t hosts (suc n) few le =
    let h = both (rows_of t hosts n) (row_of t hosts n) (n * 120) 120 (rows_short t hosts n few (omega (arith, le))) (row_short t hosts n few (omega (arith, le))) in omega (arith, h)

default_short : (t : Table) → length (default_of t) ≤ 40
default_short Hosts = let e : length (codes "default cHost = false;\n") ≡ 23 = refl in omega (arith, e)
default_short Access = let e : length (codes "default acl = false;\n") ≡ 21 = refl in omega (arith, e)
default_short SwitchOf = let e : length (codes "default swOf = 16w0;\n") ≡ 21 = refl in omega (arith, e)
default_short PortOf = let e : length (codes "default portOf = 16w0;\n") ≡ 23 = refl in omega (arith, e)
default_short HostAt = let e : length (codes "default hostAt = 32w0;\n") ≡ 23 = refl in omega (arith, e)

table_short : (t : Table) (hosts : ℕ) → hosts ≤ 200 → length (table_text hosts t) ≤ 25000
table_short t hosts few =
    let h = both (default_of t) (rows_of t hosts hosts) 40 (hosts * 120) (default_short t) (rows_short t hosts hosts few (omega arith)) in omega (arith, h, few)

switch_short : length switch_text ≤ 100
switch_short = let e : length switch_text ≡ 44 = refl in omega (arith, e)

pub definitions_short : (hosts : ℕ) → hosts ≤ 200 → length (definitions_text hosts) ≤ 125100
definitions_short hosts few =
    let e = table_text hosts HostAt in
    let d = table_text hosts PortOf ++ e in
    let c = table_text hosts SwitchOf ++ d in
    let b = switch_text ++ c in
    let a = table_text hosts Access ++ b in
    both (table_text hosts Hosts) a 25000 100100 (table_short Hosts hosts few)
    (both (table_text hosts Access) b 25000 75100 (table_short Access hosts few)
    (both switch_text c 100 75000 switch_short
    (both (table_text hosts SwitchOf) d 25000 50000 (table_short SwitchOf hosts few)
    (both (table_text hosts PortOf) e 25000 25000 (table_short PortOf hosts few) (table_short HostAt hosts few)))))
