-- The numbers that words ask for are in their ranges.
use Rattle.std.proofs.Common.{◌≡◌, ◌≤◌, ℕ, List, Option, Some, None, option_and_then, Bool, true, false, nat_le, refl, subst, if◌then◌else◌, arith}
use Rattle.std.proofs.lemmas.Bool.Decides.{nat_tests}
use Rattle.std.specs.Prelude.{codes}
use Rattle.clap.specs.Walk.{Row, Text}
use Rattle.clap.specs.Words.{first_of}
use Rattle.cocoon_num.specs.Names.{same_name}
use Rattle.cocoon_num.specs.Tokens.{kept_if}
use Rattle.command_line.specs.Arguments.{argument_name, argument_number, number_between, number_or, number_up_to, word_number}
use Rattle.command_line.specs.Command.{Command, check, compile, update, step, forward, gen}
use Rattle.command_line.specs.Subcommands.{CanSearch, IsInRange, check_of, command_of, compile_of, conflicts_in, forward_of, gen_of, hops_in, level_in, most_conflicts, most_hosts, most_packets, most_rounds, rounds_in, step_of, update_of, usual_conflicts, usual_rounds, with_bundle, with_hops, with_level, with_name, with_names, with_numbers}
use Rattle.command_line.specs.Syntax.{case_argument, conflicts_argument, count_argument, design_argument, defs_argument, hosts_argument, out_argument, packets_argument, rounds_argument}
use Rattle.command_line.specs.Words.{command, subcommand}

-- ---- one number

abbrev InRange : (most n : ℕ) → Type 0
InRange most n = (1 ≤ n) × (n ≤ most)

at_most : (most n m : ℕ) (b : Bool) → nat_le n most ≡ b → kept_if b n ≡ Some m → m ≤ most
at_most most n m true e h = let same : n ≡ m = cc in let few : nat_le n most ≡ true = e in let le : n ≤ most = grind (arith, nat_tests, few) in omega (arith, le, same)
at_most most n m false e h = cc

up_to : (most m : ℕ) (o : Option ℕ) → option_and_then (λ n. kept_if (nat_le n most) n) o ≡ Some m → m ≤ most
up_to most m None h = cc
up_to most m (Some n) h = at_most most n m (nat_le n most) refl h

at_least : (least most n m : ℕ) (b : Bool) → nat_le least n ≡ b → n ≤ most → kept_if b n ≡ Some m → (least ≤ m) × (m ≤ most)
at_least least most n m true e few h =
    let same : n ≡ m = cc in
    let test : nat_le least n ≡ true = e in
    let le : least ≤ n = grind (arith, nat_tests, test) in
    (omega (arith, le, same), omega (arith, few, same))
at_least least most n m false e few h = cc

between : (least most m : ℕ) (o : Option ℕ) → ((n : ℕ) → o ≡ Some n → n ≤ most) → option_and_then (λ n. kept_if (nat_le least n) n) o ≡ Some m → (least ≤ m) × (m ≤ most)
between least most m None few h = cc
between least most m (Some n) few h = at_least least most n m (nat_le least n) refl (few n refl) h

conflicts_by : (word : Option Text) (n : ℕ) → number_or usual_conflicts most_conflicts word ≡ Some n → InRange most_conflicts n
conflicts_by None n h = let same : usual_conflicts ≡ n = cc in (omega (arith, same), omega (arith, same))
conflicts_by (Some word) n h = between 1 most_conflicts n (number_up_to most_conflicts word) (λ m e. up_to most_conflicts m (word_number word) e) h

rounds_by : (word : Option Text) (n : ℕ) → number_or usual_rounds most_rounds word ≡ Some n → InRange most_rounds n
rounds_by None n h = let same : usual_rounds ≡ n = cc in (omega (arith, same), omega (arith, same))
rounds_by (Some word) n h = between 1 most_rounds n (number_up_to most_rounds word) (λ m e. up_to most_rounds m (word_number word) e) h

can_search : (n m : ℕ) → InRange most_conflicts n → InRange most_rounds m → CanSearch n m
can_search n m a b = (a.0, a.1, b.0, b.1)

-- ---- commands

checks : (d : Option (List ℕ)) (n m : Option ℕ) (asked : Command) → ((x : ℕ) → n ≡ Some x → InRange most_conflicts x) → ((x : ℕ) → m ≡ Some x → InRange most_rounds x) → with_name d n m ≡ Some asked → IsInRange asked
checks (Some d) (Some n) (Some m) asked few short h = subst IsInRange (let same : check d n m ≡ asked = cc in same) (can_search n m (few n refl) (short m refl))
checks None n m asked few short h = cc
checks (Some d) None m asked few short h = cc
checks (Some d) (Some n) None asked few short h = cc

compiles : (d e o : Option (List ℕ)) (n m : Option ℕ) (asked : Command) → ((x : ℕ) → n ≡ Some x → InRange most_conflicts x) → ((x : ℕ) → m ≡ Some x → InRange most_rounds x) → with_names d e o n m ≡ Some asked → IsInRange asked
compiles (Some d) (Some e) (Some o) (Some n) (Some m) asked few short h = subst IsInRange (let same : compile d e o n m ≡ asked = cc in same) (can_search n m (few n refl) (short m refl))
compiles None e o n m asked few short h = cc
compiles (Some d) None o n m asked few short h = cc
compiles (Some d) (Some e) None n m asked few short h = cc
compiles (Some d) (Some e) (Some o) None m asked few short h = cc
compiles (Some d) (Some e) (Some o) (Some n) None asked few short h = cc

updates : (d e o : Option (List ℕ)) (n : Option ℕ) (asked : Command) → ((x : ℕ) → n ≡ Some x → InRange most_conflicts x) → with_bundle d e o n ≡ Some asked → IsInRange asked
updates (Some d) (Some e) (Some o) (Some n) asked few h = subst IsInRange (let same : update d e o n ≡ asked = cc in same) (few n refl)
updates None e o n asked few h = cc
updates (Some d) None o n asked few h = cc
updates (Some d) (Some e) None n asked few h = cc
updates (Some d) (Some e) (Some o) None asked few h = cc

steps : (d e : Option (List ℕ)) (l : Option ℕ) (f : Option (List ℕ)) (asked : Command) → with_level d e l f ≡ Some asked → IsInRange asked
steps (Some d) (Some e) (Some l) (Some f) asked h = subst IsInRange (let same : step d e l f ≡ asked = cc in same) tt
steps None e l f asked h = cc
steps (Some d) None l f asked h = cc
steps (Some d) (Some e) None f asked h = cc
steps (Some d) (Some e) (Some l) None asked h = cc

forwards : (o p : Option (List ℕ)) (n : Option ℕ) (asked : Command) → with_hops o p n ≡ Some asked → IsInRange asked
forwards (Some o) (Some p) (Some n) asked h = subst IsInRange (let same : forward o p n ≡ asked = cc in same) tt
forwards None p n asked h = cc
forwards (Some o) None n asked h = cc
forwards (Some o) (Some p) None asked h = cc

of_argument : (most : ℕ) (word : Option Text) (n : ℕ) → option_and_then (number_between 1 most) word ≡ Some n → InRange most n
of_argument most None n h = cc
of_argument most (Some word) n h = between 1 most n (number_up_to most word) (λ m e. up_to most m (word_number word) e) h

gens : (n m : Option ℕ) (asked : Command) → ((x : ℕ) → n ≡ Some x → InRange most_hosts x) → ((x : ℕ) → m ≡ Some x → InRange most_packets x) → with_numbers n m ≡ Some asked → IsInRange asked
gens (Some n) (Some m) asked few short h =
    subst IsInRange (let same : gen n m ≡ asked = cc in same) ((few n refl).0, (few n refl).1, (short m refl).0, (short m refl).1)
gens None m asked few short h = cc
gens (Some n) None asked few short h = cc

by_name : (rows : List Row) (k a u b f g : Bool) (asked : Command)
    → (if k then check_of rows else if a then compile_of rows else if u then update_of rows else if b then step_of rows else if f then forward_of rows else if g then gen_of rows else None) ≡ Some asked → IsInRange asked
by_name rows true a u b f g asked h =
    checks (argument_name design_argument rows) (conflicts_in rows) (rounds_in rows) asked (conflicts_by (first_of conflicts_argument rows)) (rounds_by (first_of rounds_argument rows)) h
by_name rows false true u b f g asked h =
    compiles (argument_name design_argument rows) (argument_name defs_argument rows) (argument_name out_argument rows) (conflicts_in rows) (rounds_in rows) asked
    (conflicts_by (first_of conflicts_argument rows)) (rounds_by (first_of rounds_argument rows)) h
by_name rows false false true b f g asked h =
    updates (argument_name design_argument rows) (argument_name defs_argument rows) (argument_name out_argument rows) (conflicts_in rows) asked (conflicts_by (first_of conflicts_argument rows)) h
by_name rows false false false true f g asked h = steps (argument_name design_argument rows) (argument_name defs_argument rows) (level_in rows) (argument_name case_argument rows) asked h
by_name rows false false false false true g asked h = forwards (argument_name out_argument rows) (argument_name packets_argument rows) (hops_in rows) asked h
by_name rows false false false false false true asked h =
    gens (argument_number hosts_argument most_hosts rows) (argument_number count_argument most_packets rows) asked (of_argument most_hosts (first_of hosts_argument rows))
    (of_argument most_packets (first_of count_argument rows)) h
by_name rows false false false false false false asked h = cc

of_met : (met : Option (Text × List Row)) (asked : Command) → option_and_then command_of met ≡ Some asked → IsInRange asked
of_met None asked h = cc
of_met (Some m) asked h = by_name m.1 (same_name m.0 (codes "check")) (same_name m.0 (codes "compile")) (same_name m.0 (codes "update")) (same_name m.0 (codes "step")) (same_name m.0 (codes "forward")) (same_name m.0 (codes "gen")) asked h

pub in_range : (words : List Text) (asked : Command) → command words ≡ Some asked → IsInRange asked
unfolding command
in_range words asked h = of_met (subcommand words) asked h
