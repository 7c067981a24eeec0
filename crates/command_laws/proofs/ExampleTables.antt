-- The tables of the worked example's definitions, and the network that is made of them.
use Rattle.std.proofs.Common.{◌≡◌, ℕ, ◌==◌, ◌&&◌, ◌||◌, bit_and, Bool, true, false, [], ◌∷◌, if◌then◌else◌, Some, arith, refl, sym, ◌∙◌}
use Rattle.std.proofs.Math.Nat.{mod-eq_of_lt}
use Rattle.std.proofs.lemmas.Bool.Decides.{nat_tests}
use Rattle.std.proofs.lemmas.Nat.{and_mask}
use Rattle.cocoon_num.specs.FunTables.{looked}
use Rattle.cocoon_num.specs.Lists.{has_number}
use Rattle.cocoon_num.specs.Tree.{literal}
use Rattle.cocoon_num.specs.Values.{fits_width, truth}
use Rattle.cocoon_num.specs.declared.bits.Bits.{Bits}
use Rattle.cocoon_num.specs.declared.fun_table.FunRow.{FunRow}
use Rattle.cocoon_num.specs.declared.fun_table.FunTable.{FunTable}
use Rattle.cocoon_types.specs.DefsRules.{DefsFit}
use Rattle.cocoon_types.specs.Rules.{WellFormed, twice}
use Rattle.lowering_correct.specs.Network.{HasNumbers, IsNetwork}
use Rattle.runtime_defs.specs.Bound.{IsBound, IsRow}
use Rattle.runtime_defs.specs.Places.{Places}
use Rattle.command_laws.specs.ExampleDesign.{c_definitions, c_tree}
use Rattle.command_laws.specs.ExampleNet.{c_net}

-- ---- the tables

-- the truth values
abbrev truth_is : Bits
truth_is = record { width = 1; value = 1; wide = omega arith; narrow = omega arith; fits = omega arith }

abbrev truth_is_not : Bits
truth_is_not = record { width = 1; value = 0; wide = omega arith; narrow = omega arith; fits = omega arith }

-- the function is true at this number
abbrev true_at : ℕ → FunRow
true_at n = record { values = n ∷ []; masks = 65535 ∷ []; result = truth_is }

abbrev c_hosts_table : FunTable
c_hosts_table = record { widths = 16 ∷ []; rows = true_at 0 ∷ true_at 1 ∷ true_at 2 ∷ true_at 3 ∷ []; default = truth_is_not }

abbrev c_switches_table : FunTable
c_switches_table = record { widths = 16 ∷ []; rows = true_at 1 ∷ []; default = truth_is_not }

abbrev pub c_places : Places
c_places = Some c_hosts_table ∷ Some c_switches_table ∷ []

pub c_fits : DefsFit c_tree c_definitions
c_fits = refl

pub c_rules : WellFormed c_tree
c_rules twice = refl
c_rules rule = refl

-- the row of an entry
row_is : (n : ℕ) → IsRow (record { patterns = literal 16 n ∷ []; value = truth true }) (true_at n)
row_is n = record { values = refl; masks = refl; result = refl }

pub c_bound : IsBound c_tree c_definitions c_places
c_bound = record {
  fits = c_fits;
  few = omega arith;
  tables = ((_, refl, record { widths = refl; rows = (row_is 0, (row_is 1, (row_is 2, (row_is 3, tt)))); default = refl }), ((_, refl, record { widths = refl; rows = (row_is 1, tt); default = refl }), tt));
}

-- ---- the numbers of switches and hosts

-- a number that fits is itself in the bits of ones
kept : (n : ℕ) → fits_width 16 n ≡ true → bit_and n 65535 ≡ n
kept n h = and_mask n 16 ∙ mod-eq_of_lt (grind (arith, nat_tests, h))

-- a row decides where it matches, and the others elsewhere
row_or_other : (b c : Bool) (x : Bits) → (x.value == 1) ≡ c → ((if b && true then truth_is else x).value == 1) ≡ (b || c)
row_or_other true c x h = refl
row_or_other false c x h = h

hosts_looked : (n : ℕ) → fits_width 16 n ≡ true → ((looked c_hosts_table (n ∷ [])).value == 1) ≡ has_number n (0 ∷ 1 ∷ 2 ∷ 3 ∷ [])
hosts_looked n h = rw (kept n h)
    (row_or_other (n == 0) _ _ (row_or_other (n == 1) _ _ (row_or_other (n == 2) _ _ (row_or_other (n == 3) false truth_is_not refl))))

switches_looked : (n : ℕ) → fits_width 16 n ≡ true → ((looked c_switches_table (n ∷ [])).value == 1) ≡ has_number n (1 ∷ [])
switches_looked n h = rw (kept n h) (row_or_other (n == 1) false truth_is_not refl)

-- a number that does not fit is none that does
other : (n m : ℕ) → fits_width 16 n ≡ false → fits_width 16 m ≡ true → (n == m) ≡ false
other n m h k = grind (arith, nat_tests, h, k)

no_host : (n : ℕ) → fits_width 16 n ≡ false → has_number n (0 ∷ 1 ∷ 2 ∷ 3 ∷ []) ≡ false
no_host n h = rw (other n 0 h refl, other n 1 h refl, other n 2 h refl, other n 3 h refl) refl

no_switch : (n : ℕ) → fits_width 16 n ≡ false → has_number n (1 ∷ []) ≡ false
no_switch n h = rw (other n 1 h refl) refl

-- what fits 16 bits fits 64
wider : (n : ℕ) → fits_width 16 n ≡ true → fits_width 64 n ≡ true
wider n h = grind (arith, nat_tests, h)

-- listed is what fits both widths, where the function is true
tested : (a b c d : Bool) → (b ≡ true → a ≡ true) → (b ≡ true → d ≡ c) → (b ≡ false → c ≡ false) → c ≡ (a && ((b && true) && d))
tested true true c d wide same none = sym (same refl)
tested false true c d wide same none = absurd (let no : ◌≡◌ {A = Bool} false true = wide refl in cc)
tested true false c d wide same none = none refl
tested false false c d wide same none = none refl

c_numbers : HasNumbers c_tree c_places (1 ∷ []) (0 ∷ 1 ∷ 2 ∷ 3 ∷ [])
c_numbers = record {
  switches_are = record { ascending = refl; listed = λ n. tested (fits_width 16 n) (fits_width 16 n) _ _ (λ h. h) (switches_looked n) (no_switch n) };
  hosts_are = record { ascending = refl; listed = λ n. tested (fits_width 64 n) (fits_width 16 n) _ _ (wider n) (hosts_looked n) (no_host n) };
}

-- ---- the network

pub c_is_network : IsNetwork c_tree c_places c_net
c_is_network = record {
  parts = _;
  parts_are = refl;
  switches = 1 ∷ [];
  hosts = 0 ∷ 1 ∷ 2 ∷ 3 ∷ [];
  numbers = c_numbers;
  net_is = refl;
}
