-- A design has one network under the definitions of a text, and exceeds one limit first.
use Rattle.std.proofs.Common.{◌≡◌, ℕ, List, Option, Some, None, refl, sym, ap, subst, ◌∙◌}
use Rattle.cocoon_num.specs.Tree.{Design, DefsText}
use Rattle.cocoon_num.specs.declared.fun_table.FunTable.{FunTable}
use Rattle.cocoon_num.specs.declared.limit_name.LimitName.{LimitName}
use Rattle.cocoon_types.specs.Design.{functions}
use Rattle.p4_ir.specs.NetTree.{NetData}
use Rattle.p4_ir.specs.P4Tree.{Program}
use Rattle.runtime_defs.specs.Guards.{ListsTrue, host_table, switch_table}
use Rattle.runtime_defs.specs.Places.{Places}
use Rattle.lowering_correct.specs.Counts.{FirstOver, counts, first_over}
use Rattle.lowering_correct.specs.Network.{IsNetwork, network}
use Rattle.lowering.specs.Roles.{NetParts, net_parts}
use Rattle.lowering.specs.SwitchProgram.{switch_program}
use Rattle.lower_p4.specs.Lowers.{Lowers, RunsProgram}
use Rattle.lower_p4.specs.LowerLimits.{IsOver, IsWithin}
use Rattle.lower_p4.specs.OfText.{AreOfText}
use Rattle.lower_p4.proofs.Ascending.{one_order}
use Rattle.lower_p4.proofs.SamePlaces.{same_places}

one_tables : (d : Design) (es : DefsText) (x y : Places) → AreOfText d es x → AreOfText d es y → x ≡ y
one_tables d es x y p q = same_places es (functions d) x y p.bound.tables q.bound.tables

pub one_parts : (d : Design) (p q : NetParts) → net_parts d ≡ Some p → net_parts d ≡ Some q → p ≡ q
one_parts d p q h k = let both : Some p ≡ Some q = sym h ∙ k in cc

pub one_list : (bits : ℕ) (t : Option FunTable) (xs ys : List ℕ) → ListsTrue bits t xs → ListsTrue bits t ys → xs ≡ ys
one_list bits t xs ys p q = one_order xs ys p.ascending q.ascending (λ z. p.listed z ∙ sym (q.listed z))

one_network_by : (d : Design) (places : Places) (m n : NetData) → IsNetwork d places m → IsNetwork d places n → m ≡ n
one_network_by d places m n p q =
    let parts = one_parts d p.parts q.parts p.parts_are q.parts_are in
    let switches = one_list 16 (switch_table d places) p.switches q.switches p.numbers.switches_are q.numbers.switches_are in
    let hosts = one_list 64 (host_table d places) p.hosts q.hosts p.numbers.hosts_are q.numbers.hosts_are in
    p.net_is ∙ (λ i. network d places (parts i) (switches i) (hosts i)) ∙ sym q.net_is

pub one_network : (d : Design) (es : DefsText) (m n : NetData) → Lowers d es m → Lowers d es n → m ≡ n
unfolding Lowers
one_network d es m n (x, p, h) (y, q, k) =
    one_network_by d y m n (subst (λ z. IsNetwork d z m) (one_tables d es x y p q) h) k

pub one_program : (d : Design) (s : ℕ) (p q : Program) → RunsProgram d s p → RunsProgram d s q → p ≡ q
unfolding RunsProgram
one_program d s p q (x, h, e) (y, k, f) = e ∙ ap (λ (parts : NetParts). switch_program parts.role s) (one_parts d x y h k) ∙ sym f

-- ---- limits

one_over_by : (d : Design) (places : Places) (a b : Option (LimitName × ℕ)) → FirstOver d places a → FirstOver d places b → a ≡ b
one_over_by d places a b p q =
    let parts = one_parts d p.parts q.parts p.parts_are q.parts_are in
    let switches = one_list 16 (switch_table d places) p.switches q.switches p.numbers.switches_are q.numbers.switches_are in
    let hosts = one_list 64 (host_table d places) p.hosts q.hosts p.numbers.hosts_are q.numbers.hosts_are in
    p.over_is ∙ (λ i. first_over (counts d places (parts i).role (switches i) (hosts i))) ∙ sym q.over_is

same_pair : (p q : LimitName × ℕ) → Some p ≡ Some q → (p.0 ≡ q.0) × (p.1 ≡ q.1)
same_pair p q h = let same : p ≡ q = cc in (ap (λ (z : LimitName × ℕ). z.0) same, ap (λ (z : LimitName × ℕ). z.1) same)

not_none : (p : LimitName × ℕ) (o : Option (LimitName × ℕ)) → o ≡ None → o ≡ Some p → ⊥
not_none p o h k = absurd cc

pub one_limit : (d : Design) (es : DefsText) (x y : LimitName) (m n : ℕ) → IsOver d es x m → IsOver d es y n → (x ≡ y) × (m ≡ n)
one_limit d es x y m n (a, p, h) (b, q, k) =
    same_pair (x, m) (y, n) (one_over_by d b (Some (x, m)) (Some (y, n)) (subst (λ z. FirstOver d z (Some (x, m))) (one_tables d es a b p q) h) k)

pub no_limit : (d : Design) (es : DefsText) (x : LimitName) (n : ℕ) → IsWithin d es → IsOver d es x n → ⊥
no_limit d es x n (a, p, h) (b, q, k) =
    not_none (x, n) (Some (x, n)) (sym (one_over_by d b None (Some (x, n)) (subst (λ z. FirstOver d z None) (one_tables d es a b p q) h) k)) refl
