-- A visit takes members by what ingress leaves, so the same members lead to one thing at most.
use Rattle.std.specs.Prelude.{◌≡◌, ℕ, zero, suc, ◌==◌, Bool, true, false, List, [], ◌∷◌, ◌++◌, if◌then◌else◌, Option, Some, None, option_and_then, refl}
use Rattle.std.proofs.Common.{sym, ◌∙◌, ap, subst}
use Rattle.std.proofs.lemmas.Bool.{eqb-true}
use Rattle.cocoon_num.specs.Packets.{Packet, enter}
use Rattle.p4_ir.specs.P4Tree.{Program, RowsFile, program_layout}
use Rattle.p4_ir.specs.Switch.{State, ingress_of, after_ingress, copied, switch_go}
use Rattle.p4_ir.specs.NetTree.{LinkEnd, to_switch, to_host, SwitchFiles, NetData}
use Rattle.p4_ir.specs.NetRuns.{switch_at, link_at, attach_at, Onward, Visits, NetGo}
use Rattle.command_laws.proofs.SameValues.{some_same}

if_taken : {A : Type 0} (b : Bool) (o : Option A) (x : A) → (if b then o else None) ≡ Some x → b ≡ true
if_taken true o x e = refl
if_taken false o x e = absurd cc

-- a state that sends names no member
no_member : {P : Type 0} (p : Program) (rows : RowsFile) (payload : List ℕ) (rid : ℕ) (s : State) (x y : ℕ × List ℕ)
    → after_ingress p rows payload [] s ≡ Some x → after_ingress p rows payload (rid ∷ []) s ≡ Some y → P
no_member p rows payload rid s x y a b =
    let one : s.verdict ≡ 1 = eqb-true s.verdict 1 (if_taken (s.verdict == 1) _ x a) in
    let two : s.verdict ≡ 2 = eqb-true s.verdict 2 (if_taken (s.verdict == 2) (copied p rows payload s rid) y b) in
    absurd cc

one_prefix : (p : Program) (rows : RowsFile) (payload first prefix more others : List ℕ) (s : State) (x y : ℕ × List ℕ)
    → after_ingress p rows payload first s ≡ Some x → after_ingress p rows payload prefix s ≡ Some y → first ++ more ≡ prefix ++ others
    → (first ≡ prefix) × (more ≡ others)
one_prefix p rows payload [] [] more others s x y a b e = (refl, e)
one_prefix p rows payload [] (k ∷ []) more others s x y a b e = no_member p rows payload k s x y a b
one_prefix p rows payload (k ∷ []) [] more others s x y a b e = no_member p rows payload k s y x b a
one_prefix p rows payload (j ∷ []) (k ∷ []) more others s x y a b e = (cc, cc)
one_prefix p rows payload (j ∷ k ∷ ks) prefix more others s x y a b e = absurd cc
one_prefix p rows payload [] (j ∷ k ∷ ks) more others s x y a b e = absurd cc
one_prefix p rows payload (i ∷ []) (j ∷ k ∷ ks) more others s x y a b e = absurd cc

from_state : (p : Program) (rows : RowsFile) (payload first prefix more others : List ℕ) (o : Option State) (x y : ℕ × List ℕ)
    → option_and_then (after_ingress p rows payload first) o ≡ Some x → option_and_then (after_ingress p rows payload prefix) o ≡ Some y
    → first ++ more ≡ prefix ++ others → (x ≡ y) × (more ≡ others)
from_state p rows payload first prefix more others None x y a b e = absurd cc
from_state p rows payload first prefix more others (Some s) x y a b e =
    let f = one_prefix p rows payload first prefix more others s x y a b e in
    (some_same {A = ℕ × List ℕ} (after_ingress p rows payload first s) x y a (ap (λ m. after_ingress p rows payload m s) f.0 ∙ b), f.1)

from_bytes : (p : Program) (rows : RowsFile) (port : ℕ) (first prefix more others : List ℕ) (o : Option (Packet × List ℕ)) (x y : ℕ × List ℕ)
    → option_and_then (λ (e : Packet × List ℕ). option_and_then (after_ingress p rows e.1 first) (ingress_of p rows port e.0)) o ≡ Some x
    → option_and_then (λ (e : Packet × List ℕ). option_and_then (after_ingress p rows e.1 prefix) (ingress_of p rows port e.0)) o ≡ Some y
    → first ++ more ≡ prefix ++ others → (x ≡ y) × (more ≡ others)
from_bytes p rows port first prefix more others None x y a b e = absurd cc
from_bytes p rows port first prefix more others (Some n) x y a b e = from_state p rows n.1 first prefix more others (ingress_of p rows port n.0) x y a b e

-- a visit takes one prefix of the members, and one port with one list of bytes follows
one_visit : (p : Program) (rows : RowsFile) (port : ℕ) (bytes first prefix more others : List ℕ) (x y : ℕ × List ℕ)
    → switch_go p rows 0 port bytes first ≡ Some x → switch_go p rows 0 port bytes prefix ≡ Some y → first ++ more ≡ prefix ++ others → (x ≡ y) × (more ≡ others)
one_visit p rows port bytes first prefix more others x y a b e =
    from_bytes p rows port first prefix more others (enter (program_layout p) bytes) x y a b e

-- at most n visits lead to one thing
abbrev OneEnd : NetData → ℕ → Type 0
OneEnd net n = (b c : ℕ) (x y : List ℕ) (s p : ℕ) (bytes rids : List ℕ) → Visits net n b x s p bytes rids → Visits net n c y s p bytes rids → (b ≡ c) × (x ≡ y)

one_onward : (net : NetData) (n : ℕ) → OneEnd net n → (b c : ℕ) (x y : List ℕ) (l : Option LinkEnd) (bytes rids : List ℕ)
    → Onward (Visits net n b x) l bytes rids b x → Onward (Visits net n c y) l bytes rids c y → (b ≡ c) × (x ≡ y)
one_onward net n ih b c x y None bytes rids v w = absurd v
one_onward net n ih b c x y (Some (to_host h)) bytes rids v w = (sym v.0 ∙ w.0, sym v.1 ∙ w.1)
one_onward net n ih b c x y (Some (to_switch s p)) bytes rids v w = ih b c x y s p bytes rids v w

one_end : (net : NetData) (n : ℕ) → OneEnd net n
one_end net zero b c x y s p bytes rids v w = absurd v
one_end net (suc n) b c x y s p bytes rids (f, port, left, first, more, is, goes, rids_are, on) (g, port', left', prefix, others, is', goes', rids_are', on') =
    let same : g ≡ f = some_same (switch_at net.switches s) g f is' is in
    let o = one_visit f.program f.rows p bytes first prefix more others (port, left) (port', left') goes
    (subst (λ (k : SwitchFiles). switch_go k.program k.rows 0 p bytes prefix ≡ Some (port', left')) same goes') (sym rids_are ∙ rids_are') in
    let ports : port' ≡ port = sym (ap (λ (k : ℕ × List ℕ). k.0) o.0) in
    let bytes_left : left' ≡ left = sym (ap (λ (k : ℕ × List ℕ). k.1) o.0) in
    one_onward net n (one_end net n) b c x y (link_at net.links s port) left more on
    (subst (λ k. Onward (Visits net n c y) (link_at net.links s k) left more c y) ports
    (subst (λ k. Onward (Visits net n c y) (link_at net.links s port') k more c y) bytes_left
    (subst (λ k. Onward (Visits net n c y) (link_at net.links s port') left' k c y) (sym o.1) on')))

pub one_delivery : (net : NetData) (a : ℕ) (bytes choices : List ℕ) (visits b c : ℕ) (x y : List ℕ) → NetGo net a bytes choices visits b x → NetGo net a bytes choices visits c y → (b ≡ c) × (x ≡ y)
one_delivery net a bytes choices visits b c x y (s, p, is, v) (t, q, is', w) =
    let at : (t, q) ≡ (s, p) = some_same {A = ℕ × ℕ} (attach_at net.hosts a) (t, q) (s, p) is' is in
    one_end net visits b c x y s p bytes choices v (subst (λ (k : ℕ × ℕ). Visits net visits c y k.0 k.1 bytes choices) at w)
