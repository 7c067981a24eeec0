-- Ingress, and egress of a member of the group, are one visit.
use Rattle.std.proofs.Common.{◌≡◌, ℕ, ◌==◌, Bool, true, false, if◌then◌else◌, List, [], ◌∷◌, ◌++◌, drop, length, Option, Some, None, option_and_then, refl, sym, ◌∙◌, ap}
use Rattle.std.proofs.lemmas.Bool.{eqb-true}
use Rattle.std.proofs.lemmas.List.{append_assoc}
use Rattle.cocoon_num.specs.Lists.{has_number}
use Rattle.cocoon_num.specs.PacketForms.{AllWhole, AreBytes}
use Rattle.cocoon_num.specs.Packets.{enter, header_bytes, Layout, leave, Packet}
use Rattle.packed_fields.specs.AtOnce.{bytes_in}
use Rattle.packed_fields.proofs.Headers.{enter_flat}
use Rattle.p4_ir.specs.P4Tree.{Program, program_layout, RowsFile}
use Rattle.p4_ir.specs.Switch as switch
use Rattle.p4_ir.specs.Switch.{Departure, egress_of, ingress_of, members, sent_by, State, switch_go}
use Rattle.p4_run.specs.declared.visits.Next.{Next}
use Rattle.p4_run.specs.declared.visits.Next.TheVariants.{Drop, Port, Copies}
use Rattle.p4_run.specs.Visits.{after_egress, after_ingress, AreHeaders, copy_departs, departs, ingress_left}

leave_behind : (layout : Layout) (packet : Packet) (payload : List ℕ) → leave layout packet payload ≡ leave layout packet [] ++ payload
leave_behind [] packet payload = refl
leave_behind (ws ∷ layout) [] payload = refl
leave_behind (ws ∷ layout) (ns ∷ packet) payload =
    ap (λ xs. header_bytes ws ns ++ xs) (leave_behind layout packet payload) ∙ sym (append_assoc (header_bytes ws ns) (leave layout packet []) payload)

some_is : {A : Type 0} (x y : A) → ◌≡◌ {A = Option A} (Some x) (Some y) → x ≡ y
some_is x y h = cc

payload_if : (b : Bool) (packet : Packet) (payload : List ℕ) (e : Packet × List ℕ) → ◌≡◌ {A = Option (Packet × List ℕ)} (if b then None else Some (packet, payload)) (Some e) → payload ≡ e.1
payload_if true packet payload e h = absurd (cc)
payload_if false packet payload e h = ap (λ (x : Packet × List ℕ). x.1) (some_is (packet, payload) e h)

-- the payload is what comes behind the headers
payload_is : (layout : Layout) (bytes headers : List ℕ) (e : Packet × List ℕ) → AllWhole layout → AreBytes bytes → length headers ≡ bytes_in layout → enter layout bytes ≡ Some e
    → e.1 ≡ drop (length headers) bytes
payload_is layout bytes headers e w f size h =
    sym (payload_if _ _ (drop (bytes_in layout) bytes) e (sym (enter_flat layout bytes w f) ∙ h)) ∙ ap (λ n. drop n bytes) (sym size)

left_at : (p : Program) (headers bytes payload : List ℕ) (s : State) → payload ≡ drop (length headers) bytes → headers ≡ leave (program_layout p) s.packet []
    → leave (program_layout p) s.packet payload ≡ headers ++ drop (length headers) bytes
left_at p headers bytes payload s e h = leave_behind (program_layout p) s.packet payload ∙ (λ i. sym h i ++ e i)

-- ---- ingress alone

nothing : (b : Bool) (group : ℕ) (headers bytes : List ℕ) → None ≡ departs (if b then Copies group else Drop) headers bytes
nothing true group headers bytes = refl
nothing false group headers bytes = refl

sent_alone : (p : Program) (headers bytes payload : List ℕ) (s : State) (b : Bool) → payload ≡ drop (length headers) bytes → headers ≡ leave (program_layout p) s.packet []
    → ◌≡◌ {A = Departure} (if b then Some (s.egress_port, leave (program_layout p) s.packet payload) else None)
    (departs (if b then Port s.egress_port else if s.verdict == 2 then Copies s.group else Drop) headers bytes)
sent_alone p headers bytes payload s true e h = ap (λ xs. Some (s.egress_port, xs)) (left_at p headers bytes payload s e h)
sent_alone p headers bytes payload s false e h = nothing (s.verdict == 2) s.group headers bytes

alone_left : (p : Program) (rows : RowsFile) (headers bytes payload : List ℕ) (o : Option State) → payload ≡ drop (length headers) bytes → AreHeaders (program_layout p) o headers
    → option_and_then (switch.after_ingress p rows payload []) o ≡ departs (after_ingress o) headers bytes
alone_left p rows headers bytes payload None e h = refl
alone_left p rows headers bytes payload (Some s) e h = sent_alone p headers bytes payload s (s.verdict == 1) e h

alone_entered : (p : Program) (rows : RowsFile) (port : ℕ) (headers bytes : List ℕ) (o : Option (Packet × List ℕ))
    → ((e : Packet × List ℕ) → o ≡ Some e → e.1 ≡ drop (length headers) bytes)
    → AreHeaders (program_layout p) (option_and_then (λ entered. ingress_of p rows port entered.0) o) headers
    → option_and_then (λ entered. option_and_then (switch.after_ingress p rows entered.1 []) (ingress_of p rows port entered.0)) o
    ≡ departs (after_ingress (option_and_then (λ entered. ingress_of p rows port entered.0) o)) headers bytes
alone_entered p rows port headers bytes None e h = refl
alone_entered p rows port headers bytes (Some x) e h = alone_left p rows headers bytes x.1 (ingress_of p rows port x.0) (e x refl) h

pub visit_alone : (p : Program) (rows : RowsFile) (tag port : ℕ) (bytes headers : List ℕ) → AllWhole (program_layout p) → AreBytes bytes → length headers ≡ bytes_in (program_layout p)
    → AreHeaders (program_layout p) (ingress_left p rows port bytes) headers → switch_go p rows tag port bytes [] ≡ departs (after_ingress (ingress_left p rows port bytes)) headers bytes
visit_alone p rows tag port bytes headers w f size h =
    alone_entered p rows port headers bytes (enter (program_layout p) bytes) (λ e g. payload_is (program_layout p) bytes headers e w f size g) h

-- ---- a copy

sent_copy : (p : Program) (headers bytes payload : List ℕ) (s : State) (b : Bool) → payload ≡ drop (length headers) bytes → headers ≡ leave (program_layout p) s.packet []
    → ◌≡◌ {A = Departure} (if b then Some (s.egress_port, leave (program_layout p) s.packet payload) else None)
    (departs (if b then Port s.egress_port else Drop) headers bytes)
sent_copy p headers bytes payload s true e h = ap (λ xs. Some (s.egress_port, xs)) (left_at p headers bytes payload s e h)
sent_copy p headers bytes payload s false e h = refl

copy_left : (p : Program) (headers bytes payload : List ℕ) (o : Option State) → payload ≡ drop (length headers) bytes → AreHeaders (program_layout p) o headers
    → option_and_then (sent_by p payload) o ≡ departs (after_egress o) headers bytes
copy_left p headers bytes payload None e h = refl
copy_left p headers bytes payload (Some s) e h = sent_copy p headers bytes payload s (s.verdict == 1) e h

-- by the verdict that ingress left: at 1 it is not 2
by_verdict : (rows : RowsFile) (rid : ℕ) (x : Departure) (next : Next) (s : State) (headers bytes : List ℕ) (one two : Bool) → (one ≡ true → two ≡ false) → x ≡ departs next headers bytes
    → ◌≡◌ {A = Departure} (if two then (if has_number rid (members rows.groups s.group) then x else None) else None)
    (copy_departs rows.groups (if one then Port s.egress_port else if two then Copies s.group else Drop) rid next headers bytes)
by_verdict rows rid x next s headers bytes true true k e = absurd (let h : true ≡ false = k refl in cc)
by_verdict rows rid x next s headers bytes true false k e = refl
by_verdict rows rid x next s headers bytes false true k e = ap (λ d. if has_number rid (members rows.groups s.group) then d else None) e
by_verdict rows rid x next s headers bytes false false k e = refl

not_two : (v : ℕ) → (v == 1) ≡ true → (v == 2) ≡ false
not_two v h = let e : v ≡ 1 = eqb-true v 1 h in ap (λ n. n == 2) e

member_left : (p : Program) (rows : RowsFile) (rid : ℕ) (headers bytes payload : List ℕ) (o : Option State) → payload ≡ drop (length headers) bytes
    → AreHeaders (program_layout p) (option_and_then (egress_of p rows rid) o) headers
    → option_and_then (switch.after_ingress p rows payload (rid ∷ [])) o
    ≡ copy_departs rows.groups (after_ingress o) rid (after_egress (option_and_then (egress_of p rows rid) o)) headers bytes
member_left p rows rid headers bytes payload None e h = refl
member_left p rows rid headers bytes payload (Some s) e h =
    by_verdict rows rid (option_and_then (sent_by p payload) (egress_of p rows rid s)) (after_egress (egress_of p rows rid s)) s headers bytes (s.verdict == 1) (s.verdict == 2) (not_two s.verdict)
    (copy_left p headers bytes payload (egress_of p rows rid s) e h)

member_entered : (p : Program) (rows : RowsFile) (port rid : ℕ) (headers bytes : List ℕ) (o : Option (Packet × List ℕ))
    → ((e : Packet × List ℕ) → o ≡ Some e → e.1 ≡ drop (length headers) bytes)
    → AreHeaders (program_layout p) (option_and_then (egress_of p rows rid) (option_and_then (λ entered. ingress_of p rows port entered.0) o)) headers
    → option_and_then (λ entered. option_and_then (switch.after_ingress p rows entered.1 (rid ∷ [])) (ingress_of p rows port entered.0)) o
    ≡ copy_departs rows.groups (after_ingress (option_and_then (λ entered. ingress_of p rows port entered.0) o)) rid
    (after_egress (option_and_then (egress_of p rows rid) (option_and_then (λ entered. ingress_of p rows port entered.0) o))) headers bytes
member_entered p rows port rid headers bytes None e h = refl
member_entered p rows port rid headers bytes (Some x) e h = member_left p rows rid headers bytes x.1 (ingress_of p rows port x.0) (e x refl) h

pub visit_of_member : (p : Program) (rows : RowsFile) (tag port rid : ℕ) (bytes headers : List ℕ) → AllWhole (program_layout p) → AreBytes bytes → length headers ≡ bytes_in (program_layout p)
    → AreHeaders (program_layout p) (option_and_then (egress_of p rows rid) (ingress_left p rows port bytes)) headers
    → switch_go p rows tag port bytes (rid ∷ [])
    ≡ copy_departs rows.groups (after_ingress (ingress_left p rows port bytes)) rid (after_egress (option_and_then (egress_of p rows rid) (ingress_left p rows port bytes))) headers bytes
visit_of_member p rows tag port rid bytes headers w f size h =
    member_entered p rows port rid headers bytes (enter (program_layout p) bytes) (λ e g. payload_is (program_layout p) bytes headers e w f size g) h
